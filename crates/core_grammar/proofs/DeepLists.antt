-- Where reading stops at a construct past the last level: faults, tokens and lists.
use Rattle.std.proofs.Common.{◌≡◌, ℕ, zero, suc, Bool, true, false, cond, List, [], ◌∷◌, length, Option, Some, None, Result, Ok, Err, refl, ap, subst, ◌⊎◌, inl, inr}
use Rattle.core_tokens.specs.declared.fault.ReadFault.{ReadFault}
use Rattle.core_tokens.specs.declared.fault.ReadFault.TheVariants.{Expected, TooDeep, UnsupportedForm}
use Rattle.core_tokens.specs.declared.token.Mark.{Mark}
use Rattle.core_tokens.specs.declared.token.Mark.TheVariants as m
use Rattle.core_tokens.specs.declared.token.Keyword.{Keyword}
use Rattle.core_tokens.specs.Piece.{Piece}
use Rattle.core_grammar.specs.declared.unserved.Unserved.{Unserved}
use Rattle.core_grammar.specs.declared.unserved.Unserved.TheVariants as unserved
use Rattle.core_grammar.specs.Grammar.{mark, word, Commas, ends_here, goes_on}
use Rattle.core_grammar.specs.Depth.{PartOf, goes_inside, goes_behind, PastMark, passes_mark, PastWord, passes_word, Part, InItems, InCommas, InList, InRow, goes_in_row, Exactly}
use Rattle.core_scopes.specs.Outcomes.{◌>>=◌}
use Rattle.core_grammar.specs.inside.Decoder.{State, Read, with_pieces, after_mark, after_word, fault_of_unserved, refusal, is_foreign, fault_of, fault, passed, mark_at, word_at, taken_by, taken, atom_in, atom_at, named_by, placed_atom_at, arity_in, arity_at, mention_by, bare_variable_at, behind_atom_at, bare_name_at, more_at, commas_at, items_at, closed_by, closed_at, tail_at, brackets_by, brackets_at, exactly_at, row_by, row_at, rows_at}
use Rattle.core_grammar.proofs.Steps.{after_mark_found, mark_steps, word_steps, Sound}
use Rattle.core_grammar.proofs.SoundLists.{items_sound, exactly_sound}

abbrev pub failed : {A : Type 0} → ReadFault → Result A ReadFault
failed f = Err f

abbrev pub reached : {A : Type 0} → A → Result A ReadFault
reached x = Ok x

pub err_is : {A : Type 0} (f g : ReadFault) → failed {A = A} f ≡ failed {A = A} g → f ≡ g
err_is f g e = cc

-- what fails in two steps fails in the first, or does that and fails in the second
pub bind_err : {A B : Type 0} (r : Result A ReadFault) (f : A → Result B ReadFault) (e : ReadFault) → (r >>= f) ≡ Err e → (r ≡ Err e) ⊎ ((x : A) × (r ≡ Ok x) × (f x ≡ Err e))
bind_err (Ok x) f e h = inr (x, refl, h)
bind_err {B = B} (Err d) f e h = inl (ap failed (err_is {A = B} d e h))

-- ---- faults that are none of a level

abbrev pub IsOther : ReadFault → Type 0
IsOther (TooDeep at) = ⊥
IsOther f = Unit {0}

pub cond_other : (b : Bool) (f g : ReadFault) → IsOther f → IsOther g → IsOther (cond b f g)
cond_other true f g h i = h
cond_other false f g h i = i

pub unserved_other : (u : Unserved) → IsOther (fault_of_unserved u)
unserved_other (unserved.Call at) = tt
unserved_other (unserved.Primop at) = tt

pub refusal_other : (o : Option Unserved) (f : ReadFault) → IsOther f → IsOther (refusal o f)
refusal_other None f h = h
refusal_other (Some u) f h = unserved_other u

fault_of_other : (stop : ℕ) (ps : List Piece) → IsOther (fault_of stop ps)
fault_of_other stop [] = tt
fault_of_other stop (p ∷ ps) = cond_other (is_foreign p.shape) (UnsupportedForm p.at) (Expected p.at) tt tt

pub fault_other : (s : State) → IsOther (fault s)
unfolding fault
fault_other s = refusal_other s.refused (fault_of s.stop s.pieces) (fault_of_other s.stop s.pieces)

-- a fault of a level past the last is none of what was refused before
pub refusal_deep : (at : ℕ) (o : Option Unserved) (f : ReadFault) → refusal o f ≡ TooDeep at → (o ≡ None) × (f ≡ TooDeep at)
refusal_deep at None f e = (refl, e)
refusal_deep at (Some u) f e = absurd (subst IsOther e (unserved_other u))

past_form : (x : Mark) (Rest : List Piece → Type 0) (bt : ℕ) (ps qs : List Piece) → ps ≡ mark bt x ∷ qs → Rest qs → PastMark x Rest ps
past_form x Rest bt ps qs e h = rw e (passes_mark h)

past_word_form : (x : Keyword) (Rest : List Piece → Type 0) (bt : ℕ) (ps qs : List Piece) → ps ≡ word bt x ∷ qs → Rest qs → PastWord x Rest ps
past_word_form x Rest bt ps qs e h = rw e (passes_word h)

-- after a mark that was found
pub past_found : (x : Mark) (Rest : List Piece → Type 0) (ps qs : List Piece) → after_mark x ps ≡ Some qs → Rest qs → PastMark x Rest ps
past_found x Rest ps qs e h = let f = after_mark_found x ps qs e in past_form x Rest f.0 ps qs f.1 h

module _ (at : ℕ) where
  -- reading does not stop at a level
  abbrev pub Never : {A : Type 0} → Result A ReadFault → Type 0
  Never r = r ≡ Err (TooDeep at) → ⊥

  -- nothing was refused before, and there is a way to the place
  abbrev pub Fallen : State → (List Piece → Type 0) → Type 0
  Fallen s Deep = (s.refused ≡ None) × Deep s.pieces

  -- where reading from here stops at a level
  abbrev pub Fall : {A : Type 0} → Result A ReadFault → State → (List Piece → Type 0) → Type 0
  Fall r s Deep = r ≡ Err (TooDeep at) → Fallen s Deep

  abbrev pub Falls : {A : Type 0} → (State → Result A ReadFault) → (List Piece → Type 0) → Type 0
  Falls item Deep = (s : State) → Fall (item s) s Deep

  pub never_other : {A : Type 0} (f : ReadFault) → IsOther f → Never (failed {A = A} f)
  never_other {A = A} f h e = subst IsOther (err_is {A = A} f (TooDeep at) e) h

  pub ok_never : {A : Type 0} (x : A) → Never (reached x)
  ok_never x e = cc

  pub never_bind : {A B : Type 0} (r : Result A ReadFault) (f : A → Result B ReadFault) → Never r → ((x : A) → Never (f x)) → Never (r >>= f)
  never_bind {A = A} r f h g e = by (bind_err r f (TooDeep at) e)
    where
      by : (r ≡ Err (TooDeep at)) ⊎ ((x : A) × (r ≡ Ok x) × (f x ≡ Err (TooDeep at))) → ⊥
      by (inl i) = h i
      by (inr i) = g i.0 i.2

  -- ---- steps

  passed_never : (o : Option (List Piece)) (s : State) (f : ReadFault) → IsOther f → Never (passed o s f)
  passed_never None s f h = never_other f h
  passed_never (Some ps) s f h = ok_never (with_pieces s ps)

  pub mark_never : (x : Mark) (s : State) → Never (mark_at x s)
  unfolding mark_at
  mark_never x s = passed_never (after_mark x s.pieces) s (fault s) (fault_other s)

  pub word_never : (x : Keyword) (s : State) → Never (word_at x s)
  unfolding word_at
  word_never x s = passed_never (after_word x s.pieces) s (fault s) (fault_other s)

  taken_by_never : {X : Type 0} (o : Option X) (ps : List Piece) (s : State) (f : ReadFault) → IsOther f → Never (taken_by o ps s f)
  taken_by_never None ps s f h = never_other f h
  taken_by_never (Some x) ps s f h = ok_never (x, with_pieces s ps)

  pub taken_never : {X : Type 0} (of : Piece → Option X) (ps : List Piece) (s : State) (f : ReadFault) → IsOther f → Never (taken of ps s f)
  taken_never of [] s f h = never_other f h
  taken_never of (p ∷ ps) s f h = taken_by_never (of p) ps s f h

  pub atom_never : (s : State) → Never (atom_at s)
  unfolding atom_at
  atom_never s = taken_never (λ p. atom_in p.shape) s.pieces s (fault s) (fault_other s)

  placed_atom_never : (s : State) → Never (placed_atom_at s)
  unfolding placed_atom_at
  placed_atom_never s = taken_never (λ p. named_by p.at p.shape) s.pieces s (fault s) (fault_other s)

  arity_never : (s : State) → Never (arity_at s)
  unfolding arity_at
  arity_never s = taken_never (λ p. arity_in p.shape) s.pieces s (fault s) (fault_other s)

  pub bare_variable_never : (s : State) → Never (bare_variable_at s)
  unfolding bare_variable_at
  bare_variable_never s = taken_never (λ p. mention_by p.at p.shape) s.pieces s (fault s) (fault_other s)

  pub behind_atom_never : (bt : ℕ) (t : List ℕ) (s : State) → Never (behind_atom_at bt t s)
  unfolding behind_atom_at
  behind_atom_never bt t s = never_bind (mark_at m.Slash s) _ (mark_never m.Slash s) (λ s1. never_bind (arity_at s1) _ (arity_never s1) (λ n. ok_never _))

  pub bare_name_never : (s : State) → Never (bare_name_at s)
  unfolding bare_name_at
  bare_name_never s = never_bind (placed_atom_at s) _ (placed_atom_never s) (λ a. behind_atom_never a.0.0 a.0.1 a.1)

  -- ---- steps one after the other

  -- the second step does not stop at a level
  pub first_falls : {A B : Type 0} (r : Result A ReadFault) (f : A → Result B ReadFault) (s : State) (Deep : List Piece → Type 0) → Fall r s Deep → ((x : A) → Never (f x)) → Fall (r >>= f) s Deep
  first_falls {A = A} r f s Deep h g e = by (bind_err r f (TooDeep at) e)
    where
      by : (r ≡ Err (TooDeep at)) ⊎ ((x : A) × (r ≡ Ok x) × (f x ≡ Err (TooDeep at))) → Fallen s Deep
      by (inl i) = h i
      by (inr i) = absurd (g i.0 i.2)

  -- an item, and what depends on it
  pub part_of_falls : {X B : Type 0} (item : State → Read X) (Item : List Piece → X → List Piece → Type 0) (Deep : List Piece → Type 0) (Rest : X → List Piece → Type 0) → Sound None item Item → Falls item Deep → (s : State) (f : X × State → Result B ReadFault)
      → ((x : X) (t : State) → Fall (f (x, t)) t (Rest x)) → Fall (item s >>= f) s (PartOf Item Deep Rest)
  part_of_falls {X = X} item Item Deep Rest sound falls s f rest e = by (bind_err (item s) f (TooDeep at) e)
    where
      by : (item s ≡ Err (TooDeep at)) ⊎ ((x : X × State) × (item s ≡ Ok x) × (f x ≡ Err (TooDeep at))) → Fallen s (PartOf Item Deep Rest)
      by (inl i) = let d = falls s i in (d.0, goes_inside d.1)
      by (inr i) =
          let d = rest i.0.0 i.0.1 i.2 in
          let h = sound s i.0.0 i.0.1 i.1 d.0 in
          (h.0, goes_behind h.1 d.1)

  -- an item, and what follows
  pub part_falls : {X B : Type 0} (item : State → Read X) (Item : List Piece → X → List Piece → Type 0) (Deep Rest : List Piece → Type 0) → Sound None item Item → Falls item Deep → (s : State) (f : X × State → Result B ReadFault)
      → ((x : X) (t : State) → Fall (f (x, t)) t Rest) → Fall (item s >>= f) s (Part Item Deep Rest)
  part_falls item Item Deep Rest sound falls s f rest = part_of_falls item Item Deep (λ x. Rest) sound falls s f rest

  pub mark_falls : {B : Type 0} (x : Mark) (Rest : List Piece → Type 0) (s : State) (f : State → Result B ReadFault) → ((t : State) → Fall (f t) t Rest) → Fall (mark_at x s >>= f) s (PastMark x Rest)
  mark_falls x Rest s f rest e = by (bind_err (mark_at x s) f (TooDeep at) e)
    where
      by : (mark_at x s ≡ Err (TooDeep at)) ⊎ ((t : State) × (mark_at x s ≡ Ok t) × (f t ≡ Err (TooDeep at))) → Fallen s (PastMark x Rest)
      by (inl i) = absurd (mark_never x s i)
      by (inr i) =
          let d = rest i.0 i.2 in
          let step = mark_steps x s i.0 i.1 in
          (step.back d.0, past_form x Rest step.at s.pieces i.0.pieces step.pieces d.1)

  pub word_falls : {B : Type 0} (x : Keyword) (Rest : List Piece → Type 0) (s : State) (f : State → Result B ReadFault) → ((t : State) → Fall (f t) t Rest) → Fall (word_at x s >>= f) s (PastWord x Rest)
  word_falls x Rest s f rest e = by (bind_err (word_at x s) f (TooDeep at) e)
    where
      by : (word_at x s ≡ Err (TooDeep at)) ⊎ ((t : State) × (word_at x s ≡ Ok t) × (f t ≡ Err (TooDeep at))) → Fallen s (PastWord x Rest)
      by (inl i) = absurd (word_never x s i)
      by (inr i) =
          let d = rest i.0 i.2 in
          let step = word_steps x s i.0 i.1 in
          (step.back d.0, past_word_form x Rest step.at s.pieces i.0.pieces step.pieces d.1)

  -- two steps before a third
  pub nested_falls : {A B C : Type 0} (r : Result A ReadFault) (f : A → Result B ReadFault) (g : B → Result C ReadFault) (s : State) (Deep : List Piece → Type 0) → Fall (r >>= λ x. f x >>= g) s Deep → Fall ((r >>= f) >>= g) s Deep
  nested_falls (Ok x) f g s Deep h = h
  nested_falls (Err e) f g s Deep h = h

  -- ---- lists

  module _ {X : Type 0} (item : State → Read X) (Item : List Piece → X → List Piece → Type 0) (Deep : List Piece → Type 0) (each : Sound None item Item) (falls : Falls item Deep) where
    more_falls : (n : ℕ) → Falls (commas_at item n) (InItems Item Deep n) → (o : Option (List Piece)) (s : State) → after_mark m.Comma s.pieces ≡ o → Fall (more_at item (commas_at item n) o s) s (PastMark m.Comma (InItems Item Deep n))
    more_falls n again None s is e = absurd (ok_never ([], s) e)
    more_falls n again (Some ps) s is e = let d = again (with_pieces s ps) e in (d.0, past_found m.Comma (InItems Item Deep n) s.pieces ps is d.1)

    commas_falls : (n : ℕ) → Falls (commas_at item n) (InItems Item Deep n)
    unfolding commas_at
    commas_falls zero s = λ e. absurd (never_other (fault s) (fault_other s) e)
    commas_falls (suc n) s =
        part_falls item Item Deep (PastMark m.Comma (InItems Item Deep n)) each falls s _ (λ x t.
        first_falls (more_at item (commas_at item n) (after_mark m.Comma t.pieces) t) _ t (PastMark m.Comma (InItems Item Deep n)) (more_falls n (commas_falls n) (after_mark m.Comma t.pieces) t refl) (λ y. ok_never _))

    pub items_falls : Falls (items_at item) (InCommas Item Deep)
    unfolding items_at
    items_falls s e = let d = commas_falls (length s.pieces) s e in (d.0, (length s.pieces, d.1))

    closed_by_falls : (close : Mark) (o : Option (List Piece)) (s : State) → Fall (closed_by item close o s) s (InCommas Item Deep)
    closed_by_falls close (Some ps) s = λ e. absurd (ok_never ([], with_pieces s ps) e)
    closed_by_falls close None s = first_falls (items_at item s) _ s (InCommas Item Deep) (items_falls s) (λ xs. never_bind (mark_at close xs.1) _ (mark_never close xs.1) (λ t. ok_never _))

    pub closed_falls : (close : Mark) → Falls (closed_at item close) (InCommas Item Deep)
    unfolding closed_at
    closed_falls close s = closed_by_falls close (after_mark close s.pieces) s

    tail_falls : (xs : List X) (o : Option (List Piece)) (s : State) → after_mark m.Bar s.pieces ≡ o → Fall (tail_at item xs o s) s (PastMark m.Bar Deep)
    tail_falls xs None s is e = absurd (never_bind (mark_at m.RightBracket s) _ (mark_never m.RightBracket s) (λ t. ok_never _) e)
    tail_falls xs (Some ps) s is e =
        let d = first_falls (item (with_pieces s ps)) _ (with_pieces s ps) Deep (falls (with_pieces s ps)) (λ x. never_bind (mark_at m.RightBracket x.1) _ (mark_never m.RightBracket x.1) (λ t. ok_never _)) e in
        (d.0, past_found m.Bar Deep s.pieces ps is d.1)

    brackets_by_falls : (o : Option (List Piece)) (s : State) → Fall (brackets_by item o s) s (InList Item Deep)
    brackets_by_falls (Some ps) s = λ e. absurd (ok_never (([], None), with_pieces s ps) e)
    brackets_by_falls None s = part_falls (items_at item) (Commas Item) (InCommas Item Deep) (PastMark m.Bar Deep) (items_sound item Item each) items_falls s _ (λ xs t. tail_falls xs (after_mark m.Bar t.pieces) t refl)

    pub brackets_falls : Falls (brackets_at item) (InList Item Deep)
    unfolding brackets_at
    brackets_falls s = brackets_by_falls (after_mark m.RightBracket s.pieces) s

    -- ---- exactly so many items

    others_falls : (n : ℕ) → Falls (exactly_at item false n) (PastMark m.Comma (InItems Item Deep n))
    unfolding exactly_at
    others_falls zero s = λ e. absurd (ok_never ([], s) e)
    others_falls (suc n) s =
        nested_falls (mark_at m.Comma s) item _ s (PastMark m.Comma (InItems Item Deep (suc n))) (mark_falls m.Comma (InItems Item Deep (suc n)) s _ (λ s1.
        part_falls item Item Deep (PastMark m.Comma (InItems Item Deep n)) each falls s1 _ (λ x t. first_falls (exactly_at item false n t) _ t (PastMark m.Comma (InItems Item Deep n)) (others_falls n t) (λ xs. ok_never _))))

    pub exactly_falls : (n : ℕ) → Falls (exactly_at item true n) (InItems Item Deep n)
    unfolding exactly_at
    exactly_falls zero s = λ e. absurd (ok_never ([], s) e)
    exactly_falls (suc n) s = part_falls item Item Deep (PastMark m.Comma (InItems Item Deep n)) each falls s _ (λ x t. first_falls (exactly_at item false n t) _ t (PastMark m.Comma (InItems Item Deep n)) (others_falls n t) (λ xs. ok_never _))

    -- exactly so many items, the closing mark, and what follows
    pub exactly_then_falls : {B : Type 0} (close : Mark) (n : ℕ) (Rest : List Piece → Type 0) (s : State) (f : List X × State → State → Result B ReadFault) → ((xs : List X × State) (t : State) → Fall (f xs t) t Rest)
        → Fall (exactly_at item true n s >>= λ xs. mark_at close xs.1 >>= f xs) s (Part (Exactly Item close n) (InItems Item Deep n) Rest)
    exactly_then_falls close n Rest s f rest e = by (bind_err (exactly_at item true n s) (λ xs. mark_at close xs.1 >>= f xs) (TooDeep at) e)
      where
        last : (xs : List X) (t : State) → exactly_at item true n s ≡ Ok (xs, t) → (mark_at close t ≡ Err (TooDeep at)) ⊎ ((u : State) × (mark_at close t ≡ Ok u) × (f (xs, t) u ≡ Err (TooDeep at))) → Fallen s (Part (Exactly Item close n) (InItems Item Deep n) Rest)
        last xs t read (inl i) = absurd (mark_never close t i)
        last xs t read (inr i) =
            let d = rest (xs, t) i.0 i.2 in
            let h = exactly_sound item Item each close n s xs t i.0 read (mark_steps close t i.0 i.1) d.0 in
            (h.0, goes_behind (h.1, h.2) d.1)

        by : (exactly_at item true n s ≡ Err (TooDeep at)) ⊎ ((xs : List X × State) × (exactly_at item true n s ≡ Ok xs) × ((mark_at close xs.1 >>= f xs) ≡ Err (TooDeep at))) → Fallen s (Part (Exactly Item close n) (InItems Item Deep n) Rest)
        by (inl i) = let d = exactly_falls n s i in (d.0, goes_inside d.1)
        by (inr i) = last i.0.0 i.0.1 i.1 (bind_err (mark_at close i.0.1) (f i.0) (TooDeep at) i.2)

    -- ---- items one after the other

    in_row : (ps : List Piece) → Part Item Deep (InRow Item Deep) ps → InRow Item Deep ps
    in_row ps (goes_inside d) = goes_in_row ends_here d
    in_row ps (goes_behind h (goes_in_row r d)) = goes_in_row (goes_on h r) d

    -- an item, and a row
    pub row_then_falls : {B : Type 0} (s : State) (f : X × State → Result B ReadFault) → ((x : X) (t : State) → Fall (f (x, t)) t (InRow Item Deep)) → Fall (item s >>= f) s (InRow Item Deep)
    row_then_falls s f rest e = let d = part_falls item Item Deep (InRow Item Deep) each falls s f rest e in (d.0, in_row s.pieces d.1)

    row_by_falls : (close : Keyword) (n : ℕ) → Falls (row_at item close n) (InRow Item Deep) → (o : Option (List Piece)) (s : State) → Fall (row_by item (row_at item close n) o s) s (InRow Item Deep)
    row_by_falls close n again (Some ps) s = λ e. absurd (ok_never ([], s) e)
    row_by_falls close n again None s = row_then_falls s _ (λ x t. first_falls (row_at item close n t) _ t (InRow Item Deep) (again t) (λ xs. ok_never _))

    row_falls : (close : Keyword) (n : ℕ) → Falls (row_at item close n) (InRow Item Deep)
    unfolding row_at
    row_falls close zero s = λ e. absurd (never_other (fault s) (fault_other s) e)
    row_falls close (suc n) s = row_by_falls close n (row_falls close n) (after_word close s.pieces) s

    pub rows_falls : (close : Keyword) → Falls (rows_at item close) (InRow Item Deep)
    unfolding rows_at
    rows_falls close s = row_falls close (length s.pieces) s
