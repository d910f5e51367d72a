-- What each fault of the grammar says: steps and lists.
use Rattle.std.proofs.Common.{◌≡◌, ℕ, zero, suc, Bool, true, false, cond, List, [], ◌∷◌, ◌++◌, length, Option, Some, None, Result, Ok, Err, refl, sym, ap, ◌∙◌, subst, inl, inr, append_assoc}
use Rattle.std.specs.Prelude.{IfSome}
use Rattle.core_tokens.specs.declared.fault.ReadFault.{ReadFault}
use Rattle.core_tokens.specs.declared.fault.ReadFault.TheVariants.{Expected, HigherOrder, UnsupportedCall, TooDeep, UnsupportedForm}
use Rattle.core_tokens.specs.declared.token.Mark.{Mark}
use Rattle.core_tokens.specs.declared.token.Mark.TheVariants as m
use Rattle.core_tokens.specs.declared.token.Keyword.{Keyword}
use Rattle.core_tokens.specs.declared.token.Keyword.TheVariants as k
use Rattle.core_tokens.specs.Piece.{Piece, Shape}
use Rattle.core_tokens.specs.Piece as lexemes
use Rattle.core_tree.specs.Syntax.{Mention, NamedAt}
use Rattle.core_grammar.specs.declared.unserved.Unserved.{Unserved}
use Rattle.core_grammar.specs.declared.unserved.Unserved.TheVariants as unserved
use Rattle.core_grammar.specs.Grammar.{word}
use Rattle.core_grammar.specs.UnservedCalls.{UnservedCallAt}
use Rattle.core_grammar.specs.Unread.{BeginsUnread, HigherOrderAt, UnreadAt}
use Rattle.core_grammar.specs.Beginnings.{beginning}
use Rattle.core_grammar.specs.Places.{IsOne, IsAt, IsPlace, OpensAt}
use Rattle.core_scopes.specs.Outcomes.{◌>>=◌}
use Rattle.core_grammar.specs.inside.Decoder.{State, Read, with_pieces, is_mark, is_word, after_mark, after_word, fault_of_unserved, refusal, is_foreign, fault_of, fault, place_of, too_deep, passed, mark_at, word_at, taken_by, taken, atom_in, atom_at, named_by, placed_atom_at, arity_in, arity_at, mention_by, bare_variable_at, behind_atom_at, bare_name_at, comma_at, more_at, commas_at, items_at, closed_by, closed_at, tail_at, brackets_by, brackets_at, item_of, exactly_at, row_by, row_at, rows_at}

pub piece_at : (ps : List Piece) (p : Piece) → IsOne ps p → IsAt ps p.at
piece_at [] p h = absurd h
piece_at (q ∷ qs) p (inl e) = inl (ap (λ (x : Piece). x.at) e)
piece_at (q ∷ qs) p (inr h) = inr (piece_at qs p h)

pub one_behind : (before ps : List Piece) (p : Piece) → IsOne ps p → IsOne (before ++ ps) p
one_behind [] ps p h = h
one_behind (q ∷ qs) ps p h = inr (one_behind qs ps p h)

-- what a fault of the grammar says
abbrev pub IsGrammarFault : List Piece → ℕ → ReadFault → Type 0
IsGrammarFault ps length (Expected at) = IsPlace ps length at
IsGrammarFault ps length (HigherOrder at) = HigherOrderAt ps at
IsGrammarFault ps length (UnsupportedForm at) = UnreadAt ps at
IsGrammarFault ps length (UnsupportedCall at) = IsOne ps (word at k.Call) × UnservedCallAt ps at
IsGrammarFault ps length (TooDeep at) = OpensAt ps at
IsGrammarFault ps length f = ⊥

module _ (all : List Piece) (end : ℕ) where
  abbrev pub Place : ℕ → Type 0
  Place at = IsPlace all end at

  abbrev pub Fault : ReadFault → Type 0
  Fault f = IsGrammarFault all end f

  -- the last tokens of the text
  abbrev pub Inside : List Piece → Type 0
  Inside ps = (before : List Piece) × (all ≡ before ++ ps)

  -- each of them is a token of the text
  pub holds : (ps : List Piece) → Inside ps → (p : Piece) → IsOne ps p → IsOne all p
  holds ps inside p h = subst (λ (qs : List Piece). IsOne qs p) (sym inside.1) (one_behind inside.0 ps p h)

  -- what is not served begins with its word
  abbrev pub IsUnservedAt : Unserved → Type 0
  IsUnservedAt (unserved.Call at) = IsOne all (word at k.Call) × UnservedCallAt all at
  IsUnservedAt (unserved.Primop at) = UnreadAt all at

  pub record Good (s : State) : Type 0 where
    pub stop : s.stop ≡ end
    pub inside : Inside s.pieces
    pub refused : IfSome s.refused IsUnservedAt

  abbrev pub Fine : {A : Type 0} → Result A ReadFault → (A → Type 0) → Type 0
  Fine (Ok x) P = P x
  Fine (Err f) P = Fault f

  pub fine_bind : {A B : Type 0} (r : Result A ReadFault) (f : A → Result B ReadFault) (P : A → Type 0) (Q : B → Type 0) → Fine r P → ((x : A) → P x → Fine (f x) Q) → Fine (r >>= f) Q
  fine_bind (Ok x) f P Q h g = g x h
  fine_bind (Err e) f P Q h g = h

  -- the same, where what is read on is known to be what was read
  pub fine_read : {A B : Type 0} (r : Result A ReadFault) (f : A → Result B ReadFault) (P : A → Type 0) (Q : B → Type 0) → Fine r P → ((x : A) → r ≡ Ok x → P x → Fine (f x) Q) → Fine (r >>= f) Q
  fine_read (Ok x) f P Q h g = g x refl h
  fine_read (Err e) f P Q h g = h

  -- ---- faults

  pub cond_fine : (b : Bool) (f g : ReadFault) → Fault f → Fault g → Fault (cond b f g)
  cond_fine true f g h i = h
  cond_fine false f g h i = i

  unserved_fault : (u : Unserved) → IsUnservedAt u → Fault (fault_of_unserved u)
  unserved_fault (unserved.Call at) h = h
  unserved_fault (unserved.Primop at) h = h

  pub unserved_fine : (u : Unserved) → IsUnservedAt u → Fault (fault_of_unserved u)
  unserved_fine u h = unserved_fault u h

  pub refusal_fine : (o : Option Unserved) (f : ReadFault) → IfSome o IsUnservedAt → Fault f → Fault (refusal o f)
  refusal_fine None f p h = h
  refusal_fine (Some u) f p h = unserved_fault u p

  pub front : (p : Piece) (ps : List Piece) → Inside (p ∷ ps) → IsOne all p
  front p ps inside = holds (p ∷ ps) inside p (inl refl)

  pub here : (p : Piece) (ps : List Piece) → Inside (p ∷ ps) → Place p.at
  here p ps inside = inl (piece_at all p (front p ps inside))

  pub behind : (p : Piece) (ps : List Piece) → Inside (p ∷ ps) → Inside ps
  behind p ps inside = (inside.0 ++ p ∷ [], inside.1 ∙ sym (append_assoc inside.0 (p ∷ []) ps))

  -- a token that begins a form that is not read
  pub unread_here : (p : Piece) (ps : List Piece) → Inside (p ∷ ps) → BeginsUnread p.shape ps → UnreadAt all p.at
  unread_here p ps inside begins = record { before = inside.0; here = p ∷ ps; stands = inside.1; said = (refl, begins) }

  foreign_begins : (shape : Shape) (ps : List Piece) → is_foreign shape ≡ true → BeginsUnread shape ps
  foreign_begins lexemes.Float ps e = tt
  foreign_begins (lexemes.Mark m.Hash) ps e = tt
  foreign_begins (lexemes.Mark m.Tilde) ps e = tt
  foreign_begins shape ps e = absurd cc

  foreign_by : (b : Bool) (p : Piece) (ps : List Piece) → Inside (p ∷ ps) → is_foreign p.shape ≡ b → Fault (cond b (UnsupportedForm p.at) (Expected p.at))
  foreign_by true p ps inside e = unread_here p ps inside (foreign_begins p.shape ps e)
  foreign_by false p ps inside e = here p ps inside

  -- the fault at a token that cannot be here
  pub foreign_fine : (p : Piece) (ps : List Piece) → Inside (p ∷ ps) → Fault (cond (is_foreign p.shape) (UnsupportedForm p.at) (Expected p.at))
  foreign_fine p ps inside = foreign_by (is_foreign p.shape) p ps inside refl

  pub fault_of_fine : (stop : ℕ) (ps : List Piece) → stop ≡ end → Inside ps → Fault (fault_of stop ps)
  fault_of_fine stop [] e inside = inr e
  fault_of_fine stop (p ∷ ps) e inside = foreign_fine p ps inside

  pub fault_fine : (s : State) → Good s → Fault (fault s)
  unfolding fault
  fault_fine s g = refusal_fine s.refused (fault_of s.stop s.pieces) g.refused (fault_of_fine s.stop s.pieces g.stop g.inside)

  -- a parenthesis that opens a level past the last
  pub too_deep_fine : (s : State) (at : ℕ) (ps : List Piece) → Good s → s.pieces ≡ record { at = at; shape = lexemes.Mark m.LeftParenthesis } ∷ ps → Fault (too_deep s)
  unfolding too_deep beginning
  too_deep_fine s at ps g e =
      let p : Piece = record { at = at; shape = lexemes.Mark m.LeftParenthesis } in
      let one : IsOne s.pieces p = subst (λ (qs : List Piece). IsOne qs p) (sym e) (inl refl) in
      let place : at ≡ place_of s.stop s.pieces = sym (ap (place_of s.stop) e) in
      refusal_fine s.refused (TooDeep (place_of s.stop s.pieces)) g.refused (p, holds s.pieces g.inside p one, place, tt)

  -- ---- steps

  pub good_at : (s : State) (ps : List Piece) → Good s → Inside ps → Good (with_pieces s ps)
  good_at s ps g inside = record { stop = g.stop; inside = inside; refused = g.refused }

  passed_fine : (o : Option (List Piece)) (s : State) (f : ReadFault) → Good s → Fault f → ((ps : List Piece) → o ≡ Some ps → Inside ps) → Fine (passed o s f) Good
  passed_fine None s f g h inside = h
  passed_fine (Some ps) s f g h inside = good_at s ps g (inside ps refl)

  chosen_inside : (b : Bool) (p : Piece) (ps qs : List Piece) → Inside (p ∷ ps) → cond b (Some ps) None ≡ Some qs → Inside qs
  chosen_inside true p ps qs inside e = let same : ps ≡ qs = cc in subst (λ (xs : List Piece). Inside xs) same (behind p ps inside)
  chosen_inside false p ps qs inside e = absurd cc

  pub mark_inside : (x : Mark) (ps qs : List Piece) → Inside ps → after_mark x ps ≡ Some qs → Inside qs
  mark_inside x [] qs inside e = absurd cc
  mark_inside x (p ∷ ps) qs inside e = chosen_inside (is_mark x p.shape) p ps qs inside e

  pub word_inside : (x : Keyword) (ps qs : List Piece) → Inside ps → after_word x ps ≡ Some qs → Inside qs
  word_inside x [] qs inside e = absurd cc
  word_inside x (p ∷ ps) qs inside e = chosen_inside (is_word x p.shape) p ps qs inside e

  pub mark_fine : (x : Mark) (s : State) → Good s → Fine (mark_at x s) Good
  unfolding mark_at
  mark_fine x s g = passed_fine (after_mark x s.pieces) s (fault s) g (fault_fine s g) (λ ps e. mark_inside x s.pieces ps g.inside e)

  pub word_fine : (x : Keyword) (s : State) → Good s → Fine (word_at x s) Good
  unfolding word_at
  word_fine x s g = passed_fine (after_word x s.pieces) s (fault s) g (fault_fine s g) (λ ps e. word_inside x s.pieces ps g.inside e)

  pub taken_fine : {X : Type 0} (of : Piece → Option X) (Q : X → Type 0) → ((p : Piece) (x : X) → IsOne all p → of p ≡ Some x → Q x) → (qs : List Piece) (s : State) (f : ReadFault) → Good s → Inside qs → Fault f → Fine (taken of qs s f) (λ x. Q x.0 × Good x.1)
  taken_fine of Q each [] s f g inside h = h
  taken_fine {X = X} of Q each (p ∷ ps) s f g inside h = by (of p) refl
    where
      by : (o : Option X) → of p ≡ o → Fine (taken_by o ps s f) (λ x. Q x.0 × Good x.1)
      by None e = h
      by (Some x) e = (each p x (front p ps inside) e, good_at s ps g (behind p ps inside))

  abbrev pub Any : {X : Type 0} → X → Type 0
  Any x = Unit {0}

  -- what an item keeps
  abbrev pub Keeps : {X : Type 0} → (State → Read X) → (X → Type 0) → Type 0
  Keeps item Q = (s : State) → Good s → Fine (item s) (λ x. Q x.0 × Good x.1)

  pub atom_fine : Keeps atom_at Any
  unfolding atom_at
  atom_fine s g = taken_fine (λ p. atom_in p.shape) Any (λ p x h e. tt) s.pieces s (fault s) g g.inside (fault_fine s g)

  pub named_place : (at : ℕ) (shape : Shape) (x : ℕ × List ℕ) → named_by at shape ≡ Some x → at ≡ x.0
  named_place at (lexemes.Atom t) x e = let same : (at, t) ≡ x = cc in ap (λ (y : ℕ × List ℕ). y.0) same
  named_place at shape x e = absurd cc

  pub placed_atom_fine : Keeps placed_atom_at (λ x. Place x.0)
  unfolding placed_atom_at
  placed_atom_fine s g = taken_fine (λ p. named_by p.at p.shape) (λ x. Place x.0) (λ p x h e. subst (λ (at : ℕ). Place at) (named_place p.at p.shape x e) (inl (piece_at all p h))) s.pieces s (fault s) g g.inside (fault_fine s g)

  pub arity_fine : Keeps arity_at Any
  unfolding arity_at
  arity_fine s g = taken_fine (λ p. arity_in p.shape) Any (λ p x h e. tt) s.pieces s (fault s) g g.inside (fault_fine s g)

  mention_place : (at : ℕ) (shape : Shape) (x : Mention) → mention_by at shape ≡ Some x → at ≡ x.at
  mention_place at (lexemes.Variable v) x e =
      let made : Mention = record { at = at; name = v } in
      let same : made ≡ x = cc in
      ap (λ (y : Mention). y.at) same
  mention_place at shape x e = absurd cc

  abbrev pub MentionAt : Mention → Type 0
  MentionAt v = Place v.at

  pub bare_variable_fine : Keeps bare_variable_at MentionAt
  unfolding bare_variable_at
  bare_variable_fine s g = taken_fine (λ p. mention_by p.at p.shape) MentionAt (λ p x h e. subst (λ (at : ℕ). Place at) (mention_place p.at p.shape x e) (inl (piece_at all p h))) s.pieces s (fault s) g g.inside (fault_fine s g)

  abbrev pub NamePlaced : NamedAt → Type 0
  NamePlaced n = Place n.at

  pub behind_atom_fine : (at : ℕ) (t : List ℕ) → Place at → Keeps (behind_atom_at at t) NamePlaced
  unfolding behind_atom_at
  behind_atom_fine at t h s g =
      fine_bind (mark_at m.Slash s) _ Good (λ x. NamePlaced x.0 × Good x.1) (mark_fine m.Slash s g) (λ s1 g1.
      fine_bind (arity_at s1) _ (λ x. Any x.0 × Good x.1) (λ x. NamePlaced x.0 × Good x.1) (arity_fine s1 g1) (λ n gn. (h, gn.1)))

  pub bare_name_fine : Keeps bare_name_at NamePlaced
  unfolding bare_name_at
  bare_name_fine s g =
      fine_bind (placed_atom_at s) _ (λ x. Place x.0.0 × Good x.1) (λ x. NamePlaced x.0 × Good x.1) (placed_atom_fine s g) (λ a ga. behind_atom_fine a.0.0 a.0.1 ga.0 a.1 ga.1)

  -- ---- lists

  abbrev pub Each : {X : Type 0} → (X → Type 0) → List X → Type 0
  Each Q [] = Unit {0}
  Each Q (x ∷ xs) = Q x × Each Q xs

  abbrev pub IfAny : {X : Type 0} → (X → Type 0) → Option X → Type 0
  IfAny Q None = Unit {0}
  IfAny Q (Some x) = Q x

  module _ {X : Type 0} (item : State → Read X) (Q : X → Type 0) (each : Keeps item Q) where
    more_fine : (n : ℕ) (o : Option (List Piece)) (s : State) → Keeps (commas_at item n) (Each Q) → Good s → ((ps : List Piece) → o ≡ Some ps → Inside ps) → Fine (more_at item (commas_at item n) o s) (λ x. Each Q x.0 × Good x.1)
    more_fine n None s again g inside = (tt, g)
    more_fine n (Some ps) s again g inside = again (with_pieces s ps) (good_at s ps g (inside ps refl))

    commas_fine : (n : ℕ) → Keeps (commas_at item n) (Each Q)
    unfolding commas_at
    commas_fine zero s g = fault_fine s g
    commas_fine (suc n) s g =
        fine_bind (item s) _ (λ x. Q x.0 × Good x.1) (λ x. Each Q x.0 × Good x.1) (each s g) (λ first gf.
        fine_bind (more_at item (commas_at item n) (after_mark m.Comma first.1.pieces) first.1) _ (λ x. Each Q x.0 × Good x.1) (λ x. Each Q x.0 × Good x.1)
        (more_fine n (after_mark m.Comma first.1.pieces) first.1 (commas_fine n) gf.1 (λ ps e. mark_inside m.Comma first.1.pieces ps gf.1.inside e)) (λ others go. ((gf.0, go.0), go.1)))

    pub items_fine : Keeps (items_at item) (Each Q)
    unfolding items_at
    items_fine s g = commas_fine (length s.pieces) s g

    closed_by_fine : (close : Mark) (o : Option (List Piece)) (s : State) → Good s → ((ps : List Piece) → o ≡ Some ps → Inside ps) → Fine (closed_by item close o s) (λ x. Each Q x.0 × Good x.1)
    closed_by_fine close (Some ps) s g inside = (tt, good_at s ps g (inside ps refl))
    closed_by_fine close None s g inside =
        fine_bind (items_at item s) _ (λ x. Each Q x.0 × Good x.1) (λ x. Each Q x.0 × Good x.1) (items_fine s g) (λ xs gx.
        fine_bind (mark_at close xs.1) _ Good (λ x. Each Q x.0 × Good x.1) (mark_fine close xs.1 gx.1) (λ s1 g1. (gx.0, g1)))

    pub closed_fine : (close : Mark) → Keeps (closed_at item close) (Each Q)
    unfolding closed_at
    closed_fine close s g = closed_by_fine close (after_mark close s.pieces) s g (λ ps e. mark_inside close s.pieces ps g.inside e)

    abbrev pub Listing : List X × Option X → Type 0
    Listing b = Each Q b.0 × IfAny Q b.1

    tail_fine : (o : Option (List Piece)) (xs : List X) (s : State) → Each Q xs → Good s → ((ps : List Piece) → o ≡ Some ps → Inside ps) → Fine (tail_at item xs o s) (λ x. Listing x.0 × Good x.1)
    tail_fine None xs s q g inside = fine_bind (mark_at m.RightBracket s) _ Good (λ x. Listing x.0 × Good x.1) (mark_fine m.RightBracket s g) (λ s1 g1. ((q, tt), g1))
    tail_fine (Some ps) xs s q g inside =
        fine_bind (item (with_pieces s ps)) _ (λ x. Q x.0 × Good x.1) (λ x. Listing x.0 × Good x.1) (each (with_pieces s ps) (good_at s ps g (inside ps refl))) (λ x gx.
        fine_bind (mark_at m.RightBracket x.1) _ Good (λ x. Listing x.0 × Good x.1) (mark_fine m.RightBracket x.1 gx.1) (λ s1 g1. ((q, gx.0), g1)))

    brackets_by_fine : (o : Option (List Piece)) (s : State) → Good s → ((ps : List Piece) → o ≡ Some ps → Inside ps) → Fine (brackets_by item o s) (λ x. Listing x.0 × Good x.1)
    brackets_by_fine (Some ps) s g inside = ((tt, tt), good_at s ps g (inside ps refl))
    brackets_by_fine None s g inside =
        fine_bind (items_at item s) _ (λ x. Each Q x.0 × Good x.1) (λ x. Listing x.0 × Good x.1) (items_fine s g) (λ xs gx.
        tail_fine (after_mark m.Bar xs.1.pieces) xs.0 xs.1 gx.0 gx.1 (λ ps e. mark_inside m.Bar xs.1.pieces ps gx.1.inside e))

    pub brackets_fine : Keeps (brackets_at item) Listing
    unfolding brackets_at
    brackets_fine s g = brackets_by_fine (after_mark m.RightBracket s.pieces) s g (λ ps e. mark_inside m.RightBracket s.pieces ps g.inside e)

    comma_fine : (first : Bool) (s : State) → Good s → Fine (comma_at first s) Good
    comma_fine true s g = g
    comma_fine false s g = mark_fine m.Comma s g

    pub exactly_fine : (first : Bool) (n : ℕ) → Keeps (exactly_at item first n) (Each Q)
    unfolding exactly_at
    exactly_fine first zero s g = (tt, g)
    exactly_fine first (suc n) s g =
        fine_bind (item_of item first s) _ (λ x. Q x.0 × Good x.1) (λ x. Each Q x.0 × Good x.1)
        (fine_bind (comma_at first s) item Good (λ x. Q x.0 × Good x.1) (comma_fine first s g) (λ s1 g1. each s1 g1)) (λ x gx.
        fine_bind (exactly_at item false n x.1) _ (λ x. Each Q x.0 × Good x.1) (λ x. Each Q x.0 × Good x.1) (exactly_fine false n x.1 gx.1) (λ xs gs. ((gx.0, gs.0), gs.1)))

    row_by_fine : (close : Keyword) (n : ℕ) (o : Option (List Piece)) (s : State) → Keeps (row_at item close n) (Each Q) → Good s → Fine (row_by item (row_at item close n) o s) (λ x. Each Q x.0 × Good x.1)
    row_by_fine close n (Some ps) s again g = (tt, g)
    row_by_fine close n None s again g =
        fine_bind (item s) _ (λ x. Q x.0 × Good x.1) (λ x. Each Q x.0 × Good x.1) (each s g) (λ x gx.
        fine_bind (row_at item close n x.1) _ (λ x. Each Q x.0 × Good x.1) (λ x. Each Q x.0 × Good x.1) (again x.1 gx.1) (λ xs gs. ((gx.0, gs.0), gs.1)))

    row_fine : (close : Keyword) (n : ℕ) → Keeps (row_at item close n) (Each Q)
    unfolding row_at
    row_fine close zero s g = fault_fine s g
    row_fine close (suc n) s g = row_by_fine close n (after_word close s.pieces) s (row_fine close n) g

    pub rows_fine : (close : Keyword) → Keeps (rows_at item close) (Each Q)
    unfolding rows_at
    rows_fine close s g = row_fine close (length s.pieces) s g
