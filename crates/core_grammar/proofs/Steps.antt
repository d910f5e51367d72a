-- What a token that was read is.
use Rattle.std.proofs.Common.{◌≡◌, ℕ, ◌<◌, ℤ, pos, negsuc, Bool, true, false, cond, List, [], ◌∷◌, get_or, Option, Some, None, Result, Ok, Err, refl, sym, ap, ◌∙◌, subst}
use Rattle.std.specs.Prelude.{nat_lt}
use Rattle.std.proofs.lemmas.Bool.{eqb-true}
use borrow.Author.Tests.{ltb-true}
use Rattle.core_tokens.specs.declared.fault.ReadFault.{ReadFault}
use Rattle.core_tokens.specs.declared.token.Mark.{Mark}
use Rattle.core_tokens.specs.declared.token.Mark.TheVariants as m
use Rattle.core_tokens.specs.declared.token.Keyword.{Keyword}
use Rattle.core_tokens.specs.declared.token.Keyword.TheVariants as k
use Rattle.core_tokens.specs.Piece.{Piece, Shape}
use Rattle.core_tokens.specs.Piece as lexemes
use Rattle.core_tree.specs.Syntax.{Mention, NamedAt}
use Rattle.core_grammar.specs.declared.unserved.Unserved.{Unserved}
use Rattle.core_grammar.specs.Grammar.{mark, word, atom, variable, integer, BareName, names_function, BareVariable, names_variable}
use Rattle.core_scopes.specs.Outcomes.{◌>>=◌}
use Rattle.core_grammar.specs.inside.Decoder.{State, Read, with_pieces, mark_number, word_number, is_mark, is_word, after_mark, after_word, fault, passed, mark_at, word_at, taken_by, taken, atom_in, atom_at, named_by, placed_atom_at, arity_by, arity_in, arity_at, mention_by, bare_variable_at, behind_atom_at, bare_name_at}

abbrev pub done : {A : Type 0} → A → Result A ReadFault
done x = Ok x

pub ok_is : {A : Type 0} (x y : A) → done x ≡ done y → x ≡ y
ok_is x y e = cc

-- the value of a step that did not fail
pub bind_ok : {A B : Type 0} (r : Result A ReadFault) (f : A → Result B ReadFault) (y : B) → (r >>= f) ≡ Ok y → (x : A) × (r ≡ Ok x) × (f x ≡ Ok y)
bind_ok (Ok x) f y e = (x, refl, e)
bind_ok (Err d) f y e = absurd cc

-- ---- numbers of marks and keywords distinguish them

marks : List Mark
marks = m.LeftParenthesis ∷ m.RightParenthesis ∷ m.LeftBracket ∷ m.RightBracket ∷ m.LeftBrace ∷ m.RightBrace ∷ m.Less ∷ m.Greater ∷ m.Comma ∷ m.Bar ∷ m.Equals ∷ m.Slash ∷ m.Colon ∷ m.Arrow ∷ m.Note ∷ m.Hash ∷ m.Tilde ∷ []

mark_back : (x : Mark) → get_or marks (mark_number x) m.Comma ≡ x
unfolding marks
mark_back m.LeftParenthesis = refl
mark_back m.RightParenthesis = refl
mark_back m.LeftBracket = refl
mark_back m.RightBracket = refl
mark_back m.LeftBrace = refl
mark_back m.RightBrace = refl
mark_back m.Less = refl
mark_back m.Greater = refl
mark_back m.Comma = refl
mark_back m.Bar = refl
mark_back m.Equals = refl
mark_back m.Slash = refl
mark_back m.Colon = refl
mark_back m.Arrow = refl
mark_back m.Note = refl
mark_back m.Hash = refl
mark_back m.Tilde = refl

pub same_mark : (x y : Mark) → mark_number x ≡ mark_number y → x ≡ y
same_mark x y e = sym (mark_back x) ∙ ap (λ (n : ℕ). get_or marks n m.Comma) e ∙ mark_back y

words : List Keyword
words = k.Module ∷ k.Attributes ∷ k.End ∷ k.Fun ∷ k.Let ∷ k.In ∷ k.Case ∷ k.Of ∷ k.When ∷ k.Apply ∷ k.Call ∷ k.Primop ∷ k.Do ∷ k.Try ∷ k.Catch ∷ k.Receive ∷ k.After ∷ k.Letrec ∷ []

word_back : (x : Keyword) → get_or words (word_number x) k.End ≡ x
unfolding words
word_back k.Module = refl
word_back k.Attributes = refl
word_back k.End = refl
word_back k.Fun = refl
word_back k.Let = refl
word_back k.In = refl
word_back k.Case = refl
word_back k.Of = refl
word_back k.When = refl
word_back k.Apply = refl
word_back k.Call = refl
word_back k.Primop = refl
word_back k.Do = refl
word_back k.Try = refl
word_back k.Catch = refl
word_back k.Receive = refl
word_back k.After = refl
word_back k.Letrec = refl

pub same_word : (x y : Keyword) → word_number x ≡ word_number y → x ≡ y
same_word x y e = sym (word_back x) ∙ ap (λ (n : ℕ). get_or words n k.End) e ∙ word_back y

pub is_mark_true : (x : Mark) (shape : Shape) → is_mark x shape ≡ true → shape ≡ lexemes.Mark x
is_mark_true x (lexemes.Mark y) e = ap lexemes.Mark (same_mark y x (eqb-true _ _ e))
is_mark_true x shape e = absurd cc

is_word_true : (x : Keyword) (shape : Shape) → is_word x shape ≡ true → shape ≡ lexemes.Word x
is_word_true x (lexemes.Word y) e = ap lexemes.Word (same_word y x (eqb-true _ _ e))
is_word_true x shape e = absurd cc

chosen : {A : Type 0} (b : Bool) (x y : A) → cond b (Some x) None ≡ Some y → (b ≡ true) × (x ≡ y)
chosen true x y e = (refl, cc)
chosen false x y e = absurd cc

pub after_mark_found : (x : Mark) (ps rest : List Piece) → after_mark x ps ≡ Some rest → (at : ℕ) × (ps ≡ mark at x ∷ rest)
after_mark_found x [] rest e = absurd cc
after_mark_found x (p ∷ ps) rest e =
    let c = chosen (is_mark x p.shape) ps rest e in
    let shape : p.shape ≡ lexemes.Mark x = is_mark_true x p.shape c.0 in
    let piece : p ≡ mark p.at x = ap (λ (s : Shape). record { at = p.at; shape = s }) shape in
    (p.at, ap (λ (q : Piece). q ∷ ps) piece ∙ ap (λ (qs : List Piece). mark p.at x ∷ qs) c.1)

pub after_word_found : (x : Keyword) (ps rest : List Piece) → after_word x ps ≡ Some rest → (at : ℕ) × (ps ≡ word at x ∷ rest)
after_word_found x [] rest e = absurd cc
after_word_found x (p ∷ ps) rest e =
    let c = chosen (is_word x p.shape) ps rest e in
    let shape : p.shape ≡ lexemes.Word x = is_word_true x p.shape c.0 in
    let piece : p ≡ word p.at x = ap (λ (s : Shape). record { at = p.at; shape = s }) shape in
    (p.at, ap (λ (q : Piece). q ∷ ps) piece ∙ ap (λ (qs : List Piece). word p.at x ∷ qs) c.1)

-- ---- steps over one token

-- one token was stepped over, and no call was refused
pub record Steps (of : ℕ → Piece) (s t : State) : Type 0 where
  pub at : ℕ
  pub pieces : s.pieces ≡ of at ∷ t.pieces
  pub back : {left : Option Unserved} → t.refused ≡ left → s.refused ≡ left

passed_ok : (o : Option (List Piece)) (s : State) (f : ReadFault) (t : State) → passed o s f ≡ Ok t → (o ≡ Some t.pieces) × (t.refused ≡ s.refused)
passed_ok None s f t e = absurd cc
passed_ok (Some ps) s f t e =
    let same : with_pieces s ps ≡ t = ok_is _ _ e in
    (ap (λ (u : State). Some u.pieces) same, sym (ap (λ (u : State). u.refused) same))

pub mark_steps : (x : Mark) (s t : State) → mark_at x s ≡ Ok t → Steps (λ at. mark at x) s t
unfolding mark_at
mark_steps x s t e =
    let p = passed_ok (after_mark x s.pieces) s (fault s) t e in
    let f = after_mark_found x s.pieces t.pieces p.0 in
    record { at = f.0; pieces = f.1; back = λ h. sym p.1 ∙ h }

pub word_steps : (x : Keyword) (s t : State) → word_at x s ≡ Ok t → Steps (λ at. word at x) s t
unfolding word_at
word_steps x s t e =
    let p = passed_ok (after_word x s.pieces) s (fault s) t e in
    let f = after_word_found x s.pieces t.pieces p.0 in
    record { at = f.0; pieces = f.1; back = λ h. sym p.1 ∙ h }

-- what was taken from the front
pub record Takes {X : Type 0} (of : Piece → Option X) (s : State) (x : X) (t : State) : Type 0 where
  pub front : Piece
  pub is : of front ≡ Some x
  pub pieces : s.pieces ≡ front ∷ t.pieces
  pub back : {left : Option Unserved} → t.refused ≡ left → s.refused ≡ left

taken_by_ok : {X : Type 0} (o : Option X) (ps : List Piece) (s : State) (f : ReadFault) (x : X) (t : State) → taken_by o ps s f ≡ Ok (x, t) → (o ≡ Some x) × (ps ≡ t.pieces) × (t.refused ≡ s.refused)
taken_by_ok None ps s f x t e = absurd cc
taken_by_ok {X = X} (Some y) ps s f x t e =
    let same : (y, with_pieces s ps) ≡ (x, t) = ok_is _ _ e in
    (ap (λ (u : X × State). Some u.0) same, ap (λ (u : X × State). u.1.pieces) same, sym (ap (λ (u : X × State). u.1.refused) same))

taken_of : {X : Type 0} (of : Piece → Option X) (ps : List Piece) (s : State) (f : ReadFault) (x : X) (t : State) → s.pieces ≡ ps → taken of ps s f ≡ Ok (x, t) → Takes of s x t
taken_of of [] s f x t is e = absurd cc
taken_of of (p ∷ ps) s f x t is e =
    let o = taken_by_ok (of p) ps s f x t e in
    record { front = p; is = o.0; pieces = is ∙ ap (λ (qs : List Piece). p ∷ qs) o.1; back = λ h. sym o.2 ∙ h }

pub taken_ok : {X : Type 0} (of : Piece → Option X) (s : State) (f : ReadFault) (x : X) (t : State) → taken of s.pieces s f ≡ Ok (x, t) → Takes of s x t
taken_ok of s f x t e = taken_of of s.pieces s f x t refl e

atom_in_some : (shape : Shape) (t : List ℕ) → atom_in shape ≡ Some t → shape ≡ lexemes.Atom t
atom_in_some (lexemes.Atom u) t e = let same : u ≡ t = cc in ap lexemes.Atom same
atom_in_some shape t e = absurd cc

-- an atom in front
pub atom_of_front : (s : State) (a : List ℕ) (t : State) → Takes (λ p. atom_in p.shape) s a t → Steps (λ at. atom at a) s t
atom_of_front s a t h =
    let piece : h.front ≡ atom h.front.at a = ap (λ (x : Shape). record { at = h.front.at; shape = x }) (atom_in_some h.front.shape a h.is) in
    record { at = h.front.at; pieces = h.pieces ∙ ap (λ (q : Piece). q ∷ t.pieces) piece; back = h.back }

pub atom_steps : (s : State) (a : List ℕ) (t : State) → atom_at s ≡ Ok (a, t) → Steps (λ at. atom at a) s t
unfolding atom_at
atom_steps s a t e = atom_of_front s a t (taken_ok (λ p. atom_in p.shape) s (fault s) a t e)

pub named_by_some : (at : ℕ) (shape : Shape) (a : ℕ × List ℕ) → named_by at shape ≡ Some a → (shape ≡ lexemes.Atom a.1) × (at ≡ a.0)
named_by_some at (lexemes.Atom u) a e =
    let same : (at, u) ≡ a = cc in
    (ap (λ (b : ℕ × List ℕ). lexemes.Atom b.1) same, ap (λ (b : ℕ × List ℕ). b.0) same)
named_by_some at shape a e = absurd cc

pub placed_atom_steps : (s : State) (a : ℕ × List ℕ) (t : State) → placed_atom_at s ≡ Ok (a, t) → (s.pieces ≡ atom a.0 a.1 ∷ t.pieces) × (s.refused ≡ t.refused)
unfolding placed_atom_at
placed_atom_steps s a t e =
    let h = taken_ok (λ p. named_by p.at p.shape) s (fault s) a t e in
    let n = named_by_some h.front.at h.front.shape a h.is in
    let piece : h.front ≡ atom a.0 a.1 = ap (λ (x : Shape). record { at = h.front.at; shape = x }) n.0 ∙ ap (λ (at : ℕ). atom at a.1) n.1 in
    (h.pieces ∙ ap (λ (q : Piece). q ∷ t.pieces) piece, h.back refl)

arity_by_some : (z : ℤ) (n : ℕ) → arity_by z ≡ Some n → (z ≡ pos n) × (n < 256)
arity_by_some (pos x) n e =
    let c = chosen (nat_lt x 256) x n e in
    let small : x < 256 = ltb-true _ _ c.0 in
    (ap pos c.1, subst (λ (y : ℕ). y < 256) c.1 small)
arity_by_some (negsuc x) n e = absurd cc

arity_in_some : (shape : Shape) (n : ℕ) → arity_in shape ≡ Some n → (shape ≡ lexemes.Integer (pos n)) × (n < 256)
arity_in_some (lexemes.Integer z) n e = let a = arity_by_some z n e in (ap lexemes.Integer a.0, a.1)
arity_in_some shape n e = absurd cc

arity_steps : (s : State) (n : ℕ) (t : State) → arity_at s ≡ Ok (n, t) → Steps (λ at. integer at (pos n)) s t × (n < 256)
unfolding arity_at
arity_steps s n t e =
    let h = taken_ok (λ p. arity_in p.shape) s (fault s) n t e in
    let a = arity_in_some h.front.shape n h.is in
    let piece : h.front ≡ integer h.front.at (pos n) = ap (λ (x : Shape). record { at = h.front.at; shape = x }) a.0 in
    (record { at = h.front.at; pieces = h.pieces ∙ ap (λ (q : Piece). q ∷ t.pieces) piece; back = h.back }, a.1)

mention_by_some : (at : ℕ) (shape : Shape) (v : Mention) → mention_by at shape ≡ Some v → (shape ≡ lexemes.Variable v.name) × (at ≡ v.at)
mention_by_some at (lexemes.Variable u) v e =
    let here : Mention = record { at = at; name = u } in
    let same : here ≡ v = cc in
    (ap (λ (w : Mention). lexemes.Variable w.name) same, ap (λ (w : Mention). w.at) same)
mention_by_some at shape v e = absurd cc

pub variable_steps : (s : State) (v : Mention) (t : State) → bare_variable_at s ≡ Ok (v, t) → (s.pieces ≡ variable v.at v.name ∷ t.pieces) × (s.refused ≡ t.refused)
unfolding bare_variable_at
variable_steps s v t e =
    let h = taken_ok (λ p. mention_by p.at p.shape) s (fault s) v t e in
    let n = mention_by_some h.front.at h.front.shape v h.is in
    let piece : h.front ≡ variable v.at v.name = ap (λ (x : Shape). record { at = h.front.at; shape = x }) n.0 ∙ ap (λ (at : ℕ). variable at v.name) n.1 in
    (h.pieces ∙ ap (λ (q : Piece). q ∷ t.pieces) piece, h.back refl)

-- ---- soundness: what is read is spelt

-- what is read, where this is left as what is not served: it was so before, and what is read is spelt
abbrev pub Sound : {X : Type 0} → Option Unserved → (State → Read X) → (List Piece → X → List Piece → Type 0) → Type 0
Sound {X = X} left item Item = (s : State) (x : X) (t : State) → item s ≡ Ok (x, t) → t.refused ≡ left → (s.refused ≡ left) × Item s.pieces x t.pieces

pub bare_variable_sound : {left : Option Unserved} → Sound left bare_variable_at BareVariable
bare_variable_sound s v t e done =
    let h = variable_steps s v t e in
    (h.1 ∙ done, rw h.0 names_variable)

function_form : (ps p1 p2 rest : List Piece) (at bt ct n : ℕ) (t : List ℕ) → n < 256 → ps ≡ atom at t ∷ p1 → p1 ≡ mark bt m.Slash ∷ p2 → p2 ≡ integer ct (pos n) ∷ rest
    → BareName ps (record { at = at; function = record { name = t; arity = n } }) rest
function_form ps p1 p2 rest at bt ct n t small e0 e1 e2 = rw (e0, e1, e2) (names_function small)

-- a name, where this was read after its atom
pub behind_atom_sound : {left : Option Unserved} (at : ℕ) (a : List ℕ) (ps : List Piece) (s : State) (x : NamedAt) (t : State) → ps ≡ atom at a ∷ s.pieces → behind_atom_at at a s ≡ Ok (x, t) → t.refused ≡ left → (s.refused ≡ left) × BareName ps x t.pieces
unfolding behind_atom_at
behind_atom_sound {left = left} at a ps s x t is e done =
    let b = bind_ok _ _ _ e in
    let c = bind_ok _ _ _ b.2 in
    let h1 = mark_steps m.Slash s b.0 b.1 in
    let h2 = arity_steps b.0 c.0.0 c.0.1 c.1 in
    let made : NamedAt = record { at = at; function = record { name = a; arity = c.0.0 } } in
    let same : (made, c.0.1) ≡ (x, t) = ok_is _ _ c.2 in
    subst (λ (y : NamedAt × State). y.1.refused ≡ left → (s.refused ≡ left) × BareName ps y.0 y.1.pieces) same
    (λ d. (h1.back (h2.0.back d), function_form _ _ _ _ _ _ _ _ _ h2.1 is h1.pieces h2.0.pieces)) done

pub bare_name_sound : {left : Option Unserved} → Sound left bare_name_at BareName
unfolding bare_name_at
bare_name_sound s x t e done =
    let a = bind_ok _ _ _ e in
    let h0 = placed_atom_steps s a.0.0 a.0.1 a.1 in
    let h = behind_atom_sound a.0.0.0 a.0.0.1 s.pieces a.0.1 x t h0.0 a.2 done in
    (h0.1 ∙ h.0, h.1)
