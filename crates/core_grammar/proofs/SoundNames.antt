-- Constants, annotations and names that are read are spelt.
use Rattle.std.proofs.Common.{◌≡◌, ℕ, zero, suc, List, [], ◌∷◌, Option, Some, None, Ok, refl, sym, subst}
use Rattle.core_tokens.specs.declared.token.Mark.TheVariants as m
use Rattle.core_tokens.specs.Piece.{Piece, Shape}
use Rattle.core_tokens.specs.Piece as lexemes
use Rattle.core_tree.specs.Syntax.{Mention, Constant, constants_of}
use Rattle.core_tree.specs.Constant as constants
use Rattle.core_grammar.specs.declared.unserved.Unserved.{Unserved}
use Rattle.core_grammar.specs.Grammar.{mark, Note, is_note, InNote, in_note, stands_bare, stands_noted, Noted, Enclosed, ConstantForm, is_integer, is_character, is_text, is_atom, is_tuple, is_list, is_join, is_noted, ConstantIn, BareName, FunctionName, BareVariable, Variable, BareVariables, one_variable, variables_in_angles, Variables, BareCaught, catches_two, catches_three, CaughtVariables}
use Rattle.core_grammar.specs.inside.Decoder.{State, Read, with_pieces, after_mark, constant_list, note_at, in_note_at, constant_tuple_at, constant_list_at, constant_by, constant_form_by, constant_form_at, constant_at, noted_last, noted_by, noted_at, bare_name_at, function_name_at, bare_variable_at, variable_at, bare_variables_by, bare_variables_at, variables_at, third_by, bare_caught_at, caught_at}
use Rattle.core_grammar.proofs.Steps.{ok_is, bind_ok, after_mark_found, mark_steps, Sound, bare_variable_sound, bare_name_sound}
use Rattle.core_grammar.proofs.SoundLists.{closed_sound, Bracketed, brackets_sound}

-- ---- annotations

module _ {left : Option Unserved} (inner : State → Read Constant) (Inner : List Piece → Constant → List Piece → Type 0) (each : Sound left inner Inner) where
  note_form : (at bt ct : ℕ) (ps p1 p2 p3 rest : List Piece) (cs : List Constant) → ps ≡ mark at m.Note ∷ p1 → p1 ≡ mark bt m.LeftBracket ∷ p2 → Enclosed Inner m.RightBracket p2 cs p3 → p3 ≡ mark ct m.RightParenthesis ∷ rest → Note Inner ps rest
  note_form at bt ct ps p1 p2 p3 rest cs e0 e1 h e3 =
      let inside : Enclosed Inner m.RightBracket p2 cs (mark ct m.RightParenthesis ∷ rest) = subst (λ (qs : List Piece). Enclosed Inner m.RightBracket p2 cs qs) e3 h in
      rw (e0, e1) (is_note inside)

  pub note_sound : (s t : State) → note_at inner s ≡ Ok t → t.refused ≡ left → (s.refused ≡ left) × Note Inner s.pieces t.pieces
  unfolding note_at
  note_sound s t e done =
      let a = bind_ok _ _ _ e in
      let b = bind_ok _ _ _ a.2 in
      let c = bind_ok _ _ _ b.2 in
      let s0 = mark_steps m.Note s a.0 a.1 in
      let s1 = mark_steps m.LeftBracket a.0 b.0 b.1 in
      let s3 = mark_steps m.RightParenthesis c.0.1 t c.2 in
      let h = closed_sound inner Inner each m.RightBracket b.0 c.0.0 c.0.1 c.1 (s3.back done) in
      (s0.back (s1.back h.0), note_form s0.at s1.at s3.at s.pieces a.0.pieces b.0.pieces c.0.1.pieces t.pieces c.0.0 s0.pieces s1.pieces h.1 s3.pieces)

  -- what is in the parentheses of an annotation; the first of them was read already
  pub in_note_sound : {X : Type 0} (item : State → Read X) (Item : List Piece → X → List Piece → Type 0) → Sound left item Item → (at : ℕ) (ps : List Piece) (s : State) (x : X) (t : State)
      → in_note_at inner item (with_pieces s ps) ≡ Ok (x, t) → t.refused ≡ left → (s.refused ≡ left) × InNote Item Inner (mark at m.LeftParenthesis ∷ ps) x t.pieces
  unfolding in_note_at
  in_note_sound {X = X} item Item every at ps s x t e done =
      let a = bind_ok _ _ _ e in
      let b = bind_ok _ _ _ a.2 in
      let same : (a.0.0, b.0) ≡ (x, t) = ok_is _ _ b.2 in
      subst (λ (y : X × State). y.1.refused ≡ left → (s.refused ≡ left) × InNote Item Inner (mark at m.LeftParenthesis ∷ ps) y.0 y.1.pieces) same
      (λ d.
      let h = note_sound a.0.1 b.0 b.1 d in
      let g = every (with_pieces s ps) a.0.0 a.0.1 a.1 h.0 in
      (g.0, in_note g.1 h.1)) done

-- ---- constants

module _ {left : Option Unserved} (inner : State → Read Constant) (Inner : List Piece → Constant → List Piece → Type 0) (each : Sound left inner Inner) where
  constant_listed : (ps rest : List Piece) (at : ℕ) (b : List Constant × Option Constant) → Bracketed inner Inner each ps b rest → ConstantForm Inner (mark at m.LeftBracket ∷ ps) (constant_list b) rest
  constant_listed ps rest at (cs, None) h = is_list h
  constant_listed ps rest at (cs, Some c) h = is_join h.3 h.4

  -- a constant whose first token is this one
  abbrev Reads : ℕ → Shape → List Piece → State → Constant → State → Type 0
  Reads at shape ps s c t = t.refused ≡ left → (s.refused ≡ left) × ConstantForm Inner (record { at = at; shape = shape } ∷ ps) c t.pieces

  constant_tuple_sound : (at : ℕ) (ps : List Piece) (s : State) (c : Constant) (t : State) → constant_tuple_at inner (with_pieces s ps) ≡ Ok (c, t) → Reads at (lexemes.Mark m.LeftBrace) ps s c t
  unfolding constant_tuple_at
  constant_tuple_sound at ps s c t e =
      let a = bind_ok _ _ _ e in
      let same : (constants.Tuple (constants_of a.0.0), a.0.1) ≡ (c, t) = ok_is _ _ a.2 in
      subst (λ (y : Constant × State). Reads at (lexemes.Mark m.LeftBrace) ps s y.0 y.1) same
      (λ d. let h = closed_sound inner Inner each m.RightBrace (with_pieces s ps) a.0.0 a.0.1 a.1 d in (h.0, is_tuple h.1))

  constant_list_sound : (at : ℕ) (ps : List Piece) (s : State) (c : Constant) (t : State) → constant_list_at inner (with_pieces s ps) ≡ Ok (c, t) → Reads at (lexemes.Mark m.LeftBracket) ps s c t
  unfolding constant_list_at
  constant_list_sound at ps s c t e =
      let a = bind_ok _ _ _ e in
      let same : (constant_list a.0.0, a.0.1) ≡ (c, t) = ok_is _ _ a.2 in
      subst (λ (y : Constant × State). Reads at (lexemes.Mark m.LeftBracket) ps s y.0 y.1) same
      (λ d. let h = brackets_sound inner Inner each (with_pieces s ps) a.0.0 a.0.1 a.1 d in (h.0, constant_listed ps a.0.1.pieces at a.0.0 h.1))

  constant_by_sound : (at : ℕ) (shape : Shape) (ps : List Piece) (s : State) (c : Constant) (t : State) → constant_by inner shape ps s ≡ Ok (c, t) → Reads at shape ps s c t
  constant_by_sound at (lexemes.Integer n) ps s c t e =
      let same : (constants.Integer n, with_pieces s ps) ≡ (c, t) = ok_is _ _ e in
      subst (λ (y : Constant × State). Reads at (lexemes.Integer n) ps s y.0 y.1) same (λ d. (d, is_integer))
  constant_by_sound at (lexemes.Character n) ps s c t e =
      let same : (constants.Character n, with_pieces s ps) ≡ (c, t) = ok_is _ _ e in
      subst (λ (y : Constant × State). Reads at (lexemes.Character n) ps s y.0 y.1) same (λ d. (d, is_character))
  constant_by_sound at (lexemes.Text n) ps s c t e =
      let same : (constants.Text n, with_pieces s ps) ≡ (c, t) = ok_is _ _ e in
      subst (λ (y : Constant × State). Reads at (lexemes.Text n) ps s y.0 y.1) same (λ d. (d, is_text))
  constant_by_sound at (lexemes.Atom n) ps s c t e =
      let same : (constants.Atom n, with_pieces s ps) ≡ (c, t) = ok_is _ _ e in
      subst (λ (y : Constant × State). Reads at (lexemes.Atom n) ps s y.0 y.1) same (λ d. (d, is_atom))
  constant_by_sound at (lexemes.Mark m.LeftBrace) ps s c t e = constant_tuple_sound at ps s c t e
  constant_by_sound at (lexemes.Mark m.LeftBracket) ps s c t e = constant_list_sound at ps s c t e
  constant_by_sound at (lexemes.Mark m.LeftParenthesis) ps s c t e = λ d. let h = in_note_sound inner Inner each inner Inner each at ps s c t e d in (h.0, is_noted h.1)
  constant_by_sound at shape ps s c t e = absurd cc

  constant_form_by_sound : (ps : List Piece) (s : State) (c : Constant) (t : State) → constant_form_by inner ps s ≡ Ok (c, t) → t.refused ≡ left → (s.refused ≡ left) × ConstantForm Inner ps c t.pieces
  constant_form_by_sound [] s c t e done = absurd cc
  constant_form_by_sound (p ∷ ps) s c t e done = constant_by_sound p.at p.shape ps s c t e done

  pub constant_form_sound : Sound left (constant_form_at inner) (ConstantForm Inner)
  unfolding constant_form_at
  constant_form_sound s c t e done = constant_form_by_sound s.pieces s c t e done

pub constant_sound : {left : Option Unserved} (n : ℕ) → Sound left (constant_at n) (ConstantIn n)
unfolding constant_at
constant_sound zero s c t e done = absurd cc
constant_sound (suc n) s c t e done = constant_form_sound (constant_at n) (ConstantIn n) (constant_sound n) s c t e done

-- ---- what may be annotated

-- the front of some tokens is what is here
pub at_front : {X : Type 0} (Item : List Piece → X → List Piece → Type 0) (ps qs : List Piece) (x : X) (rest : List Piece) → ps ≡ qs → Item qs x rest → Item ps x rest
at_front Item ps qs x rest e h = subst (λ (us : List Piece). Item us x rest) (sym e) h

module _ {left : Option Unserved} {X : Type 0} (bare : ℕ → State → Read X) (Bare : ℕ → List Piece → X → List Piece → Type 0) (each : (n : ℕ) → Sound left (bare n) (Bare n)) where
  abbrev Reading : ℕ → List Piece → State → X → State → Type 0
  Reading n ps s x t = t.refused ≡ left → (s.refused ≡ left) × Noted Bare n ps x t.pieces

  noted_last_sound : (o : Option (List Piece)) (s : State) (x : X) (t : State) → noted_last bare o s ≡ Ok (x, t) → Reading 0 s.pieces s x t
  noted_last_sound (Some ps) s x t e = absurd cc
  noted_last_sound None s x t e = λ d. let h = each 0 s x t e d in (h.0, stands_bare h.1)

  noted_by_sound : (n : ℕ) → Sound left (noted_at bare n) (Noted Bare n) → (o : Option (List Piece)) (s : State) (x : X) (t : State) → after_mark m.LeftParenthesis s.pieces ≡ o → noted_by bare n (noted_at bare n) o s ≡ Ok (x, t) → Reading (suc n) s.pieces s x t
  noted_by_sound n again (Some ps) s x t is e = λ d.
      let f = after_mark_found m.LeftParenthesis s.pieces ps is in
      let h = in_note_sound (constant_at n) (ConstantIn n) (constant_sound n) (noted_at bare n) (Noted Bare n) again f.0 ps s x t e d in
      (h.0, at_front (Noted Bare (suc n)) s.pieces (mark f.0 m.LeftParenthesis ∷ ps) x t.pieces f.1 (stands_noted h.1))
  noted_by_sound n again None s x t is e = λ d. let h = each (suc n) s x t e d in (h.0, stands_bare h.1)

  pub noted_sound : (n : ℕ) → Sound left (noted_at bare n) (Noted Bare n)
  unfolding noted_at
  noted_sound zero s x t e done = noted_last_sound (after_mark m.LeftParenthesis s.pieces) s x t e done
  noted_sound (suc n) s x t e done = noted_by_sound n (noted_sound n) (after_mark m.LeftParenthesis s.pieces) s x t refl e done

-- ---- names

pub function_name_sound : {left : Option Unserved} (n : ℕ) → Sound left (function_name_at n) (FunctionName n)
unfolding function_name_at
function_name_sound n s x t e done = noted_sound (λ _. bare_name_at) (λ _. BareName) (λ _. bare_name_sound) n s x t e done

pub variable_sound : {left : Option Unserved} (n : ℕ) → Sound left (variable_at n) (Variable n)
unfolding variable_at
variable_sound n s x t e done = noted_sound (λ _. bare_variable_at) (λ _. BareVariable) (λ _. bare_variable_sound) n s x t e done

bare_variables_by_sound : {left : Option Unserved} (n : ℕ) (o : Option (List Piece)) (s : State) (vs : List Mention) (t : State) → after_mark m.Less s.pieces ≡ o → bare_variables_by (variable_at n) o s ≡ Ok (vs, t) → t.refused ≡ left → (s.refused ≡ left) × BareVariables (Variable n) s.pieces vs t.pieces
bare_variables_by_sound n (Some ps) s vs t is e done =
    let f = after_mark_found m.Less s.pieces ps is in
    let h = closed_sound (variable_at n) (Variable n) (variable_sound n) m.Greater (with_pieces s ps) vs t e done in
    (h.0, at_front (BareVariables (Variable n)) s.pieces (mark f.0 m.Less ∷ ps) vs t.pieces f.1 (variables_in_angles h.1))
bare_variables_by_sound {left = left} n None s vs t is e done =
    let a = bind_ok _ _ _ e in
    let same : (a.0.0 ∷ [], a.0.1) ≡ (vs, t) = ok_is _ _ a.2 in
    subst (λ (y : List Mention × State). y.1.refused ≡ left → (s.refused ≡ left) × BareVariables (Variable n) s.pieces y.0 y.1.pieces) same
    (λ d. let h = bare_variable_sound s a.0.0 a.0.1 a.1 d in (h.0, one_variable h.1)) done

pub bare_variables_sound : {left : Option Unserved} (n : ℕ) → Sound left (bare_variables_at n) (BareVariables (Variable n))
unfolding bare_variables_at
bare_variables_sound n s vs t e done = bare_variables_by_sound n (after_mark m.Less s.pieces) s vs t refl e done

pub variables_sound : {left : Option Unserved} (n : ℕ) → Sound left (variables_at n) (Variables n)
unfolding variables_at
variables_sound n s x t e done = noted_sound bare_variables_at (λ l. BareVariables (Variable l)) bare_variables_sound n s x t e done

-- two or three variables after the first mark
record Third (n : ℕ) (u v : Mention) (p2 : List Piece) (vs : List Mention) (rest : List Piece) : Type 0 where
  pub all : {at bt : ℕ} {ps p1 : List Piece} → Variable n ps u (mark bt m.Comma ∷ p1) → Variable n p1 v p2 → BareCaught (Variable n) (mark at m.Less ∷ ps) vs rest

third_none : (n at : ℕ) (u v : Mention) (p2 rest : List Piece) → p2 ≡ mark at m.Greater ∷ rest → Third n u v p2 (u ∷ v ∷ []) rest
third_none n at u v p2 rest e = record { all = λ {bt = bt} {p1 = p1} h g. (let g' : Variable n p1 v (mark at m.Greater ∷ rest) = subst (λ (qs : List Piece). Variable n p1 v qs) e g in catches_two h g') }

third_some : (n at ct : ℕ) (u v w : Mention) (p2 p3 p4 rest : List Piece) → p2 ≡ mark ct m.Comma ∷ p3 → Variable n p3 w p4 → p4 ≡ mark at m.Greater ∷ rest → Third n u v p2 (u ∷ v ∷ w ∷ []) rest
third_some n at ct u v w p2 p3 p4 rest e i e4 = record {
  all = λ {bt = bt} {p1 = p1} h g. (
      let g' : Variable n p1 v (mark ct m.Comma ∷ p3) = subst (λ (qs : List Piece). Variable n p1 v qs) e g in
      let i' : Variable n p3 w (mark at m.Greater ∷ rest) = subst (λ (qs : List Piece). Variable n p3 w qs) e4 i in
      catches_three h g' i');
}

third_sound : {left : Option Unserved} (n : ℕ) (u v : Mention) (o : Option (List Piece)) (s : State) (vs : List Mention) (t : State) → after_mark m.Comma s.pieces ≡ o → third_by (variable_at n) u v o s ≡ Ok (vs, t) → t.refused ≡ left → (s.refused ≡ left) × Third n u v s.pieces vs t.pieces
third_sound {left = left} n u v None s vs t is e done =
    let a = bind_ok _ _ _ e in
    let same : (u ∷ v ∷ [], a.0) ≡ (vs, t) = ok_is _ _ a.2 in
    let step = mark_steps m.Greater s a.0 a.1 in
    subst (λ (y : List Mention × State). y.1.refused ≡ left → (s.refused ≡ left) × Third n u v s.pieces y.0 y.1.pieces) same
    (λ d. (step.back d, third_none n step.at u v s.pieces a.0.pieces step.pieces)) done
third_sound {left = left} n u v (Some ps) s vs t is e done =
    let f = after_mark_found m.Comma s.pieces ps is in
    let w = bind_ok _ _ _ e in
    let a = bind_ok _ _ _ w.2 in
    let same : (u ∷ v ∷ w.0.0 ∷ [], a.0) ≡ (vs, t) = ok_is _ _ a.2 in
    let step = mark_steps m.Greater w.0.1 a.0 a.1 in
    subst (λ (y : List Mention × State). y.1.refused ≡ left → (s.refused ≡ left) × Third n u v s.pieces y.0 y.1.pieces) same
    (λ d.
    let h = variable_sound n (with_pieces s ps) w.0.0 w.0.1 w.1 (step.back d) in
    (h.0, third_some n step.at f.0 u v w.0.0 s.pieces ps w.0.1.pieces a.0.pieces f.1 h.1 step.pieces)) done

caught_form : (n at bt : ℕ) (ps p0 p1 p2 p3 rest : List Piece) (u v : Mention) (vs : List Mention) → ps ≡ mark at m.Less ∷ p0 → Variable n p0 u p1 → p1 ≡ mark bt m.Comma ∷ p2 → Variable n p2 v p3 → Third n u v p3 vs rest → BareCaught (Variable n) ps vs rest
caught_form n at bt ps p0 p1 p2 p3 rest u v vs e0 h e1 g third =
    let h' : Variable n p0 u (mark bt m.Comma ∷ p2) = subst (λ (qs : List Piece). Variable n p0 u qs) e1 h in
    at_front (BareCaught (Variable n)) ps (mark at m.Less ∷ p0) vs rest e0 (third.all h' g)

pub bare_caught_sound : {left : Option Unserved} (n : ℕ) → Sound left (bare_caught_at n) (BareCaught (Variable n))
unfolding bare_caught_at
bare_caught_sound n s vs t e done =
    let a = bind_ok _ _ _ e in
    let u = bind_ok _ _ _ a.2 in
    let b = bind_ok _ _ _ u.2 in
    let v = bind_ok _ _ _ b.2 in
    let s0 = mark_steps m.Less s a.0 a.1 in
    let s2 = mark_steps m.Comma u.0.1 b.0 b.1 in
    let h3 = third_sound n u.0.0 v.0.0 (after_mark m.Comma v.0.1.pieces) v.0.1 vs t refl v.2 done in
    let h2 = variable_sound n b.0 v.0.0 v.0.1 v.1 h3.0 in
    let h1 = variable_sound n a.0 u.0.0 u.0.1 u.1 (s2.back h2.0) in
    (s0.back h1.0, caught_form n s0.at s2.at s.pieces a.0.pieces u.0.1.pieces b.0.pieces v.0.1.pieces t.pieces u.0.0 v.0.0 vs s0.pieces h1.1 s2.pieces h2.1 h3.1)

pub caught_sound : {left : Option Unserved} (n : ℕ) → Sound left (caught_at n) (CaughtVariables n)
unfolding caught_at
caught_sound n s x t e done = noted_sound bare_caught_at (λ l. BareCaught (Variable l)) bare_caught_sound n s x t e done
