-- What is read as an expression or a clause is spelt as one.
use Rattle.std.proofs.Common.{◌≡◌, ℕ, zero, suc, cond, List, [], ◌∷◌, length, Option, Some, None, Ok, refl, ap, ◌∙◌, subst}
use Rattle.core_tokens.specs.declared.token.Mark.TheVariants as m
use Rattle.core_grammar.specs.declared.subject.Subject.{Subject}
use Rattle.core_grammar.specs.declared.subject.Subject.TheVariants as subjects
use Rattle.core_tokens.specs.declared.token.Keyword.TheVariants as k
use Rattle.core_tokens.specs.Piece.{Piece, Shape}
use Rattle.core_tokens.specs.Piece as lexemes
use Rattle.core_tree.specs.Syntax.{Mention, NamedAt, Callee, Pattern, Tree, trees_of, ClauseTree, clauses_of}
use Rattle.core_tree.specs.Callee as callees
use Rattle.core_tree.specs.Expression as trees
use Rattle.core_grammar.specs.Grammar.{mark, word, atom, InNote, in_note, Either, stands_bare, stands_noted, Enclosed, Row, ConstantIn, BareName, FunctionName, BareAtom, is_the_atom, AtomIn, Variables, CaughtVariables, PatternForm, matches_noted, PatternIn, Fits, patterns_in_angles, Angles, one_pattern, many_patterns, PatternsIn, Operates, HasNoSlash, IsNoSlash, BareClause, is_clause, Form, a_number, a_character, a_text, a_name, a_variable, a_tuple, a_list, a_join, some_values, a_noted, a_let, a_case, a_do, an_apply, a_call, a_primop, a_try, a_catch, a_receive, Expression, AnnotatedClause}
use Rattle.core_grammar.specs.declared.unserved.Unserved.{Unserved}
use Rattle.core_grammar.specs.declared.unserved.Unserved.TheVariants as unserved
use Rattle.core_grammar.specs.inside.Decoder.{State, Read, with_pieces, is_mark, after_mark, after_word, atom_in, named_by, constant_at, pattern_at}
use Rattle.core_grammar.specs.inside.DecoderForms.{callee_fault, bare_callee_at, callee_at, applied_fault, applied_atom_at, behind_applied_by, bare_applied_at, applied_at, callee_named, operation_named, earlier, refuse, judged, tree_list, name_by, Start, OnePattern, ManyPatterns, WholeClause, tuple_at, list_at, values_at, let_at, do_at, apply_at, call_at, primop_at, try_at, catch_at, behind_patterns_at, clause_of, start_by, started, inside_start_at, aliased, noted_start_at, angles_at, bare_start_by, bare_start_at, start_last, start_next, clause_at, case_at, receive_at, form_by, form_of, form_at, expression_at, start_at}
use Rattle.core_grammar.proofs.Steps.{ok_is, bind_ok, after_mark_found, mark_steps, word_steps, taken_ok, atom_of_front, atom_steps, named_by_some, behind_atom_sound, Sound}
use Rattle.core_grammar.proofs.SoundLists.{closed_sound, Bracketed, brackets_sound, exactly_sound, rows_sound}
use Rattle.core_grammar.proofs.SoundNames.{in_note_sound, constant_sound, at_front, noted_sound, variables_sound, caught_sound}
use Rattle.core_grammar.proofs.SoundPatterns.{alias_sound, pattern_sound}
use Rattle.core_grammar.proofs.CallsByName.{callee_found, operation_found}

-- what is spelt up to a token goes on with it
pub goes_to : {X : Type 0} (Item : List Piece → X → List Piece → Type 0) (ps p1 p2 : List Piece) (x : X) → p1 ≡ p2 → Item ps x p1 → Item ps x p2
goes_to Item ps p1 p2 x e h = subst (λ (qs : List Piece). Item ps x qs) e h

-- ---- names of calls

pub bare_callee_sound : {left : Option Unserved} (at : ℕ) → Sound left (bare_callee_at at) BareAtom
unfolding bare_callee_at
bare_callee_sound at s a t e done =
    let h = atom_of_front s a t (taken_ok (λ p. atom_in p.shape) s (callee_fault at s) a t e) in
    (h.back done, at_front BareAtom s.pieces (atom h.at a ∷ t.pieces) a t.pieces h.pieces is_the_atom)

pub callee_sound : {left : Option Unserved} (at n : ℕ) → Sound left (callee_at at n) (AtomIn n)
unfolding callee_at
callee_sound at n s a t e done = noted_sound (λ _. bare_callee_at at) (λ _. BareAtom) (λ _. bare_callee_sound at) n s a t e done

applied_atom_steps : (s : State) (a : ℕ × List ℕ) (t : State) → applied_atom_at s ≡ Ok (a, t) → (s.pieces ≡ atom a.0 a.1 ∷ t.pieces) × (s.refused ≡ t.refused)
unfolding applied_atom_at
applied_atom_steps s a t e =
    let h = taken_ok (λ p. named_by p.at p.shape) s (applied_fault s) a t e in
    let n = named_by_some h.front.at h.front.shape a h.is in
    let piece : h.front ≡ atom a.0 a.1 = ap (λ (x : Shape). record { at = h.front.at; shape = x }) n.0 ∙ ap (λ (at : ℕ). atom at a.1) n.1 in
    (h.pieces ∙ ap (λ (q : Piece). q ∷ t.pieces) piece, h.back refl)

behind_applied_sound : {left : Option Unserved} (at : ℕ) (a : List ℕ) (ps : List Piece) (o : Option (List Piece)) (s : State) (x : NamedAt) (t : State) → ps ≡ atom at a ∷ s.pieces → behind_applied_by at a o s ≡ Ok (x, t) → t.refused ≡ left → (s.refused ≡ left) × BareName ps x t.pieces
behind_applied_sound at a ps (Some qs) s x t is e done = absurd cc
behind_applied_sound at a ps None s x t is e done = behind_atom_sound at a ps s x t is e done

pub bare_applied_sound : {left : Option Unserved} → Sound left bare_applied_at BareName
unfolding bare_applied_at
bare_applied_sound s x t e done =
    let a = bind_ok _ _ _ e in
    let h0 = applied_atom_steps s a.0.0 a.0.1 a.1 in
    let h = behind_applied_sound a.0.0.0 a.0.0.1 s.pieces (after_mark m.LeftParenthesis a.0.1.pieces) a.0.1 x t h0.0 a.2 done in
    (h0.1 ∙ h.0, h.1)

pub applied_sound : {left : Option Unserved} (n : ℕ) → Sound left (applied_at n) (FunctionName n)
unfolding applied_at
applied_sound n s x t e done = noted_sound (λ _. bare_applied_at) (λ _. BareName) (λ _. bare_applied_sound) n s x t e done

-- ---- expressions

no_slash_by : (shape : Shape) (ps : List Piece) → cond (is_mark m.Slash shape) (Some ps) None ≡ None → IsNoSlash shape
no_slash_by (lexemes.Mark m.Slash) ps e = absurd cc
no_slash_by shape ps e = tt

no_slash : (ps : List Piece) → after_mark m.Slash ps ≡ None → HasNoSlash ps
no_slash [] e = tt
no_slash (p ∷ ps) e = no_slash_by p.shape ps e

abbrev one_unserved : Unserved → Option Unserved
one_unserved u = Some u

something : (u : Unserved) → one_unserved u ≡ None → ⊥
something u e = cc

judged_sound : (at : ℕ) (u : Unserved) (o : Option Callee) (ts : List Tree) (s : State) (c : Tree) (t : State) → judged at u o ts s ≡ Ok (c, t) → t.refused ≡ None → (callee : Callee) × (o ≡ Some callee) × (trees.Call at callee (trees_of ts) ≡ c) × (s ≡ t)
judged_sound at u (Some callee) ts s c t e done =
    let same : (trees.Call at callee (trees_of ts), s) ≡ (c, t) = ok_is _ _ e in
    (callee, refl, ap (λ (r : Tree × State). r.0) same, ap (λ (r : Tree × State). r.1) same)
judged_sound at u None ts s c t e done =
    let made : Tree × State = (trees.List trees.NoMore, refuse u s) in
    let same : made ≡ (c, t) = ok_is _ _ e in
    let none : (refuse u s).refused ≡ None = ap (λ (r : Tree × State). r.1.refused) same ∙ done in
    absurd (something (earlier u s.refused) none)

module _ (own : List ℕ) (n : ℕ) (inner : State → Read Tree) (Inner : List Piece → Tree → List Piece → Type 0) (each : Sound None inner Inner) where
  abbrev Clause' : Type 1
  Clause' = Subject → List Piece → ClauseTree → List Piece → Type 0

  -- an expression whose first token is this one
  abbrev Finds : Clause' → ℕ → Shape → List Piece → State → Tree → State → Type 0
  Finds C at shape ps s c t = t.refused ≡ None → (s.refused ≡ None) × Form own n Inner C (record { at = at; shape = shape } ∷ ps) c t.pieces

  tuple_sound : (C : Clause') (at : ℕ) (ps : List Piece) (s : State) (c : Tree) (t : State) → tuple_at own n inner (with_pieces s ps) ≡ Ok (c, t) → Finds C at (lexemes.Mark m.LeftBrace) ps s c t
  unfolding tuple_at
  tuple_sound C at ps s c t e =
      let a = bind_ok _ _ _ e in
      let same : (trees.Tuple (trees_of a.0.0), a.0.1) ≡ (c, t) = ok_is _ _ a.2 in
      subst (λ (y : Tree × State). Finds C at (lexemes.Mark m.LeftBrace) ps s y.0 y.1) same
      (λ d. let h = closed_sound inner Inner each m.RightBrace (with_pieces s ps) a.0.0 a.0.1 a.1 d in (h.0, a_tuple h.1))

  listed : (C : Clause') (ps rest : List Piece) (at : ℕ) (b : List Tree × Option Tree) → Bracketed inner Inner each ps b rest → Form own n Inner C (mark at m.LeftBracket ∷ ps) (tree_list b) rest
  listed C ps rest at (ts, None) h = a_list h
  listed C ps rest at (ts, Some t) h = a_join h.3 h.4

  list_sound : (C : Clause') (at : ℕ) (ps : List Piece) (s : State) (c : Tree) (t : State) → list_at own n inner (with_pieces s ps) ≡ Ok (c, t) → Finds C at (lexemes.Mark m.LeftBracket) ps s c t
  unfolding list_at
  list_sound C at ps s c t e =
      let a = bind_ok _ _ _ e in
      let same : (tree_list a.0.0, a.0.1) ≡ (c, t) = ok_is _ _ a.2 in
      subst (λ (y : Tree × State). Finds C at (lexemes.Mark m.LeftBracket) ps s y.0 y.1) same
      (λ d. let h = brackets_sound inner Inner each (with_pieces s ps) a.0.0 a.0.1 a.1 d in (h.0, listed C ps a.0.1.pieces at a.0.0 h.1))

  values_sound : (C : Clause') (at : ℕ) (ps : List Piece) (s : State) (c : Tree) (t : State) → values_at own n inner (with_pieces s ps) ≡ Ok (c, t) → Finds C at (lexemes.Mark m.Less) ps s c t
  unfolding values_at
  values_sound C at ps s c t e =
      let a = bind_ok _ _ _ e in
      let same : (trees.Values (trees_of a.0.0), a.0.1) ≡ (c, t) = ok_is _ _ a.2 in
      subst (λ (y : Tree × State). Finds C at (lexemes.Mark m.Less) ps s y.0 y.1) same
      (λ d. let h = closed_sound inner Inner each m.Greater (with_pieces s ps) a.0.0 a.0.1 a.1 d in (h.0, some_values h.1))

  let_sound : (C : Clause') (at : ℕ) (ps : List Piece) (s : State) (c : Tree) (t : State) → let_at own n inner (with_pieces s ps) ≡ Ok (c, t) → Finds C at (lexemes.Word k.Let) ps s c t
  unfolding let_at
  let_sound C at ps s c t e =
      let v = bind_ok _ _ _ e in
      let q = bind_ok _ _ _ v.2 in
      let x = bind_ok _ _ _ q.2 in
      let w = bind_ok _ _ _ x.2 in
      let y = bind_ok _ _ _ w.2 in
      let same : (trees.Let v.0.0 x.0.0 y.0.0, y.0.1) ≡ (c, t) = ok_is _ _ y.2 in
      let step1 = mark_steps m.Equals v.0.1 q.0 q.1 in
      let step3 = word_steps k.In x.0.1 w.0 w.1 in
      subst (λ (r : Tree × State). Finds C at (lexemes.Word k.Let) ps s r.0 r.1) same
      (λ d.
      let body = each w.0 y.0.0 y.0.1 y.1 d in
      let value = each q.0 x.0.0 x.0.1 x.1 (step3.back body.0) in
      let vars = variables_sound n (with_pieces s ps) v.0.0 v.0.1 v.1 (step1.back value.0) in
      (vars.0, a_let (goes_to (Variables n) _ _ _ _ step1.pieces vars.1) (goes_to Inner _ _ _ _ step3.pieces value.1) body.1))

  do_sound : (C : Clause') (at : ℕ) (ps : List Piece) (s : State) (c : Tree) (t : State) → do_at own n inner (with_pieces s ps) ≡ Ok (c, t) → Finds C at (lexemes.Word k.Do) ps s c t
  unfolding do_at
  do_sound C at ps s c t e =
      let x = bind_ok _ _ _ e in
      let y = bind_ok _ _ _ x.2 in
      let same : (trees.Do x.0.0 y.0.0, y.0.1) ≡ (c, t) = ok_is _ _ y.2 in
      subst (λ (r : Tree × State). Finds C at (lexemes.Word k.Do) ps s r.0 r.1) same
      (λ d.
      let second = each x.0.1 y.0.0 y.0.1 y.1 d in
      let first = each (with_pieces s ps) x.0.0 x.0.1 x.1 second.0 in
      (first.0, a_do first.1 second.1))

  apply_sound : (C : Clause') (at : ℕ) (ps : List Piece) (s : State) (c : Tree) (t : State) → apply_at own n inner at (with_pieces s ps) ≡ Ok (c, t) → Finds C at (lexemes.Word k.Apply) ps s c t
  unfolding apply_at
  apply_sound C at ps s c t e =
      let f = bind_ok _ _ _ e in
      let a = bind_ok _ _ _ f.2 in
      let x = bind_ok _ _ _ a.2 in
      let b = bind_ok _ _ _ x.2 in
      let same : (trees.Call at (callees.Defined f.0.0) (trees_of x.0.0), b.0) ≡ (c, t) = ok_is _ _ b.2 in
      let s1 = mark_steps m.LeftParenthesis f.0.1 a.0 a.1 in
      let s2 = mark_steps m.RightParenthesis x.0.1 b.0 b.1 in
      subst (λ (r : Tree × State). Finds C at (lexemes.Word k.Apply) ps s r.0 r.1) same
      (λ d.
      let args = exactly_sound inner Inner each m.RightParenthesis f.0.0.function.arity a.0 x.0.0 x.0.1 b.0 x.1 s2 d in
      let name = applied_sound n (with_pieces s ps) f.0.0 f.0.1 f.1 (s1.back args.0) in
      (name.0, an_apply (goes_to (FunctionName n) _ _ _ _ s1.pieces name.1) args.1 args.2))

  call_sound : (C : Clause') (at : ℕ) (ps : List Piece) (s : State) (c : Tree) (t : State) → call_at own n inner at (with_pieces s ps) ≡ Ok (c, t) → Finds C at (lexemes.Word k.Call) ps s c t
  unfolding call_at
  call_sound C at ps s c t e done =
      let a = bind_ok _ _ _ e in
      let b = bind_ok _ _ _ a.2 in
      let f = bind_ok _ _ _ b.2 in
      let g = bind_ok _ _ _ f.2 in
      let h = bind_ok _ _ _ g.2 in
      let j = judged_sound at (unserved.Call at) (callee_named own a.0.0 f.0.0 (length h.0.0)) h.0.0 h.0.1 c t h.2 done in
      let s1 = mark_steps m.Colon a.0.1 b.0 b.1 in
      let s3 = mark_steps m.LeftParenthesis f.0.1 g.0 g.1 in
      let last : h.0.1.refused ≡ None = ap (λ (u : State). u.refused) j.3 ∙ done in
      let args = closed_sound inner Inner each m.RightParenthesis g.0 h.0.0 h.0.1 h.1 last in
      let second = callee_sound at n b.0 f.0.0 f.0.1 f.1 (s3.back args.0) in
      let first = callee_sound at n (with_pieces s ps) a.0.0 a.0.1 a.1 (s1.back second.0) in
      let made : Form own n Inner C (word at k.Call ∷ ps) (trees.Call at j.0 (trees_of h.0.0)) h.0.1.pieces =
      a_call (goes_to (AtomIn n) _ _ _ _ s1.pieces first.1) (goes_to (AtomIn n) _ _ _ _ s3.pieces second.1) args.1 (callee_found own a.0.0 f.0.0 (length h.0.0) j.0 j.1) in (
        first.0,
        subst (λ (x : Tree). Form own n Inner C (word at k.Call ∷ ps) x t.pieces) j.2 (subst (λ (u : State). Form own n Inner C (word at k.Call ∷ ps) (trees.Call at j.0 (trees_of h.0.0)) u.pieces) j.3 made),
      )

  primop_form : (C : Clause') (at bt ct : ℕ) (ps p1 p2 rest : List Piece) (a : List ℕ) (callee : Callee) (ts : List Tree) → ps ≡ atom bt a ∷ p1 → p1 ≡ mark ct m.LeftParenthesis ∷ p2 → Enclosed Inner m.RightParenthesis p2 ts rest → Operates a (length ts) callee
      → Form own n Inner C (word at k.Primop ∷ ps) (trees.Call at callee (trees_of ts)) rest
  primop_form C at bt ct ps p1 p2 rest a callee ts e0 e1 h is = rw (e0, e1) (a_primop h is)

  primop_sound : (C : Clause') (at : ℕ) (ps : List Piece) (s : State) (c : Tree) (t : State) → primop_at own n inner at (with_pieces s ps) ≡ Ok (c, t) → Finds C at (lexemes.Word k.Primop) ps s c t
  unfolding primop_at
  primop_sound C at ps s c t e done =
      let a = bind_ok _ _ _ e in
      let g = bind_ok _ _ _ a.2 in
      let h = bind_ok _ _ _ g.2 in
      let j = judged_sound at (unserved.Primop at) (operation_named a.0.0 (length h.0.0)) h.0.0 h.0.1 c t h.2 done in
      let s0 = atom_steps (with_pieces s ps) a.0.0 a.0.1 a.1 in
      let s1 = mark_steps m.LeftParenthesis a.0.1 g.0 g.1 in
      let last : h.0.1.refused ≡ None = ap (λ (u : State). u.refused) j.3 ∙ done in
      let args = closed_sound inner Inner each m.RightParenthesis g.0 h.0.0 h.0.1 h.1 last in
      let made : Form own n Inner C (word at k.Primop ∷ ps) (trees.Call at j.0 (trees_of h.0.0)) h.0.1.pieces =
      primop_form C at s0.at s1.at ps a.0.1.pieces g.0.pieces h.0.1.pieces a.0.0 j.0 h.0.0 s0.pieces s1.pieces args.1 (operation_found a.0.0 (length h.0.0) j.0 j.1) in (
        s0.back (s1.back args.0),
        subst (λ (x : Tree). Form own n Inner C (word at k.Primop ∷ ps) x t.pieces) j.2 (subst (λ (u : State). Form own n Inner C (word at k.Primop ∷ ps) (trees.Call at j.0 (trees_of h.0.0)) u.pieces) j.3 made),
      )

  try_sound : (C : Clause') (at : ℕ) (ps : List Piece) (s : State) (c : Tree) (t : State) → try_at own n inner at (with_pieces s ps) ≡ Ok (c, t) → Finds C at (lexemes.Word k.Try) ps s c t
  unfolding try_at
  try_sound C at ps s c t e =
      let x = bind_ok _ _ _ e in
      let q1 = bind_ok _ _ _ x.2 in
      let v = bind_ok _ _ _ q1.2 in
      let q2 = bind_ok _ _ _ v.2 in
      let y = bind_ok _ _ _ q2.2 in
      let q3 = bind_ok _ _ _ y.2 in
      let w = bind_ok _ _ _ q3.2 in
      let q4 = bind_ok _ _ _ w.2 in
      let z = bind_ok _ _ _ q4.2 in
      let same : (trees.Try at x.0.0 v.0.0 y.0.0 w.0.0 z.0.0, z.0.1) ≡ (c, t) = ok_is _ _ z.2 in
      let s1 = word_steps k.Of x.0.1 q1.0 q1.1 in
      let s2 = mark_steps m.Arrow v.0.1 q2.0 q2.1 in
      let s3 = word_steps k.Catch y.0.1 q3.0 q3.1 in
      let s4 = mark_steps m.Arrow w.0.1 q4.0 q4.1 in
      subst (λ (r : Tree × State). Finds C at (lexemes.Word k.Try) ps s r.0 r.1) same
      (λ d.
      let handler = each q4.0 z.0.0 z.0.1 z.1 d in
      let caught = caught_sound n q3.0 w.0.0 w.0.1 w.1 (s4.back handler.0) in
      let body = each q2.0 y.0.0 y.0.1 y.1 (s3.back caught.0) in
      let vars = variables_sound n q1.0 v.0.0 v.0.1 v.1 (s2.back body.0) in
      let value = each (with_pieces s ps) x.0.0 x.0.1 x.1 (s1.back vars.0) in
      (value.0, a_try (goes_to Inner _ _ _ _ s1.pieces value.1) (goes_to (Variables n) _ _ _ _ s2.pieces vars.1) (goes_to Inner _ _ _ _ s3.pieces body.1) (goes_to (CaughtVariables n) _ _ _ _ s4.pieces caught.1) handler.1))

  catch_sound : (C : Clause') (at : ℕ) (ps : List Piece) (s : State) (c : Tree) (t : State) → catch_at own n inner at (with_pieces s ps) ≡ Ok (c, t) → Finds C at (lexemes.Word k.Catch) ps s c t
  unfolding catch_at
  catch_sound C at ps s c t e =
      let x = bind_ok _ _ _ e in
      let same : (trees.Catch at x.0.0, x.0.1) ≡ (c, t) = ok_is _ _ x.2 in
      subst (λ (r : Tree × State). Finds C at (lexemes.Word k.Catch) ps s r.0 r.1) same
      (λ d. let h = each (with_pieces s ps) x.0.0 x.0.1 x.1 d in (h.0, a_catch h.1))

  name_sound : (C : Clause') (at : ℕ) (o : Option (List Piece)) (x : List ℕ) (ps : List Piece) (s : State) (c : Tree) (t : State) → after_mark m.Slash ps ≡ o → name_by o x ps s ≡ Ok (c, t) → Finds C at (lexemes.Atom x) ps s c t
  name_sound C at (Some qs) x ps s c t is e = absurd cc
  name_sound C at None x ps s c t is e =
      let same : (trees.Atom x, with_pieces s ps) ≡ (c, t) = ok_is _ _ e in
      subst (λ (r : Tree × State). Finds C at (lexemes.Atom x) ps s r.0 r.1) same (λ d. (d, a_name (no_slash ps is)))

  -- ---- clauses

  behind_patterns_sound : (subject : Subject) (qs : List Pattern) (ps : List Piece) (s : State) (c : ClauseTree) (t : State) → behind_patterns_at own n inner qs s ≡ Ok (c, t) → t.refused ≡ None → (s.refused ≡ None) × (PatternsIn n subject ps qs s.pieces → BareClause (PatternsIn n subject) Inner ps c t.pieces)
  unfolding behind_patterns_at
  behind_patterns_sound subject qs ps s c t e done =
      let a = bind_ok _ _ _ e in
      let g = bind_ok _ _ _ a.2 in
      let b = bind_ok _ _ _ g.2 in
      let y = bind_ok _ _ _ b.2 in
      let made : ClauseTree = record { patterns = qs; guard = g.0.0; body = y.0.0 } in
      let same : (made, y.0.1) ≡ (c, t) = ok_is _ _ y.2 in
      let s0 = word_steps k.When s a.0 a.1 in
      let s2 = mark_steps m.Arrow g.0.1 b.0 b.1 in
      subst (λ (r : ClauseTree × State). r.1.refused ≡ None → (s.refused ≡ None) × (PatternsIn n subject ps qs s.pieces → BareClause (PatternsIn n subject) Inner ps r.0 r.1.pieces)) same
      (λ d.
      let body = each b.0 y.0.0 y.0.1 y.1 d in
      let guard = each a.0 g.0.0 g.0.1 g.1 (s2.back body.0) in
      (s0.back guard.0, λ h. is_clause (goes_to (PatternsIn n subject) _ _ _ _ s0.pieces h) (goes_to Inner _ _ _ _ s2.pieces guard.1) body.1)) done

  module _ (subject : Subject) (Whole : List Piece → ClauseTree → List Piece → Type 0) where
    abbrev AnyClause : List Piece → ClauseTree → List Piece → Type 0
    AnyClause ps c rest = Either (BareClause (PatternsIn n subject) Inner) Whole ps c rest

    -- what a start of a clause says
    abbrev pub Starts : List Piece → Start → List Piece → Type 0
    Starts ps (OnePattern q) rest = PatternIn n ps q rest
    Starts ps (ManyPatterns qs) rest = Angles n subject ps qs rest
    Starts ps (WholeClause c) rest = Whole ps c rest

    clause_of_sound : (x : Start) (ps : List Piece) (s : State) (c : ClauseTree) (t : State) → clause_of own n inner x s ≡ Ok (c, t) → t.refused ≡ None → (s.refused ≡ None) × (Starts ps x s.pieces → AnyClause ps c t.pieces)
    clause_of_sound (OnePattern q) ps s c t e done = let h = behind_patterns_sound subject (q ∷ []) ps s c t e done in (h.0, λ g. stands_bare (h.1 (one_pattern g)))
    clause_of_sound (ManyPatterns qs) ps s c t e done = let h = behind_patterns_sound subject qs ps s c t e done in (h.0, λ g. stands_bare (h.1 (many_patterns g)))
    clause_of_sound (WholeClause d) ps s c t e done =
        let same : (d, s) ≡ (c, t) = ok_is _ _ e in
        subst (λ (r : ClauseTree × State). r.1.refused ≡ None → (s.refused ≡ None) × (Starts ps (WholeClause d) s.pieces → AnyClause ps r.0 r.1.pieces)) same (λ f. (f, λ g. stands_noted g)) done

    -- what the start of a clause says inside the parentheses of an annotation
    abbrev pub StartsInside : List Piece → Start → List Piece → Type 0
    StartsInside ps (OnePattern q) rest = PatternIn n ps q rest
    StartsInside ps (ManyPatterns qs) rest = Angles n subject ps qs rest
    StartsInside ps (WholeClause c) rest = AnyClause ps c rest

    abbrev goes_inside : (x : Start) → (ps rest : List Piece) → Starts ps x rest → StartsInside ps x rest
    goes_inside (OnePattern q) ps rest h = h
    goes_inside (ManyPatterns qs) ps rest h = h
    goes_inside (WholeClause c) ps rest h = stands_noted h

    start_by_sound : (x : Start) (o : Option (List Piece)) (ps : List Piece) (s : State) (y : Start) (t : State) → start_by own n inner x o s ≡ Ok (y, t) → t.refused ≡ None → (s.refused ≡ None) × (Starts ps x s.pieces → StartsInside ps y t.pieces)
    start_by_sound x None ps s y t e done =
        let same : (x, s) ≡ (y, t) = ok_is _ _ e in
        subst (λ (r : Start × State). r.1.refused ≡ None → (s.refused ≡ None) × (Starts ps x s.pieces → StartsInside ps r.0 r.1.pieces)) same (λ f. (f, λ g. goes_inside x ps s.pieces g)) done
    start_by_sound x (Some us) ps s y t e done =
        let c = bind_ok _ _ _ e in
        let same : (WholeClause c.0.0, c.0.1) ≡ (y, t) = ok_is _ _ c.2 in
        subst (λ (r : Start × State). r.1.refused ≡ None → (s.refused ≡ None) × (Starts ps x s.pieces → StartsInside ps r.0 r.1.pieces)) same
        (λ f. let h = clause_of_sound x ps s c.0.0 c.0.1 c.1 f in (h.0, λ g. h.1 g)) done

    started_sound : (x : Start) (o : Option (List Piece)) (ps : List Piece) (s : State) (y : Start) (t : State) → started own n inner x o s ≡ Ok (y, t) → t.refused ≡ None → (s.refused ≡ None) × (Starts ps x s.pieces → StartsInside ps y t.pieces)
    started_sound (OnePattern q) o ps s y t e done = start_by_sound (OnePattern q) o ps s y t e done
    started_sound (ManyPatterns qs) o ps s y t e done = start_by_sound (ManyPatterns qs) o ps s y t e done
    started_sound (WholeClause c) o ps s y t e done =
        let same : (WholeClause c, s) ≡ (y, t) = ok_is _ _ e in
        subst (λ (r : Start × State). r.1.refused ≡ None → (s.refused ≡ None) × (Starts ps (WholeClause c) s.pieces → StartsInside ps r.0 r.1.pieces)) same (λ f. (f, λ g. stands_noted g)) done

    module _ (start : State → Read Start) (starts : Sound None start Starts) where
      pub inside_sound : Sound None (inside_start_at own n inner start) StartsInside
      unfolding inside_start_at
      inside_sound s y t e done =
          let x = bind_ok _ _ _ e in
          let h = started_sound x.0.0 (after_word k.When x.0.1.pieces) s.pieces x.0.1 y t x.2 done in
          let g = starts s x.0.0 x.0.1 x.1 h.0 in
          (g.0, h.1 g.1)

      -- what an annotated start says one level higher
      abbrev StartsNoted : List Piece → Start → List Piece → Type 0
      StartsNoted ps (OnePattern q) rest = PatternIn (suc n) ps q rest
      StartsNoted ps (ManyPatterns qs) rest = Angles (suc n) subject ps qs rest
      StartsNoted ps (WholeClause c) rest = InNote AnyClause (ConstantIn n) ps c rest

      one_noted : (ps : List Piece) (q : Pattern) (rest : List Piece) → InNote StartsInside (ConstantIn n) ps (OnePattern q) rest → PatternForm (PatternIn n) (ConstantIn n) ps q rest
      one_noted ps q rest (in_note h g) = matches_noted (in_note h g)

      many_noted : (ps : List Piece) (qs : List Pattern) (rest : List Piece) → InNote StartsInside (ConstantIn n) ps (ManyPatterns qs) rest → Angles (suc n) subject ps qs rest
      many_noted ps qs rest (in_note h g) = stands_noted (in_note h g)

      whole_noted : (ps : List Piece) (c : ClauseTree) (rest : List Piece) → InNote StartsInside (ConstantIn n) ps (WholeClause c) rest → InNote AnyClause (ConstantIn n) ps c rest
      whole_noted ps c rest (in_note h g) = in_note h g

      aliased_sound : (x : Start) (ps : List Piece) (s : State) (y : Start) (t : State) → aliased own n inner x s ≡ Ok (y, t) → t.refused ≡ None → (s.refused ≡ None) × (InNote StartsInside (ConstantIn n) ps x s.pieces → StartsNoted ps y t.pieces)
      aliased_sound (OnePattern q) ps s y t e done =
          let p = bind_ok _ _ _ e in
          let same : (OnePattern p.0.0, p.0.1) ≡ (y, t) = ok_is _ _ p.2 in
          subst (λ (r : Start × State). r.1.refused ≡ None → (s.refused ≡ None) × (InNote StartsInside (ConstantIn n) ps (OnePattern q) s.pieces → StartsNoted ps r.0 r.1.pieces)) same
          (λ f.
          let h = alias_sound (pattern_at n) (constant_at n) (PatternIn n) (ConstantIn n) (pattern_sound n) (constant_sound n) q ps s p.0.0 p.0.1 p.1 f in
          (h.0, λ g. h.1 (one_noted ps q s.pieces g))) done
      aliased_sound (ManyPatterns qs) ps s y t e done =
          let same : (ManyPatterns qs, s) ≡ (y, t) = ok_is _ _ e in
          subst (λ (r : Start × State). r.1.refused ≡ None → (s.refused ≡ None) × (InNote StartsInside (ConstantIn n) ps (ManyPatterns qs) s.pieces → StartsNoted ps r.0 r.1.pieces)) same (λ f. (f, λ g. many_noted ps qs s.pieces g)) done
      aliased_sound (WholeClause c) ps s y t e done =
          let same : (WholeClause c, s) ≡ (y, t) = ok_is _ _ e in
          subst (λ (r : Start × State). r.1.refused ≡ None → (s.refused ≡ None) × (InNote StartsInside (ConstantIn n) ps (WholeClause c) s.pieces → StartsNoted ps r.0 r.1.pieces)) same (λ f. (f, λ g. whole_noted ps c s.pieces g)) done

      pub noted_start_sound : (at : ℕ) (ps : List Piece) (s : State) (y : Start) (t : State) → noted_start_at own n inner start (with_pieces s ps) ≡ Ok (y, t) → t.refused ≡ None → (s.refused ≡ None) × StartsNoted (mark at m.LeftParenthesis ∷ ps) y t.pieces
      unfolding noted_start_at
      noted_start_sound at ps s y t e done =
          let x = bind_ok _ _ _ e in
          let h = aliased_sound x.0.0 (mark at m.LeftParenthesis ∷ ps) x.0.1 y t x.2 done in
          let g = in_note_sound (constant_at n) (ConstantIn n) (constant_sound n) (inside_start_at own n inner start) StartsInside inside_sound at ps s x.0.0 x.0.1 x.1 h.0 in
          (g.0, h.1 g.1)

  -- clauses of a `case` and of a `receive`, each with its own starts
  module _ (Whole : Subject → List Piece → ClauseTree → List Piece → Type 0) (start : Subject → State → Read Start) (starts : (subject : Subject) → Sound None (start subject) (Starts subject (Whole subject))) where
    abbrev AnyOf : Subject → List Piece → ClauseTree → List Piece → Type 0
    AnyOf subject ps c rest = AnyClause subject (Whole subject) ps c rest

    pub clause_sound : (subject : Subject) → Sound None (clause_at own n inner start subject) (AnyOf subject)
    unfolding clause_at
    clause_sound subject s c t e done =
        let x = bind_ok _ _ _ e in
        let h = clause_of_sound subject (Whole subject) x.0.0 s.pieces x.0.1 c t x.2 done in
        let g = starts subject s x.0.0 x.0.1 x.1 h.0 in
        (g.0, h.1 g.1)

    case_sound : (at : ℕ) (ps : List Piece) (s : State) (c : Tree) (t : State) → case_at own n inner start at (with_pieces s ps) ≡ Ok (c, t) → Finds AnyOf at (lexemes.Word k.Case) ps s c t
    unfolding case_at
    case_sound at ps s c t e =
        let x = bind_ok _ _ _ e in
        let a = bind_ok _ _ _ x.2 in
        let f = bind_ok _ _ _ a.2 in
        let g = bind_ok _ _ _ f.2 in
        let b = bind_ok _ _ _ g.2 in
        let same : (trees.Case at x.0.0 (clauses_of (f.0.0 ∷ g.0.0)), b.0) ≡ (c, t) = ok_is _ _ b.2 in
        let s1 = word_steps k.Of x.0.1 a.0 a.1 in
        let s2 = word_steps k.End g.0.1 b.0 b.1 in
        subst (λ (r : Tree × State). Finds AnyOf at (lexemes.Word k.Case) ps s r.0 r.1) same
        (λ d.
        let others = rows_sound (clause_at own n inner start subjects.Values) (AnyOf subjects.Values) (clause_sound subjects.Values) k.End f.0.1 g.0.0 g.0.1 g.1 (s2.back d) in
        let first = clause_sound subjects.Values a.0 f.0.0 f.0.1 f.1 others.0 in
        let value = each (with_pieces s ps) x.0.0 x.0.1 x.1 (s1.back first.0) in
        (value.0, a_case (goes_to Inner _ _ _ _ s1.pieces value.1) first.1 (goes_to (Row (AnyOf subjects.Values)) _ _ _ _ s2.pieces others.1)))

    receive_sound : (at : ℕ) (ps : List Piece) (s : State) (c : Tree) (t : State) → receive_at own n inner start at (with_pieces s ps) ≡ Ok (c, t) → Finds AnyOf at (lexemes.Word k.Receive) ps s c t
    unfolding receive_at
    receive_sound at ps s c t e =
        let f = bind_ok _ _ _ e in
        let a = bind_ok _ _ _ f.2 in
        let x = bind_ok _ _ _ a.2 in
        let b = bind_ok _ _ _ x.2 in
        let y = bind_ok _ _ _ b.2 in
        let same : (trees.Receive at (clauses_of f.0.0) x.0.0 y.0.0, y.0.1) ≡ (c, t) = ok_is _ _ y.2 in
        let s1 = word_steps k.After f.0.1 a.0 a.1 in
        let s2 = mark_steps m.Arrow x.0.1 b.0 b.1 in
        subst (λ (r : Tree × State). Finds AnyOf at (lexemes.Word k.Receive) ps s r.0 r.1) same
        (λ d.
        let action = each b.0 y.0.0 y.0.1 y.1 d in
        let timeout = each a.0 x.0.0 x.0.1 x.1 (s2.back action.0) in
        let clauses = rows_sound (clause_at own n inner start subjects.Message) (AnyOf subjects.Message) (clause_sound subjects.Message) k.After (with_pieces s ps) f.0.0 f.0.1 f.1 (s1.back timeout.0) in
        (clauses.0, a_receive (goes_to (Row (AnyOf subjects.Message)) _ _ _ _ s1.pieces clauses.1) (goes_to Inner _ _ _ _ s2.pieces timeout.1) action.1))

    form_by_sound : (at : ℕ) (shape : Shape) (ps : List Piece) (s : State) (c : Tree) (t : State) → form_by own n inner start at shape ps s ≡ Ok (c, t) → Finds AnyOf at shape ps s c t
    form_by_sound at (lexemes.Integer i) ps s c t e =
        let same : (trees.Integer i, with_pieces s ps) ≡ (c, t) = ok_is _ _ e in
        subst (λ (r : Tree × State). Finds AnyOf at (lexemes.Integer i) ps s r.0 r.1) same (λ d. (d, a_number))
    form_by_sound at (lexemes.Character i) ps s c t e =
        let same : (trees.Character i, with_pieces s ps) ≡ (c, t) = ok_is _ _ e in
        subst (λ (r : Tree × State). Finds AnyOf at (lexemes.Character i) ps s r.0 r.1) same (λ d. (d, a_character))
    form_by_sound at (lexemes.Text i) ps s c t e =
        let same : (trees.Text i, with_pieces s ps) ≡ (c, t) = ok_is _ _ e in
        subst (λ (r : Tree × State). Finds AnyOf at (lexemes.Text i) ps s r.0 r.1) same (λ d. (d, a_text))
    form_by_sound at (lexemes.Atom x) ps s c t e = name_sound AnyOf at (after_mark m.Slash ps) x ps s c t refl e
    form_by_sound at (lexemes.Variable v) ps s c t e =
        let here : Mention = record { at = at; name = v } in
        let same : (trees.Variable here, with_pieces s ps) ≡ (c, t) = ok_is _ _ e in
        subst (λ (r : Tree × State). Finds AnyOf at (lexemes.Variable v) ps s r.0 r.1) same (λ d. (d, a_variable))
    form_by_sound at (lexemes.Mark m.LeftBrace) ps s c t e = tuple_sound AnyOf at ps s c t e
    form_by_sound at (lexemes.Mark m.LeftBracket) ps s c t e = list_sound AnyOf at ps s c t e
    form_by_sound at (lexemes.Mark m.Less) ps s c t e = values_sound AnyOf at ps s c t e
    form_by_sound at (lexemes.Mark m.LeftParenthesis) ps s c t e = λ d. let h = in_note_sound (constant_at n) (ConstantIn n) (constant_sound n) inner Inner each at ps s c t e d in (h.0, a_noted h.1)
    form_by_sound at (lexemes.Word k.Let) ps s c t e = let_sound AnyOf at ps s c t e
    form_by_sound at (lexemes.Word k.Case) ps s c t e = case_sound at ps s c t e
    form_by_sound at (lexemes.Word k.Do) ps s c t e = do_sound AnyOf at ps s c t e
    form_by_sound at (lexemes.Word k.Apply) ps s c t e = apply_sound AnyOf at ps s c t e
    form_by_sound at (lexemes.Word k.Call) ps s c t e = call_sound AnyOf at ps s c t e
    form_by_sound at (lexemes.Word k.Primop) ps s c t e = primop_sound AnyOf at ps s c t e
    form_by_sound at (lexemes.Word k.Try) ps s c t e = try_sound AnyOf at ps s c t e
    form_by_sound at (lexemes.Word k.Catch) ps s c t e = catch_sound AnyOf at ps s c t e
    form_by_sound at (lexemes.Word k.Receive) ps s c t e = receive_sound at ps s c t e
    form_by_sound at shape ps s c t e = absurd cc

    form_of_sound : (ps : List Piece) (s : State) (c : Tree) (t : State) → form_of own n inner start ps s ≡ Ok (c, t) → t.refused ≡ None → (s.refused ≡ None) × Form own n Inner AnyOf ps c t.pieces
    form_of_sound [] s c t e done = absurd cc
    form_of_sound (p ∷ ps) s c t e done = form_by_sound p.at p.shape ps s c t e done

    pub form_sound : Sound None (form_at own n inner start) (Form own n Inner AnyOf)
    unfolding form_at
    form_sound s c t e done = form_of_sound s.pieces s c t e done

-- ---- the start of a clause

abbrev pub StartsAt : List ℕ → ℕ → Subject → List Piece → Start → List Piece → Type 0
StartsAt own n subject ps (OnePattern q) rest = PatternIn n ps q rest
StartsAt own n subject ps (ManyPatterns qs) rest = Angles n subject ps qs rest
StartsAt own n subject ps (WholeClause c) rest = AnnotatedClause own n subject ps c rest

-- patterns in angles fit what the clause matches
angles_sound : (n : ℕ) (subject : Subject) (s : State) (qs : List Pattern) (t : State) → angles_at n subject s ≡ Ok (qs, t) → t.refused ≡ None → (s.refused ≡ None) × Enclosed (PatternIn n) m.Greater s.pieces qs t.pieces × Fits subject qs
unfolding angles_at
angles_sound n subjects.Values s qs t e done = let h = closed_sound (pattern_at n) (PatternIn n) (pattern_sound n) m.Greater s qs t e done in (h.0, h.1, tt)
angles_sound n subjects.Message s qs t e done =
    let a = bind_ok _ _ _ e in
    let b = bind_ok _ _ _ a.2 in
    let same : (a.0.0, b.0) ≡ (qs, t) = ok_is _ _ b.2 in
    subst (λ (r : List Pattern × State). r.1.refused ≡ None → (s.refused ≡ None) × Enclosed (PatternIn n) m.Greater s.pieces r.0 r.1.pieces × (length r.0 ≡ 1)) same
    (λ d. exactly_sound (pattern_at n) (PatternIn n) (pattern_sound n) m.Greater 1 s a.0.0 a.0.1 b.0 a.1 (mark_steps m.Greater a.0.1 b.0 b.1) d) done

bare_start_by_sound : (own : List ℕ) (n : ℕ) (subject : Subject) (o : Option (List Piece)) (s : State) (x : Start) (t : State) → after_mark m.Less s.pieces ≡ o → bare_start_by n subject o s ≡ Ok (x, t) → t.refused ≡ None → (s.refused ≡ None) × StartsAt own n subject s.pieces x t.pieces
bare_start_by_sound own n subject (Some ps) s x t is e done =
    let f = after_mark_found m.Less s.pieces ps is in
    let a = bind_ok _ _ _ e in
    let same : (ManyPatterns a.0.0, a.0.1) ≡ (x, t) = ok_is _ _ a.2 in
    subst (λ (r : Start × State). r.1.refused ≡ None → (s.refused ≡ None) × StartsAt own n subject s.pieces r.0 r.1.pieces) same
    (λ d.
    let h = angles_sound n subject (with_pieces s ps) a.0.0 a.0.1 a.1 d in
    (h.0, at_front (Angles n subject) s.pieces (mark f.0 m.Less ∷ ps) a.0.0 a.0.1.pieces f.1 (stands_bare (patterns_in_angles h.1 h.2)))) done
bare_start_by_sound own n subject None s x t is e done =
    let a = bind_ok _ _ _ e in
    let same : (OnePattern a.0.0, a.0.1) ≡ (x, t) = ok_is _ _ a.2 in
    subst (λ (r : Start × State). r.1.refused ≡ None → (s.refused ≡ None) × StartsAt own n subject s.pieces r.0 r.1.pieces) same (λ d. pattern_sound n s a.0.0 a.0.1 a.1 d) done

bare_start_sound : (own : List ℕ) (n : ℕ) (subject : Subject) → Sound None (bare_start_at n subject) (StartsAt own n subject)
unfolding bare_start_at
bare_start_sound own n subject s x t e done = bare_start_by_sound own n subject (after_mark m.Less s.pieces) s x t refl e done

start_last_sound : (own : List ℕ) (subject : Subject) (o : Option (List Piece)) (s : State) (x : Start) (t : State) → start_last subject o s ≡ Ok (x, t) → t.refused ≡ None → (s.refused ≡ None) × StartsAt own 0 subject s.pieces x t.pieces
start_last_sound own subject (Some ps) s x t e done = absurd cc
start_last_sound own subject None s x t e done = bare_start_sound own 0 subject s x t e done

module _ (own : List ℕ) where
  start_next_sound : (n : ℕ) (subject : Subject) (each : Sound None (expression_at own n) (Expression own n)) (starts : Sound None (start_at own n subject) (StartsAt own n subject)) (o : Option (List Piece)) (s : State) (x : Start) (t : State) → after_mark m.LeftParenthesis s.pieces ≡ o
      → start_next own n subject (expression_at own n) (start_at own n subject) o s ≡ Ok (x, t) → t.refused ≡ None → (s.refused ≡ None) × StartsAt own (suc n) subject s.pieces x t.pieces
  start_next_sound n subject each starts (Some ps) s (OnePattern q) t is e done =
      let f = after_mark_found m.LeftParenthesis s.pieces ps is in
      let h = noted_start_sound own n (expression_at own n) (Expression own n) each subject (AnnotatedClause own n subject) (start_at own n subject) starts f.0 ps s (OnePattern q) t e done in
      (h.0, at_front (PatternIn (suc n)) s.pieces (mark f.0 m.LeftParenthesis ∷ ps) q t.pieces f.1 h.1)
  start_next_sound n subject each starts (Some ps) s (ManyPatterns qs) t is e done =
      let f = after_mark_found m.LeftParenthesis s.pieces ps is in
      let h = noted_start_sound own n (expression_at own n) (Expression own n) each subject (AnnotatedClause own n subject) (start_at own n subject) starts f.0 ps s (ManyPatterns qs) t e done in
      (h.0, at_front (Angles (suc n) subject) s.pieces (mark f.0 m.LeftParenthesis ∷ ps) qs t.pieces f.1 h.1)
  start_next_sound n subject each starts (Some ps) s (WholeClause c) t is e done =
      let f = after_mark_found m.LeftParenthesis s.pieces ps is in
      let h = noted_start_sound own n (expression_at own n) (Expression own n) each subject (AnnotatedClause own n subject) (start_at own n subject) starts f.0 ps s (WholeClause c) t e done in
      (h.0, at_front (AnnotatedClause own (suc n) subject) s.pieces (mark f.0 m.LeftParenthesis ∷ ps) c t.pieces f.1 h.1)
  start_next_sound n subject each starts None s x t is e done = bare_start_sound own (suc n) subject s x t e done

  both_sound : (n : ℕ) → Sound None (expression_at own n) (Expression own n) × ((subject : Subject) → Sound None (start_at own n subject) (StartsAt own n subject))
  unfolding expression_at start_at
  both_sound zero = (λ s c t e done. absurd cc, λ subject s x t e done. start_last_sound own subject (after_mark m.LeftParenthesis s.pieces) s x t e done)
  both_sound (suc n) =
      let h = both_sound n in (
        λ s c t e done. form_sound own n (expression_at own n) (Expression own n) h.0 (AnnotatedClause own n) (start_at own n) h.1 s c t e done,
        λ subject s x t e done. start_next_sound n subject h.0 (h.1 subject) (after_mark m.LeftParenthesis s.pieces) s x t refl e done,
      )

  pub expression_sound : (n : ℕ) → Sound None (expression_at own n) (Expression own n)
  expression_sound n = (both_sound n).0

  pub start_sound : (n : ℕ) (subject : Subject) → Sound None (start_at own n subject) (StartsAt own n subject)
  start_sound n subject = (both_sound n).1 subject
