-- What is read as an expression or a clause has no comma outside of its brackets, and closes each of them.
use Rattle.std.proofs.Common.{◌≡◌, ℕ, zero, suc, true, List, [], ◌∷◌, length, Option, Some, None, Ok, refl, ap, ◌∙◌}
use Rattle.core_tokens.specs.declared.token.Mark.TheVariants as m
use Rattle.core_grammar.specs.declared.subject.Subject.{Subject}
use Rattle.core_grammar.specs.declared.subject.Subject.TheVariants as subjects
use Rattle.core_tokens.specs.declared.token.Keyword.TheVariants as k
use Rattle.core_tokens.specs.Piece.{Piece, Shape}
use Rattle.core_tokens.specs.Piece as lexemes
use Rattle.core_tree.specs.Syntax.{Callee, Pattern, Tree}
use Rattle.core_tree.specs.Pattern as patterns
use Rattle.core_grammar.specs.declared.unserved.Unserved.{Unserved}
use Rattle.core_grammar.specs.declared.unserved.Unserved.TheVariants as unserved
use Rattle.core_grammar.specs.Arguments.{commas}
use Rattle.core_grammar.specs.inside.Decoder.{State, Read, with_pieces, after_mark, after_word, constant_at, alias_by, alias_at, pattern_at}
use Rattle.core_grammar.specs.inside.DecoderForms.{callee_named, operation_named, refuse, judged, name_by, Start, OnePattern, ManyPatterns, WholeClause, tuple_at, list_at, values_at, let_at, do_at, apply_at, call_at, primop_at, try_at, catch_at, behind_patterns_at, clause_of, start_by, started, inside_start_at, aliased, noted_start_at, angles_at, bare_start_by, bare_start_at, start_last, start_next, clause_at, case_at, receive_at, form_by, form_of, form_at, expression_at, start_at}
use Rattle.core_grammar.proofs.Steps.{bind_ok, after_mark_found, mark_steps, word_steps, atom_steps}
use Rattle.core_grammar.proofs.BracketSteps.{Walks, WalksOut, stepped, ends, variables_walk, caught_walks, pattern_walks, applied_walks, callee_walks, in_note_walks, closed_walks, brackets_walk, exactly_walks, rows_walk}

judged_walks : (at : ℕ) (u : Unserved) (o : Option Callee) (ts : List Tree) → Walks (judged at u o ts)
judged_walks at u (Some callee) ts s c t e d = ends _ _ _ _ e d
judged_walks at u None ts s c t e d = ends _ _ (refuse u s) _ e d

name_walks : (at : ℕ) (x : List ℕ) (o : Option (List Piece)) (ps : List Piece) (s : State) (c : Tree) (t : State) → name_by o x ps s ≡ Ok (c, t) → (d : ℕ) → commas d (record { at = at; shape = lexemes.Atom x } ∷ ps) ≡ commas d t.pieces
name_walks at x (Some qs) ps s c t e d = absurd cc
name_walks at x None ps s c t e d = ends _ _ (with_pieces s ps) _ e d

alias_by_walks : (n : ℕ) (q : Pattern) (o : Option (List Piece)) (s : State) (p : Pattern) (t : State) → after_mark m.Equals s.pieces ≡ o → alias_by (pattern_at n) (constant_at n) q o s ≡ Ok (p, t) → (d : ℕ) → commas d s.pieces ≡ commas d t.pieces
alias_by_walks n (patterns.Variable v) (Some ps) s p t is e d =
    let f = after_mark_found m.Equals s.pieces ps is in
    let a = bind_ok _ _ _ e in
    ap (commas d) f.1 ∙ pattern_walks n (with_pieces s ps) a.0.0 a.0.1 a.1 d ∙ ends _ _ _ _ a.2 d
alias_by_walks n (patterns.Variable v) None s p t is e d = ends _ _ _ _ e d
alias_by_walks n (patterns.Integer i) o s p t is e d = ends _ _ _ _ e d
alias_by_walks n (patterns.Character i) o s p t is e d = ends _ _ _ _ e d
alias_by_walks n (patterns.Text i) o s p t is e d = ends _ _ _ _ e d
alias_by_walks n (patterns.Atom i) o s p t is e d = ends _ _ _ _ e d
alias_by_walks n (patterns.Tuple i) o s p t is e d = ends _ _ _ _ e d
alias_by_walks n (patterns.List i) o s p t is e d = ends _ _ _ _ e d
alias_by_walks n (patterns.Onto i j) o s p t is e d = ends _ _ _ _ e d
alias_by_walks n (patterns.Alias i j) o s p t is e d = ends _ _ _ _ e d

alias_walks : (n : ℕ) (q : Pattern) → Walks (alias_at (pattern_at n) (constant_at n) q)
unfolding alias_at
alias_walks n q s p t e d = alias_by_walks n q (after_mark m.Equals s.pieces) s p t refl e d

module _ (own : List ℕ) (n : ℕ) (inner : State → Read Tree) (walks : Walks inner) where
  tuple_walks : WalksOut (tuple_at own n inner)
  unfolding tuple_at
  tuple_walks s c t e d =
      let a = bind_ok _ _ _ e in
      closed_walks inner walks m.RightBrace refl s a.0.0 a.0.1 a.1 d ∙ ends _ _ _ _ a.2 d

  list_walks : WalksOut (list_at own n inner)
  unfolding list_at
  list_walks s c t e d =
      let a = bind_ok _ _ _ e in
      brackets_walk inner walks s a.0.0 a.0.1 a.1 d ∙ ends _ _ _ _ a.2 d

  values_walk : WalksOut (values_at own n inner)
  unfolding values_at
  values_walk s c t e d =
      let a = bind_ok _ _ _ e in
      closed_walks inner walks m.Greater refl s a.0.0 a.0.1 a.1 d ∙ ends _ _ _ _ a.2 d

  let_walks : Walks (let_at own n inner)
  unfolding let_at
  let_walks s c t e d =
      let v = bind_ok _ _ _ e in
      let q = bind_ok _ _ _ v.2 in
      let x = bind_ok _ _ _ q.2 in
      let w = bind_ok _ _ _ x.2 in
      let y = bind_ok _ _ _ w.2 in
      variables_walk n s v.0.0 v.0.1 v.1 d ∙ stepped (mark_steps m.Equals v.0.1 q.0 q.1) d ∙ walks q.0 x.0.0 x.0.1 x.1 d ∙ stepped (word_steps k.In x.0.1 w.0 w.1) d ∙ walks w.0 y.0.0 y.0.1 y.1 d ∙ ends _ _ _ _ y.2 d

  do_walks : Walks (do_at own n inner)
  unfolding do_at
  do_walks s c t e d =
      let x = bind_ok _ _ _ e in
      let y = bind_ok _ _ _ x.2 in
      walks s x.0.0 x.0.1 x.1 d ∙ walks x.0.1 y.0.0 y.0.1 y.1 d ∙ ends _ _ _ _ y.2 d

  apply_walks : (at : ℕ) → Walks (apply_at own n inner at)
  unfolding apply_at
  apply_walks at s c t e d =
      let f = bind_ok _ _ _ e in
      let a = bind_ok _ _ _ f.2 in
      let x = bind_ok _ _ _ a.2 in
      let b = bind_ok _ _ _ x.2 in
      applied_walks n s f.0.0 f.0.1 f.1 d ∙ stepped (mark_steps m.LeftParenthesis f.0.1 a.0 a.1) d ∙ exactly_walks inner walks true f.0.0.function.arity a.0 x.0.0 x.0.1 x.1 d
      ∙ stepped (mark_steps m.RightParenthesis x.0.1 b.0 b.1) (suc d) ∙ ends _ _ _ _ b.2 d

  call_walks : (at : ℕ) → Walks (call_at own n inner at)
  unfolding call_at
  call_walks at s c t e d =
      let a = bind_ok _ _ _ e in
      let b = bind_ok _ _ _ a.2 in
      let f = bind_ok _ _ _ b.2 in
      let g = bind_ok _ _ _ f.2 in
      let h = bind_ok _ _ _ g.2 in
      callee_walks at n s a.0.0 a.0.1 a.1 d ∙ stepped (mark_steps m.Colon a.0.1 b.0 b.1) d ∙ callee_walks at n b.0 f.0.0 f.0.1 f.1 d ∙ stepped (mark_steps m.LeftParenthesis f.0.1 g.0 g.1) d
      ∙ closed_walks inner walks m.RightParenthesis refl g.0 h.0.0 h.0.1 h.1 d ∙ judged_walks at (unserved.Call at) (callee_named own a.0.0 f.0.0 (length h.0.0)) h.0.0 h.0.1 c t h.2 d

  primop_walks : (at : ℕ) → Walks (primop_at own n inner at)
  unfolding primop_at
  primop_walks at s c t e d =
      let a = bind_ok _ _ _ e in
      let g = bind_ok _ _ _ a.2 in
      let h = bind_ok _ _ _ g.2 in
      stepped (atom_steps s a.0.0 a.0.1 a.1) d ∙ stepped (mark_steps m.LeftParenthesis a.0.1 g.0 g.1) d ∙ closed_walks inner walks m.RightParenthesis refl g.0 h.0.0 h.0.1 h.1 d
      ∙ judged_walks at (unserved.Primop at) (operation_named a.0.0 (length h.0.0)) h.0.0 h.0.1 c t h.2 d

  try_walks : (at : ℕ) → Walks (try_at own n inner at)
  unfolding try_at
  try_walks at s c t e d =
      let x = bind_ok _ _ _ e in
      let q1 = bind_ok _ _ _ x.2 in
      let v = bind_ok _ _ _ q1.2 in
      let q2 = bind_ok _ _ _ v.2 in
      let y = bind_ok _ _ _ q2.2 in
      let q3 = bind_ok _ _ _ y.2 in
      let w = bind_ok _ _ _ q3.2 in
      let q4 = bind_ok _ _ _ w.2 in
      let z = bind_ok _ _ _ q4.2 in
      walks s x.0.0 x.0.1 x.1 d ∙ stepped (word_steps k.Of x.0.1 q1.0 q1.1) d ∙ variables_walk n q1.0 v.0.0 v.0.1 v.1 d ∙ stepped (mark_steps m.Arrow v.0.1 q2.0 q2.1) d ∙ walks q2.0 y.0.0 y.0.1 y.1 d
      ∙ stepped (word_steps k.Catch y.0.1 q3.0 q3.1) d ∙ caught_walks n q3.0 w.0.0 w.0.1 w.1 d ∙ stepped (mark_steps m.Arrow w.0.1 q4.0 q4.1) d ∙ walks q4.0 z.0.0 z.0.1 z.1 d ∙ ends _ _ _ _ z.2 d

  catch_walks : (at : ℕ) → Walks (catch_at own n inner at)
  unfolding catch_at
  catch_walks at s c t e d =
      let x = bind_ok _ _ _ e in
      walks s x.0.0 x.0.1 x.1 d ∙ ends _ _ _ _ x.2 d

  -- ---- clauses

  behind_patterns_walk : (qs : List Pattern) → Walks (behind_patterns_at own n inner qs)
  unfolding behind_patterns_at
  behind_patterns_walk qs s c t e d =
      let a = bind_ok _ _ _ e in
      let g = bind_ok _ _ _ a.2 in
      let b = bind_ok _ _ _ g.2 in
      let y = bind_ok _ _ _ b.2 in
      stepped (word_steps k.When s a.0 a.1) d ∙ walks a.0 g.0.0 g.0.1 g.1 d ∙ stepped (mark_steps m.Arrow g.0.1 b.0 b.1) d ∙ walks b.0 y.0.0 y.0.1 y.1 d ∙ ends _ _ _ _ y.2 d

  clause_of_walks : (x : Start) → Walks (clause_of own n inner x)
  clause_of_walks (OnePattern q) s c t e d = behind_patterns_walk (q ∷ []) s c t e d
  clause_of_walks (ManyPatterns qs) s c t e d = behind_patterns_walk qs s c t e d
  clause_of_walks (WholeClause x) s c t e d = ends _ _ _ _ e d

  start_by_walks : (x : Start) (o : Option (List Piece)) → Walks (start_by own n inner x o)
  start_by_walks x None s y t e d = ends _ _ _ _ e d
  start_by_walks x (Some ps) s y t e d =
      let c = bind_ok _ _ _ e in
      clause_of_walks x s c.0.0 c.0.1 c.1 d ∙ ends _ _ _ _ c.2 d

  started_walks : (x : Start) (o : Option (List Piece)) → Walks (started own n inner x o)
  started_walks (OnePattern q) o s y t e d = start_by_walks (OnePattern q) o s y t e d
  started_walks (ManyPatterns qs) o s y t e d = start_by_walks (ManyPatterns qs) o s y t e d
  started_walks (WholeClause c) o s y t e d = ends _ _ _ _ e d

  aliased_walks : (x : Start) → Walks (aliased own n inner x)
  aliased_walks (OnePattern q) s y t e d =
      let p = bind_ok _ _ _ e in
      alias_walks n q s p.0.0 p.0.1 p.1 d ∙ ends _ _ _ _ p.2 d
  aliased_walks (ManyPatterns qs) s y t e d = ends _ _ _ _ e d
  aliased_walks (WholeClause c) s y t e d = ends _ _ _ _ e d

  module _ (start : State → Read Start) (starts : Walks start) where
    inside_start_walks : Walks (inside_start_at own n inner start)
    unfolding inside_start_at
    inside_start_walks s y t e d =
        let x = bind_ok _ _ _ e in
        starts s x.0.0 x.0.1 x.1 d ∙ started_walks x.0.0 (after_word k.When x.0.1.pieces) x.0.1 y t x.2 d

    pub noted_start_walks : WalksOut (noted_start_at own n inner start)
    unfolding noted_start_at
    noted_start_walks s y t e d =
        let x = bind_ok _ _ _ e in
        in_note_walks n (inside_start_at own n inner start) inside_start_walks s x.0.0 x.0.1 x.1 d ∙ aliased_walks x.0.0 x.0.1 y t x.2 d

  -- clauses of a `case` and of a `receive`, each with its own starts
  module _ (start : Subject → State → Read Start) (starts : (subject : Subject) → Walks (start subject)) where
    clause_walks : (subject : Subject) → Walks (clause_at own n inner start subject)
    unfolding clause_at
    clause_walks subject s c t e d =
        let x = bind_ok _ _ _ e in
        starts subject s x.0.0 x.0.1 x.1 d ∙ clause_of_walks x.0.0 x.0.1 c t x.2 d

    case_walks : (at : ℕ) → Walks (case_at own n inner start at)
    unfolding case_at
    case_walks at s c t e d =
        let x = bind_ok _ _ _ e in
        let a = bind_ok _ _ _ x.2 in
        let f = bind_ok _ _ _ a.2 in
        let g = bind_ok _ _ _ f.2 in
        let b = bind_ok _ _ _ g.2 in
        walks s x.0.0 x.0.1 x.1 d ∙ stepped (word_steps k.Of x.0.1 a.0 a.1) d ∙ clause_walks subjects.Values a.0 f.0.0 f.0.1 f.1 d ∙ rows_walk (clause_at own n inner start subjects.Values) (clause_walks subjects.Values) k.End f.0.1 g.0.0 g.0.1 g.1 d
        ∙ stepped (word_steps k.End g.0.1 b.0 b.1) d ∙ ends _ _ _ _ b.2 d

    receive_walks : (at : ℕ) → Walks (receive_at own n inner start at)
    unfolding receive_at
    receive_walks at s c t e d =
        let f = bind_ok _ _ _ e in
        let a = bind_ok _ _ _ f.2 in
        let x = bind_ok _ _ _ a.2 in
        let b = bind_ok _ _ _ x.2 in
        let y = bind_ok _ _ _ b.2 in
        rows_walk (clause_at own n inner start subjects.Message) (clause_walks subjects.Message) k.After s f.0.0 f.0.1 f.1 d ∙ stepped (word_steps k.After f.0.1 a.0 a.1) d ∙ walks a.0 x.0.0 x.0.1 x.1 d
        ∙ stepped (mark_steps m.Arrow x.0.1 b.0 b.1) d ∙ walks b.0 y.0.0 y.0.1 y.1 d ∙ ends _ _ _ _ y.2 d

    form_by_walks : (at : ℕ) (shape : Shape) (ps : List Piece) (s : State) (c : Tree) (t : State) → form_by own n inner start at shape ps s ≡ Ok (c, t) → (d : ℕ) → commas d (record { at = at; shape = shape } ∷ ps) ≡ commas d t.pieces
    form_by_walks at (lexemes.Integer i) ps s c t e d = ends _ _ (with_pieces s ps) _ e d
    form_by_walks at (lexemes.Character i) ps s c t e d = ends _ _ (with_pieces s ps) _ e d
    form_by_walks at (lexemes.Text i) ps s c t e d = ends _ _ (with_pieces s ps) _ e d
    form_by_walks at (lexemes.Atom x) ps s c t e d = name_walks at x (after_mark m.Slash ps) ps s c t e d
    form_by_walks at (lexemes.Variable v) ps s c t e d = ends _ _ (with_pieces s ps) _ e d
    form_by_walks at (lexemes.Mark m.LeftBrace) ps s c t e d = tuple_walks (with_pieces s ps) c t e d
    form_by_walks at (lexemes.Mark m.LeftBracket) ps s c t e d = list_walks (with_pieces s ps) c t e d
    form_by_walks at (lexemes.Mark m.Less) ps s c t e d = values_walk (with_pieces s ps) c t e d
    form_by_walks at (lexemes.Mark m.LeftParenthesis) ps s c t e d = in_note_walks n inner walks (with_pieces s ps) c t e d
    form_by_walks at (lexemes.Word k.Let) ps s c t e d = let_walks (with_pieces s ps) c t e d
    form_by_walks at (lexemes.Word k.Case) ps s c t e d = case_walks at (with_pieces s ps) c t e d
    form_by_walks at (lexemes.Word k.Do) ps s c t e d = do_walks (with_pieces s ps) c t e d
    form_by_walks at (lexemes.Word k.Apply) ps s c t e d = apply_walks at (with_pieces s ps) c t e d
    form_by_walks at (lexemes.Word k.Call) ps s c t e d = call_walks at (with_pieces s ps) c t e d
    form_by_walks at (lexemes.Word k.Primop) ps s c t e d = primop_walks at (with_pieces s ps) c t e d
    form_by_walks at (lexemes.Word k.Try) ps s c t e d = try_walks at (with_pieces s ps) c t e d
    form_by_walks at (lexemes.Word k.Catch) ps s c t e d = catch_walks at (with_pieces s ps) c t e d
    form_by_walks at (lexemes.Word k.Receive) ps s c t e d = receive_walks at (with_pieces s ps) c t e d
    form_by_walks at shape ps s c t e d = absurd cc

    form_of_walks : (ps : List Piece) (s : State) (c : Tree) (t : State) → form_of own n inner start ps s ≡ Ok (c, t) → (d : ℕ) → commas d ps ≡ commas d t.pieces
    form_of_walks [] s c t e d = absurd cc
    form_of_walks (p ∷ ps) s c t e d = form_by_walks p.at p.shape ps s c t e d

    pub form_walks : Walks (form_at own n inner start)
    unfolding form_at
    form_walks s c t e d = form_of_walks s.pieces s c t e d

angles_walk : (n : ℕ) (subject : Subject) → WalksOut (angles_at n subject)
unfolding angles_at
angles_walk n subjects.Values s qs t e d = closed_walks (pattern_at n) (pattern_walks n) m.Greater refl s qs t e d
angles_walk n subjects.Message s qs t e d =
    let a = bind_ok _ _ _ e in
    let b = bind_ok _ _ _ a.2 in
    exactly_walks (pattern_at n) (pattern_walks n) true 1 s a.0.0 a.0.1 a.1 d ∙ stepped (mark_steps m.Greater a.0.1 b.0 b.1) (suc d) ∙ ends _ _ _ _ b.2 d

bare_start_by_walks : (n : ℕ) (subject : Subject) (o : Option (List Piece)) (s : State) (x : Start) (t : State) → after_mark m.Less s.pieces ≡ o → bare_start_by n subject o s ≡ Ok (x, t) → (d : ℕ) → commas d s.pieces ≡ commas d t.pieces
bare_start_by_walks n subject (Some ps) s x t is e d =
    let f = after_mark_found m.Less s.pieces ps is in
    let a = bind_ok _ _ _ e in
    ap (commas d) f.1 ∙ angles_walk n subject (with_pieces s ps) a.0.0 a.0.1 a.1 d ∙ ends _ _ _ _ a.2 d
bare_start_by_walks n subject None s x t is e d =
    let a = bind_ok _ _ _ e in
    pattern_walks n s a.0.0 a.0.1 a.1 d ∙ ends _ _ _ _ a.2 d

bare_start_walks : (n : ℕ) (subject : Subject) → Walks (bare_start_at n subject)
unfolding bare_start_at
bare_start_walks n subject s x t e d = bare_start_by_walks n subject (after_mark m.Less s.pieces) s x t refl e d

start_last_walks : (subject : Subject) (o : Option (List Piece)) → Walks (start_last subject o)
start_last_walks subject (Some ps) s x t e d = absurd cc
start_last_walks subject None s x t e d = bare_start_walks 0 subject s x t e d

module _ (own : List ℕ) where
  start_next_walks : (n : ℕ) (subject : Subject) → Walks (expression_at own n) → Walks (start_at own n subject) → (o : Option (List Piece)) (s : State) (x : Start) (t : State) → after_mark m.LeftParenthesis s.pieces ≡ o
      → start_next own n subject (expression_at own n) (start_at own n subject) o s ≡ Ok (x, t) → (d : ℕ) → commas d s.pieces ≡ commas d t.pieces
  start_next_walks n subject walks starts (Some ps) s x t is e d =
      let f = after_mark_found m.LeftParenthesis s.pieces ps is in
      ap (commas d) f.1 ∙ noted_start_walks own n (expression_at own n) walks (start_at own n subject) starts (with_pieces s ps) x t e d
  start_next_walks n subject walks starts None s x t is e d = bare_start_walks (suc n) subject s x t e d

  both_walk : (n : ℕ) → Walks (expression_at own n) × ((subject : Subject) → Walks (start_at own n subject))
  unfolding expression_at start_at
  both_walk zero = (λ s c t e d. absurd cc, λ subject s x t e d. start_last_walks subject (after_mark m.LeftParenthesis s.pieces) s x t e d)
  both_walk (suc n) =
      let h = both_walk n in
      (λ s c t e d. form_walks own n (expression_at own n) h.0 (start_at own n) h.1 s c t e d, λ subject s x t e d. start_next_walks n subject h.0 (h.1 subject) (after_mark m.LeftParenthesis s.pieces) s x t refl e d)

  pub expression_walks : (n : ℕ) → Walks (expression_at own n)
  expression_walks n = (both_walk n).0
