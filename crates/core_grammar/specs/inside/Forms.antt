-- Expressions and what clauses begin with, as the code reads them.
use Rattle.std.proofs.Common.{◌≡◌, ◌≢◌, ℕ, zero, suc, ◌-◌, ◌<◌, List, [], length, Bool, true, false, is_some, Option, Some, None, Result, Ok, Err, refl, sym, ap, ◌∙◌, arith}
use Rattle.core_tokens.specs.declared.fault.ReadFault.{ReadFault}
use Rattle.core_tokens.specs.declared.fault.ReadFault.TheVariants.{Memory}
use Rattle.core_tokens.specs.declared.token.Mark.TheVariants as m
use Rattle.core_grammar.specs.declared.subject.Subject.{Subject}
use Rattle.core_grammar.specs.declared.subject.Subject.TheVariants as subjects
use Rattle.core_tokens.specs.declared.token.Keyword.TheVariants as k
use Rattle.core_tokens.specs.Piece.{Piece}
use Rattle.core_tree.specs.Syntax.{Mention, Pattern, Tree, ClauseTree, clauses_of}
use Rattle.core_tree.specs.Expression as trees
use Rattle.core_scopes.specs.Outcomes.{◌>>=◌}
use Rattle.core_grammar.specs.inside.Decoder.{State, Read, with_pieces, word_behind, after_mark, after_word, too_deep, variables_at, row_at}
use Rattle.core_grammar.specs.inside.DecoderForms.{Start, OnePattern, ManyPatterns, WholeClause, deep_expression, form_at, expression_at, clause_of, start_by, started, bare_start_at, noted_start_at, start_at, body_at, in_at, bound_at, let_at, success_at, handler_at, branches_at, try_at, guarded_at, behind_patterns_at, clause_at, clauses_at, choices_at, case_at, expiry_at, receive_at}
use Rattle.core_grammar.specs.inside.Decoder.{Opens}
use Rattle.core_grammar.specs.inside.Notes.{opens_none, opens_some}
use Rattle.core_grammar.specs.inside.Loops.{with_front, rows_behind}

module _ (own : List ℕ) where
  pub expression_zero : (n : ℕ) (s : State) → n ≡ 0 → expression_at own n s ≡ Err (deep_expression s)
  unfolding expression_at
  expression_zero n s e = rw e refl

  pub expression_more : (n : ℕ) (s : State) → 0 < n → expression_at own n s ≡ form_at own (n - 1) (expression_at own (n - 1)) (start_at own (n - 1)) s
  unfolding expression_at start_at
  expression_more zero s h = absurd (omega arith)
  expression_more (suc n) s h =
      let e : suc n - 1 ≡ n = omega arith in
      rw e refl

  -- ---- the start of a clause

  start_bare : (n : ℕ) (subject : Subject) (s : State) → after_mark m.LeftParenthesis s.pieces ≡ None → start_at own n subject s ≡ bare_start_at n subject s
  unfolding expression_at start_at
  start_bare zero subject s e = rw e refl
  start_bare (suc n) subject s e = rw e refl

  start_deep : (n : ℕ) (subject : Subject) (s : State) (ps : List Piece) → n ≡ 0 → after_mark m.LeftParenthesis s.pieces ≡ Some ps → start_at own n subject s ≡ Err (too_deep s)
  unfolding expression_at start_at
  start_deep n subject s ps z e = rw (z, e) refl

  start_inside : (n : ℕ) (subject : Subject) (s : State) (ps : List Piece) → 0 < n → after_mark m.LeftParenthesis s.pieces ≡ Some ps
      → start_at own n subject s ≡ noted_start_at own (n - 1) (expression_at own (n - 1)) (start_at own (n - 1) subject) (with_pieces s ps)
  unfolding expression_at start_at
  start_inside zero subject s ps h e = absurd (omega arith)
  start_inside (suc n) subject s ps h e =
      let f : suc n - 1 ≡ n = omega arith in
      rw (f, e) refl

  pub start_is_deep : (e : ReadFault) (n : ℕ) (subject : Subject) (s s1 : State) → Opens n (Err e) s s1 → start_at own n subject s ≡ Err e
  start_is_deep e n subject s s1 h = start_deep n subject s s1.pieces h.0 h.1 ∙ ap Err (sym h.2)

  pub bare_start_fails : (e : ReadFault) (b : Bool) (n : ℕ) (subject : Subject) (s s1 : State) → b ≡ false → Opens n (Ok b) s s1 → (e ≢ Memory → bare_start_at n subject s1 ≡ Err e) → e ≢ Memory → start_at own n subject s ≡ Err e
  bare_start_fails e b n subject s s1 f h failed real =
      let o = opens_none b n s s1 f h in
      start_bare n subject s o.0 ∙ ap (bare_start_at n subject) (sym o.1) ∙ failed real

  pub bare_start_reads : (r : Start × State) (b : Bool) (n : ℕ) (subject : Subject) (s s1 : State) → b ≡ false → Opens n (Ok b) s s1 → bare_start_at n subject s1 ≡ Ok r → start_at own n subject s ≡ Ok r
  bare_start_reads r b n subject s s1 f h read =
      let o = opens_none b n s s1 f h in
      start_bare n subject s o.0 ∙ ap (bare_start_at n subject) (sym o.1) ∙ read

  noted_inside : (b : Bool) (n : ℕ) (subject : Subject) (s s1 : State) → b ≡ true → Opens n (Ok b) s s1 → start_at own n subject s ≡ noted_start_at own (n - 1) (expression_at own (n - 1)) (start_at own (n - 1) subject) s1
  noted_inside b n subject s s1 t h =
      let o = opens_some b n s s1 t h in
      start_inside n subject s s1.pieces o.0 o.1.0 ∙ ap (noted_start_at own (n - 1) (expression_at own (n - 1)) (start_at own (n - 1) subject)) (sym o.1.1)

  pub noted_start_fails : (e : ReadFault) (b : Bool) (n : ℕ) (subject : Subject) (s s1 : State) → b ≡ true → Opens n (Ok b) s s1
      → (e ≢ Memory → noted_start_at own (n - 1) (expression_at own (n - 1)) (start_at own (n - 1) subject) s1 ≡ Err e) → e ≢ Memory → start_at own n subject s ≡ Err e
  noted_start_fails e b n subject s s1 t h failed real = noted_inside b n subject s s1 t h ∙ failed real

  pub noted_start_reads : (r : Start × State) (b : Bool) (n : ℕ) (subject : Subject) (s s1 : State) → b ≡ true → Opens n (Ok b) s s1
      → noted_start_at own (n - 1) (expression_at own (n - 1)) (start_at own (n - 1) subject) s1 ≡ Ok r → start_at own n subject s ≡ Ok r
  noted_start_reads r b n subject s s1 t h read = noted_inside b n subject s s1 t h ∙ read

-- ---- the start of a clause in parentheses

is_none : {X : Type 0} (o : Option X) → is_some o ≡ false → o ≡ None
is_none None e = refl
is_none (Some x) e = absurd cc

is_one : {X : Type 0} (o : Option X) → is_some o ≡ true → (x : X) × (o ≡ Some x)
is_one None e = absurd cc
is_one (Some x) e = (x, refl)

module _ (own : List ℕ) (n : ℕ) (inner : State → Read Tree) where
  by_start : (x : Start) (o : Option (List Piece)) (s : State) → started own n inner x o s ≡ start_by own n inner x o s
  by_start (OnePattern q) o s = refl
  by_start (ManyPatterns qs) o s = refl
  by_start (WholeClause c) None s = refl
  by_start (WholeClause c) (Some ps) s = refl

  pub started_plain : (x : Start) (s : State) → is_some (after_word k.When s.pieces) ≡ false → started own n inner x (after_word k.When s.pieces) s ≡ Ok (x, s)
  started_plain x s h =
      let e = is_none (after_word k.When s.pieces) h in
      let one : start_by own n inner x (after_word k.When s.pieces) s ≡ Ok (x, s) = rw e refl in
      by_start x (after_word k.When s.pieces) s ∙ one

  pub started_fails : (e : ReadFault) (x : Start) (s : State) → is_some (after_word k.When s.pieces) ≡ true → (e ≢ Memory → clause_of own n inner x s ≡ Err e) → e ≢ Memory
      → started own n inner x (after_word k.When s.pieces) s ≡ Err e
  started_fails e x s h failed real =
      let found = is_one (after_word k.When s.pieces) h in
      let read = failed real in
      let one : start_by own n inner x (after_word k.When s.pieces) s ≡ Err e = rw (found.1, read) refl in
      by_start x (after_word k.When s.pieces) s ∙ one

  pub started_reads : (c : ClauseTree) (x : Start) (s s1 : State) → is_some (after_word k.When s.pieces) ≡ true → clause_of own n inner x s ≡ Ok (c, s1)
      → started own n inner x (after_word k.When s.pieces) s ≡ Ok (WholeClause c, s1)
  started_reads c x s s1 h read =
      let found = is_one (after_word k.When s.pieces) h in
      let one : start_by own n inner x (after_word k.When s.pieces) s ≡ Ok (WholeClause c, s1) = rw (found.1, read) refl in
      by_start x (after_word k.When s.pieces) s ∙ one

-- ---- forms in parts

in_turn : {A B C : Type 0} (r : Result A ReadFault) (f : A → Result B ReadFault) (g : B → Result C ReadFault) → (r >>= f >>= g) ≡ (r >>= λ x. f x >>= g)
in_turn (Ok x) f g = refl
in_turn (Err e) f g = refl

abbrev clause : List Pattern → Tree → Tree → ClauseTree
clause qs g b = record { patterns = qs; guard = g; body = b }

module _ (own : List ℕ) (n : ℕ) (inner : State → Read Tree) where
  let_parts : (s : State) → let_at own n inner s ≡ (variables_at n s >>= λ vs. bound_at own n inner vs.1 >>= λ b. Ok (trees.Let vs.0 b.0.0 b.0.1, b.1))
  unfolding let_at bound_at in_at
  let_parts s = simp in_turn

  pub let_fails : (e : ReadFault) (s : State) → (e ≢ Memory → variables_at n s ≡ Err e) → e ≢ Memory → let_at own n inner s ≡ Err e
  unfolding let_at
  let_fails e s failed real =
      let read = failed real in
      rw read refl

  pub let_lacks : (e : ReadFault) (s s1 : State) (vs : List Mention) → variables_at n s ≡ Ok (vs, s1) → (e ≢ Memory → bound_at own n inner s1 ≡ Err e) → e ≢ Memory → let_at own n inner s ≡ Err e
  let_lacks e s s1 vs read failed real =
      let rest = failed real in
      let one : (variables_at n s >>= λ vs. bound_at own n inner vs.1 >>= λ b. Ok (trees.Let vs.0 b.0.0 b.0.1, b.1)) ≡ Err e = rw (read, rest) refl in
      let_parts s ∙ one

  pub let_reads : (s s1 s2 : State) (vs : List Mention) (t u : Tree) → variables_at n s ≡ Ok (vs, s1) → bound_at own n inner s1 ≡ Ok ((t, u), s2) → let_at own n inner s ≡ Ok (trees.Let vs t u, s2)
  let_reads s s1 s2 vs t u read rest =
      let one : (variables_at n s >>= λ vs. bound_at own n inner vs.1 >>= λ b. Ok (trees.Let vs.0 b.0.0 b.0.1, b.1)) ≡ Ok (trees.Let vs t u, s2) = rw (read, rest) refl in
      let_parts s ∙ one

  try_parts : (at : ℕ) (s : State) → try_at own n inner at s ≡ (inner s >>= λ t. branches_at own n inner t.1 >>= λ p. Ok (trees.Try at t.0 p.0.0.0 p.0.0.1 p.0.1.0 p.0.1.1, p.1))
  unfolding try_at branches_at success_at handler_at body_at
  try_parts at s = simp in_turn

  pub try_fails : (e : ReadFault) (at : ℕ) (s : State) → (e ≢ Memory → inner s ≡ Err e) → e ≢ Memory → try_at own n inner at s ≡ Err e
  unfolding try_at
  try_fails e at s failed real =
      let read = failed real in
      rw read refl

  pub try_lacks : (e : ReadFault) (at : ℕ) (s s1 : State) (t : Tree) → inner s ≡ Ok (t, s1) → (e ≢ Memory → branches_at own n inner s1 ≡ Err e) → e ≢ Memory → try_at own n inner at s ≡ Err e
  try_lacks e at s s1 t read failed real =
      let rest = failed real in
      let one : (inner s >>= λ t. branches_at own n inner t.1 >>= λ p. Ok (trees.Try at t.0 p.0.0.0 p.0.0.1 p.0.1.0 p.0.1.1, p.1)) ≡ Err e = rw (read, rest) refl in
      try_parts at s ∙ one

  pub try_reads : (at : ℕ) (s s1 s2 : State) (t : Tree) (b h : List Mention × Tree) → inner s ≡ Ok (t, s1) → branches_at own n inner s1 ≡ Ok ((b, h), s2) → try_at own n inner at s ≡ Ok (trees.Try at t b.0 b.1 h.0 h.1, s2)
  try_reads at s s1 s2 t b h read rest =
      let one : (inner s >>= λ t. branches_at own n inner t.1 >>= λ p. Ok (trees.Try at t.0 p.0.0.0 p.0.0.1 p.0.1.0 p.0.1.1, p.1)) ≡ Ok (trees.Try at t b.0 b.1 h.0 h.1, s2) = rw (read, rest) refl in
      try_parts at s ∙ one

  clause_parts : (qs : List Pattern) (s : State) → behind_patterns_at own n inner qs s ≡ (guarded_at own n inner s >>= λ p. Ok (clause qs p.0.0 p.0.1, p.1))
  unfolding behind_patterns_at guarded_at body_at
  clause_parts qs s = simp in_turn

  pub clause_fails : (e : ReadFault) (qs : List Pattern) (s : State) → (e ≢ Memory → guarded_at own n inner s ≡ Err e) → e ≢ Memory → behind_patterns_at own n inner qs s ≡ Err e
  clause_fails e qs s failed real =
      let rest = failed real in
      let one : (guarded_at own n inner s >>= λ p. Ok (clause qs p.0.0 p.0.1, p.1)) ≡ Err e = rw rest refl in
      clause_parts qs s ∙ one

  pub clause_reads : (qs : List Pattern) (s s1 : State) (g b : Tree) → guarded_at own n inner s ≡ Ok ((g, b), s1) → behind_patterns_at own n inner qs s ≡ Ok (clause qs g b, s1)
  clause_reads qs s s1 g b rest =
      let one : (guarded_at own n inner s >>= λ p. Ok (clause qs p.0.0 p.0.1, p.1)) ≡ Ok (clause qs g b, s1) = rw rest refl in
      clause_parts qs s ∙ one

  module _ (start : Subject → State → Read Start) where
    pub clauses_begin : (count : ℕ) (subject : Subject) (s : State) (front : List ClauseTree) → count ≡ length s.pieces
        → with_front front (row_at (clause_at own n inner start subject) (word_behind subject) (count - 0) s) ≡ clauses_at own n inner start subject front s
    unfolding clauses_at
    clauses_begin count subject s front e = rows_behind (clause_at own n inner start subject) (word_behind subject) front count s e

    case_parts : (at : ℕ) (s : State) → case_at own n inner start at s
        ≡ (inner s >>= λ t. choices_at own n inner start t.1 >>= λ cs. Ok (trees.Case at t.0 (clauses_of cs.0), cs.1))
    unfolding case_at choices_at clauses_at
    case_parts at s = simp in_turn

    pub case_fails : (e : ReadFault) (at : ℕ) (s : State) → (e ≢ Memory → inner s ≡ Err e) → e ≢ Memory → case_at own n inner start at s ≡ Err e
    unfolding case_at
    case_fails e at s failed real =
        let read = failed real in
        rw read refl

    pub case_lacks : (e : ReadFault) (at : ℕ) (s s1 : State) (t : Tree) → inner s ≡ Ok (t, s1) → (e ≢ Memory → choices_at own n inner start s1 ≡ Err e) → e ≢ Memory → case_at own n inner start at s ≡ Err e
    case_lacks e at s s1 t read failed real =
        let rest = failed real in
        let one : (inner s >>= λ t. choices_at own n inner start t.1 >>= λ cs. Ok (trees.Case at t.0 (clauses_of cs.0), cs.1)) ≡ Err e = rw (read, rest) refl in
        case_parts at s ∙ one

    pub case_reads : (at : ℕ) (s s1 s2 : State) (t : Tree) (cs : List ClauseTree) → inner s ≡ Ok (t, s1) → choices_at own n inner start s1 ≡ Ok (cs, s2) → case_at own n inner start at s ≡ Ok (trees.Case at t (clauses_of cs), s2)
    case_reads at s s1 s2 t cs read rest =
        let one : (inner s >>= λ t. choices_at own n inner start t.1 >>= λ cs. Ok (trees.Case at t.0 (clauses_of cs.0), cs.1)) ≡ Ok (trees.Case at t (clauses_of cs), s2) = rw (read, rest) refl in
        case_parts at s ∙ one

    receive_parts : (at : ℕ) (s : State) → receive_at own n inner start at s
        ≡ (clauses_at own n inner start subjects.Message [] s >>= λ cs. expiry_at own n inner cs.1 >>= λ p. Ok (trees.Receive at (clauses_of cs.0) p.0.0 p.0.1, p.1))
    unfolding receive_at clauses_at expiry_at body_at
    receive_parts at s = simp in_turn

    pub receive_fails : (e : ReadFault) (at : ℕ) (s : State) → (e ≢ Memory → clauses_at own n inner start subjects.Message [] s ≡ Err e) → e ≢ Memory → receive_at own n inner start at s ≡ Err e
    receive_fails e at s failed real =
        let read = failed real in
        let one : (clauses_at own n inner start subjects.Message [] s >>= λ cs. expiry_at own n inner cs.1 >>= λ p. Ok (trees.Receive at (clauses_of cs.0) p.0.0 p.0.1, p.1)) ≡ Err e = rw read refl in
        receive_parts at s ∙ one

    pub receive_lacks : (e : ReadFault) (at : ℕ) (s s1 : State) (cs : List ClauseTree) → clauses_at own n inner start subjects.Message [] s ≡ Ok (cs, s1) → (e ≢ Memory → expiry_at own n inner s1 ≡ Err e) → e ≢ Memory → receive_at own n inner start at s ≡ Err e
    receive_lacks e at s s1 cs read failed real =
        let rest = failed real in
        let one : (clauses_at own n inner start subjects.Message [] s >>= λ cs. expiry_at own n inner cs.1 >>= λ p. Ok (trees.Receive at (clauses_of cs.0) p.0.0 p.0.1, p.1)) ≡ Err e = rw (read, rest) refl in
        receive_parts at s ∙ one

    pub receive_reads : (at : ℕ) (s s1 s2 : State) (cs : List ClauseTree) (t u : Tree) → clauses_at own n inner start subjects.Message [] s ≡ Ok (cs, s1) → expiry_at own n inner s1 ≡ Ok ((t, u), s2)
        → receive_at own n inner start at s ≡ Ok (trees.Receive at (clauses_of cs) t u, s2)
    receive_reads at s s1 s2 cs t u read rest =
        let one : (clauses_at own n inner start subjects.Message [] s >>= λ cs. expiry_at own n inner cs.1 >>= λ p. Ok (trees.Receive at (clauses_of cs.0) p.0.0 p.0.1, p.1)) ≡ Ok (trees.Receive at (clauses_of cs) t u, s2) = rw (read, rest) refl in
        receive_parts at s ∙ one
