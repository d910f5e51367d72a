use Rattle.std.proofs.Common.{◌≡◌, ℕ, Bool, List, [], is_some, map, sym, ap, ◌∙◌, arith, Err}
use Rattle.std.proofs.lemmas.Result.{err_from_is_err_and}
use Rattle.std.proofs.lemmas.List.{map-append}
use Rattle.core_grammar.specs.inside.DecoderForms.{expression_at, start_at, clause_at, clauses_at, inside_start_at}
use Rattle.core_tokens.specs.declared.token.Keyword.{Keyword}
use Rattle.core_tokens.specs.Piece.{Piece}
use Rattle.core_tree.specs.Syntax.{ClauseTree}
use Rattle.core_grammar.specs.declared.subject.Subject.TheVariants as subjects
use Rattle.core_grammar.specs.inside.Decoder.{State, word_behind, after_word, constant_at}
use Rattle.core_grammar.specs.inside.Notes.{in_note_ends}
use Rattle.core_parser.specs.inside.ParserView.{state_of}
use Rattle.core_expressions.specs.inside.FormView.{state_in, start_of}
use Rattle.core_tree.specs.Tree.{tree_of, pattern_of}
use Rattle.core_grammar.specs.inside.Loops.{begins, goes_on, ends, fails, is_out, pieces_length, exactly_begin, exactly_on, exactly_lack_comma, exactly_lack, exactly_done, rows_on, rows_end, rows_fail, rows_out}
use Rattle.core_grammar.specs.inside.Forms.{expression_zero, expression_more, start_is_deep, bare_start_fails, bare_start_reads, noted_start_fails, noted_start_reads, started_plain, started_fails, started_reads, let_fails, let_lacks, let_reads, try_fails, try_lacks, try_reads, clause_fails, clause_reads, clauses_begin, case_fails, case_lacks, case_reads, receive_fails, receive_lacks, receive_reads}
use Rattle.core_expressions.proofs.form_reader.FormReader.+expressions.Goals as goal

-- ---- an expression

pub expression-returns-in_err-form : goal.expression-returns-in_err-form
expression-returns-in_err-form t c =
    let p = err_from_is_err_and c.from_residual.result c.from_residual.ensures.1 in
    rw (p.1, p.2) (λ real. expression_more c.args.own.now c.args.levels (state_in c.args.self.now) (omega arith) ∙ c.in_err-form.ensures real)

pub expression-returns-then-levels-eq0 : goal.expression-returns-then-levels-eq0
expression-returns-then-levels-eq0 t c = λ _. expression_zero c.args.own.now c.args.levels (state_in c.args.self.now) (omega arith) ∙ ap Err (sym c.deep_expression.ensures)

pub expression-returns-in_ok-form : goal.expression-returns-in_ok-form
expression-returns-in_ok-form t c = expression_more c.args.own.now c.args.levels (state_in c.args.self.now) (omega arith) ∙ c.in_ok-form.ensures

-- ---- expressions with commas between them

pub expression_items-items-init : goal.expression_items-items-init
expression_items-items-init t c =
    rw c.new-items.ensures.items (begins (expression_at c.args.own.now c.args.levels) _ (state_in c.args.self.now) (sym (pieces_length c.args.self.now.parser.tokens.now)))

pub expression_items-returns-in_err-expression : goal.expression_items-returns-in_err-expression
expression_items-returns-in_err-expression t c =
    let p = err_from_is_err_and c.from_residual.result c.from_residual.ensures.1 in
    rw (p.1, p.2) (fails (expression_at c.args.own.now c.args.levels) _ (map tree_of c.items.items.items) _ c.items._taken (state_in c.items.self) _ (omega arith) c.in_err-expression.ensures c.items.invariant)

pub expression_items-returns-then-not-skip_mark : goal.expression_items-returns-then-not-skip_mark
expression_items-returns-then-not-skip_mark t c =
    rw (c.in_ok-push.ensures.items, map-append) (ends (expression_at c.args.own.now c.args.levels) (map tree_of c.items.items.items) _ c.items._taken (state_in c.items.self) (state_in c.expression.new.self) _ _ _ (omega arith) c.in_ok-expression.ensures c.if-not-skip_mark.ensures c.items.invariant)

pub expression_items-items-preserved : goal.expression_items-items-preserved
expression_items-items-preserved t c =
    rw (c.in_ok-push.ensures.items, map-append) (goes_on (expression_at c.args.own.now c.args.levels) (map tree_of c.items.items.items) _ c.items._taken (state_in c.items.self) (state_in c.expression.new.self) _ _ _ (omega arith) c.in_ok-expression.ensures c.if-not-skip_mark.ensures c.items.invariant)

pub expression_items-returns : goal.expression_items-returns
expression_items-returns t c = λ _. is_out (expression_at c.args.own.now c.args.levels) (map tree_of c.items.items.items) _ c.items._taken (state_in c.items.self) _ (omega arith) c.items.invariant ∙ ap Err (sym c.fault.ensures)

-- ---- the arguments of an `apply`

pub arguments-arguments-init : goal.arguments-arguments-init
arguments-arguments-init t c = rw c.new-arguments.ensures.items (exactly_begin (expression_at c.args.own.now c.args.levels) _ (state_in c.args.self.now))

pub arguments-returns-in_err-comma : goal.arguments-returns-in_err-comma
arguments-returns-in_err-comma t c =
    let p = err_from_is_err_and c.from_residual.result c.from_residual.ensures.1 in
    rw (p.1, p.2) (exactly_lack_comma (expression_at c.args.own.now c.args.levels) _ (map tree_of c.arguments.arguments.items) _ c.arguments.taken (state_in c.arguments.self) _ (omega arith) c.in_err-comma.ensures c.arguments.invariant)

pub arguments-returns-in_err-expression : goal.arguments-returns-in_err-expression
arguments-returns-in_err-expression t c =
    let p = err_from_is_err_and c.from_residual-in_err-expression.result c.from_residual-in_err-expression.ensures.1 in
    rw (p.1, p.2) (exactly_lack (expression_at c.args.own.now c.args.levels) _ (map tree_of c.arguments.arguments.items) _ c.arguments.taken (state_in c.arguments.self) (state_of c.comma.new.self) _ (omega arith) c.in_ok-comma.ensures c.in_err-expression.ensures c.arguments.invariant)

pub arguments-arguments-preserved : goal.arguments-arguments-preserved
arguments-arguments-preserved t c =
    rw (c.in_ok-push.ensures.items, map-append) (exactly_on (expression_at c.args.own.now c.args.levels) (map tree_of c.arguments.arguments.items) _ c.arguments.taken (state_in c.arguments.self) (state_of c.comma.new.self) (state_in c.expression.new.self) _ _ (omega arith) c.in_ok-comma.ensures c.in_ok-expression.ensures c.arguments.invariant)

pub arguments-returns : goal.arguments-returns
arguments-returns t c = exactly_done (expression_at c.args.own.now c.args.levels) (map tree_of c.arguments.arguments.items) _ c.arguments.taken (state_in c.arguments.self) _ _ (omega arith) c.arguments.invariant

-- ---- the start of a clause

pub start-returns-in_err-opens_note : goal.start-returns-in_err-opens_note
start-returns-in_err-opens_note t c =
    let p = err_from_is_err_and c.from_residual.result c.from_residual.ensures.1 in
    rw (p.1, p.2) (λ real. start_is_deep c.args.own.now _ c.args.levels c.args.subject (state_in c.args.self.now) (state_of c.opens_note.new.self) c.in_err-opens_note.ensures)

pub start-returns-in_err-bare_start : goal.start-returns-in_err-bare_start
start-returns-in_err-bare_start t c =
    let p = err_from_is_err_and c.from_residual-in_err-bare_start.result c.from_residual-in_err-bare_start.ensures.1 in
    rw (p.1, p.2) (bare_start_fails c.args.own.now _ _ c.args.levels c.args.subject (state_in c.args.self.now) (state_of c.opens_note.new.self) c.if-not-branch.true c.in_ok-opens_note.ensures c.in_err-bare_start.ensures)

pub start-returns-then-not-branch : goal.start-returns-then-not-branch
start-returns-then-not-branch t c = bare_start_reads c.args.own.now _ _ c.args.levels c.args.subject (state_in c.args.self.now) (state_of c.opens_note.new.self) c.if-not-branch.true c.in_ok-opens_note.ensures c.in_ok-bare_start.ensures

pub start-returns-in_err-noted_start : goal.start-returns-in_err-noted_start
start-returns-in_err-noted_start t c =
    let p = err_from_is_err_and c.from_residual-in_err-noted_start.result c.from_residual-in_err-noted_start.ensures.1 in
    rw (p.1, p.2) (noted_start_fails c.args.own.now _ _ c.args.levels c.args.subject (state_in c.args.self.now) (state_of c.opens_note.new.self) c.if-not-branch.false c.in_ok-opens_note.ensures c.in_err-noted_start.ensures)

pub start-returns : goal.start-returns
start-returns t c = noted_start_reads c.args.own.now _ _ c.args.levels c.args.subject (state_in c.args.self.now) (state_of c.opens_note.new.self) c.if-not-branch.false c.in_ok-opens_note.ensures c.in_ok-noted_start.ensures

-- ---- the start of a clause in parentheses

pub started-returns-then-not-is_at_word : goal.started-returns-then-not-is_at_word
started-returns-then-not-is_at_word t c = started_plain c.args.own.now c.args.levels (expression_at c.args.own.now c.args.levels) (start_of c.args.start) (state_in c.args.self.now) (sym c.if-not-is_at_word.ensures)

pub started-returns-in_err-clause_of : goal.started-returns-in_err-clause_of
started-returns-in_err-clause_of t c =
    let p = err_from_is_err_and c.from_residual.result c.from_residual.ensures.1 in
    rw (p.1, p.2) (started_fails c.args.own.now c.args.levels (expression_at c.args.own.now c.args.levels) _ (start_of c.args.start) (state_in c.args.self.now) (sym c.if-not-is_at_word.ensures) c.in_err-clause_of.ensures)

pub started-returns : goal.started-returns
started-returns t c = started_reads c.args.own.now c.args.levels (expression_at c.args.own.now c.args.levels) _ (start_of c.args.start) (state_in c.args.self.now) _ (sym c.if-not-is_at_word.ensures) c.in_ok-clause_of.ensures

pub start_in_note-returns : goal.start_in_note-returns
start_in_note-returns t c =
    rw c.and.ensures (in_note_ends (constant_at c.args.levels) (inside_start_at c.args.own.now c.args.levels (expression_at c.args.own.now c.args.levels) (start_at c.args.own.now c.args.levels c.args.subject)) start_of _ c.note.result (state_in c.args.self.now) (state_in c.inside_start.new.self) (state_of c.note.new.self) c.in_ok-start.ensures c.note.ensures)

-- ---- a clause after its patterns

pub behind_patterns-returns-in_err-guard : goal.behind_patterns-returns-in_err-guard
behind_patterns-returns-in_err-guard t c =
    let p = err_from_is_err_and c.from_residual.result c.from_residual.ensures.1 in
    rw (p.1, p.2) (clause_fails c.args.own.now c.args.levels (expression_at c.args.own.now c.args.levels) _ (map pattern_of c.args.patterns.items) (state_in c.args.self.now) c.in_err-guard.ensures)

pub behind_patterns-returns : goal.behind_patterns-returns
behind_patterns-returns t c = clause_reads c.args.own.now c.args.levels (expression_at c.args.own.now c.args.levels) (map pattern_of c.args.patterns.items) (state_in c.args.self.now) _ _ _ c.in_ok-guard.ensures

-- ---- clauses one after the other

-- whether a keyword comes next, by another name of it
at_keyword : (w v : Keyword) (ps : List Piece) (b : Bool) → b ≡ is_some (after_word w ps) → w ≡ v → is_some (after_word v ps) ≡ b
at_keyword w v ps b e same = ap (λ (x : Keyword). is_some (after_word x ps)) (sym same) ∙ sym e

pub clauses-clauses-init : goal.clauses-clauses-init
clauses-clauses-init t c = clauses_begin c.args.own.now c.args.levels (expression_at c.args.own.now c.args.levels) (start_at c.args.own.now c.args.levels) _ c.args.subject (state_in c.args.self.now) c.args.front.items (sym (pieces_length c.args.self.now.parser.tokens.now))

pub clauses-returns-then-is_at_word : goal.clauses-returns-then-is_at_word
clauses-returns-then-is_at_word t c = rows_end (clause_at c.args.own.now c.args.levels (expression_at c.args.own.now c.args.levels) (start_at c.args.own.now c.args.levels) c.args.subject) (word_behind c.args.subject) c.clauses.clauses.items _ c.clauses._taken (state_in c.clauses.self) _ (omega arith) (at_keyword _ _ _ _ c.if-is_at_word.ensures c.word_behind.ensures) c.clauses.invariant

pub clauses-returns-in_err-clause : goal.clauses-returns-in_err-clause
clauses-returns-in_err-clause t c =
    let p = err_from_is_err_and c.from_residual.result c.from_residual.ensures.1 in
    rw (p.1, p.2) (rows_fail (clause_at c.args.own.now c.args.levels (expression_at c.args.own.now c.args.levels) (start_at c.args.own.now c.args.levels) c.args.subject) (word_behind c.args.subject) _ c.clauses.clauses.items _ c.clauses._taken (state_in c.clauses.self) _ (omega arith) (at_keyword _ _ _ _ c.if-is_at_word.ensures c.word_behind.ensures) c.in_err-clause.ensures c.clauses.invariant)

pub clauses-clauses-preserved : goal.clauses-clauses-preserved
clauses-clauses-preserved t c =
    rw c.in_ok-push.ensures.items (rows_on (clause_at c.args.own.now c.args.levels (expression_at c.args.own.now c.args.levels) (start_at c.args.own.now c.args.levels) c.args.subject) (word_behind c.args.subject) c.clauses.clauses.items _ c.clauses._taken (state_in c.clauses.self) (state_in c.clause.new.self) _ _ (omega arith) (at_keyword _ _ _ _ c.if-is_at_word.ensures c.word_behind.ensures) c.in_ok-clause.ensures c.clauses.invariant)

pub clauses-returns : goal.clauses-returns
clauses-returns t c = λ _. rows_out (clause_at c.args.own.now c.args.levels (expression_at c.args.own.now c.args.levels) (start_at c.args.own.now c.args.levels) c.args.subject) (word_behind c.args.subject) c.clauses.clauses.items _ c.clauses._taken (state_in c.clauses.self) _ (omega arith) c.clauses.invariant ∙ ap Err (sym c.fault.ensures)

-- ---- `case`

pub case-returns-in_err-value : goal.case-returns-in_err-value
case-returns-in_err-value t c =
    let p = err_from_is_err_and c.from_residual.result c.from_residual.ensures.1 in
    rw (p.1, p.2) (case_fails c.args.own.now c.args.levels (expression_at c.args.own.now c.args.levels) (start_at c.args.own.now c.args.levels) _ c.args.at (state_in c.args.self.now) c.in_err-value.ensures)

pub case-returns-in_err-clauses : goal.case-returns-in_err-clauses
case-returns-in_err-clauses t c =
    let p = err_from_is_err_and c.from_residual-in_err-clauses.result c.from_residual-in_err-clauses.ensures.1 in
    rw (p.1, p.2) (case_lacks c.args.own.now c.args.levels (expression_at c.args.own.now c.args.levels) (start_at c.args.own.now c.args.levels) _ c.args.at (state_in c.args.self.now) _ _ c.in_ok-value.ensures c.in_err-clauses.ensures)

pub case-returns : goal.case-returns
case-returns t c = rw c.in_ok-case_of.ensures (case_reads c.args.own.now c.args.levels (expression_at c.args.own.now c.args.levels) (start_at c.args.own.now c.args.levels) c.args.at (state_in c.args.self.now) _ _ _ _ c.in_ok-value.ensures c.in_ok-clauses.ensures)

-- ---- `let`

pub let_in-returns-in_err-variables : goal.let_in-returns-in_err-variables
let_in-returns-in_err-variables t c =
    let p = err_from_is_err_and c.from_residual.result c.from_residual.ensures.1 in
    rw (p.1, p.2) (let_fails c.args.own.now c.args.levels (expression_at c.args.own.now c.args.levels) _ (state_in c.args.self.now) c.in_err-variables.ensures)

pub let_in-returns-in_err-value : goal.let_in-returns-in_err-value
let_in-returns-in_err-value t c =
    let p = err_from_is_err_and c.from_residual-in_err-value.result c.from_residual-in_err-value.ensures.1 in
    rw (p.1, p.2) (let_lacks c.args.own.now c.args.levels (expression_at c.args.own.now c.args.levels) _ (state_in c.args.self.now) _ _ c.in_ok-variables.ensures c.in_err-value.ensures)

pub let_in-returns : goal.let_in-returns
let_in-returns t c = rw c.in_ok-let_of.ensures (let_reads c.args.own.now c.args.levels (expression_at c.args.own.now c.args.levels) (state_in c.args.self.now) _ _ _ _ _ c.in_ok-variables.ensures c.in_ok-value.ensures)

-- ---- `try`

pub try_in-returns-in_err-value : goal.try_in-returns-in_err-value
try_in-returns-in_err-value t c =
    let p = err_from_is_err_and c.from_residual.result c.from_residual.ensures.1 in
    rw (p.1, p.2) (try_fails c.args.own.now c.args.levels (expression_at c.args.own.now c.args.levels) _ c.args.at (state_in c.args.self.now) c.in_err-value.ensures)

pub try_in-returns-in_err-success : goal.try_in-returns-in_err-success
try_in-returns-in_err-success t c =
    let p = err_from_is_err_and c.from_residual-in_err-success.result c.from_residual-in_err-success.ensures.1 in
    rw (p.1, p.2) (try_lacks c.args.own.now c.args.levels (expression_at c.args.own.now c.args.levels) _ c.args.at (state_in c.args.self.now) _ _ c.in_ok-value.ensures c.in_err-success.ensures)

pub try_in-returns : goal.try_in-returns
try_in-returns t c = rw c.in_ok-try_of.ensures (try_reads c.args.own.now c.args.levels (expression_at c.args.own.now c.args.levels) c.args.at (state_in c.args.self.now) _ _ _ _ _ c.in_ok-value.ensures c.in_ok-success.ensures)

-- ---- `receive`

-- no clause is read before the clauses of a `receive`
no_front : (own : List ℕ) (n : ℕ) (front : List ClauseTree) (s : State) → front ≡ []
    → clauses_at own n (expression_at own n) (start_at own n) subjects.Message [] s ≡ clauses_at own n (expression_at own n) (start_at own n) subjects.Message front s
no_front own n front s none = ap (λ (cs : List ClauseTree). clauses_at own n (expression_at own n) (start_at own n) subjects.Message cs s) (sym none)

pub receive-returns-in_err-clauses : goal.receive-returns-in_err-clauses
receive-returns-in_err-clauses t c =
    let p = err_from_is_err_and c.from_residual.result c.from_residual.ensures.1 in
    rw (p.1, p.2) (receive_fails c.args.own.now c.args.levels (expression_at c.args.own.now c.args.levels) (start_at c.args.own.now c.args.levels) _ c.args.at (state_in c.args.self.now) (λ real. no_front _ _ _ (state_in c.args.self.now) c.new-front.ensures.items ∙ c.in_err-clauses.ensures real))

pub receive-returns-in_err-timeout : goal.receive-returns-in_err-timeout
receive-returns-in_err-timeout t c =
    let p = err_from_is_err_and c.from_residual-in_err-timeout.result c.from_residual-in_err-timeout.ensures.1 in
    rw (p.1, p.2) (receive_lacks c.args.own.now c.args.levels (expression_at c.args.own.now c.args.levels) (start_at c.args.own.now c.args.levels) _ c.args.at (state_in c.args.self.now) _ _ (no_front _ _ _ (state_in c.args.self.now) c.new-front.ensures.items ∙ c.in_ok-clauses.ensures) c.in_err-timeout.ensures)

pub receive-returns : goal.receive-returns
receive-returns t c = rw c.in_ok-receive_of.ensures (receive_reads c.args.own.now c.args.levels (expression_at c.args.own.now c.args.levels) (start_at c.args.own.now c.args.levels) c.args.at (state_in c.args.self.now) _ _ _ _ _ (no_front _ _ _ (state_in c.args.self.now) c.new-front.ensures.items ∙ c.in_ok-clauses.ensures) c.in_ok-timeout.ensures)
