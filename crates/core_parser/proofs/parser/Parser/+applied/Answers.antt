use Rattle.std.proofs.lemmas.Result.{err_from_is_err_and}
use Rattle.core_grammar.specs.inside.DecoderForms.{bare_applied_at, applied_at}
use Rattle.core_parser.specs.inside.ParserView.{state_of}
use Rattle.core_grammar.specs.inside.Notes.{is_deep, bare_fails, bare_reads, inside_fails, note_fails, note_reads}
use Rattle.core_parser.proofs.parser.Parser.+applied.Goals as goal

pub returns-in_err-opens_note : goal.returns-in_err-opens_note
unfolding applied_at
returns-in_err-opens_note t c =
    let p = err_from_is_err_and c.from_residual.result c.from_residual.ensures.1 in
    rw (p.1, p.2) (λ real. is_deep (λ _. bare_applied_at) _ c.args.levels (state_of c.args.self.now) (state_of c.opens_note.new.self) c.in_err-opens_note.ensures)

pub returns-in_err-bare_applied : goal.returns-in_err-bare_applied
unfolding applied_at
returns-in_err-bare_applied t c =
    let p = err_from_is_err_and c.from_residual-in_err-bare_applied.result c.from_residual-in_err-bare_applied.ensures.1 in
    rw (p.1, p.2) (bare_fails (λ _. bare_applied_at) _ _ c.args.levels (state_of c.args.self.now) (state_of c.opens_note.new.self) c.if-not-branch.true c.in_ok-opens_note.ensures c.in_err-bare_applied.ensures)

pub returns-then-not-branch : goal.returns-then-not-branch
unfolding applied_at
returns-then-not-branch t c = bare_reads (λ _. bare_applied_at) _ _ c.args.levels (state_of c.args.self.now) (state_of c.opens_note.new.self) c.if-not-branch.true c.in_ok-opens_note.ensures c.in_ok-bare_applied.ensures

pub returns-in_err-named : goal.returns-in_err-named
unfolding applied_at
returns-in_err-named t c =
    let p = err_from_is_err_and c.from_residual-in_err-named.result c.from_residual-in_err-named.ensures.1 in
    rw (p.1, p.2) (inside_fails (λ _. bare_applied_at) _ _ c.args.levels (state_of c.args.self.now) (state_of c.opens_note.new.self) c.if-not-branch.false c.in_ok-opens_note.ensures c.in_err-named.ensures)

pub returns-in_err-note : goal.returns-in_err-note
unfolding applied_at
returns-in_err-note t c =
    let p = err_from_is_err_and c.from_residual-in_err-note.result c.from_residual-in_err-note.ensures.1 in
    rw (p.1, p.2) (note_fails (λ _. bare_applied_at) _ _ c.args.levels (state_of c.args.self.now) (state_of c.opens_note.new.self) _ _ c.if-not-branch.false c.in_ok-opens_note.ensures c.in_ok-named.ensures c.in_err-note.ensures)

pub returns : goal.returns
unfolding applied_at
returns t c = note_reads (λ _. bare_applied_at) _ c.args.levels (state_of c.args.self.now) (state_of c.opens_note.new.self) _ _ _ c.if-not-branch.false c.in_ok-opens_note.ensures c.in_ok-named.ensures c.in_ok-note.ensures
