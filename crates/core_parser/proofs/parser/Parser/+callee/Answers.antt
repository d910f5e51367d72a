use Rattle.std.proofs.lemmas.Result.{err_from_is_err_and}
use Rattle.core_grammar.specs.inside.DecoderForms.{bare_callee_at, callee_at}
use Rattle.core_parser.specs.inside.ParserView.{state_of}
use Rattle.core_grammar.specs.inside.Notes.{is_deep, bare_fails, bare_reads, inside_fails, note_fails, note_reads}
use Rattle.core_parser.proofs.parser.Parser.+callee.Goals as goal

pub returns-in_err-opens_note : goal.returns-in_err-opens_note
unfolding callee_at
returns-in_err-opens_note t c =
    let p = err_from_is_err_and c.from_residual.result c.from_residual.ensures.1 in
    rw (p.1, p.2) (λ real. is_deep (λ _. bare_callee_at c.args.at) _ c.args.levels (state_of c.args.self.now) (state_of c.opens_note.new.self) c.in_err-opens_note.ensures)

pub returns-in_err-bare_callee : goal.returns-in_err-bare_callee
unfolding callee_at
returns-in_err-bare_callee t c =
    let p = err_from_is_err_and c.from_residual-in_err-bare_callee.result c.from_residual-in_err-bare_callee.ensures.1 in
    rw (p.1, p.2) (bare_fails (λ _. bare_callee_at c.args.at) _ _ c.args.levels (state_of c.args.self.now) (state_of c.opens_note.new.self) c.if-not-branch.true c.in_ok-opens_note.ensures c.in_err-bare_callee.ensures)

pub returns-then-not-branch : goal.returns-then-not-branch
unfolding callee_at
returns-then-not-branch t c = bare_reads (λ _. bare_callee_at c.args.at) _ _ c.args.levels (state_of c.args.self.now) (state_of c.opens_note.new.self) c.if-not-branch.true c.in_ok-opens_note.ensures c.in_ok-bare_callee.ensures

pub returns-in_err-name : goal.returns-in_err-name
unfolding callee_at
returns-in_err-name t c =
    let p = err_from_is_err_and c.from_residual-in_err-name.result c.from_residual-in_err-name.ensures.1 in
    rw (p.1, p.2) (inside_fails (λ _. bare_callee_at c.args.at) _ _ c.args.levels (state_of c.args.self.now) (state_of c.opens_note.new.self) c.if-not-branch.false c.in_ok-opens_note.ensures c.in_err-name.ensures)

pub returns-in_err-note : goal.returns-in_err-note
unfolding callee_at
returns-in_err-note t c =
    let p = err_from_is_err_and c.from_residual-in_err-note.result c.from_residual-in_err-note.ensures.1 in
    rw (p.1, p.2) (note_fails (λ _. bare_callee_at c.args.at) _ _ c.args.levels (state_of c.args.self.now) (state_of c.opens_note.new.self) _ _ c.if-not-branch.false c.in_ok-opens_note.ensures c.in_ok-name.ensures c.in_err-note.ensures)

pub returns : goal.returns
unfolding callee_at
returns t c = note_reads (λ _. bare_callee_at c.args.at) _ c.args.levels (state_of c.args.self.now) (state_of c.opens_note.new.self) _ _ _ c.if-not-branch.false c.in_ok-opens_note.ensures c.in_ok-name.ensures c.in_ok-note.ensures
