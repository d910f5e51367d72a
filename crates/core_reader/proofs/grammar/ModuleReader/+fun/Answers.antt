use Rattle.std.proofs.lemmas.Result.{err_from_is_err_and}
use Rattle.core_grammar.specs.inside.DecoderModules.{bare_fun_at, fun_at}
use Rattle.core_parser.specs.inside.ParserView.{state_of}
use Rattle.core_reader.specs.inside.ReaderView.{state_in}
use Rattle.core_grammar.specs.inside.Notes.{is_deep, bare_fails, bare_reads, inside_fails, note_fails, note_reads}
use Rattle.core_reader.proofs.grammar.ModuleReader.+fun.Goals as goal

pub returns-in_err-opens_note : goal.returns-in_err-opens_note
unfolding fun_at
returns-in_err-opens_note t c =
    let p = err_from_is_err_and c.from_residual.result c.from_residual.ensures.1 in
    rw (p.1, p.2) (λ real. is_deep (bare_fun_at c.args.own.now c.args.arity) _ c.args.levels (state_in c.args.self.now) (state_of c.opens_note.new.self) c.in_err-opens_note.ensures)

pub returns-in_err-bare_fun : goal.returns-in_err-bare_fun
unfolding fun_at
returns-in_err-bare_fun t c =
    let p = err_from_is_err_and c.from_residual-in_err-bare_fun.result c.from_residual-in_err-bare_fun.ensures.1 in
    rw (p.1, p.2) (bare_fails (bare_fun_at c.args.own.now c.args.arity) _ _ c.args.levels (state_in c.args.self.now) (state_of c.opens_note.new.self) c.if-not-branch.true c.in_ok-opens_note.ensures c.in_err-bare_fun.ensures)

pub returns-then-not-branch : goal.returns-then-not-branch
unfolding fun_at
returns-then-not-branch t c = bare_reads (bare_fun_at c.args.own.now c.args.arity) _ _ c.args.levels (state_in c.args.self.now) (state_of c.opens_note.new.self) c.if-not-branch.true c.in_ok-opens_note.ensures c.in_ok-bare_fun.ensures

pub returns-in_err-function : goal.returns-in_err-function
unfolding fun_at
returns-in_err-function t c =
    let p = err_from_is_err_and c.from_residual-in_err-function.result c.from_residual-in_err-function.ensures.1 in
    rw (p.1, p.2) (inside_fails (bare_fun_at c.args.own.now c.args.arity) _ _ c.args.levels (state_in c.args.self.now) (state_of c.opens_note.new.self) c.if-not-branch.false c.in_ok-opens_note.ensures c.in_err-function.ensures)

pub returns-in_err-note : goal.returns-in_err-note
unfolding fun_at
returns-in_err-note t c =
    let p = err_from_is_err_and c.from_residual-in_err-note.result c.from_residual-in_err-note.ensures.1 in
    rw (p.1, p.2) (note_fails (bare_fun_at c.args.own.now c.args.arity) _ _ c.args.levels (state_in c.args.self.now) (state_of c.opens_note.new.self) _ _ c.if-not-branch.false c.in_ok-opens_note.ensures c.in_ok-function.ensures c.in_err-note.ensures)

pub returns : goal.returns
unfolding fun_at
returns t c = note_reads (bare_fun_at c.args.own.now c.args.arity) _ c.args.levels (state_in c.args.self.now) (state_of c.opens_note.new.self) _ _ _ c.if-not-branch.false c.in_ok-opens_note.ensures c.in_ok-function.ensures c.in_ok-note.ensures
