use Rattle.std.proofs.lemmas.Result.{err_from_is_err_and}
use Rattle.core_grammar.specs.inside.DecoderModules.{bare_module_at}
use Rattle.core_parser.specs.inside.ParserView.{state_of}
use Rattle.core_reader.specs.inside.ReaderView.{state_in}
use Rattle.core_grammar.specs.inside.Notes.{is_deep, bare_fails, bare_reads, inside_fails, note_fails, note_reads}
use Rattle.core_reader.proofs.grammar.ModuleReader.+noted_module.Goals as goal

pub returns-in_err-opens_note : goal.returns-in_err-opens_note
returns-in_err-opens_note t c =
    let p = err_from_is_err_and c.from_residual.result c.from_residual.ensures.1 in
    rw (p.1, p.2) (λ real. is_deep bare_module_at _ c.args.levels (state_in c.args.self.now) (state_of c.opens_note.new.self) c.in_err-opens_note.ensures)

pub returns-in_err-bare_module : goal.returns-in_err-bare_module
returns-in_err-bare_module t c =
    let p = err_from_is_err_and c.from_residual-in_err-bare_module.result c.from_residual-in_err-bare_module.ensures.1 in
    rw (p.1, p.2) (bare_fails bare_module_at _ _ c.args.levels (state_in c.args.self.now) (state_of c.opens_note.new.self) c.if-not-branch.true c.in_ok-opens_note.ensures c.in_err-bare_module.ensures)

pub returns-then-not-branch : goal.returns-then-not-branch
returns-then-not-branch t c = bare_reads bare_module_at _ _ c.args.levels (state_in c.args.self.now) (state_of c.opens_note.new.self) c.if-not-branch.true c.in_ok-opens_note.ensures c.in_ok-bare_module.ensures

pub returns-in_err-draft : goal.returns-in_err-draft
returns-in_err-draft t c =
    let p = err_from_is_err_and c.from_residual-in_err-draft.result c.from_residual-in_err-draft.ensures.1 in
    rw (p.1, p.2) (inside_fails bare_module_at _ _ c.args.levels (state_in c.args.self.now) (state_of c.opens_note.new.self) c.if-not-branch.false c.in_ok-opens_note.ensures c.in_err-draft.ensures)

pub returns-in_err-note : goal.returns-in_err-note
returns-in_err-note t c =
    let p = err_from_is_err_and c.from_residual-in_err-note.result c.from_residual-in_err-note.ensures.1 in
    rw (p.1, p.2) (note_fails bare_module_at _ _ c.args.levels (state_in c.args.self.now) (state_of c.opens_note.new.self) _ _ c.if-not-branch.false c.in_ok-opens_note.ensures c.in_ok-draft.ensures c.in_err-note.ensures)

pub returns : goal.returns
returns t c = note_reads bare_module_at _ c.args.levels (state_in c.args.self.now) (state_of c.opens_note.new.self) _ _ _ c.if-not-branch.false c.in_ok-opens_note.ensures c.in_ok-draft.ensures c.in_ok-note.ensures
