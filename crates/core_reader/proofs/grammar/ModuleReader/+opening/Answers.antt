use Rattle.std.proofs.lemmas.Result.{err_from_is_err_and}
use Rattle.core_parser.specs.inside.ParserView.{state_of}
use Rattle.core_reader.specs.inside.ReaderView.{state_in, opening_of}
use Rattle.core_grammar.specs.inside.Openings.{opening_is_deep, name_fails, name_reads, opening_fails, opening_ends}
use Rattle.core_reader.proofs.grammar.ModuleReader.+opening.Goals as goal

pub opening-returns-in_err-opens_note : goal.opening-returns-in_err-opens_note
opening-returns-in_err-opens_note t c =
    let p = err_from_is_err_and c.from_residual.result c.from_residual.ensures.1 in
    rw (p.1, p.2) (λ real. opening_is_deep c.args.own.now _ c.args.levels (state_in c.args.self.now) (state_of c.opens_note.new.self) c.in_err-opens_note.ensures)

pub opening-returns-in_err-bare_name : goal.opening-returns-in_err-bare_name
opening-returns-in_err-bare_name t c =
    let p = err_from_is_err_and c.from_residual-in_err-bare_name.result c.from_residual-in_err-bare_name.ensures.1 in
    rw (p.1, p.2) (name_fails c.args.own.now _ _ c.args.levels (state_in c.args.self.now) (state_of c.opens_note.new.self) c.if-not-branch.true c.in_ok-opens_note.ensures c.in_err-bare_name.ensures)

pub opening-returns-then-not-branch : goal.opening-returns-then-not-branch
opening-returns-then-not-branch t c = name_reads c.args.own.now _ _ c.args.levels (state_in c.args.self.now) (state_of c.opens_note.new.self) _ c.if-not-branch.true c.in_ok-opens_note.ensures c.in_ok-bare_name.ensures

pub opening-returns-in_err-opening : goal.opening-returns-in_err-opening
opening-returns-in_err-opening t c =
    let p = err_from_is_err_and c.from_residual-in_err-opening.result c.from_residual-in_err-opening.ensures.1 in
    rw (p.1, p.2) (opening_fails c.args.own.now _ _ c.args.levels (state_in c.args.self.now) (state_of c.opens_note.new.self) c.if-not-branch.false c.in_ok-opens_note.ensures c.in_err-opening.ensures)

pub opening-returns : goal.opening-returns
opening-returns t c =
    rw c.and.ensures (opening_ends c.args.own.now opening_of _ c.note.result _ c.args.levels (state_in c.args.self.now) (state_of c.opens_note.new.self) (state_in c.inside_opening.new.self) (state_of c.note.new.self) c.if-not-branch.false c.in_ok-opens_note.ensures c.in_ok-opening.ensures c.note.ensures)
