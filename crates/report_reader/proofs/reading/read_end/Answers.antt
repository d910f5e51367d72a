use Rattle.std.proofs.Common.{length, arith, refl}
use Rattle.tree_excuses.specs.Excuses.{excuses_in}
use Rattle.report_reader.specs.inside.Reading.{counts_line, lists_in, result_line}
use Rattle.report_reader.proofs.Cuts.{joined}
use Rattle.report_reader.proofs.LastLines.{counts_bad, end_read, result_bad}
use Rattle.report_reader.proofs.reading.read_end.Goals as goal

pub returns-in_default : goal.returns-in_default
returns-in_default c =
    let l = lists_in c.args.listed.now in
    counts_bad (excuses_in c.args.excuses.now) c.args.reach l c.args.text.now (omega (arith, c.len-errors.ensures)) (omega (arith, c.len-refusals.ensures)) (omega (arith, c.len-normal.ensures)) _ refl
    (rw (c.len-errors.ensures, c.len-refusals.ensures, c.len-normal.ensures) at c.in_default.ensures)

pub returns-in_default-behind_result : goal.returns-in_default-behind_result
returns-in_default-behind_result c =
    let l = lists_in c.args.listed.now in
    result_bad (excuses_in c.args.excuses.now) c.args.reach l c.args.text.now (omega (arith, c.len-errors.ensures)) (omega (arith, c.len-refusals.ensures)) (omega (arith, c.len-normal.ensures)) _ _
    (rw (c.len-errors.ensures, c.len-refusals.ensures, c.len-normal.ensures) at c.in-Some.ensures) refl (rw c.len-errors.ensures at c.in_default-behind_result.ensures)

pub returns : goal.returns
returns c =
    let l = lists_in c.args.listed.now in
    end_read (excuses_in c.args.excuses.now) c.args.reach l c.args.text.now (omega (arith, c.len-errors.ensures)) (omega (arith, c.len-refusals.ensures)) (omega (arith, c.len-normal.ensures)) _
    (joined (counts_line (excuses_in c.args.excuses.now) (length l.errors) (length l.refusals) (length l.normal)) (result_line c.args.reach (length l.errors)) c.args.text.now _ _
    (rw (c.len-errors.ensures, c.len-refusals.ensures, c.len-normal.ensures) at c.in-Some.ensures) (rw c.len-errors.ensures at c.in-Some-behind_result.ensures))
