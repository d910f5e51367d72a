use Rattle.std.proofs.Common.{sym, ◌∙◌}
use Rattle.term_core.proofs.StepTexts.{no_first, no_second, reads_delivery}
use Rattle.term_core.proofs.schedule.words.read_step.Goals as goal

pub returns-in_default : goal.returns-in_default
returns-in_default c =
    let none = rw (c.in_default.is, c.split_before.ensures.front) at c.in_ok-from.ensures in
    no_first c.args.word.now none

pub returns-in_default-2 : goal.returns-in_default-2
returns-in_default-2 c =
    let none = rw c.in_default-2.is at c.in_ok-to.ensures in
    no_second c.args.word.now _ _ (sym c.split_before.ensures.rest ∙ c.in-Some-split_first.ensures.cases.0) none

pub returns : goal.returns
returns c =
    let from = rw (c.in-Some.is, c.split_before.ensures.front) at c.in_ok-from.ensures in
    let to = rw c.in-Some-2.is at c.in_ok-to.ensures in
    reads_delivery c.args.word.now _ _ _ _ from.1 (sym c.split_before.ensures.rest ∙ c.in-Some-split_first.ensures.cases.0) to.1 from.0 to.0
