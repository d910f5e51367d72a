use Rattle.std.proofs.Common.{rules}
use Rattle.term_reader.proofs.DottedTexts.{reads_more, no_dot, no_digits}
use Rattle.term_reader.proofs.numbers.read_numbers.Goals as goal

pub returns-then-dot-ne46 : goal.returns-then-dot-ne46
returns-then-dot-ne46 c =
    let r = rw c.in-Some.ensures.cases.0 at c.numbers.invariant in
    no_dot _ _ _ _ r (search rules)

pub returns-in_default-read_number : goal.returns-in_default-read_number
returns-in_default-read_number c =
    let r = rw (c.in-Some.ensures.cases.0, c.if-dot-ne46.false) at c.numbers.invariant in
    no_digits _ _ _ r (rw c.split_before_dot.ensures.front at c.in_default-read_number.ensures)

pub numbers-preserved : goal.numbers-preserved
numbers-preserved c =
    let r = rw (c.in-Some.ensures.cases.0, c.if-dot-ne46.false) at c.numbers.invariant in
    let n = rw c.split_before_dot.ensures.front at c.in-Some-read_number.ensures in
    rw (c.in_ok-push.ensures.items, c.split_before_dot.ensures.rest) (reads_more _ _ _ _ r n.0 n.1)
