use Rattle.term_reader.proofs.QuotedTexts.{reads_byte, no_byte, reads_quote}
use Rattle.term_reader.proofs.atoms.read_quoted.Goals as goal

pub returns-then-mark-eq39 : goal.returns-then-mark-eq39
returns-then-mark-eq39 c = reads_quote _ _ _ (rw (c.in-Some.ensures.cases.0, c.if-mark-eq39.true) at c.bytes.invariant)

pub returns-in_default-read_byte : goal.returns-in_default-read_byte
returns-in_default-read_byte c =
    let r = rw c.in-Some.ensures.cases.0 at c.bytes.invariant in
    no_byte _ _ _ _ c.if-mark-eq39.false r c.in_default-read_byte.ensures

pub bytes-preserved : goal.bytes-preserved
bytes-preserved c =
    let r = rw c.in-Some.ensures.cases.0 at c.bytes.invariant in
    rw c.in_ok-push.ensures.items (reads_byte _ _ _ _ _ _ c.if-mark-eq39.false r c.in-Some-read_byte.ensures)
