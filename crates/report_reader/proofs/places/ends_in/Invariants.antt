use Rattle.std.proofs.Common.{◌≡◌, ◌+◌, ◌≤◌, drop}
use Rattle.report_reader.specs.Lines.{ends_in}
use Rattle.report_reader.proofs.places.ends_in.Given as goal

-- those so far are counted
abbrev pub invariant-loop-byte : goal.invariant-loop-byte
invariant-loop-byte l = (ends_in l.text ≡ l.count + ends_in (drop l.byte-index l.text)) × (l.count ≤ l.byte-index)
