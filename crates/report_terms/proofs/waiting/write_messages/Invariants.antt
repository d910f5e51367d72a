use Rattle.std.proofs.Common.{◌≡◌, [], ◌++◌, false, drop}
use Rattle.std.specs.List.{flat_map}
use Rattle.term_core.specs.inside.Writing.{Owes}
use Rattle.report_terms.specs.Strings.{strings_of_terms, term_after_comma}
use Rattle.report_terms.proofs.waiting.write_messages.Given as goal

-- the sink is sound, and the messages that are left are still to be written
abbrev pub invariant-loop-place : goal.invariant-loop-place
invariant-loop-place g l =
    (g.W.Sink.has_failed l.sink ≡ false) × Owes (g.W.Sink.contents l.fn.sink) (g.W.Sink.contents l.sink) (flat_map term_after_comma (drop l.place l.mailbox) ++ []) (strings_of_terms l.mailbox)
