use Rattle.std.proofs.Common.{◌≡◌, [], ◌++◌, false, drop}
use Rattle.std.specs.List.{flat_map}
use Rattle.term_core.specs.Text.{behind_blank, text_of_schedule}
use Rattle.term_core.specs.inside.Writing.{Owes}
use Rattle.term_core.proofs.text.write_schedule.Given as goal

-- the sink is sound, and the steps that are left are still to be written
abbrev pub invariant-loop-step : goal.invariant-loop-step
invariant-loop-step g l =
    (g.S.Sink.has_failed l.sink ≡ false) × Owes (g.S.Sink.contents l.fn.sink) (g.S.Sink.contents l.sink) (flat_map behind_blank (drop l.step-index l.others) ++ []) (text_of_schedule l.fn.steps)
