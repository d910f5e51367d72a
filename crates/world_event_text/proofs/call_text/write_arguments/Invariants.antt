use Rattle.std.proofs.Common.{◌≡◌, [], ◌++◌, false, drop}
use Rattle.std.specs.List.{flat_map}
use Rattle.term_core.specs.Term.{meaning_of}
use Rattle.term_core.specs.inside.Writing.{Owes}
use Rattle.world_event_text.specs.CallText.{behind_comma, text_of_arguments}
use Rattle.world_event_text.proofs.call_text.write_arguments.Given as goal

-- the sink is sound, and the arguments that are left are still to be written
abbrev pub invariant-loop-argument : goal.invariant-loop-argument
invariant-loop-argument g l =
    (g.W.Sink.has_failed l.sink ≡ false) × Owes (g.W.Sink.contents l.fn.sink) (g.W.Sink.contents l.sink) (flat_map (λ t. behind_comma (meaning_of t)) (drop l.argument-index l.others) ++ []) (text_of_arguments l.fn.arguments)
