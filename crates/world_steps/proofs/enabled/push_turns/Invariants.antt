use Rattle.std.proofs.Common.{map}
use Rattle.world_steps.specs.inside.Enabling.{PutsEnabled, turns_of}
use Rattle.world_steps.proofs.enabled.push_turns.Given as goal

-- the turns so far are put after the others, those that are enabled
abbrev pub invariant-loop-pid : goal.invariant-loop-pid
invariant-loop-pid l = PutsEnabled l.records (turns_of (map (λ x. x.now) l.yielded)) l.fn.steps.items l.steps.items
