use Rattle.std.proofs.Common.{map}
use Rattle.world_steps.specs.inside.Enabling.{turns_of}
use Rattle.search_agenda.specs.inside.Planning.{PutsPlans}
use Rattle.search_agenda.proofs.planning.put_turns.Given as goal

-- the plans of the turns so far are put after the others
abbrev pub invariant-loop-pid : goal.invariant-loop-pid
invariant-loop-pid l = PutsPlans l.records l.above (turns_of (map (λ x. x.now) l.yielded)) l.fn.plans.items l.plans.items
