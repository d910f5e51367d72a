use Rattle.std.proofs.Common.{◌∷◌, [], subst}
use Rattle.world_model.specs.Changes.{after, MachineStarted, AliveSet}
use Rattle.world_model.specs.Requests.{Spawned}
use Rattle.term_core.specs.Meaning.{Meaning}
use Rattle.std.specs.Prelude.{List}
use Rattle.world_records.specs.Records.{Agrees}
use Rattle.world_records.proofs.records.Records.begin_copy.Goals as goal

pub returns : goal.returns
returns c = λ m v told can.
    subst (λ (arguments : List Meaning). Agrees m c.begin.new.self (after (MachineStarted c.args.child.now (Spawned c.args.module_name.now c.args.function_name.now arguments) ∷ AliveSet c.args.child.now ∷ []) v))
    c.in_ok-arguments.ensures (c.in_ok-begin.ensures m v told)
