use Rattle.world_core.proofs.Turns.{has_turn, has_no_turn}
use Rattle.world_core.proofs.laws.living_processes_have_turns.Goals as goal

pub returns-clause-turn : goal.returns-clause-turn
returns-clause-turn c = has_turn

pub returns-clause-waits : goal.returns-clause-waits
returns-clause-waits c = has_no_turn
