use Rattle.world_model.proofs.Judged.{refused_leaves, refused_finds}
use Rattle.world_model.proofs.laws.tables.refused_calls_change_nothing.Goals as goal

pub returns-clause-leaves : goal.returns-clause-leaves
returns-clause-leaves c = refused_leaves

pub returns-clause-finds : goal.returns-clause-finds
returns-clause-finds c = refused_finds
