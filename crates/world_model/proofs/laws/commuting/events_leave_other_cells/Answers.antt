use Rattle.world_model.proofs.Histories.{leaves_others}
use Rattle.world_model.proofs.laws.commuting.events_leave_other_cells.Goals as goal

pub returns : goal.returns
returns c = leaves_others
