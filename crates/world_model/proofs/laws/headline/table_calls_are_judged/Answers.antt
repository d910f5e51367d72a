use Rattle.world_model.proofs.Headlined.{are_judged}
use Rattle.world_model.proofs.laws.headline.table_calls_are_judged.Goals as goal

pub returns : goal.returns
returns c = are_judged c.only_calls_that_are_read_are_asked.ensures
