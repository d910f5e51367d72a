use Rattle.search_agenda.proofs.Settling.{plan_stays}
use Rattle.search_agenda.proofs.laws.plans_settle.Goals as goal

pub returns : goal.returns
returns c = plan_stays
