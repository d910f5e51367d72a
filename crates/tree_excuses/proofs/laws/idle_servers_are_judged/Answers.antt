use Rattle.tree_excuses.proofs.Idle.{rest_judged}
use Rattle.tree_excuses.proofs.laws.idle_servers_are_judged.Goals as goal

pub returns : goal.returns
returns c = rest_judged
