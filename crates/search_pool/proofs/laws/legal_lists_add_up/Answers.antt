use Rattle.search_pool.proofs.Sums.{legal_adds_up, legal_sums_up}
use Rattle.search_pool.proofs.laws.legal_lists_add_up.Goals as goal

pub returns-clause-nodes : goal.returns-clause-nodes
returns-clause-nodes c = legal_adds_up

pub returns-clause-sums : goal.returns-clause-sums
returns-clause-sums c = legal_sums_up
