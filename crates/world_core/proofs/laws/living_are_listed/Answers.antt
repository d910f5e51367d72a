use Rattle.world_core.proofs.Living.{alive_listed, listed_alive, living_sorted}
use Rattle.world_core.proofs.laws.living_are_listed.Goals as goal

pub returns-clause-lives : goal.returns-clause-lives
returns-clause-lives c = λ h p. (listed_alive h p, alive_listed h p)

pub returns-clause-in_order : goal.returns-clause-in_order
returns-clause-in_order c = living_sorted
