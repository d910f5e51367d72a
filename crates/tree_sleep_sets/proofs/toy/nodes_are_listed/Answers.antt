use Rattle.std.proofs.Common.{[]}
use Rattle.tree_sleep_sets.specs.Search.{search}
use Rattle.tree_sleep_sets.specs.Toy.{stones, players}
use Rattle.tree_sleep_sets.proofs.Listing.{listed_nodes}
use Rattle.tree_sleep_sets.proofs.toy.nodes_are_listed.Goals as goal

pub returns-clause-listed : goal.returns-clause-listed
returns-clause-listed c = λ bag n w p. listed_nodes (stones bag) (search (stones bag) (players bag)) n tt w [] p
