-- The listed nodes: they run, cover all schedules, and show what these show.
use Rattle.std.proofs.Common.{◌↔◌, ℕ, List, []}
use Rattle.term_core.specs.declared.step.Step.{Step}
use Rattle.world_model.specs.Names.{IsAmong}
use Rattle.world_model.specs.Requests.{Program}
use Rattle.world_model.specs.Shown.{Identity}
use Rattle.tree_sleep_sets.specs.Search.{search}
use Rattle.tree_sleep_sets.specs.Schedules as theory
use Rattle.tree_sleep_sets.specs.Shown as signs_of
use Rattle.tree_sleep_sets.specs.Tree.{IsPath}
use Rattle.tree_sleep_sets.proofs.Cover.{Found}
use Rattle.tree_sleep_sets.proofs.Listing.{listed_nodes}
use Rattle.tree_sleep_sets.proofs.Searching.{searched}
use Rattle.tree_sleep_sets.proofs.Showing.{covers_signs, root_found, path_runs, path_short}
use Rattle.tree_coverage.specs.Explored.{explored, choice, signs}
use Rattle.tree_coverage.specs.Shown.{IsShown, IsShownByOne, NodesShowTheSame}
use Rattle.tree_coverage.specs.Trees.{nodes, NodesRun, NodesAreInOrder, NodesCover}
use Rattle.tree_coverage.proofs.InOrder.{paths_in_order}
use Rattle.tree_coverage.proofs.Instance.{laws, choice_laws, sign_laws}
use Rattle.tree_coverage.proofs.Lists.{to_theory, from_theory}
use Rattle.tree_coverage.proofs.Runs.{Led, led, run_of, shows_to, shows_from, equivalent_to}

-- ---- the nodes of the theory are the listed ones

abbrev IsNode : Program → ℕ → List Step → Type 0
IsNode a n p = IsPath (explored a) (search (explored a) (choice a)) n tt [] [] p

listed_node : (a : Program) (n : ℕ) (p : List Step) → IsAmong p (nodes a n) → IsNode a n p
listed_node a n p there = (listed_nodes (explored a) (search (explored a) (choice a)) n tt [] [] p).0 (to_theory (nodes a n) p there)

node_listed : (a : Program) (n : ℕ) (p : List Step) → IsNode a n p → IsAmong p (nodes a n)
node_listed a n p is = from_theory (nodes a n) p ((listed_nodes (explored a) (search (explored a) (choice a)) n tt [] [] p).1 is)

pub nodes_run : NodesRun
nodes_run a n s there =
    let runs : theory.Runs (explored a) [] s = path_runs (explored a) (search (explored a) (choice a)) n tt [] [] s (listed_node a n s there) in
    (path_short (explored a) (search (explored a) (choice a)) n tt [] [] s (listed_node a n s there), theory.final (explored a) [] s runs, run_of a [] s runs)

pub nodes_in_order : NodesAreInOrder
nodes_in_order a n = paths_in_order a n [] []

pub nodes_cover : NodesCover
nodes_cover a n s h short now =
    let l : Led a [] s h = led a [] s h now in
    let f : Found (explored a) (search (explored a) (choice a)) (laws a) n tt [] [] s = root_found (explored a) (search (explored a) (choice a)) (laws a) n tt [] tt (searched (explored a) (choice a) (laws a) (choice_laws a) n tt [] tt _) s short l.runs in
    (f.path, node_listed a n f.path f.is_path, equivalent_to a [] s f.path f.is_equivalent)

-- ---- what they show

by_nodes : (a : Program) (n : ℕ) (i : Identity) → signs_of.IsShown (explored a) (signs a) n [] i ↔ signs_of.IsShownByNode (explored a) (signs a) (search (explored a) (choice a)) n tt [] i
by_nodes a n i =
    covers_signs (explored a) (search (explored a) (choice a)) (laws a) (signs a) (sign_laws a) n tt [] tt (searched (explored a) (choice a) (laws a) (choice_laws a) n tt [] tt _) i

to_listed : (a : Program) (n : ℕ) (i : Identity) → signs_of.IsShownByNode (explored a) (signs a) (search (explored a) (choice a)) n tt [] i → IsShownByOne a (nodes a n) i
to_listed a n i (p, path, shows) = (p, node_listed a n p path, shows_to a p i shows)

from_listed : (a : Program) (n : ℕ) (i : Identity) → IsShownByOne a (nodes a n) i → signs_of.IsShownByNode (explored a) (signs a) (search (explored a) (choice a)) n tt [] i
from_listed a n i (p, there, shows) = (p, listed_node a n p there, shows_from a p i shows)

to_theirs : (a : Program) (n : ℕ) (i : Identity) → IsShown a n i → signs_of.IsShown (explored a) (signs a) n [] i
to_theirs a n i (s, short, shows) = (s, short, shows_from a s i shows)

from_theirs : (a : Program) (n : ℕ) (i : Identity) → signs_of.IsShown (explored a) (signs a) n [] i → IsShown a n i
from_theirs a n i (s, short, shows) = (s, short, shows_to a s i shows)

pub nodes_show : NodesShowTheSame
nodes_show a n i =
    (λ s. to_listed a n i ((by_nodes a n i).0 (to_theirs a n i s)), λ s. from_theirs a n i ((by_nodes a n i).1 (from_listed a n i s)))
