-- What a finished pool results in is what the search results in.
use Rattle.std.proofs.Common.{◌≡◌, ◌≤◌, ◌<◌, ℕ, Bool, true, List, ◌++◌, length, refl, sym, ap, ◌∙◌, subst}
use Rattle.std.specs.List.Sorted.{IsPermutation}
use Rattle.world_model.specs.Names.{IsAmong}
use Rattle.world_model.specs.Requests.{Program}
use Rattle.world_model.specs.Shown.{Identity, is_error, is_refusal}
use Rattle.tree_coverage.specs.Findings.{Finding, Findings, findings_among}
use Rattle.tree_coverage.specs.Jobs.{Job, Node, root, schedules_of}
use Rattle.tree_coverage.specs.Shown.{RunShows}
use Rattle.tree_coverage.proofs.FindingLaws.{errors_exact, refusals_exact}
use Rattle.tree_coverage.proofs.JobLaws.{root_nodes}
use Rattle.tree_coverage.proofs.ShownLaws.{nodes_run}
use Rattle.tree_findings.specs.declared.extent.Extent.{Extent}
use Rattle.tree_findings.specs.declared.outcome.Cause.{Cause}
use Rattle.tree_findings.specs.declared.outcome.Cause.TheVariants.{NodeLimit, Memory}
use Rattle.tree_findings.specs.declared.outcome.Outcome.{Outcome}
use Rattle.tree_findings.specs.declared.outcome.Outcome.TheVariants.{Complete, Incomplete}
use Rattle.search_pool.specs.Calls.{ComesTo, IsOwn}
use Rattle.search_pool.specs.Explorations.{AreOne, OneHasTheSameNodes, OneShowsTheSame}
use Rattle.search_pool.specs.Seen.{Seen}
use Rattle.search_pool.specs.Sums.{VisitsSome}
use Rattle.search_pool.proofs.Jobs.{same_extent, same_program}
use Rattle.search_jobs.specs.Explorations.{ExplorationSeen, findings_of, nodes_of, program_in}
use Rattle.search_jobs.specs.Meanings.{AreOfJob, AreShown}
use Rattle.search_jobs.specs.Pieces.{extent_of}
use Rattle.tree_cuts.specs.Cuts.{IsUncut}
use Rattle.tree_cuts.proofs.CutLaws.{cuts_of_root, errors_ever, refusals_ever}
use Rattle.search_crew.specs.Outcomes.{AllAreShown, IsExact, IsListedOf, IsListedOfAll, IsOutcome, IsOutcomeOf, IsWhole, all_findings, all_nodes, whole_extent}

-- ---- a job, in an exploration that is one with the pool's

-- the findings of its nodes
found_as : (e f : ExplorationSeen) (name : Job) (found : Findings) → OneHasTheSameNodes → OneShowsTheSame → AreOne e f → found ≡ findings_of e (nodes_of e name) → found ≡ findings_of f (nodes_of f name)
found_as e f name found nodes_same shows_same one is = is ∙ ap (findings_of e) (nodes_same e f name one) ∙ shows_same e f (nodes_of f name) one

-- its nodes are as many, and the tree is cut at as many of them
counted_as : (e f : ExplorationSeen) (name : Job) (extent : Extent) → OneHasTheSameNodes → AreOne e f → extent ≡ extent_of e (nodes_of e name) → extent ≡ extent_of f (nodes_of f name)
counted_as e f name extent nodes_same one is = is ∙ ap (extent_of e) (nodes_same e f name one) ∙ same_extent e f (nodes_of f name) one

shown_by : (test other : Identity → Bool) (e f : ExplorationSeen) (name : Job) (found : List Finding) → test ≡ other → OneHasTheSameNodes → AreOne e f → AreShown test e name found → AreShown other f name found
shown_by test other e f name found same nodes_same one told = λ g there. (
  subst (λ (t : Identity → Bool). t g.identity ≡ true) same (told g there).0,
  subst (λ (nodes : List Node). IsAmong g.schedule (schedules_of nodes)) (nodes_same e f name one) (told g there).1,
  subst (λ (a : Program). RunShows a g.schedule g.identity) (same_program e f one) (told g there).2,
)

shown_as : (e f : ExplorationSeen) (name : Job) (found : Findings) → OneHasTheSameNodes → AreOne e f → AreOfJob e name found → AreOfJob f name found
shown_as e f name found nodes_same one told = (
  shown_by (is_error e.flags) (is_error f.flags) e f name found.errors (ap is_error one.flags) nodes_same one told.0,
  shown_by is_refusal is_refusal e f name found.refusals refl nodes_same one told.1,
)

visits_as : (e f : ExplorationSeen) (name : Job) (limit : ℕ) (why : Cause) (found : Findings) → OneHasTheSameNodes → OneShowsTheSame → AreOne e f → VisitsSome e name limit why found → VisitsSome f name limit why found
visits_as e f name limit why found nodes_same shows_same one some = record {
  visited = some.visited;
  left = some.left;
  made_up = subst (λ (nodes : List Node). IsPermutation nodes (some.visited ++ some.left)) (nodes_same e f name one) some.made_up;
  found = some.found ∙ shows_same e f some.visited one;
  beyond = some.beyond;
}

-- ---- what it results in

-- of the job that the pool began with, within its limit
comes_at : (s : Seen) (e : ExplorationSeen) (outcome : Outcome) → OneHasTheSameNodes → OneShowsTheSame → AreOne s.exploration e → ComesTo s outcome → IsOutcomeOf e s.start s.limit outcome
comes_at s e (Complete findings extent) nodes_same shows_same one comes = (
  found_as s.exploration e s.start findings nodes_same shows_same one comes.1,
  counted_as s.exploration e s.start extent nodes_same one comes.2,
  comes.3,
)
comes_at s e (Incomplete NodeLimit findings) nodes_same shows_same one comes = (
  subst (λ (n : ℕ). s.limit < n) (ap length (nodes_same s.exploration e s.start one)) (comes.3 refl),
  shown_as s.exploration e s.start findings nodes_same one comes.2,
  visits_as s.exploration e s.start s.limit NodeLimit findings nodes_same shows_same one comes.4,
)
comes_at s e (Incomplete Memory findings) nodes_same shows_same one comes = (
  shown_as s.exploration e s.start findings nodes_same one comes.2,
  visits_as s.exploration e s.start s.limit Memory findings nodes_same shows_same one comes.4,
)

pub comes_to : (s : Seen) (e : ExplorationSeen) (name : Job) (limit : ℕ) (outcome : Outcome) → OneHasTheSameNodes → OneShowsTheSame → IsOwn s e name limit → ComesTo s outcome → IsOutcomeOf e name limit outcome
comes_to s e name limit outcome nodes_same shows_same own comes =
    subst (λ (n : ℕ). IsOutcomeOf e name n outcome) own.2
    (subst (λ (start : Job). IsOutcomeOf e start s.limit outcome) own.1 (comes_at s e outcome nodes_same shows_same own.0 comes))

-- ---- the whole tree

-- the findings of the root's nodes are those of the tree
all_found : (e : ExplorationSeen) (found : Findings) → found ≡ findings_of e (nodes_of e root) → found ≡ all_findings e
all_found e found is = is ∙ ap (findings_among e.flags (program_in e)) (root_nodes (program_in e) e.depth)

-- its nodes are as many, and it is cut at as many of them
all_counted : (e : ExplorationSeen) (extent : Extent) → extent ≡ extent_of e (nodes_of e root) → extent ≡ whole_extent e
all_counted e extent is = is ∙ (λ i. record { nodes = all_nodes e; cut = cuts_of_root (program_in e) e.depth i })

-- a schedule of the root's nodes is not too long
is_short : (e : ExplorationSeen) (f : Finding) → IsAmong f.schedule (schedules_of (nodes_of e root)) → length f.schedule ≤ e.depth
is_short e f there = (nodes_run (program_in e) e.depth f.schedule (subst (IsAmong f.schedule) (root_nodes (program_in e) e.depth) there)).0

all_shown : (e : ExplorationSeen) (found : Findings) → AreOfJob e root found → AllAreShown e found
all_shown e found told = (
  λ g there. ((told.0 g there).0, is_short e g (told.0 g there).1, (told.0 g there).2),
  λ g there. ((told.1 g there).0, is_short e g (told.1 g there).1, (told.1 g there).2),
)

of_root : (e : ExplorationSeen) (limit : ℕ) (outcome : Outcome) → IsOutcomeOf e root limit outcome → IsOutcome e limit outcome
of_root e limit (Complete findings extent) comes = (all_found e findings comes.0, all_counted e extent comes.1, comes.2)
of_root e limit (Incomplete NodeLimit findings) comes = (comes.0, all_shown e findings comes.1, comes.2)
of_root e limit (Incomplete Memory findings) comes = (all_shown e findings comes.0, comes.1)

-- what a search of the job that is the whole tree results in
pub of_tree : (e : ExplorationSeen) (name : Job) (limit : ℕ) (outcome : Outcome) → IsOutcomeOf e name limit outcome → name ≡ root → IsOutcome e limit outcome
of_tree e name limit outcome comes is = of_root e limit outcome (subst (λ (job : Job). IsOutcomeOf e job limit outcome) is comes)

-- what all nodes show is all that schedules show
listed_all : (e : ExplorationSeen) (found : Findings) → found ≡ all_findings e → (i : Identity) → IsListedOf e found i
listed_all e found is i = subst (λ f. IsListedOf e f i) (sym is) (record { errors = errors_exact e.flags (program_in e) e.depth i; refusals = refusals_exact e.flags (program_in e) e.depth i })

pub is_exact : (e : ExplorationSeen) (limit : ℕ) (outcome : Outcome) → IsOutcome e limit outcome → IsExact e outcome
is_exact e limit (Complete findings extent) comes = listed_all e findings comes.0
is_exact e limit (Incomplete cause findings) comes = tt

-- and all that schedules of whatever length show, where the tree is cut at no node
listed_ever : (e : ExplorationSeen) (found : Findings) → found ≡ all_findings e → IsUncut (program_in e) e.depth → (i : Identity) → IsListedOfAll e found i
listed_ever e found is uncut i = subst (λ f. IsListedOfAll e f i) (sym is) (record { errors = errors_ever e.flags (program_in e) e.depth i uncut; refusals = refusals_ever e.flags (program_in e) e.depth i uncut })

pub is_whole : (e : ExplorationSeen) (limit : ℕ) (outcome : Outcome) → IsOutcome e limit outcome → IsWhole e outcome
is_whole e limit (Complete findings extent) comes = λ none. listed_ever e findings comes.0 (sym (ap (λ (x : Extent). x.cut) comes.1) ∙ none)
is_whole e limit (Incomplete cause findings) comes = tt
