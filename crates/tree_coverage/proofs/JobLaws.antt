-- The nodes of the root are those of the tree, and jobs are split into visited nodes and open jobs.
use Rattle.std.proofs.Common.{◌≡◌, ℕ, zero, suc, ◌-◌, List, [], ◌∷◌, ◌++◌, map, length, Option, Some, None, option_map, refl, sym, ap, ◌∙◌, arith, append_assoc, append-nil}
use Rattle.term_core.specs.declared.step.Step.{Step}
use Rattle.world_model.specs.Events.{Event, History}
use Rattle.world_model.specs.Requests.{Program}
use Rattle.world_model.specs.Run.{next_event, extended, run_from, run}
use Rattle.tree_sleep_sets.specs.Nodes.{paths_after, paths_along, paths}
use Rattle.tree_sleep_sets.specs.Search.{search}
use Rattle.tree_sleep_sets.specs.Tree.{asleep}
use Rattle.tree_coverage.specs.Explored.{explored, choice, recorded}
use Rattle.tree_coverage.specs.Jobs.{Job, asleep_below, awake_steps, nodes_after, nodes_along, node_at, nodes_from, nodes_behind, steps_left, nodes_of, schedules_of, RootHasAllNodes, own_node, own_node_of, jobs_along, jobs_behind, jobs_below, visited, still_open, nodes_of_all, JobsHaveTheirNodes}
use Rattle.tree_coverage.proofs.InOrder.{with_tt}

-- ---- lists

pub map_join : {X Y : Type 0} (f : X → Y) (xs ys : List X) → map f (xs ++ ys) ≡ map f xs ++ map f ys
map_join f [] ys = refl
map_join f (x ∷ xs) ys = ap (λ zs. f x ∷ zs) (map_join f xs ys)

map_twice : {X Y Z : Type 0} (f : Y → Z) (g : X → Y) (xs : List X) → map f (map g xs) ≡ map (λ x. f (g x)) xs
map_twice f g [] = refl
map_twice f g (x ∷ xs) = ap (λ zs. f (g x) ∷ zs) (map_twice f g xs)

map_each : {X Y : Type 0} (f g : X → Y) → ((x : X) → f x ≡ g x) → (xs : List X) → map f xs ≡ map g xs
map_each f g same [] = refl
map_each f g same (x ∷ xs) = λ i. same x i ∷ map_each f g same xs i

pub map_itself : {X : Type 0} (xs : List X) → map (λ x. x) xs ≡ xs
map_itself [] = refl
map_itself (x ∷ xs) = ap (λ zs. x ∷ zs) (map_itself xs)

-- ---- the nodes of the theory

module _ (a : Program) where
  -- its paths, after a schedule
  abbrev behind : List Step → List (List Step) → List (List Step)
  behind schedule ps = map (λ p. schedule ++ p) ps

  behind_step : (schedule : List Step) (s : Step) (ps : List (List Step)) → behind (schedule ++ s ∷ []) ps ≡ behind schedule (map (λ p. s ∷ p) ps)
  behind_step schedule s ps =
      map_each (λ p. (schedule ++ s ∷ []) ++ p) (λ p. schedule ++ s ∷ p) (λ p. append_assoc schedule (s ∷ []) p) ps ∙ sym (map_twice (λ p. schedule ++ p) (λ p. s ∷ p) ps)

  abbrev AreSame : ℕ → Type 0
  AreSame n = (h : History) (schedule slept : List Step) → schedules_of (nodes_from a n h schedule slept) ≡ behind schedule (paths (explored a) (search (explored a) (choice a)) n tt h slept)

  same_after : (n : ℕ) → AreSame n → (h : History) (schedule slept : List Step) (s : Step) (o : Option Event) → schedules_of (nodes_after (λ g. nodes_from a n g (schedule ++ s ∷ []) slept) h o) ≡ behind schedule (paths_after (explored a) (search (explored a) (choice a)) s (λ g. paths (explored a) (search (explored a) (choice a)) n tt g slept) (option_map (recorded h) o))
  same_after n same h schedule slept s None = refl
  same_after n same h schedule slept s (Some e) = same (e ∷ h) (schedule ++ s ∷ []) slept ∙ behind_step schedule s _

  slept_longer : (slept : List Step) (before : List (Step × Unit {0})) (s : Step) → (slept ++ map (λ c. c.0) before) ++ s ∷ [] ≡ slept ++ map (λ c. c.0) (before ++ (s, tt) ∷ [])
  slept_longer slept before s =
      append_assoc slept (map (λ c. c.0) before) (s ∷ []) ∙ ap (λ zs. slept ++ zs) (sym (map_join (λ c. c.0) before ((s, tt) ∷ [])))

  same_along : (n : ℕ) → AreSame n → (h : History) (schedule slept : List Step) (before : List (Step × Unit {0})) (steps : List Step) → schedules_of (nodes_along (nodes_from a n) a h schedule (slept ++ map (λ c. c.0) before) steps) ≡ behind schedule (paths_along (explored a) (search (explored a) (choice a)) (paths (explored a) (search (explored a) (choice a)) n) h slept before (with_tt steps))
  same_along n same h schedule slept before [] = refl
  same_along n same h schedule slept before (s ∷ steps) =
      let z : List Step = asleep (explored a) (search (explored a) (choice a)) h slept before s in
      map_join (λ v. v.schedule) (nodes_after (λ g. nodes_from a n g (schedule ++ s ∷ []) z) h (next_event a h s)) _
      ∙ (λ i. same_after n same h schedule z s (next_event a h s) i ++ schedules_of (nodes_along (nodes_from a n) a h schedule (slept_longer slept before s i) steps))
      ∙ ap (λ ps. behind schedule (paths_after (explored a) (search (explored a) (choice a)) s (λ g. paths (explored a) (search (explored a) (choice a)) n tt g z) ((explored a).next h s)) ++ ps) (same_along n same h schedule slept (before ++ (s, tt) ∷ []) steps)
      ∙ sym (map_join (λ p. schedule ++ p) (paths_after (explored a) (search (explored a) (choice a)) s (λ g. paths (explored a) (search (explored a) (choice a)) n tt g z) ((explored a).next h s)) _)

  pub same_from : (n : ℕ) → AreSame n
  same_from zero h schedule slept = ap (λ s. s ∷ []) (sym (append-nil schedule))
  same_from (suc n) h schedule slept =
      (λ i. sym (append-nil schedule) i ∷ schedules_of (nodes_along (nodes_from a n) a h schedule (sym (append-nil slept) i) (awake_steps a h slept)))
      ∙ ap (λ ps. (schedule ++ []) ∷ ps) (same_along n (same_from n) h schedule slept [] (awake_steps a h slept))

pub none_left : (n : ℕ) → n - 0 ≡ n
none_left n = omega arith

pub root_nodes : RootHasAllNodes
root_nodes a n = ap (λ m. schedules_of (nodes_from a m [] [] [])) (none_left n) ∙ same_from a n [] [] [] ∙ map_itself _

-- ---- schedules with one more step

none_runs : (a : Program) (steps : List Step) → run_from a None steps ≡ None
none_runs a [] = refl
none_runs a (s ∷ steps) = refl

run_nothing : (a : Program) (o : Option History) → run_from a o [] ≡ o
run_nothing a None = refl
run_nothing a (Some h) = refl

run_on : (a : Program) (o : Option History) (first second : List Step) → run_from a o (first ++ second) ≡ run_from a (run_from a o first) second
run_on a None first second = none_runs a (first ++ second) ∙ sym (none_runs a second) ∙ ap (λ o. run_from a o second) (sym (none_runs a first))
run_on a (Some h) [] second = refl
run_on a (Some h) (s ∷ first) second = run_on a (extended h (next_event a h s)) first second

-- a schedule that runs, and one step more
pub one_more : (a : Program) (schedule : List Step) (h : History) (s : Step) → run a schedule ≡ Some h → run a (schedule ++ s ∷ []) ≡ extended h (next_event a h s)
one_more a schedule h s now = run_on a (Some []) schedule (s ∷ []) ∙ ap (λ o. run_from a o (s ∷ [])) now ∙ run_nothing a (extended h (next_event a h s))

longer : {X : Type 0} (xs : List X) (x : X) → length (xs ++ x ∷ []) ≡ suc (length xs)
longer [] x = refl
longer (y ∷ xs) x = ap suc (longer xs x)

fewer : (n k m : ℕ) → n - k ≡ suc m → n - suc k ≡ m
fewer n k m e = omega (arith, e)

-- ---- a job is its node and the jobs below

module _ (a : Program) (n : ℕ) where
  abbrev child : List Step → Step → List Step → Job
  child schedule s slept = record { prefix = schedule ++ s ∷ []; slept = slept }

  child_behind : (m : ℕ) (h : History) (schedule : List Step) (s : Step) (slept : List Step) (o : Option Event) → nodes_after (λ g. nodes_from a m g (schedule ++ s ∷ []) slept) h o ≡ nodes_behind a m (child schedule s slept) (extended h o)
  child_behind m h schedule s slept None = refl
  child_behind m h schedule s slept (Some e) = refl

  child_nodes : (m : ℕ) (h : History) (schedule : List Step) → run a schedule ≡ Some h → n - length schedule ≡ suc m → (s : Step) (slept : List Step) → nodes_after (λ g. nodes_from a m g (schedule ++ s ∷ []) slept) h (next_event a h s) ≡ nodes_of a n (child schedule s slept)
  child_nodes m h schedule now left s slept =
      let fits : n - length (schedule ++ s ∷ []) ≡ m = ap (λ k. n - k) (longer schedule s) ∙ fewer n (length schedule) m left in
      child_behind m h schedule s slept (next_event a h s) ∙ (λ i. nodes_behind a (sym fits i) (child schedule s slept) (sym (one_more a schedule h s now) i))

  along_jobs : (m : ℕ) (h : History) (schedule : List Step) → run a schedule ≡ Some h → n - length schedule ≡ suc m → (slept steps : List Step) → nodes_along (nodes_from a m) a h schedule slept steps ≡ nodes_of_all a n (jobs_along a h schedule slept steps)
  along_jobs m h schedule now left slept [] = refl
  along_jobs m h schedule now left slept (s ∷ steps) =
      λ i. child_nodes m h schedule now left s (asleep_below a h slept s) i ++ along_jobs m h schedule now left (slept ++ s ∷ []) steps i

  job_nodes : (job : Job) (m : ℕ) (o : Option History) → steps_left n job ≡ m → run a job.prefix ≡ o → nodes_behind a m job o ≡ own_node a m job o ++ nodes_of_all a n (jobs_behind a m job o)
  job_nodes job m None left now = refl
  job_nodes job zero (Some h) left now = refl
  job_nodes job (suc m) (Some h) left now =
      ap (λ vs. node_at a (suc m) h job.prefix job.slept ∷ vs) (along_jobs m h job.prefix now left job.slept (awake_steps a h job.slept))

  pub split_job : (job : Job) → nodes_of a n job ≡ own_node_of a n job ++ nodes_of_all a n (jobs_below a n job)
  split_job job = job_nodes job (steps_left n job) (run a job.prefix) refl refl

  -- ---- as many times as the budget says

  nodes_of_both : (js ks : List Job) → nodes_of_all a n (js ++ ks) ≡ nodes_of_all a n js ++ nodes_of_all a n ks
  nodes_of_both [] ks = refl
  nodes_of_both (j ∷ js) ks = ap (λ vs. nodes_of a n j ++ vs) (nodes_of_both js ks) ∙ sym (append_assoc (nodes_of a n j) (nodes_of_all a n js) (nodes_of_all a n ks))

  pub split_jobs : (budget : ℕ) (jobs : List Job) → nodes_of_all a n jobs ≡ visited a n budget jobs ++ nodes_of_all a n (still_open a n budget jobs)
  split_jobs zero jobs = refl
  split_jobs (suc budget) [] = refl
  split_jobs (suc budget) (job ∷ jobs) =
      ap (λ vs. vs ++ nodes_of_all a n jobs) (split_job job)
      ∙ append_assoc (own_node_of a n job) (nodes_of_all a n (jobs_below a n job)) (nodes_of_all a n jobs)
      ∙ ap (λ vs. own_node_of a n job ++ vs) (sym (nodes_of_both (jobs_below a n job) jobs) ∙ split_jobs budget (jobs_below a n job ++ jobs))
      ∙ sym (append_assoc (own_node_of a n job) (visited a n budget (jobs_below a n job ++ jobs)) _)

pub jobs_split : JobsHaveTheirNodes
jobs_split a n budget jobs = split_jobs a n budget jobs
