-- What jobs show and count adds up, in whatever order they come, and with what is above them it is that of the tree.
use Rattle.std.proofs.Common.{◌≡◌, inl, inr, ℕ, zero, suc, ◌+◌, ◌<◌, ◌≤◌, ◌&&◌, List, [], ◌∷◌, ◌++◌, length, get_or, set, filter, cond, refl, sym, ap, ◌∙◌, subst, arith, length-append}
use Rattle.std.specs.List.Sorted.{IsPermutation}
use Rattle.std.proofs.lemmas.Bool.{ne_eqb}
use Rattle.std.proofs.lemmas.List.{length-map}
use Rattle.std.proofs.lemmas.List.Edits.{swap_is}
use Rattle.std.proofs.lemmas.List.Sorted.{IsPermutation-keeps, IsPermutation-map, IsPermutation-refl, IsPermutation-sym, IsPermutation-trans, IsPermutation-append_right, length_permutation}
use Rattle.term_core.specs.declared.step.Step.{Step}
use Rattle.world_model.specs.Names.{IsAmong}
use Rattle.world_model.specs.Requests.{Program}
use Rattle.world_model.specs.Run.{run}
use Rattle.tree_coverage.specs.Findings.{findings_among, findings_of}
use Rattle.tree_coverage.specs.Jobs.{Job, Node, nodes_of, nodes_of_all, root, schedules_of}
use Rattle.tree_coverage.specs.Trees.{nodes}
use Rattle.tree_coverage.proofs.JobLaws.{map_join}
use Rattle.tree_coverage.proofs.ShownLaws.{nodes_run}
use Rattle.tree_findings.specs.Merging.{merged_findings}
use Rattle.tree_findings.proofs.Schedules.{any_order, lists_merged}
use Rattle.tree_cuts.specs.Cuts.{goes_on, is_cut, cut_count}
use Rattle.tree_cuts.proofs.CutLaws.{cuts_in_any_order, cuts_join, cuts_of_both}
use Rattle.tree_levels.specs.Levels.{jobs_at}
use Rattle.tree_levels.specs.LevelSums.{findings_of_job, node_count_of_jobs, cut_count_of_jobs, JobsShowWhatNodesShow, JobsCountTheirNodes, JobsShowInAnyOrder, JobsCountInAnyOrder, FindingsAreAboveAndBelow, CountsAreAboveAndBelow, CutsAreBelow, AllFindingsAreBelow, AllCountsAreBelow}
use Rattle.tree_levels.proofs.LevelLaws.{to_front, all_below, above_and_below}

-- ---- job by job

pub shows_all : JobsShowWhatNodesShow
shows_all flags a n [] = refl
shows_all flags a n (job ∷ jobs) =
    ap (merged_findings (findings_of_job flags a n job)) (shows_all flags a n jobs)
    ∙ sym (lists_merged flags a (schedules_of (nodes_of a n job)) (schedules_of (nodes_of_all a n jobs)))
    ∙ ap (findings_among flags a) (sym (map_join (λ (v : Node). v.schedule) (nodes_of a n job) (nodes_of_all a n jobs)))

counts_nodes : (a : Program) (n : ℕ) (jobs : List Job) → node_count_of_jobs a n jobs ≡ length (nodes_of_all a n jobs)
counts_nodes a n [] = refl
counts_nodes a n (job ∷ jobs) = ap (λ k. length (nodes_of a n job) + k) (counts_nodes a n jobs) ∙ sym (length-append (nodes_of a n job) (nodes_of_all a n jobs))

counts_cuts : (a : Program) (n : ℕ) (jobs : List Job) → cut_count_of_jobs a n jobs ≡ cut_count a n (schedules_of (nodes_of_all a n jobs))
counts_cuts a n [] = refl
counts_cuts a n (job ∷ jobs) =
    ap (λ k. cut_count a n (schedules_of (nodes_of a n job)) + k) (counts_cuts a n jobs) ∙ sym (cuts_of_both a n (nodes_of a n job) (nodes_of_all a n jobs))

pub counts_all : JobsCountTheirNodes
counts_all a n jobs = (counts_nodes a n jobs, counts_cuts a n jobs)

-- as many schedules as nodes
counts_schedules : (a : Program) (n : ℕ) (jobs : List Job) → length (schedules_of (nodes_of_all a n jobs)) ≡ node_count_of_jobs a n jobs
counts_schedules a n jobs = length-map (nodes_of_all a n jobs) (λ (v : Node). v.schedule) ∙ sym (counts_nodes a n jobs)

-- ---- in whatever order the jobs come

module _ (a : Program) (n : ℕ) where
  -- a job in another's place
  nodes_set : (jobs : List Job) (at : ℕ) (x d : Job) → at < length jobs → IsPermutation (nodes_of a n (get_or jobs at d) ++ nodes_of_all a n (set jobs at x)) (nodes_of a n x ++ nodes_of_all a n jobs)
  nodes_set [] at x d h = absurd (omega arith)
  nodes_set (y ∷ jobs) zero x d h = to_front (nodes_of a n y) (nodes_of a n x) (nodes_of_all a n jobs)
  nodes_set (y ∷ jobs) (suc at) x d h =
      let old : List Node = nodes_of a n (get_or jobs at d) in
      let now : List Node = nodes_of_all a n (set jobs at x) in
      let first : List Node = nodes_of a n y in
      let new : List Node = nodes_of a n x in
      let was : List Node = nodes_of_all a n jobs in
      let more : IsPermutation (old ++ now) (new ++ was) = nodes_set jobs at x d (omega arith) in
      IsPermutation-trans _ _ _ (to_front old first now) (IsPermutation-trans _ _ _ (IsPermutation-append_right first _ _ more) (to_front first new was))

  nodes_exchanged : (jobs : List Job) (i j : ℕ) (d : Job) → i < length jobs → j < length jobs → IsPermutation (nodes_of_all a n (set (set jobs i (get_or jobs j d)) j (get_or jobs i d))) (nodes_of_all a n jobs)
  nodes_exchanged [] i j d p q = absurd (omega arith)
  nodes_exchanged (x ∷ jobs) zero zero d p q = IsPermutation-refl (nodes_of_all a n (x ∷ jobs))
  nodes_exchanged (x ∷ jobs) zero (suc j) d p q = nodes_set jobs j x d (omega arith)
  nodes_exchanged (x ∷ jobs) (suc i) zero d p q = nodes_set jobs i x d (omega arith)
  nodes_exchanged (x ∷ jobs) (suc i) (suc j) d p q =
      IsPermutation-append_right (nodes_of a n x) _ _ (nodes_exchanged jobs i j d (omega arith) (omega arith))

  nodes_swapped : (jobs : List Job) (i j : ℕ) → i < length jobs → j < length jobs → (others : List Job) → set (set jobs i (get_or jobs j root)) j (get_or jobs i root) ≡ others → IsPermutation (nodes_of_all a n others) (nodes_of_all a n jobs)
  nodes_swapped jobs i j p q others is = subst (λ l. IsPermutation (nodes_of_all a n l) (nodes_of_all a n jobs)) is (nodes_exchanged jobs i j root p q)

  nodes_permuted : (jobs others : List Job) → IsPermutation jobs others → IsPermutation (nodes_of_all a n others) (nodes_of_all a n jobs)
  nodes_permuted jobs =
      IsPermutation-keeps jobs (λ l. IsPermutation (nodes_of_all a n l) (nodes_of_all a n jobs)) (IsPermutation-refl (nodes_of_all a n jobs)) (λ l i j p q h. IsPermutation-trans _ _ _ (nodes_swapped l i j p q _ (swap_is l i j root p q)) h)

  same_schedules : (jobs others : List Job) → IsPermutation jobs others → IsPermutation (schedules_of (nodes_of_all a n jobs)) (schedules_of (nodes_of_all a n others))
  same_schedules jobs others same =
      IsPermutation-map (λ (v : Node). v.schedule) (nodes_of_all a n jobs) (nodes_of_all a n others) (IsPermutation-sym _ _ (nodes_permuted jobs others same))

pub shows_in_any_order : JobsShowInAnyOrder
shows_in_any_order flags a n jobs others same =
    shows_all flags a n jobs
    ∙ any_order flags a (schedules_of (nodes_of_all a n jobs)) (schedules_of (nodes_of_all a n others)) (same_schedules a n jobs others same)
    ∙ sym (shows_all flags a n others)

pub counts_in_any_order : JobsCountInAnyOrder
counts_in_any_order a n jobs others same = (
  counts_nodes a n jobs ∙ length_permutation (nodes_of_all a n others) (nodes_of_all a n jobs) (nodes_permuted a n jobs others same) ∙ sym (counts_nodes a n others),
  counts_cuts a n jobs
      ∙ cuts_in_any_order a n (schedules_of (nodes_of_all a n jobs)) (schedules_of (nodes_of_all a n others)) (same_schedules a n jobs others same)
      ∙ sym (counts_cuts a n others),
)

-- ---- above a depth and below

pub findings_above_and_below : FindingsAreAboveAndBelow
findings_above_and_below flags a n depth fits =
    let rest : List (List Step) = schedules_of (nodes_of_all a n (jobs_at a (suc depth))) in
    any_order flags a (nodes a n) (nodes a depth ++ rest) (above_and_below a n depth fits)
    ∙ lists_merged flags a (nodes a depth) rest
    ∙ ap (merged_findings (findings_of flags a depth)) (sym (shows_all flags a n (jobs_at a (suc depth))))

pub counts_above_and_below : CountsAreAboveAndBelow
counts_above_and_below a n depth fits =
    let rest : List (List Step) = schedules_of (nodes_of_all a n (jobs_at a (suc depth))) in
    sym (length_permutation (nodes a n) (nodes a depth ++ rest) (above_and_below a n depth fits))
    ∙ length-append (nodes a depth) rest
    ∙ ap (λ k. length (nodes a depth) + k) (counts_schedules a n (jobs_at a (suc depth)))

-- a tree is not cut at schedules that have fewer steps than it is deep
none_cut : (a : Program) (n : ℕ) (ss : List (List Step)) → ((s : List Step) → IsAmong s ss → length s < n) → cut_count a n ss ≡ 0
none_cut a n [] each = refl
none_cut a n (s ∷ ss) each =
    let fewer : length s < n = each s (inl refl) in
    ap (λ b. length (cond (b && goes_on a (run a s)) (s ∷ filter (is_cut a n) ss) (filter (is_cut a n) ss))) (ne_eqb (length s) n (λ e. omega (arith, e, fewer)))
    ∙ none_cut a n ss (λ t there. each t (inr there))

short : (a : Program) (n depth : ℕ) → depth < n → (s : List Step) → IsAmong s (nodes a depth) → length s < n
short a n depth higher s there =
    let fits : length s ≤ depth = (nodes_run a depth s there).0 in
    omega (arith, fits, higher)

none_first : (k : ℕ) → 0 + k ≡ k
none_first k = omega arith

pub cuts_below : CutsAreBelow
cuts_below a n zero fits = ap (cut_count a n) (all_below a n) ∙ sym (counts_cuts a n (jobs_at a 0))
cuts_below a n (suc depth) fits =
    let rest : List (List Step) = schedules_of (nodes_of_all a n (jobs_at a (suc depth))) in
    cuts_in_any_order a n (nodes a n) (nodes a depth ++ rest) (above_and_below a n depth fits)
    ∙ cuts_join a n (nodes a depth) rest
    ∙ ap (λ k. k + cut_count a n rest) (none_cut a n (nodes a depth) (short a n depth (omega (arith, fits))))
    ∙ none_first (cut_count a n rest)
    ∙ sym (counts_cuts a n (jobs_at a (suc depth)))

pub findings_below : AllFindingsAreBelow
findings_below flags a n = ap (findings_among flags a) (all_below a n) ∙ sym (shows_all flags a n (jobs_at a 0))

pub counts_below : AllCountsAreBelow
counts_below a n = ap length (all_below a n) ∙ counts_schedules a n (jobs_at a 0)
