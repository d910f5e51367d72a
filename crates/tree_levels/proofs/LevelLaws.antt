-- A tree has the nodes above a depth, and those of the jobs at it; these jobs are its nodes there.
use Rattle.std.proofs.Common.{◌≡◌, inl, inr, ℕ, zero, suc, ◌+◌, ◌-◌, ◌<◌, ◌≤◌, ◌==◌, List, [], ◌∷◌, ◌++◌, length, filter, cond, refl, sym, ap, ◌∙◌, subst, arith, append_assoc, append-nil}
use Rattle.std.specs.List.Sorted.{IsPermutation}
use Rattle.std.proofs.lemmas.Bool.{eq-eqb, ne_eqb}
use Rattle.std.proofs.lemmas.List.Elements.{filter-append}
use Rattle.std.proofs.lemmas.List.Sorted.{IsPermutation-refl, IsPermutation-sym, IsPermutation-trans, IsPermutation-cons, IsPermutation-append_left, IsPermutation-append_right, IsPermutation-append_comm}
use Rattle.term_core.specs.declared.step.Step.{Step}
use Rattle.world_model.specs.Requests.{Program}
use Rattle.tree_coverage.specs.Jobs.{Job, Node, steps_left, nodes_of, schedules_of, root, own_node, jobs_below, nodes_of_all}
use Rattle.tree_coverage.specs.Trees.{nodes}
use Rattle.tree_coverage.proofs.JobLaws.{map_join, root_nodes, split_job}
use Rattle.tree_levels.specs.Levels.{next_jobs, next_of_all, jobs_at, prefixes, JobsAreNodes, NodesAreAboveAndBelow, AllNodesAreBelow}
use Rattle.tree_levels.proofs.Taken.{IsTaken, AreTaken, below_next, below_none, next_taken, jobs_taken}

pub to_front : {X : Type 0} (xs ys zs : List X) → IsPermutation (xs ++ (ys ++ zs)) (ys ++ (xs ++ zs))
to_front xs ys zs =
    subst (λ l. IsPermutation l (ys ++ (xs ++ zs))) (append_assoc xs ys zs)
    (subst (λ l. IsPermutation ((xs ++ ys) ++ zs) l) (append_assoc ys xs zs) (IsPermutation-append_left zs (xs ++ ys) (ys ++ xs) (IsPermutation-append_comm xs ys)))

module _ (a : Program) (n : ℕ) where
  -- ---- the schedules of all nodes of some jobs

  abbrev schedules : List Job → List (List Step)
  schedules jobs = schedules_of (nodes_of_all a n jobs)

  -- those of the first job come first
  first_job : (job : Job) (jobs : List Job) → schedules (job ∷ jobs) ≡ schedules_of (nodes_of a n job) ++ schedules jobs
  first_job job jobs = map_join (λ (v : Node). v.schedule) (nodes_of a n job) (nodes_of_all a n jobs)

  both : (js ks : List Job) → schedules (js ++ ks) ≡ schedules js ++ schedules ks
  both [] ks = refl
  both (j ∷ js) ks =
      first_job j (js ++ ks)
      ∙ ap (λ ss. schedules_of (nodes_of a n j) ++ ss) (both js ks)
      ∙ sym (append_assoc (schedules_of (nodes_of a n j)) (schedules js) (schedules ks))
      ∙ ap (λ ss. ss ++ schedules ks) (sym (first_job j js))

  -- a job has its own node, and those of the jobs below
  own_first : (depth : ℕ) (job : Job) → IsTaken a depth job → schedules_of (nodes_of a n job) ≡ job.prefix ∷ schedules (jobs_below a n job)
  own_first depth job t =
      ap schedules_of (split_job a n job) ∙ ap (λ o. schedules_of (own_node a (steps_left n job) job o ++ nodes_of_all a n (jobs_below a n job))) t.runs

  then_next : (depth : ℕ) (job : Job) → IsTaken a depth job → depth < n → schedules_of (nodes_of a n job) ≡ job.prefix ∷ schedules (next_jobs a job)
  then_next depth job t higher = own_first depth job t ∙ ap (λ js. job.prefix ∷ schedules js) (below_next a n depth job t higher)

  then_none : (job : Job) → IsTaken a n job → schedules_of (nodes_of a n job) ≡ job.prefix ∷ []
  then_none job t = own_first n job t ∙ ap (λ js. job.prefix ∷ schedules js) (below_none a n job t)

  pub all_below : nodes a n ≡ schedules (jobs_at a 0)
  all_below = sym (root_nodes a n) ∙ ap schedules_of (sym (append-nil (nodes_of a n root)))

  -- ---- one depth and the next

  -- the nodes of jobs are those at their depth, and those of the next jobs
  level_first : (depth : ℕ) → depth < n → (jobs : List Job) → AreTaken a depth jobs → IsPermutation (schedules jobs) (prefixes jobs ++ schedules (next_of_all a jobs))
  level_first depth higher [] each = IsPermutation-refl []
  level_first depth higher (job ∷ jobs) each =
      let next : List (List Step) = schedules (next_jobs a job) in
      let others : List (List Step) = schedules (next_of_all a jobs) in
      let ps : List (List Step) = prefixes jobs in
      let one : schedules (job ∷ jobs) ≡ job.prefix ∷ (next ++ schedules jobs) = first_job job jobs ∙ ap (λ ss. ss ++ schedules jobs) (then_next depth job (each job (inl refl)) higher) in
      let more : IsPermutation (schedules jobs) (ps ++ others) = level_first depth higher jobs (λ j there. each j (inr there)) in
      let moved : IsPermutation (next ++ schedules jobs) (ps ++ (next ++ others)) = IsPermutation-trans _ _ _ (IsPermutation-append_right next (schedules jobs) (ps ++ others) more) (to_front next ps others) in
      let joined : IsPermutation (next ++ schedules jobs) (ps ++ schedules (next_of_all a (job ∷ jobs))) = subst (λ l. IsPermutation (next ++ schedules jobs) (ps ++ l)) (sym (both (next_jobs a job) (next_of_all a jobs))) moved in
      subst (λ l. IsPermutation l (job.prefix ∷ (ps ++ schedules (next_of_all a (job ∷ jobs))))) (sym one) (IsPermutation-cons job.prefix _ _ joined)

  -- at the depth of the tree they are the jobs themselves
  level_last : (jobs : List Job) → AreTaken a n jobs → schedules jobs ≡ prefixes jobs
  level_last [] each = refl
  level_last (job ∷ jobs) each =
      let own : schedules_of (nodes_of a n job) ≡ job.prefix ∷ [] = then_none job (each job (inl refl)) in
      let more : schedules jobs ≡ prefixes jobs = level_last jobs (λ j there. each j (inr there)) in
      first_job job jobs ∙ (λ i. own i ++ more i)

-- ---- all depths above one

abbrev above : Program → ℕ → List (List Step)
above a zero = []
above a (suc depth) = above a depth ++ prefixes (jobs_at a depth)

levels : (a : Program) (n depth : ℕ) → depth ≤ n → IsPermutation (nodes a n) (above a depth ++ schedules a n (jobs_at a depth))
levels a n zero fits = subst (IsPermutation (nodes a n)) (all_below a n) (IsPermutation-refl (nodes a n))
levels a n (suc depth) fits =
    let own : List (List Step) = prefixes (jobs_at a depth) in
    let rest : List (List Step) = schedules a n (jobs_at a (suc depth)) in
    let one : IsPermutation (schedules a n (jobs_at a depth)) (own ++ rest) = level_first a n depth (omega (arith, fits)) (jobs_at a depth) (jobs_taken a depth) in
    subst (IsPermutation (nodes a n)) (sym (append_assoc (above a depth) own rest))
    (IsPermutation-trans _ _ _ (levels a n depth (omega (arith, fits))) (IsPermutation-append_right (above a depth) _ _ one))

whole_tree : (a : Program) (depth : ℕ) → IsPermutation (nodes a depth) (above a (suc depth))
whole_tree a depth =
    subst (λ l. IsPermutation (nodes a depth) (above a depth ++ l)) (level_last a depth (jobs_at a depth) (jobs_taken a depth)) (levels a depth depth (omega arith))

pub above_and_below : NodesAreAboveAndBelow
above_and_below a n depth fits =
    let rest : List (List Step) = schedules a n (jobs_at a (suc depth)) in
    IsPermutation-trans _ _ _ (levels a n (suc depth) fits) (IsPermutation-append_left rest _ _ (IsPermutation-sym _ _ (whole_tree a depth)))

pub nodes_below : AllNodesAreBelow
nodes_below a n = all_below a n

-- ---- the nodes at one depth, in their order

module _ (a : Program) (n depth : ℕ) where
  abbrev at_depth : List (List Step) → List (List Step)
  at_depth ss = filter (λ (s : List Step). length s == depth) ss

  at_both : (xs ys : List (List Step)) → at_depth (xs ++ ys) ≡ at_depth xs ++ at_depth ys
  at_both xs ys = filter-append (λ (s : List Step). length s == depth) xs ys

  stays : (s : List Step) (ss : List (List Step)) → length s ≡ depth → at_depth (s ∷ ss) ≡ s ∷ at_depth ss
  stays s ss is = ap (λ b. cond b (s ∷ at_depth ss) (at_depth ss)) (eq-eqb (length s) depth is)

  goes : (s : List Step) (ss : List (List Step)) → (length s ≡ depth → ⊥) → at_depth (s ∷ ss) ≡ at_depth ss
  goes s ss other = ap (λ b. cond b (s ∷ at_depth ss) (at_depth ss)) (ne_eqb (length s) depth other)

  first_at : (job : Job) (jobs : List Job) → at_depth (schedules a n (job ∷ jobs)) ≡ at_depth (schedules_of (nodes_of a n job)) ++ at_depth (schedules a n jobs)
  first_at job jobs = ap at_depth (first_job a n job jobs) ∙ at_both (schedules_of (nodes_of a n job)) (schedules a n jobs)

  -- deeper jobs have none of them
  none_each : (k : ℕ) → depth < k → ((job : Job) → IsTaken a k job → at_depth (schedules a n (jobs_below a n job)) ≡ []) → (jobs : List Job) → AreTaken a k jobs → at_depth (schedules a n jobs) ≡ []
  none_each k deeper below [] each = refl
  none_each k deeper below (job ∷ jobs) each =
      let t : IsTaken a k job = each job (inl refl) in
      let own : at_depth (schedules_of (nodes_of a n job)) ≡ [] = ap at_depth (own_first a n k job t) ∙ goes job.prefix (schedules a n (jobs_below a n job)) (λ e. omega (arith, e, t.is_deep, deeper)) ∙ below job t in
      let more : at_depth (schedules a n jobs) ≡ [] = none_each k deeper below jobs (λ j there. each j (inr there)) in
      first_at job jobs ∙ (λ i. own i ++ more i)

  none_below : (left k : ℕ) → k + left ≡ n → depth ≤ k → (job : Job) → IsTaken a k job → at_depth (schedules a n (jobs_below a n job)) ≡ []
  none_below zero k fits deeper job t =
      let last : k ≡ n = omega (arith, fits) in
      ap (λ js. at_depth (schedules a n js)) (below_none a n job (subst (λ m. IsTaken a m job) last t))
  none_below (suc left) k fits deeper job t =
      ap (λ js. at_depth (schedules a n js)) (below_next a n k job t (omega (arith, fits)))
      ∙ none_each (suc k) (omega (arith, deeper)) (none_below left (suc k) (omega (arith, fits)) (omega (arith, deeper))) (next_jobs a job) (next_taken a k job t)

  -- jobs at this depth have theirs
  own_each : depth ≤ n → (jobs : List Job) → AreTaken a depth jobs → at_depth (schedules a n jobs) ≡ prefixes jobs
  own_each fits [] each = refl
  own_each fits (job ∷ jobs) each =
      let t : IsTaken a depth job = each job (inl refl) in
      let none : at_depth (schedules a n (jobs_below a n job)) ≡ [] = none_below (n - depth) depth (omega (arith, fits)) (omega arith) job t in
      let own : at_depth (schedules_of (nodes_of a n job)) ≡ job.prefix ∷ [] = ap at_depth (own_first a n depth job t) ∙ stays job.prefix (schedules a n (jobs_below a n job)) t.is_deep ∙ ap (λ ss. job.prefix ∷ ss) none in
      let more : at_depth (schedules a n jobs) ≡ prefixes jobs = own_each fits jobs (λ j there. each j (inr there)) in
      first_at job jobs ∙ (λ i. own i ++ more i)

  -- jobs above have those of the next jobs
  next_each : (k : ℕ) → k < depth → depth ≤ n → (jobs : List Job) → AreTaken a k jobs → at_depth (schedules a n jobs) ≡ at_depth (schedules a n (next_of_all a jobs))
  next_each k higher fits [] each = refl
  next_each k higher fits (job ∷ jobs) each =
      let t : IsTaken a k job = each job (inl refl) in
      let next : List (List Step) = schedules a n (next_jobs a job) in
      let others : List (List Step) = schedules a n (next_of_all a jobs) in
      let own : at_depth (schedules_of (nodes_of a n job)) ≡ at_depth next = ap at_depth (then_next a n k job t (omega (arith, higher, fits))) ∙ goes job.prefix next (λ e. omega (arith, e, t.is_deep, higher)) in
      let more : at_depth (schedules a n jobs) ≡ at_depth others = next_each k higher fits jobs (λ j there. each j (inr there)) in
      first_at job jobs ∙ (λ i. own i ++ more i) ∙ sym (at_both next others) ∙ ap at_depth (sym (both a n (next_jobs a job) (next_of_all a jobs)))

  down_to : depth ≤ n → (k : ℕ) → k ≤ depth → at_depth (nodes a n) ≡ at_depth (schedules a n (jobs_at a k))
  down_to fits zero higher = ap at_depth (all_below a n)
  down_to fits (suc k) higher = down_to fits k (omega (arith, higher)) ∙ next_each k (omega (arith, higher)) fits (jobs_at a k) (jobs_taken a k)

pub are_nodes : JobsAreNodes
are_nodes a n depth fits =
    sym (down_to a n depth fits depth (omega arith) ∙ own_each a n depth fits (jobs_at a depth) (jobs_taken a depth))
