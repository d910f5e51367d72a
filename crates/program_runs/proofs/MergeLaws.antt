-- What reports that are put together result in, and that those of the parts of a tree result in that of the tree.
use Rattle.std.proofs.Common.{◌≡◌, ℕ, zero, suc, ◌+◌, ◌-◌, ◌≤◌, ◌<◌, ◌^◌, Bool, true, false, List, [], ◌∷◌, ◌++◌, length, map, filter, cond, if◌then◌else◌, Option, None, Some, IfSome, SomeIff, refl, sym, ap, ◌∙◌, subst, arith}
use Rattle.std.proofs.lemmas.List.Elements.{All-from_recursion, recursion_from_All}
use Rattle.std.proofs.lemmas.List.Sorted.{All-permutation, IsPermutation-sym}
use Rattle.std.specs.List.{AllByRecursion, flat_map}
use Rattle.std.specs.declared.cmp.Ordering.{Ordering}
use Rattle.std.specs.declared.cmp.Ordering.TheVariants.{Less, Equal, Greater}
use Rattle.std.specs.List.Sorted.{IsPermutation}
use Rattle.std.specs.Ordering.{is_gt}
use Rattle.std.specs.Prelude.{Result, Ok, Err}
use Rattle.tree_coverage.specs.Findings.{Finding, Findings, AreSorted, findings_among, findings_of, found, put_before, with_all, with_finding}
use Rattle.world_identities.specs.Order.{order_of_identities}
use Rattle.tree_coverage.specs.Jobs.{Job, Node, nodes_of, root, schedules_of}
use Rattle.tree_coverage.specs.NodeTexts.{IsLawfulNode}
use Rattle.tree_coverage.specs.Shown.{shown_after}
use Rattle.tree_coverage.specs.Trees.{node_count, nodes}
use Rattle.tree_coverage.proofs.FindingLaws.{sorted_found}
use Rattle.tree_coverage.proofs.JobLaws.{root_nodes}
use Rattle.tree_coverage.proofs.Lists.{all_among}
use Rattle.tree_coverage.proofs.NodeTexts.{nodes_have_texts}
use Rattle.tree_excuses.specs.Excuses.{Excuses}
use Rattle.tree_findings.specs.Merging.{merged_findings}
use Rattle.tree_findings.specs.declared.extent.Extent.{Extent}
use Rattle.tree_findings.specs.declared.outcome.Outcome.{Outcome}
use Rattle.tree_findings.specs.declared.outcome.Outcome.TheVariants.{Complete, Incomplete}
use Rattle.tree_findings.proofs.Schedules.{any_grouping}
use Rattle.report_reader.specs.Lawful.{AreLawfulFindings, IsLawfulFinding, IsLawfulOutcome}
use Rattle.report_reader.specs.Merged.{AreReportsOf, first_depth, merged_all, text_of_reports}
use Rattle.report_reader.specs.declared.fault.ReportFault.{ReportFault}
use Rattle.report_text.specs.ReportText.{text_of_report}
use Rattle.search_jobs.specs.Explorations.{ExplorationSeen, program_in}
use Rattle.term_core.specs.Schedule.{AreLawful}
use Rattle.term_core.specs.StepOrder.{order_of_schedules}
use Rattle.term_core.specs.Stream.{WritesAll, BreaksOff}
use Rattle.tree_levels.specs.Levels.{jobs_at}
use Rattle.tree_levels.specs.LevelSums.{findings_of_job, findings_of_jobs, node_count_of_jobs}
use Rattle.tree_levels.proofs.Taken.{can_be_taken}
use Rattle.tree_levels.proofs.Sums.{counts_above_and_below, counts_below, counts_in_any_order, findings_above_and_below, findings_below, shows_in_any_order}
use Rattle.world_model.specs.Requests.{Program}
use Rattle.term_core.specs.declared.step.Step.{Step}
use Rattle.world_model.specs.Run.{run}
use Rattle.world_model.specs.Shown.{Flags, Identity, is_error, is_refusal}
use Rattle.program_runs.specs.Explored.{verdict_of}
use Rattle.program_runs.specs.MergeRuns.{AreNoReports, AreParts, AreToldOf, AreWholeJobs, ComesToTree, IsMergeOf, IsWholeJob, IsWholeTree, MayBeTold, depth_above, to_depth}
use Rattle.program_runs.specs.declared.verdict.RunFault.{RunFault}
use Rattle.program_runs.specs.declared.verdict.RunFault.TheVariants as refusal
use Rattle.program_runs.specs.declared.verdict.Verdict.{Verdict}

pub above_is : (at : ℕ) (r : Option ℕ) → SomeIff r (1 ≤ at) (at - 1) → r ≡ depth_above at
above_is zero None told = refl
above_is zero (Some d) told = absurd (omega (arith, told.0))
above_is (suc d) None told = absurd (told (omega arith))
above_is (suc d) (Some e) told =
    let same : e ≡ d = omega (arith, told.1) in
    ap Some same

-- ---- outcomes of jobs

-- an outcome as a plain report gives it, which does not say at how many nodes the tree is cut
abbrev plain : Outcome → Outcome
plain (Complete f x) = Complete f (record { nodes = x.nodes; cut = 0 })
plain (Incomplete cause f) = Incomplete cause f

-- all nodes were visited, and so much was found at so many of them
abbrev counted : Findings → ℕ → Outcome
counted f k = Complete f (record { nodes = k; cut = 0 })

module _ (e : ExplorationSeen) where
  abbrev found_by : List Job → Findings
  found_by jobs = findings_of_jobs e.flags (program_in e) e.depth jobs

  abbrev nodes_by : List Job → ℕ
  nodes_by jobs = node_count_of_jobs (program_in e) e.depth jobs

  -- the outcome of one job
  job_is : (job : Job) (g : Findings) (x : Extent) → IsWholeJob e job (Complete g x) → (g ≡ findings_of_job e.flags (program_in e) e.depth job) × (x.nodes ≡ length (nodes_of (program_in e) e.depth job))
  job_is job g x whole = (whole.outcome.0, ap (λ (y : Extent). y.nodes) whole.outcome.1)

  -- those of jobs, after what is there
  jobs_merged : (jobs : List Job) (os : List Outcome) (f : Findings) (k : ℕ) → AreWholeJobs e jobs os → merged_all (counted f k) (map plain os) ≡ counted (merged_findings f (found_by jobs)) (k + nodes_by jobs)
  jobs_merged [] [] f k whole =
      let none : k ≡ k + 0 = omega arith in
      λ i. counted f (none i)
  jobs_merged [] (o ∷ os) f k whole = absurd whole
  jobs_merged (job ∷ jobs) [] f k whole = absurd whole
  jobs_merged (job ∷ jobs) (Complete g x ∷ os) f k whole =
      let is = job_is job g x whole.0 in
      let found : merged_findings (merged_findings f g) (found_by jobs) ≡ merged_findings f (found_by (job ∷ jobs)) =
      any_grouping f g (found_by jobs) ∙ ap (λ h. merged_findings f (merged_findings h (found_by jobs))) is.0 in
      let nodes : k + x.nodes + nodes_by jobs ≡ k + nodes_by (job ∷ jobs) = omega (arith, is.1) in
      jobs_merged jobs os (merged_findings f g) (k + x.nodes) whole.1 ∙ (λ i. counted (found i) (nodes i))
  jobs_merged (job ∷ jobs) (Incomplete cause g ∷ os) f k whole = absurd whole.0.complete

  -- those of jobs alone, at least one
  some_merged : (jobs : List Job) (o : Outcome) (os : List Outcome) → AreWholeJobs e jobs (o ∷ os) → merged_all (plain o) (map plain os) ≡ counted (found_by jobs) (nodes_by jobs)
  some_merged [] o os whole = absurd whole
  some_merged (job ∷ jobs) (Complete g x) os whole =
      let is = job_is job g x whole.0 in
      let nodes : x.nodes + nodes_by jobs ≡ nodes_by (job ∷ jobs) = omega (arith, is.1) in
      jobs_merged jobs os g x.nodes whole.1 ∙ (λ i. counted (merged_findings (is.0 i) (found_by jobs)) (nodes i))
  some_merged (job ∷ jobs) (Incomplete cause g) os whole = absurd whole.0.complete

-- ---- the tree

root_counts : (a : Program) (n : ℕ) → length (nodes_of a n root) ≡ node_count a n
root_counts a n =
    let all : node_count a n ≡ length (nodes_of a n root) + 0 = counts_below a n in
    omega (arith, all)

tree_is : (e : ExplorationSeen) (o : Outcome) → IsWholeTree e o → plain o ≡ counted (findings_of e.flags (program_in e) e.depth) (node_count (program_in e) e.depth)
tree_is e (Complete f x) whole =
    let nodes : x.nodes ≡ node_count (program_in e) e.depth = ap (λ (y : Extent). y.nodes) whole.outcome.1 ∙ root_counts (program_in e) e.depth in
    λ i. counted (whole.outcome.0 i) (nodes i)
tree_is e (Incomplete cause f) whole = absurd whole.complete

-- all jobs at a depth, in whatever order, have what those have in the order of the search
in_order : (e : ExplorationSeen) (at : ℕ) (jobs : List Job) → IsPermutation jobs (jobs_at (program_in e) at) → (found_by e jobs ≡ found_by e (jobs_at (program_in e) at)) × (nodes_by e jobs ≡ nodes_by e (jobs_at (program_in e) at))
in_order e at jobs all = (shows_in_any_order e.flags (program_in e) e.depth jobs (jobs_at (program_in e) at) all, (counts_in_any_order (program_in e) e.depth jobs (jobs_at (program_in e) at) all).0)

-- the parts of a tree result in the tree
parts_come : (e : ExplorationSeen) (at : ℕ) (first : Outcome) (others : List Outcome) (whole : Outcome) → AreParts e at first others → IsWholeTree e whole → merged_all (plain first) (map plain others) ≡ plain whole
parts_come e zero first others whole parts tree =
    let a : Program = program_in e in
    let same = in_order e 0 parts.jobs parts.all in
    let found : found_by e parts.jobs ≡ findings_of e.flags a e.depth = same.0 ∙ sym (findings_below e.flags a e.depth) in
    let nodes : nodes_by e parts.jobs ≡ node_count a e.depth = same.1 ∙ sym (counts_below a e.depth) in
    some_merged e parts.jobs first others parts.outcomes ∙ (λ i. counted (found i) (nodes i)) ∙ sym (tree_is e whole tree)
parts_come e (suc above) first others whole parts tree =
    let a : Program = program_in e in
    let same = in_order e (suc above) parts.2.jobs parts.2.all in
    let f : Findings = findings_of e.flags a above in
    let k : ℕ = node_count a above in
    let found : merged_findings f (found_by e parts.2.jobs) ≡ findings_of e.flags a e.depth = ap (merged_findings f) same.0 ∙ sym (findings_above_and_below e.flags a e.depth above parts.0) in
    let nodes : k + nodes_by e parts.2.jobs ≡ node_count a e.depth = ap (λ j. k + j) same.1 ∙ sym (counts_above_and_below a e.depth above parts.0) in
    ap (λ o. merged_all o (map plain others)) (tree_is (to_depth e above) first parts.1)
    ∙ jobs_merged e parts.2.jobs others f k parts.2.outcomes
    ∙ (λ i. counted (found i) (nodes i))
    ∙ sym (tree_is e whole tree)

-- ---- what was found is such as reports may be read back to

-- the schedules of its nodes are of pids that texts may have
lawful_schedules : (vs : List Node) → AllByRecursion IsLawfulNode vs → AllByRecursion AreLawful (schedules_of vs)
lawful_schedules [] all = tt
lawful_schedules (v ∷ vs) all = (all.0.0, lawful_schedules vs all.1)

job_schedules : (e : ExplorationSeen) (job : Job) → e.depth < 2 ^ 64 → length job.prefix ≤ e.depth → AllByRecursion AreLawful (schedules_of (nodes_of (program_in e) e.depth job))
job_schedules e job fits short = lawful_schedules (nodes_of (program_in e) e.depth job) (nodes_have_texts e.program e.depth job fits short)

tree_schedules : (e : ExplorationSeen) → e.depth < 2 ^ 64 → AllByRecursion AreLawful (nodes (program_in e) e.depth)
tree_schedules e fits = subst (AllByRecursion AreLawful) (root_nodes (program_in e) e.depth) (job_schedules e root fits (omega arith))

-- a finding passes the test, and texts may have its schedule
abbrev Passes : (Identity → Bool) → Finding → Type 0
Passes test f = (test f.identity ≡ true) × AreLawful f.schedule

abbrev Pass : (Identity → Bool) → List Finding → Type 0
Pass test fs = AllByRecursion (Passes test) fs

lesser_passes : (b : Bool) (s t : List Step) → AreLawful s → AreLawful t → AreLawful (if b then t else s)
lesser_passes true s t h k = k
lesser_passes false s t h k = h

passes_with : (test : Identity → Bool) (f : Finding) (fs : List Finding) → Passes test f → Pass test fs → Pass test (with_finding f fs)
passes_with test f [] is all = (is, tt)
passes_with test f (g ∷ gs) is all = go (order_of_identities f.identity g.identity) (passes_with test f gs is all.1)
  where
    go : (o : Ordering) → Pass test (with_finding f gs) → Pass test (put_before o f g gs (with_finding f gs))
    go Less more = (is, all)
    go Equal more = ((all.0.0, lesser_passes (is_gt (order_of_schedules f.schedule g.schedule)) f.schedule g.schedule is.1 all.0.1), all.1)
    go Greater more = (all.0, more)

passes_shown : (test : Identity → Bool) (s : List Step) (is : List Identity) (fs : List Finding) → AreLawful s → Pass test fs → Pass test (with_all s (filter test is) fs)
passes_shown test s [] fs lawful all = all
passes_shown test s (i ∷ is) fs lawful all = go (test i) refl (passes_shown test s is fs lawful all)
  where
    go : (b : Bool) → test i ≡ b → Pass test (with_all s (filter test is) fs) → Pass test (with_all s (cond b (i ∷ filter test is) (filter test is)) fs)
    go true e more = passes_with test (record { identity = i; schedule = s }) (with_all s (filter test is) fs) (e, lawful) more
    go false e more = more

passes_found : (test : Identity → Bool) (a : Program) (schedules : List (List Step)) → AllByRecursion AreLawful schedules → Pass test (found test a schedules)
passes_found test a [] lawful = tt
passes_found test a (s ∷ schedules) lawful = passes_shown test s (shown_after a (run a s)) (found test a schedules) lawful.0 (passes_found test a schedules lawful.1)

pass_all : (test : Identity → Bool) (fs : List Finding) → Pass test fs → AllByRecursion (λ (f : Finding). test f.identity ≡ true) fs
pass_all test [] all = tt
pass_all test (f ∷ fs) all = (all.0.0, pass_all test fs all.1)

lawful_all : (test : Identity → Bool) (fs : List Finding) → AreToldOf fs → Pass test fs → AllByRecursion IsLawfulFinding fs
lawful_all test [] told all = tt
lawful_all test (f ∷ fs) told all = (record { identity = told.0; schedule = all.0.1 }, lawful_all test fs told.1 all.1)

are_lawful : (test : Identity → Bool) (a : Program) (schedules : List (List Step)) (fs : List Finding) → fs ≡ found test a schedules → AllByRecursion AreLawful schedules → AreToldOf fs → AreLawfulFindings test fs
are_lawful test a schedules fs same lawful told =
    let all = subst (Pass test) (sym same) (passes_found test a schedules lawful) in
    record {
      sorted = subst AreSorted (sym same) (sorted_found test a schedules);
      lawful = lawful_all test fs told all;
      pass = pass_all test fs all;
    }

is_lawful : (flags : Flags) (a : Program) (schedules : List (List Step)) (g : Findings) (x : Extent) (limit : ℕ) → g ≡ findings_among flags a schedules → x.nodes ≤ limit → limit < 2 ^ 64 → AllByRecursion AreLawful schedules → MayBeTold (Complete g x) → IsLawfulOutcome flags (plain (Complete g x))
is_lawful flags a schedules g x limit same within fits lawful told = record {
  errors = are_lawful (is_error flags) a schedules g.errors (ap (λ (f : Findings). f.errors) same) lawful told.0;
  refusals = are_lawful is_refusal a schedules g.refusals (ap (λ (f : Findings). f.refusals) same) lawful told.1;
  extent = (omega (arith, within, fits), refl);
}

lawful_tree : (e : ExplorationSeen) (o : Outcome) → e.depth < 2 ^ 64 → IsWholeTree e o → MayBeTold o → IsLawfulOutcome e.flags (plain o)
lawful_tree e (Complete g x) fits whole told = is_lawful e.flags (program_in e) (nodes (program_in e) e.depth) g x whole.limit whole.outcome.0 whole.outcome.2 whole.fits (tree_schedules e fits) told
lawful_tree e (Incomplete cause g) fits whole told = absurd whole.complete

lawful_job : (e : ExplorationSeen) (job : Job) (o : Outcome) → e.depth < 2 ^ 64 → length job.prefix ≤ e.depth → IsWholeJob e job o → MayBeTold o → IsLawfulOutcome e.flags (plain o)
lawful_job e job (Complete g x) fits short whole told =
    is_lawful e.flags (program_in e) (schedules_of (nodes_of (program_in e) e.depth job)) g x whole.limit whole.outcome.0 whole.outcome.2 whole.fits (job_schedules e job fits short) told
lawful_job e job (Incomplete cause g) fits short whole told = absurd whole.complete

-- jobs that the tree has
abbrev AreShort : ExplorationSeen → List Job → Type 0
AreShort e jobs = AllByRecursion (λ (job : Job). length job.prefix ≤ e.depth) jobs

are_short : (e : ExplorationSeen) (at : ℕ) (jobs : List Job) → at ≤ e.depth → IsPermutation jobs (jobs_at (program_in e) at) → AreShort e jobs
are_short e at jobs within all =
    let there = jobs_at (program_in e) at in
    let IsShort : Job → Type 0 = λ job. length job.prefix ≤ e.depth in
    recursion_from_All IsShort jobs (All-permutation IsShort there jobs (IsPermutation-sym jobs there all)
    (All-from_recursion IsShort there (all_among IsShort there (λ job among. let deep = (can_be_taken (program_in e) at job among).0 in omega (arith, deep, within)))))

lawful_jobs : (e : ExplorationSeen) (jobs : List Job) (os : List Outcome) → e.depth < 2 ^ 64 → AreShort e jobs → AreWholeJobs e jobs os → AllByRecursion MayBeTold os → AllByRecursion (IsLawfulOutcome e.flags) (map plain os)
lawful_jobs e [] [] fits short whole told = tt
lawful_jobs e [] (o ∷ os) fits short whole told = absurd whole
lawful_jobs e (job ∷ jobs) [] fits short whole told = absurd whole
lawful_jobs e (job ∷ jobs) (o ∷ os) fits short whole told = (lawful_job e job o fits short.0 whole.0 told.0, lawful_jobs e jobs os fits short.1 whole.1 told.1)

lawful_parts : (e : ExplorationSeen) (at : ℕ) (first : Outcome) (others : List Outcome) → e.depth < 2 ^ 64 → AreParts e at first others → AllByRecursion MayBeTold (first ∷ others) → AllByRecursion (IsLawfulOutcome e.flags) (map plain (first ∷ others))
lawful_parts e zero first others fits parts told = lawful_jobs e parts.jobs (first ∷ others) fits (are_short e 0 parts.jobs (omega arith) parts.all) parts.outcomes told
lawful_parts e (suc above) first others fits parts told =
    (lawful_tree (to_depth e above) first (below_too above e.depth parts.0 fits) parts.1 told.0, lawful_jobs e parts.2.jobs others fits (are_short e (suc above) parts.2.jobs parts.0 parts.2.all) parts.2.outcomes told.1)
  where
    below_too : (k n : ℕ) → suc k ≤ n → n < 2 ^ 64 → k < 2 ^ 64
    below_too k n less fits = omega (arith, less, fits)

-- ---- texts do not show cuts

plain_text : (depth : ℕ) (x : Excuses) (o : Outcome) → text_of_report depth x (plain o) ≡ text_of_report depth x o
plain_text depth x (Complete f e) = refl
plain_text depth x (Incomplete cause f) = refl

plain_texts : (depth : ℕ) (x : Excuses) (os : List Outcome) → flat_map (text_of_report depth x) (map plain os) ≡ flat_map (text_of_report depth x) os
plain_texts depth x [] = refl
plain_texts depth x (o ∷ os) = λ i. plain_text depth x o i ++ plain_texts depth x os i

plain_reports : (above : Option ℕ) (depth : ℕ) (x : Excuses) (o : Outcome) (os : List Outcome) → text_of_reports above depth x (plain o ∷ map plain os) ≡ text_of_reports above depth x (o ∷ os)
plain_reports above depth x o os = λ i. plain_text (first_depth above depth) x o i ++ plain_texts depth x os i

plain_verdict : (x : Excuses) (o : Outcome) → verdict_of x (plain o) ≡ verdict_of x o
plain_verdict x (Complete f e) = refl
plain_verdict x (Incomplete cause f) = refl

-- ---- what a run results in

-- these bytes are read as those outcomes alone
abbrev pub AreReadAs : (bytes : List ℕ) (depth at : ℕ) → Flags → Excuses → Outcome → Type 0
AreReadAs bytes depth at flags x outcome = (first : Outcome) (others : List Outcome) → AllByRecursion (IsLawfulOutcome flags) (first ∷ others) → bytes ≡ text_of_reports (depth_above at) depth x (first ∷ others) → outcome ≡ merged_all first others

tree_comes : (bytes : List ℕ) (depth at : ℕ) (flags : Flags) (x : Excuses) (old new : Option (List ℕ)) (failed : Bool) (outcome : Outcome) (verdict : Verdict)
    → depth < 2 ^ 64 → AreReadAs bytes depth at flags x outcome → WritesAll old new failed (text_of_report depth x outcome) → verdict ≡ verdict_of x outcome → ComesToTree bytes depth at flags x old new failed (Ok verdict)
tree_comes bytes depth at flags x old new failed outcome verdict fits only written told = λ m first others whole parts told_of is tree.
    let e : ExplorationSeen = record { program = m; depth = depth; flags = flags } in
    let same : outcome ≡ plain whole =
    only (plain first) (map plain others) (lawful_parts e at first others fits parts told_of) (is ∙ sym (plain_reports (depth_above at) depth x first others))
    ∙ parts_come e at first others whole parts tree in
    (subst (λ (t : List ℕ). WritesAll old new failed t) (ap (text_of_report depth x) same ∙ plain_text depth x whole) written, told ∙ ap (verdict_of x) same ∙ plain_verdict x whole)

pub comes : (remaining : Option (List ℕ)) (bytes : List ℕ) (depth at : ℕ) (flags : Flags) (x : Excuses) (old new : Option (List ℕ)) (failed : Bool) (outcome : Outcome) (verdict : Verdict)
    → depth < 2 ^ 64 → IfSome remaining (λ all. bytes ≡ all) → AreReadAs bytes depth at flags x outcome → WritesAll old new failed (text_of_report depth x outcome) → verdict ≡ verdict_of x outcome
    → IfSome remaining (λ input. ComesToTree input depth at flags x old new failed (Ok verdict))
comes None bytes depth at flags x old new failed outcome verdict fits is only written told = tt
comes (Some all) bytes depth at flags x old new failed outcome verdict fits is only written told =
    subst (λ (t : List ℕ). ComesToTree t depth at flags x old new failed (Ok verdict)) is (tree_comes bytes depth at flags x old new failed outcome verdict fits only written told)

-- a refusal results in no tree
pub none_comes : (remaining : Option (List ℕ)) (depth at : ℕ) (flags : Flags) (x : Excuses) (old new : Option (List ℕ)) (failed : Bool) (fault : RunFault) (r : Result Verdict RunFault)
    → r ≡ Err fault → IfSome remaining (λ input. ComesToTree input depth at flags x old new failed r)
none_comes None depth at flags x old new failed fault r e = tt
none_comes (Some all) depth at flags x old new failed fault r e = subst (λ (r : Result Verdict RunFault). ComesToTree all depth at flags x old new failed r) (sym e) tt

-- reports that were refused
pub no_reports : (remaining : Option (List ℕ)) (bytes : List ℕ) (depth at : ℕ) (flags : Flags) (x : Excuses) (contents : Option (List ℕ)) (failed : Bool) (fault : ReportFault) (r : Result Verdict RunFault)
    → r ≡ Err (refusal.Report fault) → IfSome remaining (λ all. bytes ≡ all) → AreNoReports bytes depth at flags x fault → failed ≡ false
    → IfSome remaining (λ input. IsMergeOf input depth at flags x contents contents failed r)
no_reports None bytes depth at flags x contents failed fault r e is refused sound = tt
no_reports (Some all) bytes depth at flags x contents failed fault r e is refused sound =
    subst (λ (r : Result Verdict RunFault). IsMergeOf all depth at flags x contents contents failed r) (sym e)
    (subst (λ (t : List ℕ). AreNoReports t depth at flags x fault) is refused, record { same = refl; sound = sound })

-- the report of what they result in was written
pub merged : (remaining : Option (List ℕ)) (bytes : List ℕ) (depth at : ℕ) (flags : Flags) (x : Excuses) (old new : Option (List ℕ)) (failed : Bool) (outcome : Outcome) (verdict : Verdict)
    → IfSome remaining (λ all. bytes ≡ all) → AreReportsOf (depth_above at) depth flags x bytes outcome → WritesAll old new failed (text_of_report depth x outcome) → verdict ≡ verdict_of x outcome
    → IfSome remaining (λ input. IsMergeOf input depth at flags x old new failed (Ok verdict))
merged None bytes depth at flags x old new failed outcome verdict is reports written told = tt
merged (Some all) bytes depth at flags x old new failed outcome verdict is reports written told =
    record { outcome = outcome; reports = subst (λ (t : List ℕ). AreReportsOf (depth_above at) depth flags x t outcome) is reports; written = written; told = told }

-- the output failed
pub broken : (remaining : Option (List ℕ)) (bytes : List ℕ) (depth at : ℕ) (flags : Flags) (x : Excuses) (old new : Option (List ℕ)) (failed : Bool) (outcome : Outcome) (r : Result Verdict RunFault)
    → r ≡ Err refusal.Output → IfSome remaining (λ all. bytes ≡ all) → AreReportsOf (depth_above at) depth flags x bytes outcome → BreaksOff old new failed (text_of_report depth x outcome)
    → IfSome remaining (λ input. IsMergeOf input depth at flags x old new failed r)
broken None bytes depth at flags x old new failed outcome r e is reports part = tt
broken (Some all) bytes depth at flags x old new failed outcome r e is reports part =
    subst (λ (r : Result Verdict RunFault). IsMergeOf all depth at flags x old new failed r) (sym e)
    (record { outcome = outcome; reports = subst (λ (t : List ℕ). AreReportsOf (depth_above at) depth flags x t outcome) is reports; broken = part })
