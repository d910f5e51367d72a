-- The statements of the theorem, from what is so of each run of the program.
use Rattle.std.proofs.Common.{arith, ◌≡◌, ◌≤◌, ◌⊎◌, ℕ, Bool, List, [], ◌∷◌, ◌++◌, length, not, true, Option, Some, None, inl, inr, refl, sym, ap, subst, ◌∙◌, append-nil}
use Rattle.std.proofs.lemmas.List.{append_cancel_left, length-map}
use Rattle.std.specs.Io.KnownBytes.{Appends}
use Rattle.std.specs.Prelude.{Result, Ok, Err, string_bytes}
use Rattle.term_core.specs.Stream.{WritesAll}
use Rattle.term_core.specs.declared.step.Step.{Step}
use Rattle.core_reader.specs.ModuleText.{SpellsModule}
use Rattle.core_tree.specs.Syntax.{ModuleTree}
use Rattle.core_tokens.specs.declared.fault.ReadFault.{ReadFault}
use Rattle.core_tokens.specs.declared.fault.ReadFault.TheVariants as read
use Rattle.term_core.specs.declared.schedule.ScheduleFault.{ScheduleFault}
use Rattle.term_core.specs.declared.schedule.ScheduleFault.TheVariants as schedule
use Rattle.world_model.specs.Asking.{program_of}
use Rattle.world_model.specs.Requests.{Program}
use Rattle.world_model.specs.Names.{IsAmong}
use Rattle.world_model.specs.Run.{run}
use Rattle.world_model.specs.Shown.{Flags, is_error}
use Rattle.tree_coverage.specs.Findings.{ErrorsAreOfNodes, Finding, Findings, FindingsAreSorted, RefusalsAreOfNodes}
use Rattle.tree_coverage.specs.Jobs.{RootHasAllNodes, nodes_of, root}
use Rattle.tree_coverage.specs.Trees.{NodesRun}
use Rattle.tree_coverage.proofs.Lists.{both_true, kept_passes}
use Rattle.tree_covers.specs.declared.fault.CoverFault.{CoverFault}
use Rattle.tree_covers.specs.declared.fault.CoverFault.TheVariants as cover
use Rattle.tree_excuses.specs.Excuses.{Excuses, counted, counts, excuses_in, is_excused}
use Rattle.world_identities.specs.Identities.{flags_in}
use Rattle.tree_findings.specs.declared.extent.Extent.{Extent}
use Rattle.tree_findings.specs.declared.options.Options.{Options}
use Rattle.tree_findings.specs.declared.options.Search.{Search}
use Rattle.tree_findings.specs.declared.options.Search.TheVariants.{ByTree, ByStates}
use Rattle.tree_findings.specs.declared.outcome.Outcome.{Outcome}
use Rattle.tree_findings.specs.declared.outcome.Outcome.TheVariants as outcomes
use Rattle.search_job_lines.specs.declared.fault.JobFault.{JobFault}
use Rattle.search_job_lines.specs.declared.fault.JobFault.TheVariants as job
use Rattle.search_crew.specs.declared.fault.SearchFault.{SearchFault}
use Rattle.search_crew.specs.declared.fault.SearchFault.TheVariants as search
use Rattle.report_reader.specs.declared.fault.ReportFault.{ReportFault}
use Rattle.report_reader.specs.declared.fault.ReportFault.TheVariants as report
use Rattle.world_replay.specs.Replay.{reached, stop}
use Rattle.search_crew.specs.Outcomes.{all_findings, whole_extent}
use Rattle.search_jobs.specs.Explorations.{ExplorationSeen, explored_by, program_in}
use Rattle.search_samples.specs.Samples.{SamplesAreShown}
use Rattle.search_samples.specs.declared.sample.Samples.{Samples}
use Rattle.report_text.specs.Clean.{IsCleanOfAll, all_clean_line}
use Rattle.report_text.specs.ReportText.{delivery_in}
use Rattle.tree_schedules.specs.declared.delivery.Delivery.{Delivery}
use Rattle.tree_schedules.specs.declared.delivery.Delivery.TheVariants.{AnyTime, AtOnce}
use Rattle.report_text.specs.declared.visited.Visited.{Visited}
use Rattle.report_text.specs.declared.visited.Visited.TheVariants.{Nodes, States}
use Rattle.program_words.specs.Words.{AsksExplore, AsksReplay, AsksSample, IsExplore}
use Rattle.program_words.specs.declared.words.Printed.{Printed}
use Rattle.program_words.specs.declared.words.Words.{Words}
use Rattle.program_words.specs.declared.words.Words.TheVariants.{Replay, Explore, ExploreJob, Jobs, Merge, Check, Sample}
use Rattle.program_runs.specs.Replayed.{IsReplayOf}
use Rattle.program_runs.specs.Explored.{IsCleanIfSaid, IsExplorationOf, IsExplored, IsOutcomeBy, IsReportOf, ShowsNoErrorEver, complete_verdict, delivery_by, has_cover, print_of, text_of_form, verdict_of}
use Rattle.program_runs.specs.Printing.{text_of_print}
use Rattle.program_runs.specs.Sampled.{IsSampleOf, sample_verdict, text_of_samples}
use Rattle.program_runs.specs.Program.{IsDone, Written}
use Rattle.program_runs.specs.Status.{status_of, status_of_cover_fault, status_of_fault, status_of_job_fault, status_of_read_fault, status_of_report_fault, status_of_schedule_fault, status_of_verdict}
use Rattle.program_runs.specs.Theorem.{AllMeansAll, AllPromptMeansAllPrompt, AreFoundBy, AreOfAll, AreOfTree, CleanMeansNone, CleanMeansNoPromptOne, Got, HasExactReport, HasNoError, HasNoErrorEver, HasSampleReport, HasTranscript, IsExtentBy, IsExtentOf, ProgramRun, PromptReportIsExact, ReportEndsWith, ReportIsExact, SampleIsShown, ScheduleIsLeast, TranscriptIsTheRun, findings_by, text_after, visited_by}
use Rattle.program_runs.specs.declared.verdict.RunFault.{RunFault}
use Rattle.program_runs.specs.declared.verdict.RunFault.TheVariants as run_faults
use Rattle.program_runs.specs.declared.verdict.Verdict.{Verdict}
use Rattle.program_runs.specs.declared.verdict.Verdict.TheVariants.{Done, Clean, Errors, Incomplete}
use Rattle.program_runs.proofs.StatesLaws.{errors_of_states, refusals_of_states}
use Rattle.program_runs.proofs.ReportEnds.{before_cover, clean_of_all, report_ends, said}

-- ---- numbers

at_two : 2 ≤ 2
at_two = omega arith

at_three : 2 ≤ 3
at_three = omega arith

at_four : 2 ≤ 4
at_four = omega arith

one_is_not : ◌≡◌ {A = ℕ} 1 0 → ⊥
one_is_not e = omega (arith, e)

three_is_not : ◌≡◌ {A = ℕ} 3 0 → ⊥
three_is_not e = omega (arith, e)

three_is_more : 3 ≤ 1 → ⊥
three_is_more e = omega (arith, e)

zero_is_less : ◌≡◌ {A = ℕ} 0 1 → ⊥
zero_is_less e = omega (arith, e)

three_is_no_one : ◌≡◌ {A = ℕ} 3 1 → ⊥
three_is_no_one e = omega (arith, e)

one_is_low : 1 ≤ 1
one_is_low = omega arith

zero_is_low : 0 ≤ 1
zero_is_low = omega arith

-- ---- a fault has a status of at least 2

of_read : (f : ReadFault) → 2 ≤ status_of_read_fault f
of_read read.Memory = at_three
of_read _ = at_two

of_schedule : (f : ScheduleFault) → 2 ≤ status_of_schedule_fault f
of_schedule (schedule.BadStep at) = at_two
of_schedule schedule.Memory = at_three

of_cover : (f : CoverFault) → 2 ≤ status_of_cover_fault f
of_cover cover.Memory = at_three
of_cover _ = at_two

of_job : (f : JobFault) → 2 ≤ status_of_job_fault f
of_job job.Memory = at_three
of_job _ = at_two

of_report : (f : ReportFault) → 2 ≤ status_of_report_fault f
of_report report.Memory = at_three
of_report _ = at_two

of_search : (f : SearchFault) → 2 ≤ status_of_fault (run_faults.Explore f)
of_search search.Memory = at_three
of_search search.NoThread = at_three
of_search search.StrangePool = at_three

of_fault : (f : RunFault) → 2 ≤ status_of_fault f
of_fault (run_faults.Input fault) = of_read fault
of_fault run_faults.ReadFailed = at_two
of_fault (run_faults.Schedule fault) = of_schedule fault
of_fault (run_faults.NotEnabled step) = at_two
of_fault run_faults.ReplayCutOff = at_three
of_fault (run_faults.Explore fault) = of_search fault
of_fault (run_faults.Cover fault) = of_cover fault
of_fault (run_faults.Job fault) = of_job fault
of_fault (run_faults.Report fault) = of_report fault
of_fault run_faults.ReportCutOff = at_three
of_fault run_faults.CoverCutOff = at_three
of_fault run_faults.Output = at_four

no_fault : (f : RunFault) (n : ℕ) → status_of_fault f ≡ n → n ≤ 1 → ⊥
no_fault f n e low = omega (arith, of_fault f, e, low)

-- ---- clean means none

-- an exploration does not end as a replay does
never_done : (x : Excuses) (o : Outcome) → Done ≡ verdict_of x o → ⊥
never_done x (outcomes.Complete findings extent) e = go (counted x findings.errors) e
  where
    go : (fs : List Finding) → Done ≡ complete_verdict fs → ⊥
    go [] e = absurd cc
    go (f ∷ fs) e = absurd cc
never_done x (outcomes.Incomplete cause findings) e = absurd cc

clean_said : (input : List ℕ) (options : Options) (x : Excuses) (what : Printed) (old new : Option (List ℕ)) (failed : Bool) (r : Result Verdict RunFault)
    → IsExplorationOf input options x what old new failed r → IsCleanIfSaid input options x r → status_of r ≡ 0 → HasNoError (delivery_by options.search) input options.depth (counts (flags_in options.flags) x)
clean_said input options x what old new failed (Ok Done) is clean good = absurd (never_done x is.outcome is.told)
clean_said input options x what old new failed (Ok Clean) is clean good = (is.explored.program, is.explored.module_text, clean refl is.explored.program is.explored.module_text)
clean_said input options x what old new failed (Ok Errors) is clean good = absurd (one_is_not good)
clean_said input options x what old new failed (Ok Incomplete) is clean good = absurd (three_is_not good)
clean_said input options x what old new failed (Err fault) is clean good = absurd (no_fault fault 0 good zero_is_low)

clean_asked : (asked : Words) (input : List ℕ) (options : Options) (x : Excuses) (what : Printed) (output : Written) (r : Result Verdict RunFault)
    → AsksExplore options x what asked → IsDone asked input output.old output.new output.failed r → status_of r ≡ 0 → HasNoError (delivery_by options.search) input options.depth (counts (flags_in options.flags) x)
clean_asked (Explore found excused prints) input options x what output r asks done good =
    subst (λ (o : Options). HasNoError (delivery_by o.search) input o.depth (counts (flags_in o.flags) x)) asks.0
    (subst (λ (y : Excuses). HasNoError (delivery_by found.search) input found.depth (counts (flags_in found.flags) y)) asks.1.0 (clean_said input found (excuses_in excused) prints output.old output.new output.failed r done.0 done.1 good))
clean_asked (Replay schedule) input options x what output r asks done good = absurd asks
clean_asked (ExploreJob found excused line) input options x what output r asks done good = absurd asks
clean_asked (Jobs depth) input options x what output r asks done good = absurd asks
clean_asked (Merge depth at flags excused) input options x what output r asks done good = absurd asks
clean_asked (Check depth flags excused) input options x what output r asks done good = absurd asks
clean_asked (Sample samples excused prints) input options x what output r asks done good = absurd asks

clean_by : (r : ProgramRun) (options : Options) (x : Excuses) (what : Printed) → IsExplore r.words options x what → r.status ≡ 0 → HasNoError (delivery_by options.search) r.input options.depth (counts (flags_in options.flags) x)
clean_by r options x what e good =
    let u = r.is_run in
    clean_asked u.asked r.input options x what r.output u.outcome (u.explore options x what e) u.run (sym u.status_is ∙ good)

pub clean_means_none : CleanMeansNone
clean_means_none r options x what e by good = subst (λ d. HasNoError d r.input options.depth (counts (flags_in options.flags) x)) by (clean_by r options x what e good)

pub clean_means_no_prompt_one : CleanMeansNoPromptOne
clean_means_no_prompt_one r options x what e by good = subst (λ d. HasNoError d r.input options.depth (counts (flags_in options.flags) x)) by (clean_by r options x what e good)

-- ---- a report of all nodes

-- what the search of all nodes found was written
record IsWholeReport (input : List ℕ) (options : Options) (x : Excuses) (what : Printed) (output : Written) : Type 0 where
  visited : Visited
  findings : Findings
  extent : Extent
  explored : IsExplored input options x visited (outcomes.Complete findings extent)
  written : WritesAll output.old output.new output.failed (text_of_print (print_of what visited (program_of explored.program) options.depth x (outcomes.Complete findings extent)))
  of_all : IsCleanOfAll x (outcomes.Complete findings extent) → (m : ModuleTree) → SpellsModule input m → ShowsNoErrorEver m options x

complete_report : (input : List ℕ) (options : Options) (x : Excuses) (what : Printed) (output : Written) (verdict : Verdict) (is : IsReportOf input options x what output.old output.new output.failed verdict)
    → (verdict ≡ Incomplete → ⊥) → IsWholeReport input options x what output
complete_report input options x what output verdict is whole = go is.visited is.outcome is.explored is.written is.told is.of_all
  where
    go : (v : Visited) (o : Outcome) (explored : IsExplored input options x v o) → WritesAll output.old output.new output.failed (text_of_print (print_of what v (program_of explored.program) options.depth x o)) → verdict ≡ verdict_of x o
        → (IsCleanOfAll x o → (m : ModuleTree) → SpellsModule input m → ShowsNoErrorEver m options x) → IsWholeReport input options x what output
    go v (outcomes.Complete findings extent) explored written told of_all = record { visited = v; findings = findings; extent = extent; explored = explored; written = written; of_all = of_all }
    go v (outcomes.Incomplete cause findings) explored written told of_all = absurd (whole told)

whole_said : (input : List ℕ) (options : Options) (x : Excuses) (what : Printed) (output : Written) (r : Result Verdict RunFault)
    → IsExplorationOf input options x what output.old output.new output.failed r → status_of r ≤ 1 → IsWholeReport input options x what output
whole_said input options x what output (Ok Done) is low = absurd (never_done x is.outcome is.told)
whole_said input options x what output (Ok Clean) is low = complete_report input options x what output Clean is (λ e. absurd cc)
whole_said input options x what output (Ok Errors) is low = complete_report input options x what output Errors is (λ e. absurd cc)
whole_said input options x what output (Ok Incomplete) is low = absurd (three_is_more low)
whole_said input options x what output (Err fault) is low = absurd (no_fault fault (status_of_fault fault) refl low)

whole_asked : (asked : Words) (input : List ℕ) (options : Options) (x : Excuses) (what : Printed) (output : Written) (r : Result Verdict RunFault)
    → AsksExplore options x what asked → IsDone asked input output.old output.new output.failed r → status_of r ≤ 1 → IsWholeReport input options x what output
whole_asked (Explore found excused prints) input options x what output r asks done low =
    subst (λ (o : Options). IsWholeReport input o x what output) asks.0
    (subst (λ (y : Excuses). IsWholeReport input found y what output) asks.1.0
    (subst (λ (p : Printed). IsWholeReport input found (excuses_in excused) p output) asks.1.1 (whole_said input found (excuses_in excused) prints output r done.0 low)))
whole_asked (Replay schedule) input options x what output r asks done low = absurd asks
whole_asked (ExploreJob found excused line) input options x what output r asks done low = absurd asks
whole_asked (Jobs depth) input options x what output r asks done low = absurd asks
whole_asked (Merge depth at flags excused) input options x what output r asks done low = absurd asks
whole_asked (Check depth flags excused) input options x what output r asks done low = absurd asks
whole_asked (Sample samples excused prints) input options x what output r asks done low = absurd asks

-- 0 and 1 are at most 1
low_status : (status n : ℕ) → status ≡ n → (status ≡ 0) ⊎ (status ≡ 1) → n ≤ 1
low_status status n e (inl good) = omega (arith, e, good)
low_status status n e (inr one) = omega (arith, e, one)

whole_report : (r : ProgramRun) (options : Options) (x : Excuses) (what : Printed) → IsExplore r.words options x what → (r.status ≡ 0) ⊎ (r.status ≡ 1) → IsWholeReport r.input options x what r.output
whole_report r options x what e low =
    let u = r.is_run in
    whole_asked u.asked r.input options x what r.output u.outcome (u.explore options x what e) u.run (low_status r.status (status_of u.outcome) u.status_is low)

-- ---- the report is exact

-- what the laws of the tree say of what its nodes show
pub record TreeLaws : Type 0 where
  pub sorted : FindingsAreSorted
  pub runs : NodesRun
  pub errors : ErrorsAreOfNodes
  pub refusals : RefusalsAreOfNodes
  pub root : RootHasAllNodes

errors_of_tree : TreeLaws → (e : ExplorationSeen) → AreOfTree (program_in e) e.depth (all_findings e).errors
errors_of_tree law e =
    let least = law.errors e.flags (program_in e) e.depth in
    record { each_once = (law.sorted e.flags (program_in e) e.depth).0; short = λ f there. (law.runs (program_in e) e.depth f.schedule (least f there).is_among).0; least = least }

refusals_of_tree : TreeLaws → (e : ExplorationSeen) → AreOfTree (program_in e) e.depth (all_findings e).refusals
refusals_of_tree law e =
    let least = law.refusals e.flags (program_in e) e.depth in
    record { each_once = (law.sorted e.flags (program_in e) e.depth).1; short = λ f there. (law.runs (program_in e) e.depth f.schedule (least f there).is_among).0; least = least }

-- the nodes of the root are those of the tree
extent_of_tree : TreeLaws → (e : ExplorationSeen) → IsExtentOf (program_in e) e.depth (whole_extent e)
extent_of_tree law e = record {
  nodes = sym (length-map (nodes_of (program_in e) e.depth root) (λ v. v.schedule)) ∙ ap length (law.root (program_in e) e.depth);
  cut = refl;
}

-- what the search found, by the tree or by states
module _ (law : TreeLaws) (e : ExplorationSeen) (limit : ℕ) (findings : Findings) (extent : Extent) where
  abbrev Comes : Search → Visited → Type 0
  Comes s v = IsOutcomeBy s e limit v (outcomes.Complete findings extent)

  errors_found : (s : Search) (v : Visited) → Comes s v → AreFoundBy s (program_in e) e.depth findings.errors
  errors_found ByTree Nodes is = subst (λ (fs : Findings). AreOfTree (program_in e) e.depth fs.errors) (sym is.0) (errors_of_tree law e)
  errors_found ByTree (States delivery whole_to) is = absurd is
  errors_found (ByStates d) Nodes is = absurd is
  errors_found (ByStates d) (States delivery whole_to) is = subst (λ (fs : Findings). AreOfAll d (program_in e) e.depth fs.errors) (sym is.1.0) (errors_of_states d e)

  refusals_found : (s : Search) (v : Visited) → Comes s v → AreFoundBy s (program_in e) e.depth findings.refusals
  refusals_found ByTree Nodes is = subst (λ (fs : Findings). AreOfTree (program_in e) e.depth fs.refusals) (sym is.0) (refusals_of_tree law e)
  refusals_found ByTree (States delivery whole_to) is = absurd is
  refusals_found (ByStates d) Nodes is = absurd is
  refusals_found (ByStates d) (States delivery whole_to) is = subst (λ (fs : Findings). AreOfAll d (program_in e) e.depth fs.refusals) (sym is.1.0) (refusals_of_states d e)

  settled_by : (s : Search) (v : Visited) → Comes s v → findings ≡ findings_by s e
  settled_by ByTree Nodes is = is.0
  settled_by ByTree (States delivery whole_to) is = absurd is
  settled_by (ByStates d) Nodes is = absurd is
  settled_by (ByStates d) (States delivery whole_to) is = is.1.0

  extent_by : (s : Search) (v : Visited) → Comes s v → IsExtentBy s (program_in e) e.depth extent
  extent_by ByTree Nodes is = subst (IsExtentOf (program_in e) e.depth) (sym is.1) (extent_of_tree law e)
  extent_by ByTree (States delivery whole_to) is = absurd is
  extent_by (ByStates d) Nodes is = absurd is
  extent_by (ByStates d) (States delivery whole_to) is = is.1.1

  visited_is : (s : Search) (v : Visited) → Comes s v → v ≡ visited_by s e.depth
  visited_is ByTree Nodes is = refl
  visited_is ByTree (States delivery whole_to) is = absurd is
  visited_is (ByStates d) Nodes is = absurd is
  visited_is (ByStates d) (States delivery whole_to) is = λ i. States (is.0 i) (is.1.3 i)

-- of one search the schedules that are followed and those that are told deliver signals alike
told_alike : (s : Search) (n : ℕ) → delivery_in (visited_by s n) ≡ delivery_by s
told_alike ByTree n = refl
told_alike (ByStates d) n = refl

exact_by : TreeLaws → (r : ProgramRun) (options : Options) (x : Excuses) (what : Printed) → IsExplore r.words options x what → (r.status ≡ 0) ⊎ (r.status ≡ 1) → HasExactReport (delivery_by options.search) r.input options x what r.output
exact_by law r options x what e low =
    let is = whole_report r options x what e low in
    let seen : ExplorationSeen = explored_by is.explored.program options in
    let comes = is.explored.is_outcome in
    record {
      program = is.explored.program;
      module_text = is.explored.module_text;
      findings = is.findings;
      extent = is.extent;
      exact = is.explored.is_exact;
      of_all = is.explored.is_whole;
      errors = errors_found law seen options.nodes is.findings is.extent options.search is.visited comes;
      refusals = refusals_found law seen options.nodes is.findings is.extent options.search is.visited comes;
      settled = settled_by law seen options.nodes is.findings is.extent options.search is.visited comes;
      size = extent_by law seen options.nodes is.findings is.extent options.search is.visited comes;
      got = subst (λ (v : Visited). Got r.output (text_of_print (print_of what v (program_of is.explored.program) options.depth x (outcomes.Complete is.findings is.extent))))
          (visited_is law seen options.nodes is.findings is.extent options.search is.visited comes) is.written;
    }

pub report_is_exact : TreeLaws → ReportIsExact
report_is_exact law r options x what e by low = subst (λ d. HasExactReport d r.input options x what r.output) by (exact_by law r options x what e low)

pub prompt_report_is_exact : TreeLaws → PromptReportIsExact
prompt_report_is_exact law r options x what e by low = subst (λ d. HasExactReport d r.input options x what r.output) by (exact_by law r options x what e low)

-- ---- the schedule is the least of all

pub schedule_is_least : TreeLaws → ScheduleIsLeast
schedule_is_least law r options x what d e by_states low =
    let is = exact_by law r options x what e low in
    let a : Program = program_of is.program in
    record {
      program = is.program;
      module_text = is.module_text;
      findings = is.findings;
      extent = is.extent;
      errors = (subst (λ (s : Search). AreFoundBy s a options.depth is.findings.errors) by_states is.errors).least;
      refusals = (subst (λ (s : Search). AreFoundBy s a options.depth is.findings.refusals) by_states is.refusals).least;
      got = subst (λ (s : Search). Got r.output (text_of_print (print_of what (visited_by s options.depth) a options.depth x (outcomes.Complete is.findings is.extent)))) by_states is.got;
    }

-- ---- all means all

-- an output that reports its bytes got one text
one_text : (before : List ℕ) (old new : Option (List ℕ)) (s t : List ℕ) → old ≡ Some before → Appends old new s → Appends old new t → s ≡ t
one_text before old new s t is p q = go new (subst (λ (o : Option (List ℕ)). Appends o new s) is p) (subst (λ (o : Option (List ℕ)). Appends o new t) is q)
  where
    go : (end : Option (List ℕ)) → Appends (Some before) end s → Appends (Some before) end t → s ≡ t
    go None a b = absurd a
    go (Some all) a b = append_cancel_left before s t (sym a ∙ b)

-- a report that ends with the line is clean of all schedules that deliver signals so
all_said : (w : Delivery) (input : List ℕ) (options : Options) (x : Excuses) (what : Printed) (output : Written) (is : IsWholeReport input options x what output) → ReportEndsWith (all_clean_line w) output → (delivery_in is.visited ≡ w) × IsCleanOfAll x (outcomes.Complete is.findings is.extent)
all_said w input options x what output is ends = clean_of_all what is.visited w a options.depth x is.findings is.extent ends.front
    (before_cover w (has_cover what (verdict_of x outcome)) a options.depth (text_of_form what is.visited a options.depth x outcome) ends.front ends.cover (report_ends what is.visited a options.depth x is.findings is.extent)
    (one_text ends.before output.old output.new (text_of_print (print_of what is.visited a options.depth x outcome)) (ends.front ++ (said w ++ text_after ends.cover)) ends.reports is.written.appends ends.got.appends))
  where
    a : Program
    a = program_of is.explored.program

    outcome : Outcome
    outcome = outcomes.Complete is.findings is.extent

all_by : TreeLaws → (w : Delivery) (r : ProgramRun) (options : Options) (x : Excuses) (what : Printed) → IsExplore r.words options x what → (r.status ≡ 0) ⊎ (r.status ≡ 1) → ReportEndsWith (all_clean_line w) r.output → HasNoErrorEver w r.input (counts (flags_in options.flags) x)
all_by law w r options x what e low ends =
    let is = whole_report r options x what e low in
    let seen : ExplorationSeen = explored_by is.explored.program options in
    let told = all_said w r.input options x what r.output is ends in
    let visited = visited_is law seen options.nodes is.findings is.extent options.search is.visited is.explored.is_outcome in
    let by : delivery_by options.search ≡ w = sym (told_alike options.search options.depth) ∙ ap delivery_in (sym visited) ∙ told.0 in
    subst (λ d. HasNoErrorEver d r.input (counts (flags_in options.flags) x)) by (is.explored.program, is.explored.module_text, is.of_all told.1 is.explored.program is.explored.module_text)

pub all_means_all : TreeLaws → AllMeansAll
all_means_all law = all_by law AnyTime

pub all_prompt : TreeLaws → AllPromptMeansAllPrompt
all_prompt law = all_by law AtOnce

-- ---- what a sample reports is shown

-- where the errors that count make its verdict, one of those that are listed counts
one_counts : (flags : Flags) (x : Excuses) (fs : List Finding) → ((f : Finding) → IsAmong f fs → is_error flags f.identity ≡ true) → Errors ≡ sample_verdict (counted x fs)
    → (f : Finding) × IsAmong f fs × (counts flags x f.identity ≡ true)
one_counts flags x fs are told = go (counted x fs) (λ f there. there) told
  where
    go : (gs : List Finding) → ((f : Finding) → IsAmong f gs → IsAmong f (counted x fs)) → Errors ≡ sample_verdict gs → (f : Finding) × IsAmong f fs × (counts flags x f.identity ≡ true)
    go [] within told = absurd cc
    go (g ∷ gs) within told =
        let k : (not (is_excused x g.identity) ≡ true) × IsAmong g fs = kept_passes (λ (f : Finding). not (is_excused x f.identity)) fs g (within g (inl refl)) in
        (g, k.1, both_true (is_error flags g.identity) (not (is_excused x g.identity)) (are g k.1) k.0)

sample_said : SamplesAreShown → (input : List ℕ) (samples : Samples) (x : Excuses) (what : Printed) (output : Written) (r : Result Verdict RunFault)
    → IsSampleOf input samples x what output.old output.new output.failed r → status_of r ≡ 1 → HasSampleReport input samples x what output
sample_said law input samples x what output (Ok Done) is one = absurd (zero_is_less one)
sample_said law input samples x what output (Ok Clean) is one = absurd (zero_is_less one)
sample_said law input samples x what output (Ok Errors) is one =
    let a : Program = program_of is.sampled.program in
    let shown = law (flags_in samples.flags) samples.delivery a samples.depth samples.runs is.findings is.sampled.are_found in
    record {
      program = is.sampled.program;
      module_text = is.sampled.module_text;
      findings = is.findings;
      found = is.sampled.are_found;
      errors = shown.0;
      refusals = shown.1;
      one_counts = one_counts (flags_in samples.flags) x is.findings.errors (λ f there. (shown.0 f there).0) is.told;
      got = subst (λ (t : List ℕ). WritesAll output.old output.new output.failed t) (append-nil (text_of_samples what samples a x is.findings)) is.written;
    }
sample_said law input samples x what output (Ok Incomplete) is one = absurd (three_is_no_one one)
sample_said law input samples x what output (Err fault) is one = absurd (no_fault fault 1 one one_is_low)

-- whatever is found, it is never clean
never_clean : (fs : List Finding) → status_of_verdict (sample_verdict fs) ≡ 0 → ⊥
never_clean [] e = three_is_not e
never_clean (f ∷ fs) e = one_is_not e

sample_never : (input : List ℕ) (samples : Samples) (x : Excuses) (what : Printed) (output : Written) (r : Result Verdict RunFault)
    → IsSampleOf input samples x what output.old output.new output.failed r → status_of r ≡ 0 → ⊥
sample_never input samples x what output (Ok verdict) is good = never_clean (counted x is.findings.errors) (ap status_of_verdict (sym is.told) ∙ good)
sample_never input samples x what output (Err fault) is good = no_fault fault 0 good zero_is_low

sample_asked : SamplesAreShown → (asked : Words) (input : List ℕ) (samples : Samples) (x : Excuses) (what : Printed) (output : Written) (r : Result Verdict RunFault)
    → AsksSample samples x what asked → IsDone asked input output.old output.new output.failed r → (status_of r ≡ 0 → ⊥) × (status_of r ≡ 1 → HasSampleReport input samples x what output)
sample_asked law (Sample found excused prints) input samples x what output r asks done = (
  λ good. sample_never input found (excuses_in excused) prints output r done good,
  λ one.
      subst (λ (s : Samples). HasSampleReport input s x what output) asks.0
      (subst (λ (y : Excuses). HasSampleReport input found y what output) asks.1.0
      (subst (λ (p : Printed). HasSampleReport input found (excuses_in excused) p output) asks.1.1 (sample_said law input found (excuses_in excused) prints output r done one))),
)
sample_asked law (Replay schedule) input samples x what output r asks done = absurd asks
sample_asked law (Explore found excused prints) input samples x what output r asks done = absurd asks
sample_asked law (ExploreJob found excused line) input samples x what output r asks done = absurd asks
sample_asked law (Jobs depth) input samples x what output r asks done = absurd asks
sample_asked law (Merge depth at flags excused) input samples x what output r asks done = absurd asks
sample_asked law (Check depth flags excused) input samples x what output r asks done = absurd asks

pub sample_is_shown : SamplesAreShown → SampleIsShown
sample_is_shown law r samples x what e =
    let u = r.is_run in
    let is = sample_asked law u.asked r.input samples x what r.output u.outcome (u.sample samples x what e) u.run in
    (λ good. is.0 (sym u.status_is ∙ good), λ one. is.1 (sym u.status_is ∙ one))

-- ---- the transcript is the run

transcript_said : ((a : Program) (steps : List Step) → stop a steps ≡ None → run a steps ≡ Some (reached a steps)) → (input word : List ℕ) (output : Written) (r : Result Verdict RunFault)
    → IsReplayOf input word output.old output.new output.failed r → status_of r ≡ 0 → HasTranscript input word output
transcript_said whole input word output (Ok Done) is good = record {
  program = is.program;
  steps = is.steps;
  given = is.given;
  history = reached (program_of is.program) is.steps;
  runs = whole (program_of is.program) is.steps is.end.0;
  got = is.end.1;
}
transcript_said whole input word output (Ok Clean) is good = absurd is
transcript_said whole input word output (Ok Errors) is good = absurd is
transcript_said whole input word output (Ok Incomplete) is good = absurd is
transcript_said whole input word output (Err fault) is good = absurd (no_fault fault 0 good zero_is_low)

transcript_asked : ((a : Program) (steps : List Step) → stop a steps ≡ None → run a steps ≡ Some (reached a steps)) → (asked : Words) (input word : List ℕ) (output : Written) (r : Result Verdict RunFault)
    → AsksReplay word asked → IsDone asked input output.old output.new output.failed r → status_of r ≡ 0 → HasTranscript input word output
transcript_asked whole (Replay schedule) input word output r asks done good = subst (λ (w : List ℕ). HasTranscript input w output) asks (transcript_said whole input (string_bytes schedule) output r done good)
transcript_asked whole (Explore found excused prints) input word output r asks done good = absurd asks
transcript_asked whole (ExploreJob found excused line) input word output r asks done good = absurd asks
transcript_asked whole (Jobs depth) input word output r asks done good = absurd asks
transcript_asked whole (Merge depth at flags excused) input word output r asks done good = absurd asks
transcript_asked whole (Check depth flags excused) input word output r asks done good = absurd asks
transcript_asked whole (Sample samples excused prints) input word output r asks done good = absurd asks

pub transcript_is_the_run : ((a : Program) (steps : List Step) → stop a steps ≡ None → run a steps ≡ Some (reached a steps)) → TranscriptIsTheRun
transcript_is_the_run whole r word e good =
    let u = r.is_run in
    transcript_asked whole u.asked r.input word r.output u.outcome (u.replay word e) u.run (sym u.status_is ∙ good)
