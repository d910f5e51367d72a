-- What the program promises, in ten statements about each of its runs.
use Rattle.std.specs.Prelude.{◌≡◌, ◌⊎◌, ◌≤◌, ℕ, Bool, true, List, [], ◌∷◌, ◌++◌, length, codes, Option, Some, None}
use Rattle.term_core.specs.Meaning.{Meaning}
use Rattle.term_core.specs.Stream.{WritesAll}
use Rattle.term_core.specs.declared.step.Step.{Step}
use Rattle.core_calls.specs.declared.call.CallKind.{CallKind}
use Rattle.core_reader.specs.ModuleText.{SpellsModule}
use Rattle.core_tree.specs.Syntax.{ModuleTree}
use Rattle.world_model.specs.Asking.{program_of}
use Rattle.world_model.specs.Calls.{call_of}
use Rattle.world_model.specs.Events.{Event, History}
use Rattle.world_model.specs.Headline.{IsTableCall, first_rule, judged_by}
use Rattle.world_model.specs.Names.{IsAmong, Pid}
use Rattle.world_model.specs.Requests.{Program}
use Rattle.world_model.specs.Run as schedules
use Rattle.world_model.specs.Run.{run}
use Rattle.world_model.specs.Shown.{Identity, is_error, is_refusal}
use Rattle.tree_coverage.specs.Covers.{Lines}
use Rattle.tree_coverage.specs.Findings.{AreSorted, Finding, Findings, IsLeast}
use Rattle.tree_coverage.specs.Trees.{node_count, nodes}
use Rattle.tree_covers.specs.CoverText.{text_of_cover}
use Rattle.tree_cuts.specs.Cuts.{cuts_of}
use Rattle.tree_excuses.specs.Excuses.{Excuses, counts}
use Rattle.world_identities.specs.Identities.{flags_in}
use Rattle.tree_findings.specs.declared.extent.Extent.{Extent}
use Rattle.tree_findings.specs.declared.options.Options.{Options}
use Rattle.tree_findings.specs.declared.options.Search.{Search}
use Rattle.tree_findings.specs.declared.options.Search.TheVariants.{ByTree, ByStates}
use Rattle.tree_findings.specs.declared.outcome.Outcome.TheVariants.{Complete}
use Rattle.search_crew.specs.Outcomes.{all_findings}
use Rattle.search_jobs.specs.Explorations.{ExplorationSeen, explored_by, program_in}
use Rattle.search_levels.specs.Searched.{TellsReach}
use Rattle.search_samples.specs.Samples.{AreOfSamples, IsShownBeside}
use Rattle.search_samples.specs.declared.sample.Samples.{Samples}
use Rattle.tree_schedules.specs.Schedules.{IsEverShownBy, IsLeastOfAll, findings_of_all}
use Rattle.tree_schedules.specs.declared.delivery.Delivery.{Delivery}
use Rattle.tree_schedules.specs.declared.delivery.Delivery.TheVariants.{AnyTime, AtOnce}
use Rattle.report_text.specs.declared.visited.Visited.{Visited}
use Rattle.report_text.specs.declared.visited.Visited.TheVariants.{Nodes, States}
use Rattle.world_event_text.specs.EventText.{text_of_events}
use Rattle.program_words.specs.Words.{IsExplore, IsReplay, IsSample}
use Rattle.program_words.specs.declared.words.Printed.{Printed}
use Rattle.program_runs.specs.Replayed.{IsGiven}
use Rattle.program_runs.specs.Explored.{IsListedBy, IsListedOfAllBy, ShowsNothingBy, delivery_by, print_of}
use Rattle.program_runs.specs.Printing.{text_of_print}
use Rattle.program_runs.specs.Program.{IsRun, Written}
use Rattle.program_runs.specs.Sampled.{text_of_samples}

-- a run of the program: its words, the bytes of its input and whether a read has failed, what its two outputs got, and its status
pub record ProgramRun : Type 0 where
  pub words : List (List ℕ)
  pub input : List ℕ
  pub failed : Bool
  pub output : Written
  pub errors : Written
  pub status : ℕ
  pub is_run : IsRun words (Some input) failed output errors status

-- the output got this text, and nothing more
abbrev pub Got : Written → List ℕ → Type 0
Got output text = WritesAll output.old output.new output.failed text

-- these bytes are the text of a module, no schedule of which that delivers signals so and has at most so many steps shows anything that counts as an error
abbrev pub HasNoError : Delivery → List ℕ → ℕ → (Identity → Bool) → Type 0
HasNoError d text depth is_counted = (m : ModuleTree) × SpellsModule text m × ShowsNothingBy d is_counted (program_of m) depth

-- these bytes are the text of a module, no schedule of which that delivers signals so shows anything that counts as an error, whatever its length
abbrev pub HasNoErrorEver : Delivery → List ℕ → (Identity → Bool) → Type 0
HasNoErrorEver d text is_counted = (m : ModuleTree) × SpellsModule text m × ((i : Identity) → is_counted i ≡ true → IsEverShownBy d (program_of m) i → ⊥)

-- what comes after a report: nothing, or a cover
abbrev pub text_after : Option Lines → List ℕ
text_after None = []
text_after (Some lines) = text_of_cover lines

-- the output, which reports its bytes, got a text that ends with this line, or with this line and a cover after it, whatever comes before the line
pub record ReportEndsWith (line : List ℕ) (output : Written) : Type 0 where
  pub before : List ℕ
  pub reports : output.old ≡ Some before
  pub front : List ℕ
  pub cover : Option Lines
  pub got : Got output (front ++ (line ++ text_after cover))

-- each finding is listed once, in their order; beside it is a schedule of at most so many steps, that of a node of the tree to this depth, which shows it; and no schedule of a node that shows it is less
pub record AreOfTree (a : Program) (depth : ℕ) (fs : List Finding) : Type 0 where
  pub each_once : AreSorted fs
  pub short : (f : Finding) → IsAmong f fs → length f.schedule ≤ depth
  pub least : (f : Finding) → IsAmong f fs → IsLeast a (nodes a depth) f

-- the tree to this depth has so many nodes, and it is cut at so many of them
pub record IsExtentOf (a : Program) (depth : ℕ) (extent : Extent) : Type 0 where
  pub nodes : extent.nodes ≡ node_count a depth
  pub cut : extent.cut ≡ cuts_of a depth

-- each finding is listed once, in their order; beside it is the least of all schedules that deliver signals so, show it and have at most so many steps
pub record AreOfAll (d : Delivery) (a : Program) (depth : ℕ) (fs : List Finding) : Type 0 where
  pub each_once : AreSorted fs
  pub least : (f : Finding) → IsAmong f fs → IsLeastOfAll d a depth f

-- ---- by each search

-- what is listed, by the tree or by states
abbrev pub AreFoundBy : Search → Program → ℕ → List Finding → Type 0
AreFoundBy ByTree a depth fs = AreOfTree a depth fs
AreFoundBy (ByStates d) a depth fs = AreOfAll d a depth fs

-- all that is listed: what the nodes of the tree show, or all schedules
abbrev pub findings_by : Search → ExplorationSeen → Findings
findings_by ByTree e = all_findings e
findings_by (ByStates d) e = findings_of_all e.flags d (program_in e) e.depth

-- how far it came: the nodes and the cuts are those of the tree, or the cuts tell whether some schedule is longer
abbrev pub IsExtentBy : Search → Program → ℕ → Extent → Type 0
IsExtentBy ByTree a depth extent = IsExtentOf a depth extent
IsExtentBy (ByStates d) a depth extent = TellsReach d a depth extent.cut

-- what the report tells of the way: nodes of the tree, or states, with all schedules to the depth
abbrev pub visited_by : Search → ℕ → Visited
visited_by ByTree depth = Nodes
visited_by (ByStates d) depth = States d depth

-- the output got the report of these findings and of this extent. Of the schedules that deliver signals so, an error is listed exactly where some one of at most so many steps shows it, and so is a refusal; where nothing is cut, exactly where some one does, of whatever length. Each is listed once, with the least schedule of a node, or by states with the least of all. The module, the depth, the flags and the search settle what is listed.
pub record HasExactReport (d : Delivery) (input : List ℕ) (options : Options) (x : Excuses) (what : Printed) (output : Written) : Type 0 where
  pub program : ModuleTree
  pub module_text : SpellsModule input program
  pub findings : Findings
  pub extent : Extent
  pub exact : (i : Identity) → IsListedBy d (explored_by program options) findings i
  pub of_all : extent.cut ≡ 0 → (i : Identity) → IsListedOfAllBy d (explored_by program options) findings i
  pub errors : AreFoundBy options.search (program_of program) options.depth findings.errors
  pub refusals : AreFoundBy options.search (program_of program) options.depth findings.refusals
  pub settled : findings ≡ findings_by options.search (explored_by program options)
  pub size : IsExtentBy options.search (program_of program) options.depth extent
  pub got : Got output (text_of_print (print_of what (visited_by options.search options.depth) (program_of program) options.depth x (Complete findings extent)))

-- the output got the report of these findings, and beside each is the least of all schedules that deliver signals so and show it
pub record HasLeastSchedules (d : Delivery) (input : List ℕ) (options : Options) (x : Excuses) (what : Printed) (output : Written) : Type 0 where
  pub program : ModuleTree
  pub module_text : SpellsModule input program
  pub findings : Findings
  pub extent : Extent
  pub errors : (f : Finding) → IsAmong f findings.errors → IsLeastOfAll d (program_of program) options.depth f
  pub refusals : (f : Finding) → IsAmong f findings.refusals → IsLeastOfAll d (program_of program) options.depth f
  pub got : Got output (text_of_print (print_of what (States d options.depth) (program_of program) options.depth x (Complete findings extent)))

-- the output got the report of what so many random schedules show. Each error and each refusal is shown by the schedule beside it, which delivers signals so and has at most so many steps, and some error counts.
pub record HasSampleReport (input : List ℕ) (samples : Samples) (x : Excuses) (what : Printed) (output : Written) : Type 0 where
  pub program : ModuleTree
  pub module_text : SpellsModule input program
  pub findings : Findings
  pub found : AreOfSamples (flags_in samples.flags) samples.delivery (program_of program) samples.depth samples.runs findings
  pub errors : (f : Finding) → IsAmong f findings.errors → (is_error (flags_in samples.flags) f.identity ≡ true) × IsShownBeside samples.delivery (program_of program) samples.depth f
  pub refusals : (f : Finding) → IsAmong f findings.refusals → (is_refusal f.identity ≡ true) × IsShownBeside samples.delivery (program_of program) samples.depth f
  pub one_counts : (f : Finding) × IsAmong f findings.errors × (counts (flags_in samples.flags) x f.identity ≡ true)
  pub got : Got output (text_of_samples what samples (program_of program) x findings)

-- the output got the lines of the events of the one run of the schedule in this word
pub record HasTranscript (input word : List ℕ) (output : Written) : Type 0 where
  pub program : ModuleTree
  pub steps : List Step
  pub given : IsGiven input word program steps
  pub history : History
  pub runs : run (program_of program) steps ≡ Some history
  pub got : Got output (text_of_events history)

-- ---- the theorem

-- Clean means none: where an exploration without `--at-once` ends with status 0, no schedule of its module that has at most so many steps shows an error.
abbrev pub CleanMeansNone : Type 0
CleanMeansNone = (r : ProgramRun) (options : Options) (x : Excuses) (what : Printed) → IsExplore r.words options x what → delivery_by options.search ≡ AnyTime → r.status ≡ 0 → HasNoError AnyTime r.input options.depth (counts (flags_in options.flags) x)

-- All means all: where an exploration ends with status 0 or 1, and the last line of its report is `result: clean, all schedules`, no schedule of its module shows an error, whatever its length.
abbrev pub AllMeansAll : Type 0
AllMeansAll = (r : ProgramRun) (options : Options) (x : Excuses) (what : Printed) → IsExplore r.words options x what → (r.status ≡ 0) ⊎ (r.status ≡ 1) → ReportEndsWith (codes "result: clean, all schedules\n") r.output → HasNoErrorEver AnyTime r.input (counts (flags_in options.flags) x)

-- The report is exact: where an exploration without `--at-once` ends with status 0 or 1, it lists the errors and refusals that schedules of at most so many steps show, and no others, each once, with the least schedule of a node that shows it, or by states of all that do.
abbrev pub ReportIsExact : Type 0
ReportIsExact = (r : ProgramRun) (options : Options) (x : Excuses) (what : Printed) → IsExplore r.words options x what → delivery_by options.search ≡ AnyTime → (r.status ≡ 0) ⊎ (r.status ≡ 1) → HasExactReport AnyTime r.input options x what r.output

-- The schedule is the least of all: where an exploration by states ends with status 0 or 1, beside each finding of its report is a schedule that shows it, and none that shows it is shorter, or as long and before it step by step; with `--at-once`, no prompt one.
abbrev pub ScheduleIsLeast : Type 0
ScheduleIsLeast = (r : ProgramRun) (options : Options) (x : Excuses) (what : Printed) (d : Delivery) → IsExplore r.words options x what → options.search ≡ ByStates d → (r.status ≡ 0) ⊎ (r.status ≡ 1) → HasLeastSchedules d r.input options x what r.output

-- ---- of an exploration with `--at-once`, which says nothing of schedules that are not prompt

-- Clean means no prompt one: where it ends with status 0, no prompt schedule of its module that has at most so many steps shows an error.
abbrev pub CleanMeansNoPromptOne : Type 0
CleanMeansNoPromptOne = (r : ProgramRun) (options : Options) (x : Excuses) (what : Printed) → IsExplore r.words options x what → delivery_by options.search ≡ AtOnce → r.status ≡ 0 → HasNoError AtOnce r.input options.depth (counts (flags_in options.flags) x)

-- All prompt means all prompt: where an exploration ends with status 0 or 1, and the last line of its report is `result: clean, all prompt schedules`, no prompt schedule of its module shows an error, whatever its length.
abbrev pub AllPromptMeansAllPrompt : Type 0
AllPromptMeansAllPrompt = (r : ProgramRun) (options : Options) (x : Excuses) (what : Printed) → IsExplore r.words options x what → (r.status ≡ 0) ⊎ (r.status ≡ 1) → ReportEndsWith (codes "result: clean, all prompt schedules\n") r.output → HasNoErrorEver AtOnce r.input (counts (flags_in options.flags) x)

-- The report is exact of prompt schedules: where it ends with status 0 or 1, it lists the errors and refusals that prompt schedules of at most so many steps show, and no others, each once, with the least prompt schedule that shows it.
abbrev pub PromptReportIsExact : Type 0
PromptReportIsExact = (r : ProgramRun) (options : Options) (x : Excuses) (what : Printed) → IsExplore r.words options x what → delivery_by options.search ≡ AtOnce → (r.status ≡ 0) ⊎ (r.status ≡ 1) → HasExactReport AtOnce r.input options x what r.output

-- ---- of random schedules

-- What a sample reports is shown: where a run of `sample` ends with status 1, its report is of what as many whole schedules show as it was asked for, each error and each refusal of it is shown by the schedule beside it, which has at most so many steps and delivers signals so, and some error counts. Nothing is said of other schedules, and it never ends with status 0.
abbrev pub SampleIsShown : Type 0
SampleIsShown = (r : ProgramRun) (samples : Samples) (x : Excuses) (what : Printed) → IsSample r.words samples x what → (r.status ≡ 0 → ⊥) × (r.status ≡ 1 → HasSampleReport r.input samples x what r.output)

-- ---- of all

-- The transcript is the run: where a replay ends with status 0, it wrote the events of its schedule.
abbrev pub TranscriptIsTheRun : Type 0
TranscriptIsTheRun = (r : ProgramRun) (word : List ℕ) → IsReplay r.words word → r.status ≡ 0 → HasTranscript r.input word r.output

-- Each call of a table, in each run of each module that is read, is served with its answer where no rule fails, and else refused by the first rule that fails.
abbrev pub TablesAreJudged : Type 0
TablesAreJudged = (input : List ℕ) (m : ModuleTree) (h : History) (e : Event) (p : Pid) (kind : CallKind) (arguments : List Meaning) → SpellsModule input m → schedules.IsRun (program_of m) (e ∷ h) → IsTableCall e p kind arguments → e.deed ≡ judged_by h p kind arguments (first_rule h p (call_of kind arguments))
