-- What an exploration of the program results in, by the bytes that it is given.
use Rattle.std.specs.Prelude.{◌≡◌, ◌↔◌, ◌||◌, ℕ, Bool, true, false, List, [], ◌∷◌, Option, Result, Ok, Err, if◌then◌else◌}
use Rattle.core_tree.specs.Syntax.{ModuleTree}
use Rattle.core_reader.specs.ModuleText.{SpellsModule}
use Rattle.core_reader.specs.Refusal.{IsRefusalOf}
use Rattle.program_words.specs.declared.words.Printed.{Printed}
use Rattle.tree_covers.specs.CoverText.{text_of_cover}
use Rattle.term_core.specs.Stream.{WritesAll, BreaksOff}
use Rattle.world_model.specs.Asking.{program_of}
use Rattle.world_model.specs.Shown.{Identity, is_error, is_refusal}
use Rattle.world_model.specs.Requests.{Program}
use Rattle.tree_coverage.specs.Covers.{cover_of, lines_of}
use Rattle.tree_coverage.specs.Findings.{Finding, Findings, IsFound}
use Rattle.tree_coverage.specs.Jobs.{root}
use Rattle.tree_excuses.specs.Excuses.{Excuses, counted, counts}
use Rattle.tree_excuses.specs.Laws.{AreJudged}
use Rattle.world_identities.specs.Identities.{flags_in}
use Rattle.tree_findings.specs.declared.options.Options.{Options}
use Rattle.tree_findings.specs.declared.options.Search.{Search}
use Rattle.tree_findings.specs.declared.options.Search.TheVariants.{ByTree, ByStates}
use Rattle.tree_findings.specs.declared.outcome.Outcome.{Outcome}
use Rattle.tree_findings.specs.declared.outcome.Outcome.TheVariants as outcomes
use Rattle.report_explained.specs.Explained.{text_of_explained_report_by}
use Rattle.report_terms.specs.TermsReport.{text_of_terms_report}
use Rattle.search_crew.specs.Outcomes.{IsOutcome}
use Rattle.search_levels.specs.Searched.{IsOutcomeOfAll}
use Rattle.search_jobs.specs.Explorations.{ExplorationSeen, explored_by, program_in}
use Rattle.report_text.specs.Clean.{IsCleanOfAll}
use Rattle.report_text.specs.ReportText.{text_of_report_by}
use Rattle.report_text.specs.declared.visited.Visited.{Visited}
use Rattle.report_text.specs.declared.visited.Visited.TheVariants.{Nodes, States}
use Rattle.tree_schedules.specs.Schedules.{IsEverShownBy, IsShownBy}
use Rattle.tree_schedules.specs.declared.delivery.Delivery.{Delivery}
use Rattle.tree_schedules.specs.declared.delivery.Delivery.TheVariants.{AnyTime}
use Rattle.program_runs.specs.Ends.{WritesNothing}
use Rattle.program_runs.specs.Printing.{IsCoverCutOff, IsReportCutOff, Print, text_of_print}
use Rattle.program_runs.specs.declared.searching.Explored.{Explored}
use Rattle.program_runs.specs.declared.verdict.RunFault.{RunFault}
use Rattle.program_runs.specs.declared.verdict.RunFault.TheVariants as run
use Rattle.program_runs.specs.declared.verdict.Verdict.{Verdict}
use Rattle.program_runs.specs.declared.verdict.Verdict.TheVariants.{Done, Clean, Errors, Incomplete}

-- when signals are delivered in the schedules that a search follows
abbrev pub delivery_by : Search → Delivery
delivery_by ByTree = AnyTime
delivery_by (ByStates d) = d

-- this search of the schedules resulted in this, and went through nodes of the tree, or through states
abbrev pub IsOutcomeBy : Search → ExplorationSeen → ℕ → Visited → Outcome → Type 0
IsOutcomeBy ByTree e limit Nodes outcome = IsOutcome e limit outcome
IsOutcomeBy (ByStates d) e limit (States delivery whole_to) outcome = (delivery ≡ d) × IsOutcomeOfAll e.flags d (program_in e) e.depth limit whole_to outcome
IsOutcomeBy _ e limit _ outcome = ⊥

-- ---- what is listed, by when signals are delivered

-- an error is listed exactly where some schedule that delivers signals so shows it, of at most so many steps, and a refusal
pub record IsListedBy (d : Delivery) (e : ExplorationSeen) (findings : Findings) (i : Identity) : Type 0 where
  pub errors : IsFound i findings.errors ↔ ((is_error e.flags i ≡ true) × IsShownBy d (program_in e) e.depth i)
  pub refusals : IsFound i findings.refusals ↔ ((is_refusal i ≡ true) × IsShownBy d (program_in e) e.depth i)

-- what a complete search lists, no more and no less
abbrev pub IsExactBy : Delivery → ExplorationSeen → Outcome → Type 0
IsExactBy d e (outcomes.Complete findings extent) = (i : Identity) → IsListedBy d e findings i
IsExactBy d e (outcomes.Incomplete cause findings) = Unit {0}

-- an error is listed exactly where some schedule that delivers signals so shows it, of whatever length, and a refusal
pub record IsListedOfAllBy (d : Delivery) (e : ExplorationSeen) (findings : Findings) (i : Identity) : Type 0 where
  pub errors : IsFound i findings.errors ↔ ((is_error e.flags i ≡ true) × IsEverShownBy d (program_in e) i)
  pub refusals : IsFound i findings.refusals ↔ ((is_refusal i ≡ true) × IsEverShownBy d (program_in e) i)

-- what a complete search lists of such schedules of whatever length, where none is cut off
abbrev pub IsWholeBy : Delivery → ExplorationSeen → Outcome → Type 0
IsWholeBy d e (outcomes.Complete findings extent) = extent.cut ≡ 0 → (i : Identity) → IsListedOfAllBy d e findings i
IsWholeBy d e (outcomes.Incomplete cause findings) = Unit {0}

-- what counts as an error, and what is taken as normal, is listed exactly where some such schedule of at most so many steps shows it, and where none is cut off, where some does, of whatever length
abbrev pub IsJudged : Delivery → ExplorationSeen → Excuses → Outcome → Type 0
IsJudged d e x (outcomes.Complete findings extent) =
    AreJudged e.flags x (IsShownBy d (program_in e) e.depth) findings.errors × (extent.cut ≡ 0 → AreJudged e.flags x (IsEverShownBy d (program_in e)) findings.errors)
IsJudged d e x (outcomes.Incomplete cause findings) = Unit {0}

-- ---- an exploration

-- the input is a module, and the search of its schedules resulted in this
pub record IsExplored (input : List ℕ) (options : Options) (x : Excuses) (visited : Visited) (outcome : Outcome) : Type 0 where
  pub program : ModuleTree
  pub module_text : SpellsModule input program
  pub is_outcome : IsOutcomeBy options.search (explored_by program options) options.nodes visited outcome
  pub is_exact : IsExactBy (delivery_by options.search) (explored_by program options) outcome
  pub is_whole : IsWholeBy (delivery_by options.search) (explored_by program options) outcome
  pub is_judged : IsJudged (delivery_by options.search) (explored_by program options) x outcome

-- of all nodes: whether there are errors that count
abbrev pub complete_verdict : List Finding → Verdict
complete_verdict [] = Clean
complete_verdict (f ∷ fs) = Errors

abbrev pub verdict_of : Excuses → Outcome → Verdict
verdict_of x (outcomes.Complete findings extent) = complete_verdict (counted x findings.errors)
verdict_of x (outcomes.Incomplete cause findings) = Incomplete

-- a cover follows a report where it is asked for, and all nodes are without an error
abbrev pub has_cover : Printed → Verdict → Bool
has_cover what Done = false
has_cover what Clean = what.cover
has_cover what Errors = false
has_cover what Incomplete = false

abbrev pub cover_if : Bool → Program → ℕ → List ℕ
cover_if true a n = text_of_cover (lines_of (cover_of a n root))
cover_if false a n = []

-- the report as text, explained where that is asked for
abbrev pub report_as_text : Printed → Visited → Program → ℕ → Excuses → Outcome → List ℕ
report_as_text what visited a n x outcome = if what.explained then text_of_explained_report_by visited a n x outcome else text_of_report_by visited n x outcome

-- the report, as terms where that is asked for, and else as text
abbrev pub text_of_form : Printed → Visited → Program → ℕ → Excuses → Outcome → List ℕ
text_of_form what visited a n x outcome = if what.terms then text_of_terms_report visited a n x outcome else report_as_text what visited a n x outcome

-- what was found is explained, in text or in terms, which hold as much
abbrev pub explains : Printed → Bool
explains what = what.terms || what.explained

-- what an exploration prints
abbrev pub print_of : Printed → Visited → Program → ℕ → Excuses → Outcome → Print
print_of what visited a n x outcome = record {
  report = text_of_form what visited a n x outcome;
  is_explained = explains what;
  behind = cover_if (has_cover what (verdict_of x outcome)) a n;
  is_cover = has_cover what (verdict_of x outcome);
}

-- of a module, and of what was found
abbrev pub text_found : Printed → ModuleTree → ℕ → Excuses → Explored → List ℕ
text_found what m n x found = report_as_text what found.visited (program_of m) n x found.outcome

abbrev pub form_found : Printed → ModuleTree → ℕ → Excuses → Explored → List ℕ
form_found what m n x found = text_of_form what found.visited (program_of m) n x found.outcome

abbrev pub print_found : Printed → ModuleTree → ℕ → Excuses → Explored → Print
print_found what m n x found = print_of what found.visited (program_of m) n x found.outcome

-- no schedule of the module that delivers signals as the search does shows anything that counts as an error, whatever its length
abbrev pub ShowsNoErrorEver : ModuleTree → Options → Excuses → Type 0
ShowsNoErrorEver m options x = (i : Identity) → counts (flags_in options.flags) x i ≡ true → IsEverShownBy (delivery_by options.search) (program_of m) i → ⊥

-- the whole report was written, and what follows it; where it is clean of all schedules, no schedule shows an error
pub record IsReportOf (input : List ℕ) (options : Options) (x : Excuses) (what : Printed) (old new : Option (List ℕ)) (failed : Bool) (verdict : Verdict) : Type 0 where
  pub visited : Visited
  pub outcome : Outcome
  pub explored : IsExplored input options x visited outcome
  pub written : WritesAll old new failed (text_of_print (print_of what visited (program_of explored.program) options.depth x outcome))
  pub told : verdict ≡ verdict_of x outcome
  pub of_all : IsCleanOfAll x outcome → (m : ModuleTree) → SpellsModule input m → ShowsNoErrorEver m options x

-- the writing stopped in this way
pub record IsStopped (input : List ℕ) (options : Options) (x : Excuses) (what : Printed) (Stops : Print → Type 0) : Type 0 where
  pub visited : Visited
  pub outcome : Outcome
  pub explored : IsExplored input options x visited outcome
  pub stops : Stops (print_of what visited (program_of explored.program) options.depth x outcome)

-- the input is a module, and the search of its schedules has no outcome
pub record HasNoOutcome (input : List ℕ) (old new : Option (List ℕ)) (failed : Bool) : Type 0 where
  pub program : ModuleTree
  pub module_text : SpellsModule input program
  pub quiet : WritesNothing old new failed

-- an exploration wrote its report; or the input was refused as a module, or could not be read, or the search has no outcome, and nothing was written; or there was no memory for the whole report or the whole cover; or the output failed, at a write or at the flush, and a beginning was written
abbrev pub IsExplorationOf : List ℕ → Options → Excuses → Printed → (old new : Option (List ℕ)) → Bool → Result Verdict RunFault → Type 0
IsExplorationOf input options x what old new failed (Ok verdict) = IsReportOf input options x what old new failed verdict
IsExplorationOf input options x what old new failed (Err (run.Input fault)) = IsRefusalOf input fault × WritesNothing old new failed
IsExplorationOf input options x what old new failed (Err run.ReadFailed) = WritesNothing old new failed
IsExplorationOf input options x what old new failed (Err (run.Explore fault)) = HasNoOutcome input old new failed
IsExplorationOf input options x what old new failed (Err run.ReportCutOff) = IsStopped input options x what (λ p. IsReportCutOff p old new failed)
IsExplorationOf input options x what old new failed (Err run.CoverCutOff) = IsStopped input options x what (λ p. IsCoverCutOff p old new failed)
IsExplorationOf input options x what old new failed (Err run.Output) = IsStopped input options x what (λ p. BreaksOff old new failed (text_of_print p))
IsExplorationOf input options x what old new failed _ = ⊥

-- no schedule of at most so many steps that delivers signals so shows anything that counts as an error
abbrev pub ShowsNothingBy : Delivery → (Identity → Bool) → Program → ℕ → Type 0
ShowsNothingBy d is_counted a n = (i : Identity) → is_counted i ≡ true → IsShownBy d a n i → ⊥

-- clean means none: no schedule of the module that delivers signals as the search does and has at most so many steps shows anything that counts as an error
abbrev pub IsCleanIfSaid : List ℕ → Options → Excuses → Result Verdict RunFault → Type 0
IsCleanIfSaid input options x result = result ≡ Ok Clean → (m : ModuleTree) → SpellsModule input m → ShowsNothingBy (delivery_by options.search) (counts (flags_in options.flags) x) (program_of m) options.depth
