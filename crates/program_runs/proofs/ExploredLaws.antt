-- What a search resulted in, and what of its report was written, says what an exploration results in.
use Rattle.std.proofs.Common.{◌≡◌, ℕ, Bool, true, false, List, [], ◌∷◌, Option, Some, None, IfSome, refl, sym, ap, subst}
use Rattle.std.specs.Prelude.{Result, Ok, Err}
use Rattle.core_tree.specs.Syntax.{ModuleTree}
use Rattle.core_reader.specs.ModuleText.{SpellsModule}
use Rattle.core_reader.specs.Refusal.{IsRefusalOf}
use Rattle.core_tokens.specs.declared.fault.ReadFault.{ReadFault}
use Rattle.program_words.specs.declared.words.Printed.{Printed}
use Rattle.program_runs.specs.Printing.{IsPrinted}
use Rattle.program_runs.specs.declared.print_fault.PrintFault.{PrintFault}
use Rattle.program_runs.specs.declared.print_fault.PrintFault.TheVariants as printing
use Rattle.term_core.specs.Stream.{WritesAll}
use Rattle.world_model.specs.Asking.{program_of}
use Rattle.world_model.specs.Shown.{Identity}
use Rattle.tree_coverage.specs.Findings.{Finding, IsFound}
use Rattle.tree_coverage.specs.Jobs.{root}
use Rattle.tree_excuses.specs.Excuses.{Excuses, counted, counts}
use Rattle.tree_excuses.specs.Laws.{JudgedAreExact, JudgedAreWhole}
use Rattle.world_identities.specs.Identities.{flags_in}
use Rattle.tree_findings.specs.declared.options.Options.{Options}
use Rattle.tree_findings.specs.declared.outcome.Outcome.{Outcome}
use Rattle.tree_findings.specs.declared.outcome.Outcome.TheVariants as outcomes
use Rattle.search_jobs.specs.Explorations.{ExplorationSeen, JobSeen, explored_by, program_in}
use Rattle.report_text.specs.Clean.{IsCleanOfAll}
use Rattle.report_text.specs.declared.visited.Visited.{Visited}
use Rattle.tree_schedules.specs.Schedules.{IsEverShownBy}
use Rattle.tree_schedules.specs.declared.delivery.Delivery.{Delivery}
use Rattle.search_crew.specs.declared.fault.SearchFault.{SearchFault}
use Rattle.program_runs.specs.Explored.{IsCleanIfSaid, IsExactBy, IsExplorationOf, IsExplored, IsJudged, IsOutcomeBy, IsWholeBy, ShowsNoErrorEver, ShowsNothingBy, complete_verdict, delivery_by, print_of, verdict_of}
use Rattle.program_runs.specs.Printing.{text_of_print}
use Rattle.program_runs.specs.Input.{IsInputOf}
use Rattle.program_runs.specs.Refusals.{refusal_of_printing}
use Rattle.program_runs.specs.declared.verdict.RunFault.{RunFault}
use Rattle.program_runs.specs.declared.verdict.RunFault.TheVariants as run
use Rattle.program_runs.specs.declared.verdict.Verdict.{Verdict}
use Rattle.program_runs.specs.declared.verdict.Verdict.TheVariants.{Clean}
use Rattle.program_runs.proofs.ReplayLaws.{spells_all, refused_all}

-- a module that was refused
pub module_refused : (remaining : Option (List ℕ)) (bytes : List ℕ) (options : Options) (x : Excuses) (what : Printed) (contents : Option (List ℕ)) (failed : Bool) (fault : ReadFault) (r : Result Verdict RunFault)
    → r ≡ Err (run.Input fault) → IfSome remaining (λ all. IsInputOf 1048576 all bytes) → IsRefusalOf bytes fault → failed ≡ false
    → IfSome remaining (λ input. IsExplorationOf input options x what contents contents failed r)
module_refused None bytes options x what contents failed fault r e is refusal sound = tt
module_refused (Some all) bytes options x what contents failed fault r e is refusal sound =
    subst (λ (r : Result Verdict RunFault). IsExplorationOf all options x what contents contents failed r) (sym e) (refused_all all bytes fault is refusal, record { same = refl; sound = sound })

-- a search that was not begun
pub not_begun : (remaining : Option (List ℕ)) (bytes : List ℕ) (options : Options) (x : Excuses) (what : Printed) (contents : Option (List ℕ)) (failed : Bool) (m : ModuleTree) (fault : SearchFault) (r : Result Verdict RunFault)
    → r ≡ Err (run.Explore fault) → IfSome remaining (λ all. IsInputOf 1048576 all bytes) → SpellsModule bytes m → failed ≡ false
    → IfSome remaining (λ input. IsExplorationOf input options x what contents contents failed r)
not_begun None bytes options x what contents failed m fault r e is spelt sound = tt
not_begun (Some all) bytes options x what contents failed m fault r e is spelt sound =
    subst (λ (r : Result Verdict RunFault). IsExplorationOf all options x what contents contents failed r) (sym e) (record { program = m; module_text = spells_all all bytes m is spelt; quiet = record { same = refl; sound = sound } })

-- what holds of a job that is the whole tree holds of what the options ask for
pub of_whole_tree : (P : ExplorationSeen → Type 0) (job : JobSeen) (m : ModuleTree) (options : Options) → job ≡ record { exploration = explored_by m options; name = root; number = 0 } → (job.name ≡ root → P job.exploration) → P (explored_by m options)
of_whole_tree P job m options is told = subst P (ap (λ (j : JobSeen). j.exploration) is) (told (ap (λ (j : JobSeen). j.name) is))

-- what is judged of what was listed
judged : (d : Delivery) (e : ExplorationSeen) (x : Excuses) (outcome : Outcome) → JudgedAreExact × JudgedAreWhole → IsExactBy d e outcome → IsWholeBy d e outcome → IsJudged d e x outcome
judged d e x (outcomes.Complete findings extent) law exact whole = (
  law.0 e.flags x d (program_in e) e.depth findings.errors (λ i. (exact i).errors),
  λ uncut. law.1 e.flags x d (program_in e) findings.errors (λ i. (whole uncut i).errors),
)
judged d e x (outcomes.Incomplete cause findings) law exact whole = tt

abbrev explored : (all bytes : List ℕ) (options : Options) (x : Excuses) (m : ModuleTree) (visited : Visited) (outcome : Outcome) → JudgedAreExact × JudgedAreWhole
    → IsInputOf 1048576 all bytes → SpellsModule bytes m → IsOutcomeBy options.search (explored_by m options) options.nodes visited outcome → IsExactBy (delivery_by options.search) (explored_by m options) outcome → IsWholeBy (delivery_by options.search) (explored_by m options) outcome → IsExplored all options x visited outcome
explored all bytes options x m visited outcome law is spelt comes exact whole = record {
  program = m;
  module_text = spells_all all bytes m is spelt;
  is_outcome = comes;
  is_exact = exact;
  is_whole = whole;
  is_judged = judged (delivery_by options.search) (explored_by m options) x outcome law exact whole;
}

-- where a report is clean of all schedules, none shows an error
none_ever : (d : Delivery) (e : ExplorationSeen) (x : Excuses) (outcome : Outcome) → IsJudged d e x outcome → IsCleanOfAll x outcome → (i : Identity) → counts e.flags x i ≡ true → IsEverShownBy d (program_in e) i → ⊥
none_ever d e x (outcomes.Complete findings extent) judged all i error shown = go (counted x findings.errors) all.0 (((judged.1 all.1).errors i).1 (error, shown))
  where
    go : (fs : List Finding) → fs ≡ [] → IsFound i fs → ⊥
    go [] none there = there.1
    go (f ∷ fs) none there = absurd cc
none_ever d e x (outcomes.Incomplete cause findings) judged all i error shown = all

clean_of_all : (all bytes : List ℕ) (options : Options) (x : Excuses) (m : ModuleTree) (outcome : Outcome) → ((text : List ℕ) (a b : ModuleTree) → SpellsModule text a → SpellsModule text b → a ≡ b)
    → IsInputOf 1048576 all bytes → SpellsModule bytes m → IsJudged (delivery_by options.search) (explored_by m options) x outcome → IsCleanOfAll x outcome → (k : ModuleTree) → SpellsModule all k → ShowsNoErrorEver k options x
clean_of_all all bytes options x m outcome once is spelt judged clean k spells =
    let same : m ≡ k = once all m k (spells_all all bytes m is spelt) spells in
    subst (λ (n : ModuleTree). ShowsNoErrorEver n options x) same (none_ever (delivery_by options.search) (explored_by m options) x outcome judged clean)

-- a report that was written
pub reported : (remaining : Option (List ℕ)) (bytes : List ℕ) (options : Options) (x : Excuses) (what : Printed) (old new : Option (List ℕ)) (failed : Bool) (m : ModuleTree) (visited : Visited) (outcome : Outcome) (verdict : Verdict)
    → ((text : List ℕ) (a b : ModuleTree) → SpellsModule text a → SpellsModule text b → a ≡ b)
    → IfSome remaining (λ all. IsInputOf 1048576 all bytes) → SpellsModule bytes m → IsOutcomeBy options.search (explored_by m options) options.nodes visited outcome → JudgedAreExact × JudgedAreWhole → IsExactBy (delivery_by options.search) (explored_by m options) outcome → IsWholeBy (delivery_by options.search) (explored_by m options) outcome
    → WritesAll old new failed (text_of_print (print_of what visited (program_of m) options.depth x outcome)) → verdict ≡ verdict_of x outcome → IfSome remaining (λ input. IsExplorationOf input options x what old new failed (Ok verdict))
reported None bytes options x what old new failed m visited outcome verdict once is spelt comes law exact whole written told = tt
reported (Some all) bytes options x what old new failed m visited outcome verdict once is spelt comes law exact whole written told = record {
  visited = visited;
  outcome = outcome;
  explored = explored all bytes options x m visited outcome law is spelt comes exact whole;
  written = written;
  told = told;
  of_all = clean_of_all all bytes options x m outcome once is spelt (judged (delivery_by options.search) (explored_by m options) x outcome law exact whole);
}

-- one that broke off, or that was cut off, or with a cover that was
broken_by : (all : List ℕ) (options : Options) (x : Excuses) (what : Printed) (old new : Option (List ℕ)) (failed : Bool) (visited : Visited) (outcome : Outcome) (is : IsExplored all options x visited outcome) (fault : PrintFault)
    → IsPrinted (print_of what visited (program_of is.program) options.depth x outcome) old new failed (Err fault) → IsExplorationOf all options x what old new failed (Err (refusal_of_printing fault))
broken_by all options x what old new failed visited outcome is printing.ReportCutOff part = record { visited = visited; outcome = outcome; explored = is; stops = part }
broken_by all options x what old new failed visited outcome is printing.CoverCutOff part = record { visited = visited; outcome = outcome; explored = is; stops = part }
broken_by all options x what old new failed visited outcome is printing.Write part = record { visited = visited; outcome = outcome; explored = is; stops = part }

pub broken : (remaining : Option (List ℕ)) (bytes : List ℕ) (options : Options) (x : Excuses) (what : Printed) (old new : Option (List ℕ)) (failed : Bool) (m : ModuleTree) (visited : Visited) (outcome : Outcome) (fault : PrintFault) (r : Result Verdict RunFault)
    → r ≡ Err (refusal_of_printing fault) → IfSome remaining (λ all. IsInputOf 1048576 all bytes) → SpellsModule bytes m → IsOutcomeBy options.search (explored_by m options) options.nodes visited outcome → JudgedAreExact × JudgedAreWhole → IsExactBy (delivery_by options.search) (explored_by m options) outcome → IsWholeBy (delivery_by options.search) (explored_by m options) outcome
    → IsPrinted (print_of what visited (program_of m) options.depth x outcome) old new failed (Err fault) → IfSome remaining (λ input. IsExplorationOf input options x what old new failed r)
broken None bytes options x what old new failed m visited outcome fault r e is spelt comes law exact whole part = tt
broken (Some all) bytes options x what old new failed m visited outcome fault r e is spelt comes law exact whole part =
    subst (λ (r : Result Verdict RunFault). IsExplorationOf all options x what old new failed r) (sym e) (broken_by all options x what old new failed visited outcome (explored all bytes options x m visited outcome law is spelt comes exact whole) fault part)

-- ---- clean means none

-- where none of what is listed counts, no schedule shows anything that counts
none_found : (d : Delivery) (e : ExplorationSeen) (x : Excuses) (outcome : Outcome) → IsJudged d e x outcome → verdict_of x outcome ≡ Clean → ShowsNothingBy d (counts e.flags x) (program_in e) e.depth
none_found d e x (outcomes.Complete findings extent) judged is i error shown = go (counted x findings.errors) is ((judged.0.errors i).1 (error, shown))
  where
    go : (fs : List Finding) → complete_verdict fs ≡ Clean → IsFound i fs → ⊥
    go [] clean there = there.1
    go (f ∷ fs) clean there = absurd cc
none_found d e x (outcomes.Incomplete cause findings) judged is i error shown = absurd cc

pub clean_means_none : (remaining : Option (List ℕ)) (bytes : List ℕ) (options : Options) (x : Excuses) (m : ModuleTree) (outcome : Outcome) (verdict : Verdict)
    → ((text : List ℕ) (a b : ModuleTree) → SpellsModule text a → SpellsModule text b → a ≡ b)
    → IfSome remaining (λ all. IsInputOf 1048576 all bytes) → SpellsModule bytes m → JudgedAreExact × JudgedAreWhole → IsExactBy (delivery_by options.search) (explored_by m options) outcome → IsWholeBy (delivery_by options.search) (explored_by m options) outcome → verdict ≡ verdict_of x outcome
    → IfSome remaining (λ input. IsCleanIfSaid input options x (Ok verdict))
clean_means_none None bytes options x m outcome verdict once is spelt law exact whole told = tt
clean_means_none (Some all) bytes options x m outcome verdict once is spelt law exact whole told = λ said k spells.
    let same : m ≡ k = once all m k (spells_all all bytes m is spelt) spells in
    subst (λ (n : ModuleTree). ShowsNothingBy (delivery_by options.search) (counts (flags_in options.flags) x) (program_of n) options.depth) same (none_found (delivery_by options.search) (explored_by m options) x outcome (judged (delivery_by options.search) (explored_by m options) x outcome law exact whole) (clean (Ok verdict) verdict refl told said))
  where
    clean : (r : Result Verdict RunFault) (v : Verdict) → r ≡ Ok v → v ≡ verdict_of x outcome → r ≡ Ok Clean → verdict_of x outcome ≡ Clean
    clean r v is told said = cc
