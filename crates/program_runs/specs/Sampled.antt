-- What random schedules that the program follows result in, by the bytes that it is given.
use Rattle.std.specs.Prelude.{◌≡◌, ℕ, Bool, false, List, [], ◌∷◌, Option, Result, Ok, Err, if◌then◌else◌}
use Rattle.core_tree.specs.Syntax.{ModuleTree}
use Rattle.core_reader.specs.ModuleText.{SpellsModule}
use Rattle.core_reader.specs.Refusal.{IsRefusalOf}
use Rattle.term_core.specs.Stream.{WritesAll, BreaksOff}
use Rattle.world_model.specs.Asking.{program_of}
use Rattle.world_model.specs.Requests.{Program}
use Rattle.world_identities.specs.Identities.{flags_in}
use Rattle.tree_coverage.specs.Findings.{Finding, Findings}
use Rattle.tree_excuses.specs.Excuses.{Excuses, counted}
use Rattle.search_crew.specs.declared.fault.SearchFault.TheVariants as search
use Rattle.search_samples.specs.Samples.{AreOfSamples}
use Rattle.search_samples.specs.declared.sample.Samples.{Samples}
use Rattle.report_text.specs.SampleText.{text_of_sample}
use Rattle.report_text.specs.declared.sample_lines.Sampled.{Sampled}
use Rattle.report_explained.specs.Explained.{text_of_explained_sample}
use Rattle.report_terms.specs.TermsReport.{text_of_terms_sample}
use Rattle.program_words.specs.declared.words.Printed.{Printed}
use Rattle.program_runs.specs.Ends.{WritesNothing}
use Rattle.program_runs.specs.Explored.{HasNoOutcome, explains}
use Rattle.program_runs.specs.Printing.{IsReportCutOff, Print, text_of_print}
use Rattle.program_runs.specs.declared.verdict.RunFault.{RunFault}
use Rattle.program_runs.specs.declared.verdict.RunFault.TheVariants as run
use Rattle.program_runs.specs.declared.verdict.Verdict.{Verdict}
use Rattle.program_runs.specs.declared.verdict.Verdict.TheVariants.{Errors, Incomplete}

-- the input is a module, and so many random schedules of it show this
pub record IsSampled (input : List ℕ) (samples : Samples) (findings : Findings) : Type 0 where
  pub program : ModuleTree
  pub module_text : SpellsModule input program
  pub are_found : AreOfSamples (flags_in samples.flags) samples.delivery (program_of program) samples.depth samples.runs findings

-- whether they show errors that count; where they do not, nothing is said of other schedules
abbrev pub sample_verdict : List Finding → Verdict
sample_verdict [] = Incomplete
sample_verdict (f ∷ fs) = Errors

abbrev pub verdict_of_sample : Excuses → Findings → Verdict
verdict_of_sample x findings = sample_verdict (counted x findings.errors)

-- how the first line of the report tells them
abbrev pub sampled_by : Samples → Sampled
sampled_by samples = record { depth = samples.depth; runs = samples.runs; seed = samples.seed }

-- the report as text, explained where that is asked for
abbrev pub sample_as_text : Printed → Samples → Program → Excuses → Findings → List ℕ
sample_as_text what samples a x findings =
    if what.explained then text_of_explained_sample (sampled_by samples) a x findings else text_of_sample (sampled_by samples) x findings

-- the report, as terms where that is asked for, and else as text
abbrev pub text_of_samples : Printed → Samples → Program → Excuses → Findings → List ℕ
text_of_samples what samples a x findings =
    if what.terms then text_of_terms_sample (sampled_by samples) a x findings else sample_as_text what samples a x findings

-- of a module
abbrev pub sample_text_found : Printed → Samples → ModuleTree → Excuses → Findings → List ℕ
sample_text_found what samples m x findings = sample_as_text what samples (program_of m) x findings

abbrev pub sample_form_found : Printed → Samples → ModuleTree → Excuses → Findings → List ℕ
sample_form_found what samples m x findings = text_of_samples what samples (program_of m) x findings

-- what is printed: the report, and nothing after it
abbrev pub print_of_samples : Printed → Samples → Program → Excuses → Findings → Print
print_of_samples what samples a x findings = record {
  report = text_of_samples what samples a x findings;
  is_explained = explains what;
  behind = [];
  is_cover = false;
}

-- the whole report was written
pub record IsSampleReportOf (input : List ℕ) (samples : Samples) (x : Excuses) (what : Printed) (old new : Option (List ℕ)) (failed : Bool) (verdict : Verdict) : Type 0 where
  pub findings : Findings
  pub sampled : IsSampled input samples findings
  pub written : WritesAll old new failed (text_of_print (print_of_samples what samples (program_of sampled.program) x findings))
  pub told : verdict ≡ verdict_of_sample x findings

-- the writing stopped in this way
pub record IsSampleStopped (input : List ℕ) (samples : Samples) (x : Excuses) (what : Printed) (Stops : Print → Type 0) : Type 0 where
  pub findings : Findings
  pub sampled : IsSampled input samples findings
  pub stops : Stops (print_of_samples what samples (program_of sampled.program) x findings)

-- the report of what random schedules show was written; or the input was refused as a module, or could not be read, or there was no memory for the schedules, and nothing was written; or there was no memory for the whole report; or the output failed, at a write or at the flush, and a beginning was written
abbrev pub IsSampleOf : List ℕ → Samples → Excuses → Printed → (old new : Option (List ℕ)) → Bool → Result Verdict RunFault → Type 0
IsSampleOf input samples x what old new failed (Ok verdict) = IsSampleReportOf input samples x what old new failed verdict
IsSampleOf input samples x what old new failed (Err (run.Input fault)) = IsRefusalOf input fault × WritesNothing old new failed
IsSampleOf input samples x what old new failed (Err run.ReadFailed) = WritesNothing old new failed
IsSampleOf input samples x what old new failed (Err (run.Explore search.Memory)) = HasNoOutcome input old new failed
IsSampleOf input samples x what old new failed (Err run.ReportCutOff) = IsSampleStopped input samples x what (λ p. IsReportCutOff p old new failed)
IsSampleOf input samples x what old new failed (Err run.Output) = IsSampleStopped input samples x what (λ p. BreaksOff old new failed (text_of_print p))
IsSampleOf input samples x what old new failed _ = ⊥
