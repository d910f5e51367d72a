-- What random schedules show, and what of their report was written, says what a sample results in.
use Rattle.std.proofs.Common.{◌≡◌, ℕ, Bool, true, false, true≢false, List, Option, Some, None, IfSome, refl, sym, subst}
use Rattle.std.specs.Prelude.{Result, Ok, Err}
use Rattle.core_tree.specs.Syntax.{ModuleTree}
use Rattle.core_reader.specs.ModuleText.{SpellsModule}
use Rattle.core_reader.specs.Refusal.{IsRefusalOf}
use Rattle.core_tokens.specs.declared.fault.ReadFault.{ReadFault}
use Rattle.term_core.specs.Stream.{WritesAll}
use Rattle.world_model.specs.Asking.{program_of}
use Rattle.world_identities.specs.Identities.{flags_in}
use Rattle.tree_coverage.specs.Findings.{Findings}
use Rattle.tree_excuses.specs.Excuses.{Excuses}
use Rattle.search_crew.specs.declared.fault.SearchFault.TheVariants as search
use Rattle.search_samples.specs.Samples.{AreOfSamples}
use Rattle.search_samples.specs.declared.sample.Samples.{Samples}
use Rattle.program_words.specs.declared.words.Printed.{Printed}
use Rattle.program_runs.specs.Input.{IsInputOf}
use Rattle.program_runs.specs.Printing.{IsPrinted, text_of_print}
use Rattle.program_runs.specs.Refusals.{refusal_of_printing}
use Rattle.program_runs.specs.Sampled.{IsSampleOf, IsSampled, print_of_samples, verdict_of_sample}
use Rattle.program_runs.specs.declared.print_fault.PrintFault.{PrintFault}
use Rattle.program_runs.specs.declared.print_fault.PrintFault.TheVariants as printing
use Rattle.program_runs.specs.declared.verdict.RunFault.{RunFault}
use Rattle.program_runs.specs.declared.verdict.RunFault.TheVariants as run
use Rattle.program_runs.specs.declared.verdict.Verdict.{Verdict}
use Rattle.program_runs.proofs.ReplayLaws.{spells_all, refused_all}

-- a module that was refused
pub module_refused : (remaining : Option (List ℕ)) (bytes : List ℕ) (samples : Samples) (x : Excuses) (what : Printed) (contents : Option (List ℕ)) (failed : Bool) (fault : ReadFault) (r : Result Verdict RunFault)
    → r ≡ Err (run.Input fault) → IfSome remaining (λ all. IsInputOf 1048576 all bytes) → IsRefusalOf bytes fault → failed ≡ false
    → IfSome remaining (λ input. IsSampleOf input samples x what contents contents failed r)
module_refused None bytes samples x what contents failed fault r e is refusal sound = tt
module_refused (Some all) bytes samples x what contents failed fault r e is refusal sound =
    subst (λ (r : Result Verdict RunFault). IsSampleOf all samples x what contents contents failed r) (sym e) (refused_all all bytes fault is refusal, record { same = refl; sound = sound })

-- no memory for the schedules
pub not_followed : (remaining : Option (List ℕ)) (bytes : List ℕ) (samples : Samples) (x : Excuses) (what : Printed) (contents : Option (List ℕ)) (failed : Bool) (m : ModuleTree) (r : Result Verdict RunFault)
    → r ≡ Err (run.Explore search.Memory) → IfSome remaining (λ all. IsInputOf 1048576 all bytes) → SpellsModule bytes m → failed ≡ false
    → IfSome remaining (λ input. IsSampleOf input samples x what contents contents failed r)
not_followed None bytes samples x what contents failed m r e is spelt sound = tt
not_followed (Some all) bytes samples x what contents failed m r e is spelt sound =
    subst (λ (r : Result Verdict RunFault). IsSampleOf all samples x what contents contents failed r) (sym e)
    (record { program = m; module_text = spells_all all bytes m is spelt; quiet = record { same = refl; sound = sound } })

abbrev sampled : (all bytes : List ℕ) (samples : Samples) (m : ModuleTree) (findings : Findings)
    → IsInputOf 1048576 all bytes → SpellsModule bytes m → AreOfSamples (flags_in samples.flags) samples.delivery (program_of m) samples.depth samples.runs findings → IsSampled all samples findings
sampled all bytes samples m findings is spelt found = record { program = m; module_text = spells_all all bytes m is spelt; are_found = found }

-- a report that was written
pub reported : (remaining : Option (List ℕ)) (bytes : List ℕ) (samples : Samples) (x : Excuses) (what : Printed) (old new : Option (List ℕ)) (failed : Bool) (m : ModuleTree) (findings : Findings) (verdict : Verdict)
    → IfSome remaining (λ all. IsInputOf 1048576 all bytes) → SpellsModule bytes m → AreOfSamples (flags_in samples.flags) samples.delivery (program_of m) samples.depth samples.runs findings
    → WritesAll old new failed (text_of_print (print_of_samples what samples (program_of m) x findings)) → verdict ≡ verdict_of_sample x findings
    → IfSome remaining (λ input. IsSampleOf input samples x what old new failed (Ok verdict))
reported None bytes samples x what old new failed m findings verdict is spelt found written told = tt
reported (Some all) bytes samples x what old new failed m findings verdict is spelt found written told =
    record { findings = findings; sampled = sampled all bytes samples m findings is spelt found; written = written; told = told }

-- one that broke off, or that was cut off; no cover follows it
broken_by : (all : List ℕ) (samples : Samples) (x : Excuses) (what : Printed) (old new : Option (List ℕ)) (failed : Bool) (findings : Findings) (is : IsSampled all samples findings) (fault : PrintFault)
    → IsPrinted (print_of_samples what samples (program_of is.program) x findings) old new failed (Err fault) → IsSampleOf all samples x what old new failed (Err (refusal_of_printing fault))
broken_by all samples x what old new failed findings is printing.ReportCutOff part = record { findings = findings; sampled = is; stops = part }
broken_by all samples x what old new failed findings is printing.CoverCutOff part = absurd (true≢false (sym part.covered))
broken_by all samples x what old new failed findings is printing.Write part = record { findings = findings; sampled = is; stops = part }

pub broken : (remaining : Option (List ℕ)) (bytes : List ℕ) (samples : Samples) (x : Excuses) (what : Printed) (old new : Option (List ℕ)) (failed : Bool) (m : ModuleTree) (findings : Findings) (fault : PrintFault) (r : Result Verdict RunFault)
    → r ≡ Err (refusal_of_printing fault) → IfSome remaining (λ all. IsInputOf 1048576 all bytes) → SpellsModule bytes m → AreOfSamples (flags_in samples.flags) samples.delivery (program_of m) samples.depth samples.runs findings
    → IsPrinted (print_of_samples what samples (program_of m) x findings) old new failed (Err fault) → IfSome remaining (λ input. IsSampleOf input samples x what old new failed r)
broken None bytes samples x what old new failed m findings fault r e is spelt found part = tt
broken (Some all) bytes samples x what old new failed m findings fault r e is spelt found part =
    subst (λ (r : Result Verdict RunFault). IsSampleOf all samples x what old new failed r) (sym e) (broken_by all samples x what old new failed findings (sampled all bytes samples m findings is spelt found) fault part)
