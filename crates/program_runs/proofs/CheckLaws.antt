-- What a check of a cover results in.
use Rattle.std.proofs.Common.{◌≡◌, ℕ, Bool, false, List, Option, None, Some, IfSome, refl, sym, subst}
use Rattle.std.specs.Prelude.{Result, Ok, Err}
use Rattle.core_tree.specs.Syntax.{ModuleTree}
use Rattle.core_reader.specs.ModuleText.{SpellsModule}
use Rattle.core_reader.specs.Refusal.{IsRefusalOf}
use Rattle.core_tokens.specs.declared.fault.ReadFault.{ReadFault}
use Rattle.core_tokens.specs.declared.fault.ReadFault.TheVariants as read
use Rattle.tree_coverage.specs.Covers.{ShowsNothing}
use Rattle.tree_covers.specs.CoverText.{IsCut}
use Rattle.tree_covers.specs.Faults.{IsCoverText}
use Rattle.tree_covers.specs.declared.fault.CoverFault.{CoverFault}
use Rattle.term_core.specs.Stream.{WritesAll, BreaksOff}
use Rattle.world_model.specs.Asking.{program_of}
use Rattle.world_model.specs.Shown.{Identity}
use Rattle.program_runs.specs.Checked.{IsCheckOf, IsGood, IsRefusedAs, text_of_good}
use Rattle.program_runs.specs.declared.verdict.RunFault.{RunFault}
use Rattle.program_runs.specs.declared.verdict.RunFault.TheVariants as run
use Rattle.program_runs.specs.declared.verdict.Verdict.{Verdict}
use Rattle.program_runs.specs.declared.verdict.Verdict.TheVariants.{Done}

-- the text that was read, as it is cut
cut_all : (all bytes before : List ℕ) (behind : Option (List ℕ)) → bytes ≡ all → IsCut bytes before behind → IsCut all before behind
cut_all all bytes before behind is cut = subst (λ (t : List ℕ). IsCut t before behind) is cut

-- what comes before the mark is no module
no_module : (all before : List ℕ) (behind : Option (List ℕ)) (depth : ℕ) (counts : Identity → Bool) (contents : Option (List ℕ)) (failed : Bool) (fault : ReadFault)
    → IsCut all before behind → IsRefusalOf before fault → failed ≡ false → IsCheckOf all depth counts contents contents failed (Err (run.Input fault))
no_module all before behind depth counts contents failed read.Memory cut refusal sound = record { same = refl; sound = sound }
no_module all before behind depth counts contents failed _ cut refusal sound = (record { module_text = before; behind = behind; cut = cut; refused = refusal }, record { same = refl; sound = sound })

pub module_refused : (remaining : Option (List ℕ)) (bytes before : List ℕ) (behind : Option (List ℕ)) (depth : ℕ) (counts : Identity → Bool) (contents : Option (List ℕ)) (failed : Bool) (fault : ReadFault) (r : Result Verdict RunFault)
    → r ≡ Err (run.Input fault) → IfSome remaining (λ all. bytes ≡ all) → IsCut bytes before behind → IsRefusalOf before fault → failed ≡ false
    → IfSome remaining (λ input. IsCheckOf input depth counts contents contents failed r)
module_refused None bytes before behind depth counts contents failed fault r e is cut refusal sound = tt
module_refused (Some all) bytes before behind depth counts contents failed fault r e is cut refusal sound =
    subst (λ (r : Result Verdict RunFault). IsCheckOf all depth counts contents contents failed r) (sym e) (no_module all before behind depth counts contents failed fault (cut_all all bytes before behind is cut) refusal sound)

-- the cover is refused, or is missing
pub cover_refused : (remaining : Option (List ℕ)) (bytes before : List ℕ) (behind : Option (List ℕ)) (depth : ℕ) (counts : Identity → Bool) (contents : Option (List ℕ)) (failed : Bool) (m : ModuleTree) (fault : CoverFault) (r : Result Verdict RunFault)
    → r ≡ Err (run.Cover fault) → IfSome remaining (λ all. bytes ≡ all) → IsCut bytes before behind → SpellsModule before m → IsRefusedAs counts m depth behind fault → failed ≡ false
    → IfSome remaining (λ input. IsCheckOf input depth counts contents contents failed r)
cover_refused None bytes before behind depth counts contents failed m fault r e is cut spelt refused sound = tt
cover_refused (Some all) bytes before behind depth counts contents failed m fault r e is cut spelt refused sound =
    subst (λ (r : Result Verdict RunFault). IsCheckOf all depth counts contents contents failed r) (sym e)
    (record { module_text = before; behind = behind; cut = cut_all all bytes before behind is cut; program = m; spelt = spelt; refused = refused }, record { same = refl; sound = sound })

-- the cover is good
is_good : (all bytes before behind : List ℕ) (depth : ℕ) (counts : Identity → Bool) (m : ModuleTree)
    → bytes ≡ all → IsCut bytes before (Some behind) → SpellsModule before m → IsCoverText counts (program_of m) depth behind → ShowsNothing counts (program_of m) depth → IsGood all depth counts
is_good all bytes before behind depth counts m is cut spelt good clean =
    record { module_text = before; cover_text = behind; cut = cut_all all bytes before (Some behind) is cut; program = m; spelt = spelt; good = good; no_error = clean }

pub found_good : (remaining : Option (List ℕ)) (bytes before behind : List ℕ) (depth : ℕ) (counts : Identity → Bool) (old new : Option (List ℕ)) (failed : Bool) (m : ModuleTree)
    → IfSome remaining (λ all. bytes ≡ all) → IsCut bytes before (Some behind) → SpellsModule before m → IsCoverText counts (program_of m) depth behind → ShowsNothing counts (program_of m) depth
    → WritesAll old new failed (text_of_good depth) → IfSome remaining (λ input. IsCheckOf input depth counts old new failed (Ok Done))
found_good None bytes before behind depth counts old new failed m is cut spelt good clean written = tt
found_good (Some all) bytes before behind depth counts old new failed m is cut spelt good clean written = (is_good all bytes before behind depth counts m is cut spelt good clean, written)

pub good_untold : (remaining : Option (List ℕ)) (bytes before behind : List ℕ) (depth : ℕ) (counts : Identity → Bool) (old new : Option (List ℕ)) (failed : Bool) (m : ModuleTree) (r : Result Verdict RunFault)
    → r ≡ Err run.Output → IfSome remaining (λ all. bytes ≡ all) → IsCut bytes before (Some behind) → SpellsModule before m → IsCoverText counts (program_of m) depth behind → ShowsNothing counts (program_of m) depth
    → BreaksOff old new failed (text_of_good depth) → IfSome remaining (λ input. IsCheckOf input depth counts old new failed r)
good_untold None bytes before behind depth counts old new failed m r e is cut spelt good clean broken = tt
good_untold (Some all) bytes before behind depth counts old new failed m r e is cut spelt good clean broken =
    subst (λ (r : Result Verdict RunFault). IsCheckOf all depth counts old new failed r) (sym e) (is_good all bytes before behind depth counts m is cut spelt good clean, broken)
