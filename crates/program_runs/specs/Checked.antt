-- What a check of a cover results in, by the bytes that it is given.
use Rattle.std.specs.Prelude.{◌≡◌, ℕ, Bool, List, ◌++◌, codes, Option, Some, None, Result, Ok, Err}
use Rattle.std.specs.Fmt.{decimal}
use Rattle.core_tree.specs.Syntax.{ModuleTree}
use Rattle.core_reader.specs.ModuleText.{SpellsModule}
use Rattle.core_reader.specs.Refusal.{IsRefusalOf}
use Rattle.core_tokens.specs.declared.fault.ReadFault.{ReadFault}
use Rattle.core_tokens.specs.declared.fault.ReadFault.TheVariants as read
use Rattle.tree_coverage.specs.Covers.{ShowsNothing}
use Rattle.tree_covers.specs.CoverText.{IsCut}
use Rattle.tree_covers.specs.Faults.{IsCoverText, IsFaultOf}
use Rattle.tree_covers.specs.declared.fault.CoverFault.{CoverFault}
use Rattle.tree_covers.specs.declared.fault.CoverFault.TheVariants.{Short}
use Rattle.term_core.specs.Stream.{WritesAll, BreaksOff}
use Rattle.world_model.specs.Asking.{program_of}
use Rattle.world_model.specs.Shown.{Identity}
use Rattle.program_runs.specs.Ends.{WritesNothing}
use Rattle.program_runs.specs.declared.verdict.RunFault.{RunFault}
use Rattle.program_runs.specs.declared.verdict.RunFault.TheVariants as run
use Rattle.program_runs.specs.declared.verdict.Verdict.{Verdict}
use Rattle.program_runs.specs.declared.verdict.Verdict.TheVariants.{Done}

-- the line that says that a cover is good
abbrev pub text_of_good : ℕ → List ℕ
text_of_good depth = codes "cover good to depth " ++ (decimal depth ++ codes "\n")

-- the input is the text of a module, the mark, and the text of a good cover, so that no schedule shows an error
pub record IsGood (input : List ℕ) (depth : ℕ) (counts : Identity → Bool) : Type 0 where
  pub module_text : List ℕ
  pub cover_text : List ℕ
  pub cut : IsCut input module_text (Some cover_text)
  pub program : ModuleTree
  pub spelt : SpellsModule module_text program
  pub good : IsCoverText counts (program_of program) depth cover_text
  pub no_error : ShowsNothing counts (program_of program) depth

-- what comes before the mark is refused as a module
pub record HasNoModule (input : List ℕ) (fault : ReadFault) : Type 0 where
  pub module_text : List ℕ
  pub behind : Option (List ℕ)
  pub cut : IsCut input module_text behind
  pub refused : IsRefusalOf module_text fault

-- without a mark, the first line is missing
abbrev pub IsRefusedAs : (counts : Identity → Bool) → ModuleTree → ℕ → Option (List ℕ) → CoverFault → Type 0
IsRefusedAs counts m depth None fault = fault ≡ Short 1
IsRefusedAs counts m depth (Some cover_text) fault = IsFaultOf counts (program_of m) depth cover_text fault

-- a module comes before the mark, and this is true of what comes after it
pub record IsRefusedCover (input : List ℕ) (depth : ℕ) (counts : Identity → Bool) (fault : CoverFault) : Type 0 where
  pub module_text : List ℕ
  pub behind : Option (List ℕ)
  pub cut : IsCut input module_text behind
  pub program : ModuleTree
  pub spelt : SpellsModule module_text program
  pub refused : IsRefusedAs counts program depth behind fault

-- a cover was found good, and that was written; or the module or the cover was refused, or the input could not be read, and nothing was written; or the output failed, at a write or at the flush
abbrev pub IsCheckOf : List ℕ → ℕ → (Identity → Bool) → (old new : Option (List ℕ)) → Bool → Result Verdict RunFault → Type 0
IsCheckOf input depth counts old new failed (Ok Done) = IsGood input depth counts × WritesAll old new failed (text_of_good depth)
IsCheckOf input depth counts old new failed (Err (run.Input read.Memory)) = WritesNothing old new failed
IsCheckOf input depth counts old new failed (Err (run.Input fault)) = HasNoModule input fault × WritesNothing old new failed
IsCheckOf input depth counts old new failed (Err run.ReadFailed) = WritesNothing old new failed
IsCheckOf input depth counts old new failed (Err (run.Cover fault)) = IsRefusedCover input depth counts fault × WritesNothing old new failed
IsCheckOf input depth counts old new failed (Err run.Output) = IsGood input depth counts × BreaksOff old new failed (text_of_good depth)
IsCheckOf input depth counts old new failed _ = ⊥
