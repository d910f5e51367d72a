-- What the laws of covers as bytes say.
use Rattle.std.specs.Prelude.{ℕ, ◌<◌, ◌^◌, Bool}
use Rattle.core_tree.specs.Syntax.{ModuleTree}
use Rattle.world_model.specs.Asking.{program_of}
use Rattle.world_model.specs.Shown.{Identity}
use Rattle.tree_coverage.specs.Covers.{cover_of, lines_of, ShowsNothing}
use Rattle.tree_coverage.specs.Jobs.{root}
use Rattle.tree_covers.specs.CoverText.{text_of_lines}
use Rattle.tree_covers.specs.Faults.{IsCoverText}

-- what is written of the tree of a module, which shows nothing that counts as an error, is the text of a good cover
abbrev pub OwnTextsAreCovers : Type 0
OwnTextsAreCovers = (counts : Identity → Bool) (m : ModuleTree) (n : ℕ) → n < 2 ^ 64 → ShowsNothing counts (program_of m) n → IsCoverText counts (program_of m) n (text_of_lines (lines_of (cover_of (program_of m) n root)))
