-- The judgement of the line of a node, as a fault of its number.
use Rattle.std.specs.Prelude.{◌≡◌, ℕ, Bool, List}
use Rattle.world_model.specs.Requests.{Program}
use Rattle.world_model.specs.Shown.{Identity}
use Rattle.tree_covers.specs.Faults.{IsJudged, IsNoLine}
use Rattle.tree_covers.specs.Judging.{Place}
use Rattle.tree_covers.specs.declared.fault.CoverFault.{CoverFault}
use Rattle.tree_covers.specs.declared.fault.CoverFault.TheVariants as faults
use Rattle.tree_covers.specs.declared.judging.Judgement.TheVariants.{Missing, Strange, ErrorFound}

-- the fault is that of this line, by its number; a missing line and one that is left over are no such fault
abbrev pub IsLineFault : (Identity → Bool) → Program → Place → List ℕ → ℕ → CoverFault → Type 0
IsLineFault counts a v line number (faults.Missing at) = (at ≡ number) × IsJudged counts a Missing v line
IsLineFault counts a v line number (faults.Strange at) = (at ≡ number) × IsJudged counts a Strange v line
IsLineFault counts a v line number (faults.Short at) = ⊥
IsLineFault counts a v line number (faults.Long at) = ⊥
IsLineFault counts a v line number (faults.ErrorFound at) = (at ≡ number) × IsJudged counts a ErrorFound v line
IsLineFault counts a v line number (faults.BadLine at) = (at ≡ number) × IsNoLine v line
IsLineFault counts a v line number faults.Memory = Unit {0}
