-- Footprints and independence of steps at contents, whatever led to them.
use Rattle.std.specs.Prelude.{◌≡◌, ◌&&◌, Bool, List, [], Option, Some, None, is_some, map}
use Rattle.std.specs.List.{filter}
use Rattle.term_core.specs.declared.step.Step.{Step}
use Rattle.world_model.specs.Cells.{Cell, Contents}
use Rattle.world_model.specs.Changes.{cell_of}
use Rattle.world_model.specs.Events.{Deed, History}
use Rattle.world_model.specs.Independence as model
use Rattle.world_model.specs.Independence.{Footprint, are_apart}
use Rattle.world_model.specs.Requests.{Program}
use Rattle.world_model.specs.Run.{IsRun}
use Rattle.world_model.specs.Steps.{changes_by, next_deed, reads}
use Rattle.world_model.specs.World.{contents}
use Rattle.world_planned.specs.Replies.{NamesMeanTables}

-- the cells of the changes of what a step does; none where it does nothing
abbrev pub written_of : Contents → Step → Option Deed → List Cell
written_of v step None = []
written_of v step (Some deed) = map cell_of (changes_by v step deed)

-- the cells that a step reads, and those of the changes of what it does next
abbrev pub footprint : Program → Contents → Step → Footprint
footprint a v step = record { reads = reads a v step; writes = written_of v step (next_deed a v step) }

abbrev pub is_enabled : Program → Contents → Step → Bool
is_enabled a v step = is_some (next_deed a v step)

-- both are enabled, and neither writes a cell that the other reads or writes
abbrev pub are_independent : Program → Contents → Step → Step → Bool
are_independent a v s t = is_enabled a v s && (is_enabled a v t && are_apart (footprint a v s) (footprint a v t))

-- of what slept, what is independent of a step
abbrev pub asleep_below : Program → Contents → List Step → Step → List Step
asleep_below a v slept s = filter (are_independent a v s) slept

-- ---- at the contents that a history leaves they are those of the history

abbrev pub RunsNameTables : Type 0
RunsNameTables = (a : Program) (h : History) → IsRun a h → NamesMeanTables (contents h)

abbrev pub FootprintIsOfHistory : Type 0
FootprintIsOfHistory = (a : Program) (h : History) (s : Step) → footprint a (contents h) s ≡ model.footprint a h s

abbrev pub IndependenceIsOfHistory : Type 0
IndependenceIsOfHistory = (a : Program) (h : History) (s t : Step) → are_independent a (contents h) s t ≡ model.are_independent a h s t

abbrev pub SleepIsOfHistory : Type 0
SleepIsOfHistory = (a : Program) (h : History) (slept : List Step) (s : Step) → asleep_below a (contents h) slept s ≡ filter (model.are_independent a h s) slept
