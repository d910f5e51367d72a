-- Footprints, and when two steps are independent.
use Rattle.std.specs.List.{list_any}
use Rattle.std.specs.Prelude.{List, ◌&&◌, ◌≡◌, Option, None, [], Some, map, Bool, not, true}
use Rattle.term_core.specs.declared.step.Step.{Step}
use Rattle.world_model.specs.Cells.{Cell, meet}
use Rattle.world_model.specs.Changes.{cell_of}
use Rattle.world_model.specs.Events.{Event, History}
use Rattle.world_model.specs.Requests.{Program}
use Rattle.world_model.specs.Run.{changes, next_event, is_enabled}
use Rattle.world_model.specs.Steps.{reads}
use Rattle.world_model.specs.World.{contents}

-- ---- footprints

pub record Footprint : Type 0 where
  pub reads : List Cell
  pub writes : List Cell

abbrev pub written : History → Option Event → List Cell
written h None = []
written h (Some e) = map cell_of (changes h e)

-- the cells that a step reads, and those that it writes: the cells of its changes
abbrev pub footprint : Program → History → Step → Footprint
footprint a h step = record { reads = reads a (contents h) step; writes = written h (next_event a h step) }

-- whether one of these cells meets a cell, and one of others
abbrev pub one_meets : List Cell → Cell → Bool
one_meets cells c = list_any (λ d. meet d c) cells

abbrev pub some_meet : List Cell → List Cell → Bool
some_meet cells others = list_any (one_meets cells) others

-- ---- independence

-- neither writes a cell that the other reads or writes
abbrev pub are_apart : Footprint → Footprint → Bool
are_apart one other = not (some_meet one.writes other.reads) && (not (some_meet other.writes one.reads) && not (some_meet one.writes other.writes))

-- both are enabled, and neither writes a cell that the other reads or writes
abbrev pub are_independent : Program → History → Step → Step → Bool
are_independent a h s t = is_enabled a h s && (is_enabled a h t && are_apart (footprint a h s) (footprint a h t))

abbrev pub IsIndependent : Program → History → Step → Step → Type 0
IsIndependent a h s t = are_independent a h s t ≡ true
