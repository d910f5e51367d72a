-- What a step results in, and what is asked of two that commute.
use Rattle.std.proofs.Common.{◌≡◌, Bool, false, ◌||◌, List, [], ◌∷◌, Option, Some, option_map, map}
use Rattle.term_core.specs.declared.step.Step.{Step}
use Rattle.world_model.specs.Requests.{Program}
use Rattle.world_model.specs.Events.{Deed}
use Rattle.world_model.specs.Cells.{Cell, meet, Contents}
use Rattle.world_model.specs.Changes.{Change, cell_of, after}
use Rattle.world_model.specs.Steps.{next_deed, changes_by, reads}

-- what a step results in: its deed, and what that changes
abbrev pub Outcome : Type 0
Outcome = Deed × List Change

abbrev pub with_changes : Contents → Step → Deed → Outcome
with_changes v step deed = (deed, changes_by v step deed)

abbrev pub outcome : Program → Contents → Step → Option Outcome
outcome a v step = option_map (with_changes v step) (next_deed a v step)

-- whether changes write a cell or a part of it, and one of these cells
abbrev pub touches : List Change → Cell → Bool
touches [] c = false
touches (k ∷ ks) c = meet (cell_of k) c || touches ks c

abbrev pub meets : List Change → List Cell → Bool
meets ks [] = false
meets ks (c ∷ cs) = touches ks c || meets ks cs

-- neither of two enabled steps writes a cell that the other reads or writes
pub record AreIndependent (a : Program) (v : Contents) (s t : Step) (cs ds : List Change) : Type 0 where
  pub first_reads : meets ds (reads a v s) ≡ false
  pub second_reads : meets cs (reads a v t) ≡ false
  pub writes : meets cs (map cell_of ds) ≡ false

-- they commute: each is enabled after the other, with the same deed and changes, and both orders leave the same in every cell
pub record Commute (a : Program) (v : Contents) (s t : Step) (d e : Outcome) : Type 0 where
  pub second_after_first : outcome a (after d.1 v) t ≡ Some e
  pub first_after_second : outcome a (after e.1 v) s ≡ Some d
  pub same : (c : Cell) → after e.1 (after d.1 v) c ≡ after d.1 (after e.1 v) c
