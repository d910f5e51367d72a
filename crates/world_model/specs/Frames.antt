-- What each step reads and writes is all that matters to it.
use Rattle.std.specs.Prelude.{◌≡◌, Bool, false, List, [], ◌∷◌, Some, map}
use Rattle.term_core.specs.Meaning.{Meaning}
use Rattle.term_core.specs.declared.step.Step.{Step}
use Rattle.world_model.specs.Cells.{Contents, Cell, Front, Taken}
use Rattle.world_model.specs.Changes.{cell_of}
use Rattle.world_model.specs.Events.{History, Event, Signal}
use Rattle.world_model.specs.Independence.{one_meets, footprint}
use Rattle.world_model.specs.Mailboxes.{mailbox_in, selected_of}
use Rattle.world_model.specs.Requests.{Program}
use Rattle.world_model.specs.Run.{changes, next_event}
use Rattle.world_model.specs.Signals.{first_of, waiting_in}
use Rattle.world_model.specs.World.{contents}

-- what reading says beyond the contents, of the front of a channel and of what was taken from a mailbox: which signal waits first, and which message is the oldest of those that are selected, is so in the other too; where there is nothing, nothing is said
abbrev pub SeesFirst : Contents → Contents → Cell → Type 0
SeesFirst v w (Front s r) = (x : Signal) → first_of (waiting_in v s r) ≡ Some x → first_of (waiting_in w s r) ≡ Some x
SeesFirst v w (Taken p) = (selects : Meaning → Bool) (m : Meaning) → selected_of selects (mailbox_in v p) ≡ Some m → selected_of selects (mailbox_in w p) ≡ Some m
SeesFirst v w c = Unit {0}

-- two contents agree on a cell, and on cells
abbrev pub Sees : Contents → Contents → Cell → Type 0
Sees v w c = (v c ≡ w c) × SeesFirst v w c

abbrev pub AgreeOn : Contents → Contents → List Cell → Type 0
AgreeOn v w [] = Unit {0}
AgreeOn v w (c ∷ cs) = Sees v w c × AgreeOn v w cs

-- an event leaves the cells that meet none of those that it writes
abbrev pub LeavesOthers : Type 0
LeavesOthers = (h : History) (e : Event) (c : Cell) → one_meets (map cell_of (changes h e)) c ≡ false → contents (e ∷ h) c ≡ contents h c

-- a step of two histories: it has the same event and footprint, and where the histories agree on a cell, they do so after it
pub record IsTheSame (a : Program) (h g : History) (step : Step) : Type 0 where
  pub event : next_event a h step ≡ next_event a g step
  pub footprint : footprint a h step ≡ footprint a g step
  pub contents : (e : Event) → next_event a h step ≡ Some e → (c : Cell) → contents h c ≡ contents g c → contents (e ∷ h) c ≡ contents (e ∷ g) c

-- histories that agree on the cells that a step reads
abbrev pub ReadsSettle : Type 0
ReadsSettle = (a : Program) (h g : History) (step : Step) → AgreeOn (contents h) (contents g) (footprint a h step).reads → IsTheSame a h g step
