-- The mailbox of a process: what is there, and what taking a message from it reads and changes.
use Rattle.std.specs.Prelude.{Bool, List, [], ◌∷◌, Option, Some, None, if◌then◌else◌}
use Rattle.term_core.specs.Meaning.{Meaning}
use Rattle.world_model.specs.Cells.{Cell, Taken, Mailed, Contents}
use Rattle.world_model.specs.Changes.{Change, MessageTaken, without_first}
use Rattle.world_model.specs.Names.{Pid, same_term}

-- messages without those that were taken, each where it first occurs
abbrev pub left_of : List Meaning → List Meaning → List Meaning
left_of [] messages = messages
left_of (taken ∷ more) messages = left_of more (without_first (same_term taken) messages)

-- the messages that are there, the oldest first: those that came, less those that were taken
abbrev pub mailbox_in : Contents → Pid → List Meaning
mailbox_in v p = left_of (v (Taken p)) (v (Mailed p))

-- the oldest message that is selected
abbrev pub selected_of : (Meaning → Bool) → List Meaning → Option Meaning
selected_of selects [] = None
selected_of selects (m ∷ ms) = if selects m then Some m else selected_of selects ms

-- it is taken, if there is one
abbrev pub picked : Pid → Option Meaning → List Change
picked p None = []
picked p (Some message) = MessageTaken p message ∷ []

-- a receive that finds one reads what was taken before; whatever comes after it does not matter. One that finds none reads all that came
abbrev pub reads_to_pick : Pid → Option Meaning → List Cell
reads_to_pick p None = Taken p ∷ Mailed p ∷ []
reads_to_pick p (Some message) = Taken p ∷ []
