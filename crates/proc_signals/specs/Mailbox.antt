-- Messages in a mailbox: the place of the oldest that is selected, and that they are what a cell contains.
use Rattle.std.specs.Prelude.{◌≡◌, ℕ, ◌+◌, Bool, List, [], ◌∷◌, ◌++◌, Option, Some, None, option_map, if◌then◌else◌}
use Rattle.term_core.specs.Meaning.{Meaning}
use Rattle.world_model.specs.Cells.{Contents, Taken, Mailed}
use Rattle.world_model.specs.Changes.{MessageTaken, changed}
use Rattle.world_model.specs.Mailboxes.{left_of, mailbox_in}
use Rattle.world_model.specs.Names.{Pid}

-- the least place, from 0, of a message that passes a test; none where none passes
abbrev pub first_place : (Meaning → Bool) → List Meaning → Option ℕ
first_place test [] = None
first_place test (m ∷ ms) = if test m then Some 0 else option_map (λ n. n + 1) (first_place test ms)

-- these are the messages of a process: what is left of those that came, and whatever comes stays after them
pub record IsMailbox (messages : List Meaning) (v : Contents) (p : Pid) : Type 0 where
  pub left : messages ≡ mailbox_in v p
  pub behind : (more : List Meaning) → left_of (v (Taken p)) (v (Mailed p) ++ more) ≡ messages ++ more

-- the message at a place is taken, and the messages are those of a process after that, where it is the oldest that is selected
abbrev pub IsTakenAt : ℕ → Meaning → List Meaning → List Meaning → Type 0
IsTakenAt place message old new = (selects : Meaning → Bool) (v : Contents) (p : Pid) → first_place selects old ≡ Some place → IsMailbox old v p → IsMailbox new (changed (MessageTaken p message) v) p
