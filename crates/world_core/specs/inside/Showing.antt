-- What an event shows, as it is stored, and what a world shows.
use Rattle.std.specs.Prelude.{◌≡◌, ◌+◌, ℕ, Bool, List, [], ◌∷◌, ◌++◌, Option, Some, None}
use Rattle.term_core.specs.declared.step.Step.{Step}
use Rattle.term_core.specs.declared.step.Step.TheVariants.{Turn, Deliver}
use Rattle.core_tree.specs.Syntax.{ModuleTree}
use Rattle.world_identities.specs.Identities.{identity_in}
use Rattle.world_identities.specs.declared.identity.Identity.{Identity}
use Rattle.proc_mailboxes.specs.Mailboxes.{Mailboxes, messages_in}
use Rattle.world_model.specs.Events as events
use Rattle.world_model.specs.Events.{History}
use Rattle.world_model.specs.Names.{Pid}
use Rattle.world_model.specs.Run.{latest}
use Rattle.world_model.specs.Shown as shown
use Rattle.world_model.specs.Shown.{are_some, shown_at_rest, shown_by, shown_last}
use Rattle.world_model.specs.World.{contents}
use Rattle.world_records.specs.Records.{Agrees}
use Rattle.world_records.specs.declared.records.Records.{Records}
use Rattle.world_footprints.specs.Deeds.{deed_in}
use Rattle.world_footprints.specs.declared.deed.Event.{Event}

-- an identity, if there is one
abbrev pub told_by : Option Identity → List shown.Identity
told_by None = []
told_by (Some i) = identity_in i ∷ []

-- the number of the request that a step serves, by how many turns each process took
abbrev pub request_by : (Pid → ℕ) → Step → ℕ
request_by turns (Turn p) = turns p
request_by turns (Deliver s r) = 0

-- and that which it serves next
abbrev pub next_request : (Pid → ℕ) → Step → ℕ
next_request turns (Turn p) = turns p + 1
next_request turns (Deliver s r) = 0

-- what an event shows, if there is one
abbrev pub last_shown : (Pid → ℕ) → Option Event → List shown.Identity
last_shown turns None = []
last_shown turns (Some e) = shown_by e.step (request_by turns e.step) (deed_in e.deed)

-- whether a process has messages, by what is kept of the mailboxes
abbrev pub has_unread : Mailboxes → Pid → Bool
has_unread mailboxes p = are_some (messages_in mailboxes p)

-- these are what a world shows with these records and this last event, where these steps are enabled
abbrev pub AreShownBy : Records → Option events.Event → List Step → List shown.Identity → Type 0
AreShownBy records last enabled identities = (m : ModuleTree) (h : History) → Agrees m records (contents h) → last ≡ latest (Some h) → identities ≡ shown_last h ++ shown_at_rest enabled h
