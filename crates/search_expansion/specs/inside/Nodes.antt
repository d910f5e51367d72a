-- Nodes of the tree: what their parts hold of a history.
use Rattle.std.specs.Prelude.{◌≡◌, ◌∷◌, ◌++◌, List, Some, map}
use Rattle.core_tree.specs.Syntax.{ModuleTree}
use Rattle.world_identities.specs.Identities.{identity_in}
use Rattle.world_identities.specs.declared.identity.Identity.{Identity}
use Rattle.search_agenda.specs.Plans.{ArePlans, IsAgenda, IsPlan, IsWorld, Shared}
use Rattle.search_agenda.specs.declared.agenda.Agenda.{Agenda}
use Rattle.world_footprints.specs.declared.plan.Plan.{Plan}
use Rattle.world_model.specs.Asking.{program_of}
use Rattle.world_model.specs.Events.{Event, History}
use Rattle.world_model.specs.Requests.{Program}
use Rattle.world_model.specs.Run.{enabled_steps, next_event}
use Rattle.world_model.specs.Shown.{shown_at_rest}
use Rattle.world_records.specs.declared.records.Records.{Records}
use Rattle.search_expansion.specs.declared.node.Node.{Node}

-- the records are what the history leaves, the agenda is that of it, and the plans of what sleeps hold
pub record IsNode (m : ModuleTree) (h : History) (n : Node) : Type 0 where
  pub world : IsWorld m h n.records
  pub agenda : IsAgenda (program_of m) h n.agenda
  pub slept : ArePlans (program_of m) h n.slept.items

-- the node there, where these plans hold there
abbrev pub IsBelow : Records → Agenda → Plan → List Shared → Node → Type 0
IsBelow records agenda p slept n = (m : ModuleTree) (h : History) (e : Event) → IsWorld m h records → IsAgenda (program_of m) h agenda → IsPlan (program_of m) h p → next_event (program_of m) h p.step ≡ Some e → ArePlans (program_of m) (e ∷ h) slept → IsNode m (e ∷ h) n

-- the deadlock that is shown after a history, if one is, is put after others, and then what is unread
abbrev pub AddsDeadlock : Program → History → List Identity → List Identity → Type 0
AddsDeadlock a h old new = map identity_in new ≡ map identity_in old ++ shown_at_rest (enabled_steps a h) h
