-- The plan of a step: what it would do, the cells that it reads, and what it changes.
use Rattle.std.specs.Prelude.{◌≡◌, ◌∷◌, ◌++◌, List, [], Option, Some, None, map}
use Rattle.core_semantics.specs.Asked as answered
use Rattle.term_core.specs.declared.step.Step.{Step}
use Rattle.term_core.specs.declared.step.Step.TheVariants.{Turn, Deliver}
use Rattle.world_model.specs.Calls.{call_of}
use Rattle.world_model.specs.Cells.{Cell, Contents, Table}
use Rattle.world_model.specs.Changes.{Change, TurnTaken, MachineHalted, AliveCleared, SignalDelivered, MessageTaken, after, cell_of, changed}
use Rattle.world_model.specs.Ends.{left_by}
use Rattle.world_model.specs.Events.{Deed, Served, Refused, EndedItself, Received, TimedOut, Ended, RanAway, Delivered}
use Rattle.world_model.specs.Lines.{line}
use Rattle.world_model.specs.Names.{Pid}
use Rattle.world_model.specs.Signals.{goes_with}
use Rattle.world_model.specs.ProcessLines.{next_ref}
use Rattle.world_model.specs.Requests.{Program}
use Rattle.world_model.specs.Steps.{changes_by, changes_of_fate, next_deed, raised_by, runaway}
use Rattle.world_model.specs.Terms.{atom}
use Rattle.world_model.specs.World.{grown}
use Rattle.world_records.specs.Changes.{CanApply}

-- whose turn a step is, or the process that it delivers to
abbrev pub actor_of : Step → Pid
actor_of (Turn p) = p
actor_of (Deliver s r) = r

-- ---- what comes first: a turn counts, with what is answered, or ends its process; a signal leaves its channel

abbrev pub first_of_turn : Pid → Deed → List Change
first_of_turn p (Served kind arguments answer) = TurnTaken p (answered.Value answer ∷ []) ∷ []
first_of_turn p (Refused kind arguments refusal) = TurnTaken p (answered.Raise (atom (raised_by refusal)) ∷ []) ∷ []
first_of_turn p (EndedItself kind arguments reason) = TurnTaken p [] ∷ MachineHalted p reason ∷ AliveCleared p ∷ []
first_of_turn p (Received message) = TurnTaken p (answered.Message message ∷ []) ∷ []
first_of_turn p TimedOut = TurnTaken p (answered.TimedOut ∷ []) ∷ []
first_of_turn p (Ended reason) = TurnTaken p [] ∷ MachineHalted p reason ∷ AliveCleared p ∷ []
first_of_turn p RanAway = TurnTaken p [] ∷ MachineHalted p runaway ∷ AliveCleared p ∷ []
first_of_turn p (Delivered signal fate) = []

abbrev pub first_of_delivery : Pid → Pid → Deed → List Change
first_of_delivery s r (Delivered signal fate) = SignalDelivered s r ∷ []
first_of_delivery s r deed = []

abbrev pub first_changes : Step → Deed → List Change
first_changes (Turn p) deed = first_of_turn p deed
first_changes (Deliver s r) deed = first_of_delivery s r deed

-- ---- what comes then

abbrev pub others_of_turn : Contents → Pid → Deed → List Change
others_of_turn v p (Served kind arguments answer) = (line v p (call_of kind arguments)).changes
others_of_turn v p (Refused kind arguments refusal) = []
others_of_turn v p (EndedItself kind arguments reason) = left_by (changed (AliveCleared p) v) p reason
others_of_turn v p (Received message) = MessageTaken p message ∷ []
others_of_turn v p TimedOut = []
others_of_turn v p (Ended reason) = left_by (changed (AliveCleared p) v) p reason
others_of_turn v p RanAway = left_by (changed (AliveCleared p) v) p runaway
others_of_turn v p (Delivered signal fate) = []

abbrev pub others_of_delivery : Contents → Pid → Pid → Deed → List Change
others_of_delivery v s r (Delivered signal fate) = goes_with v s r signal ++ changes_of_fate (after (goes_with v s r signal) v) r fate
others_of_delivery v s r deed = []

abbrev pub other_changes : Contents → Step → Deed → List Change
other_changes v (Turn p) deed = others_of_turn v p deed
other_changes v (Deliver s r) deed = others_of_delivery v s r deed

-- none where a step does nothing
abbrev pub others_if : Contents → Step → Option Deed → List Change
others_if v step None = []
others_if v step (Some deed) = other_changes v step deed

-- ---- both together are what the event changes

abbrev pub ChangesAreInOrder : Type 0
ChangesAreInOrder = (v : Contents) (step : Step) (deed : Deed) → changes_by v step deed ≡ first_changes step deed ++ other_changes v step deed

-- ---- applying them

-- the reference that the process creates next is that of no table, as in all that happens
abbrev pub IsNewFor : Contents → Step → Type 0
IsNewFor v (Turn p) = v (Table (next_ref v p)) ≡ None
IsNewFor v (Deliver s r) = Unit {0}

-- the other changes of a step can be applied once its first changes were
abbrev pub StepsCanBeApplied : Type 0
StepsCanBeApplied = (a : Program) (v : Contents) (step : Step) (deed : Deed) → next_deed a v step ≡ Some deed → IsNewFor v step → CanApply (after (first_changes step deed) v) (other_changes v step deed)

-- contents after a step that did this, or did nothing
abbrev pub left : Contents → Step → Option Deed → Contents
left v step None = v
left v step (Some deed) = grown v step deed

-- ---- the cells of all changes of a step with this deed and these other changes; none where it does nothing

abbrev pub written_by : Step → Option Deed → List Change → List Cell
written_by step None ks = []
written_by step (Some deed) ks = map cell_of (first_changes step deed) ++ map cell_of ks
