-- What histories say of the owner of a table, in the words of their events: by the latest one that gives it another, or none (ets manual, `new/2`, `give_away/3`, `delete/1`).
use Rattle.std.specs.Prelude.{◌≡◌, ◌∷◌, if◌then◌else◌, Option, Some, None, option_map}
use Rattle.term_core.specs.declared.step.Step.{Step}
use Rattle.term_core.specs.declared.step.Step.TheVariants.{Turn}
use Rattle.world_model.specs.Calls.{Call, TableCall, DeleteTable, GiveAway, New, OnTable, call_of}
use Rattle.world_model.specs.Ends.{heir_pid}
use Rattle.world_model.specs.Events.{Event, History, Deed, Served}
use Rattle.world_model.specs.TableAccess.{Found}
use Rattle.world_model.specs.Names.{Pid, Ref, same_ref}
use Rattle.world_model.specs.OwnershipLaws.{next_owner}
use Rattle.world_model.specs.ProcessLines.{next_ref}
use Rattle.world_model.specs.Requests.{Program}
use Rattle.world_model.specs.Run.{IsRun}
use Rattle.world_model.specs.ProcessHistory.{ended_by, is_it}
use Rattle.world_model.specs.World.{contents, found, owner}

-- a served `give_away/3` gives it its target, a served `delete/1` none
abbrev pub owner_left : TableCall → Option Pid → Option Pid
owner_left DeleteTable there = None
owner_left (GiveAway (Some to) gift) there = option_map (λ p. to) there
owner_left call there = there

abbrev pub owner_by_found : Option Found → TableCall → Ref → Option Pid → Option Pid
owner_by_found None call t there = there
owner_by_found (Some f) call t there = if same_ref f.ref t then owner_left call there else there

-- a served `new/2` gives its table the caller
abbrev pub owner_by_call : History → Pid → Call → Ref → Option Pid → Option Pid
owner_by_call h p (New (Some name) (Some os)) t there = if same_ref (next_ref (contents h) p) t then Some p else there
owner_by_call h p (OnTable argument call) t there = owner_by_found (found h argument) call t there
owner_by_call h p call t there = there

abbrev pub owner_in : History → Step → Deed → Ref → Option Pid → Option Pid
owner_in h (Turn p) (Served kind arguments answer) t there = owner_by_call h p (call_of kind arguments) t there
owner_in h step deed t there = there

-- the end of the owner of that moment gives it the heir, where that lives and is another, and else none
abbrev pub owner_at_end : History → Option Pid → Ref → Option Pid → Option Pid
owner_at_end h None t there = there
owner_at_end h (Some p) t there = if is_it there p then heir_pid (next_owner h p t) else there

abbrev pub OwnerIsTold : Type 0
OwnerIsTold = (a : Program) (h : History) (e : Event) (t : Ref) → IsRun a (e ∷ h) → owner (e ∷ h) t ≡ owner_at_end h (ended_by e) t (owner_in h e.step e.deed t (owner h t))
