-- The owner of a table, by the latest event that gives it another.
use Rattle.std.proofs.Common.{◌≡◌, Bool, true, false, List, [], ◌∷◌, ap, Option, Some, None, refl, ◌∙◌, if◌then◌else◌, true≢false}
use Rattle.std.specs.Prelude.{option_map}
use Rattle.term_core.specs.declared.step.Step.{Step}
use Rattle.term_core.specs.declared.step.Step.TheVariants.{Turn, Deliver}
use Rattle.world_model.specs.Calls.{Call, TableCall, DeleteTable, GiveAway, SetOptions, New, OnTable, call_of}
use Rattle.world_model.specs.Ends.{heir_pid}
use Rattle.world_model.specs.Events.{History, Deed, Served, Refused, EndedItself, Ended, Received, TimedOut, RanAway, Delivered, Arrives, IsIgnored, IsDropped, Kills}
use Rattle.world_model.specs.TableAccess.{Found}
use Rattle.world_model.specs.Names.{Pid, Ref, same_ref}
use Rattle.world_model.specs.OwnerHistory.{owner_left, owner_by_found, owner_by_call, owner_in, owner_at_end, OwnerIsTold}
use Rattle.world_model.specs.OwnershipLaws.{has_table, heirs_left, next_owner, table_left, table_passed}
use Rattle.world_model.specs.ProcessLines.{next_ref}
use Rattle.world_model.specs.Tables as tables
use Rattle.world_model.specs.Tables.{Heir, TableOption, owned_by, table_of, with_heir}
use Rattle.world_model.specs.TableHistory.{passed_at_end, table_by_call, table_in, table_of_call}
use Rattle.world_model.specs.ProcessHistory.{ended_in, is_it}
use Rattle.world_model.specs.World.{contents, found, table}
use Rattle.world_model.proofs.Having.{owner_of, owner_if, run_had}
use Rattle.world_model.proofs.Matching.{Match}
use Rattle.world_model.proofs.TableHistory.{table_told}

-- ---- calls

with_heir_owner : (heir : Heir) (o : Option tables.Table) → owner_of (option_map (with_heir heir) o) ≡ owner_of o
with_heir_owner heir None = refl
with_heir_owner heir (Some x) = refl

heirs_owner : (hs : List Heir) (o : Option tables.Table) → owner_of (heirs_left hs o) ≡ owner_of o
heirs_owner [] o = refl
heirs_owner (h ∷ hs) o = heirs_owner hs (option_map (with_heir h) o) ∙ with_heir_owner h o

given_owner : (to : Pid) (o : Option tables.Table) → owner_of (option_map (owned_by to) o) ≡ option_map (λ p. to) (owner_of o)
given_owner to None = refl
given_owner to (Some x) = refl

left_owner : (call : TableCall) (o : Option tables.Table) → owner_of (table_left call o) ≡ owner_left call (owner_of o)
left_owner DeleteTable o = refl
left_owner (GiveAway None gift_) o = refl
left_owner (GiveAway (Some to) gift_) o = given_owner to o
left_owner (SetOptions None) o = refl
left_owner (SetOptions (Some hs)) o = heirs_owner hs o
left_owner call o = refl

found_owner : (f : Option Found) (call : TableCall) (t : Ref) (o : Option tables.Table) → owner_of (table_of_call f call t o) ≡ owner_by_found f call t (owner_of o)
found_owner None call t o = refl
found_owner (Some f) call t o = owner_if (same_ref f.ref t) (table_left call o) o ∙ ap (λ q. if same_ref f.ref t then q else owner_of o) (left_owner call o)

call_owner : (h : History) (p : Pid) (call : Call) (t : Ref) (o : Option tables.Table) → owner_of (table_by_call h p call t o) ≡ owner_by_call h p call t (owner_of o)
call_owner h p (New None options) t o = refl
call_owner h p (New (Some name) None) t o = refl
call_owner h p (New (Some name) (Some os)) t o = owner_if (same_ref (next_ref (contents h) p) t) (Some (table_of p name os)) o
call_owner h p (OnTable argument call) t o = found_owner (found h argument) call t o
call_owner h p call t o = refl

-- ---- ends

end_owner : (p : Pid) (heir : Heir) (o : Option tables.Table) (b : Bool) → b ≡ is_it (owner_of o) p → owner_of (if b then table_passed heir o else o) ≡ (if is_it (owner_of o) p then heir_pid heir else owner_of o)
end_owner p None o true is = ap (λ c. if c then None else owner_of o) is
end_owner p (Some heir) None true is = absurd (true≢false is)
end_owner p (Some heir) (Some x) true is = ap (λ c. if c then Some heir.0 else owner_of (Some x)) is
end_owner p heir o false is = ap (λ c. if c then heir_pid heir else owner_of o) is

-- ---- every event

event_owner : (h : History) (step : Step) (deed : Deed) (t : Ref) → ((p : Pid) → has_table h p t ≡ is_it (owner_of (table h t)) p) → owner_of (passed_at_end h (ended_in step deed) t (table_in h step deed t (table h t))) ≡ owner_at_end h (ended_in step deed) t (owner_in h step deed t (owner_of (table h t)))
event_owner h (Turn p) (Served kind arguments answer) t had = call_owner h p (call_of kind arguments) t (table h t)
event_owner h (Turn p) (Refused kind arguments refusal) t had = refl
event_owner h (Turn p) (EndedItself kind arguments reason) t had = end_owner p (next_owner h p t) (table h t) (has_table h p t) (had p)
event_owner h (Turn p) (Received m) t had = refl
event_owner h (Turn p) TimedOut t had = refl
event_owner h (Turn p) (Ended reason) t had = end_owner p (next_owner h p t) (table h t) (has_table h p t) (had p)
event_owner h (Turn p) RanAway t had = end_owner p (next_owner h p t) (table h t) (has_table h p t) (had p)
event_owner h (Turn p) (Delivered x f) t had = refl
event_owner h (Deliver s r) (Delivered x (Arrives m)) t had = refl
event_owner h (Deliver s r) (Delivered x IsIgnored) t had = refl
event_owner h (Deliver s r) (Delivered x IsDropped) t had = refl
event_owner h (Deliver s r) (Delivered x (Kills reason)) t had = end_owner r (next_owner h r t) (table h t) (has_table h r t) (had r)
event_owner h (Deliver s r) deed t had = refl

pub owner_told : OwnerIsTold
unfolding Match
owner_told a h e t is = ap owner_of (table_told h e t) ∙ event_owner h e.step e.deed t (λ p. run_had a h is.1 p t)
