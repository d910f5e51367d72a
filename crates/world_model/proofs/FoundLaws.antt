-- What an argument finds after every event.
use Rattle.std.proofs.Common.{◌≡◌, ◌⊎◌, Bool, true, false, List, [], ◌∷◌, ap, Option, Some, None, refl, sym, ◌∙◌, inl, inr, if◌then◌else◌, arith}
use Rattle.std.specs.Option.{option_or}
use Rattle.std.specs.Prelude.{◌+◌, option_map, unwrap_or}
use Rattle.term_core.specs.Meaning.{Meaning}
use Rattle.term_core.specs.declared.step.Step.{Step}
use Rattle.term_core.specs.declared.step.Step.TheVariants.{Turn}
use Rattle.core_calls.specs.declared.call.CallKind.{CallKind}
use Rattle.world_model.specs.Calls.{Call, TableArgument, ByName, ByReference, TableCall, DeleteTable, GiveAway, SetOptions, New, OnTable, call_of}
use Rattle.world_model.specs.Events.{Event, event, Deed, History, Served}
use Rattle.world_model.specs.TableAccess.{Found, as_found}
use Rattle.world_model.specs.FindingHistory.{FoundIsTold, argument_for, same_argument, made_by_call, made_in, if_there}
use Rattle.world_model.specs.Names.{Name, Pid, Ref, same_ref}
use Rattle.world_model.specs.OwnershipLaws.{has_table, heirs_left, next_owner, table_left, table_passed}
use Rattle.world_model.specs.ProcessLines.{next_ref}
use Rattle.world_model.specs.Requests.{Program}
use Rattle.world_model.specs.Run.{IsRun}
use Rattle.world_model.specs.Tables as tables
use Rattle.world_model.specs.Tables.{Heir, TableOption, owned_by, table_of, with_heir}
use Rattle.world_model.specs.TableHistory.{passed_at_end, table_by_call, table_in, table_of_call}
use Rattle.world_model.specs.ProcessHistory.{ended_by}
use Rattle.world_model.specs.World.{contents, found, table, turns}
use Rattle.world_model.proofs.Fresh.{names_new}
use Rattle.world_model.proofs.Meeting.{pid_itself, pids_same, ref_itself, refs_same}
use Rattle.world_model.proofs.Named.{no_some, table_is, ref_is, tables_found, found_are_there}
use Rattle.world_model.proofs.OwnerLaws.{makes_table}
use Rattle.world_model.proofs.TableHistory.{table_told}

-- ---- a table that is there after an event was there before it, under the same name, or is made by it

abbrev WasThere : Option tables.Table → tables.Table → Type 0
WasThere o y = (x : tables.Table) × (o ≡ Some x) × (y.name ≡ x.name) × (y.is_named ≡ x.is_named)

owned_was : (q : Pid) (o : Option tables.Table) (y : tables.Table) → option_map (owned_by q) o ≡ Some y → WasThere o y
owned_was q None y now = absurd (no_some now)
owned_was q (Some z) y now =
    let is = table_is (owned_by q z) y now in
    (z, refl, ap (λ x. x.name) (sym is), ap (λ x. x.is_named) (sym is))

passed_was : (b : Bool) (heir : Heir) (o : Option tables.Table) (y : tables.Table) → (if b then table_passed heir o else o) ≡ Some y → WasThere o y
passed_was true None o y now = absurd (no_some now)
passed_was true (Some heir) o y now = owned_was heir.0 o y now
passed_was false heir o y now = (y, now, refl, refl)

end_was : (h : History) (q : Option Pid) (t : Ref) (o : Option tables.Table) (y : tables.Table) → passed_at_end h q t o ≡ Some y → WasThere o y
end_was h None t o y now = (y, now, refl, refl)
end_was h (Some p) t o y now = passed_was (has_table h p t) (next_owner h p t) o y now

heir_was : (heir : Heir) (o : Option tables.Table) (y : tables.Table) → WasThere (option_map (with_heir heir) o) y → WasThere o y
heir_was heir None y was = absurd (no_some was.1)
heir_was heir (Some z) y was =
    let is = table_is (with_heir heir z) was.0 was.1 in
    (z, refl, was.2 ∙ ap (λ x. x.name) (sym is), was.3 ∙ ap (λ x. x.is_named) (sym is))

heirs_were : (heirs : List Heir) (o : Option tables.Table) (y : tables.Table) → heirs_left heirs o ≡ Some y → WasThere o y
heirs_were [] o y now = (y, now, refl, refl)
heirs_were (heir ∷ heirs) o y now = heir_was heir o y (heirs_were heirs (option_map (with_heir heir) o) y now)

left_was : (call : TableCall) (o : Option tables.Table) (y : tables.Table) → table_left call o ≡ Some y → WasThere o y
left_was DeleteTable o y now = absurd (no_some now)
left_was (GiveAway None gift_) o y now = (y, now, refl, refl)
left_was (GiveAway (Some to) gift_) o y now = owned_was to o y now
left_was (SetOptions None) o y now = (y, now, refl, refl)
left_was (SetOptions (Some heirs)) o y now = heirs_were heirs o y now
left_was call o y now = (y, now, refl, refl)

called_was : (b : Bool) (call : TableCall) (o : Option tables.Table) (y : tables.Table) → (if b then table_left call o else o) ≡ Some y → WasThere o y
called_was true call o y now = left_was call o y now
called_was false call o y now = (y, now, refl, refl)

found_was : (f : Option Found) (call : TableCall) (t : Ref) (o : Option tables.Table) (y : tables.Table) → table_of_call f call t o ≡ Some y → WasThere o y
found_was None call t o y now = (y, now, refl, refl)
found_was (Some f) call t o y now = called_was (same_ref f.ref t) call o y now

-- ---- what is made

itself_by : (b : Bool) (name : Name) (t : Ref) → same_argument (if b then ByName name else ByReference t) (if b then ByName name else ByReference t) ≡ true
itself_by true name t = pid_itself name
itself_by false name t = ref_itself t

argument_itself : (t : Ref) (x : tables.Table) → same_argument (argument_for t x) (argument_for t x) ≡ true
argument_itself t x = itself_by x.is_named x.name t

arguments_same : (one other : TableArgument) → same_argument one other ≡ true → one ≡ other
arguments_same (ByName n) (ByName m) is = ap ByName (pids_same n m is)
arguments_same (ByReference t) (ByReference u) is = ap ByReference (refs_same t u is)
arguments_same one other is = absurd cc

made_was : (u t : Ref) (x : tables.Table) (b : Bool) (o : Option tables.Table) (y : tables.Table) → same_ref u t ≡ b → (if b then Some x else o) ≡ Some y → WasThere o y ⊎ ((if same_argument (argument_for u x) (argument_for t y) then Some u else None) ≡ Some t)
made_was u t x true o y same now =
    let here = refs_same u t same in
    let is = table_is x y now in
    inr (ap (λ b. if b then Some u else None) ((λ i. same_argument (argument_for u x) (argument_for (sym here i) (sym is i))) ∙ argument_itself u x) ∙ ap Some here)
made_was u t x false o y same now = inl (y, now, refl, refl)

call_was : (h : History) (p : Pid) (call : Call) (t : Ref) (o : Option tables.Table) (y : tables.Table) → table_by_call h p call t o ≡ Some y → WasThere o y ⊎ (made_by_call h p call (argument_for t y) ≡ Some t)
call_was h p (New None options) t o y now = inl (y, now, refl, refl)
call_was h p (New (Some name) None) t o y now = inl (y, now, refl, refl)
call_was h p (New (Some name) (Some os)) t o y now = made_was (next_ref (contents h) p) t (table_of p name os) (same_ref (next_ref (contents h) p) t) o y refl now
call_was h p (OnTable argument call) t o y now = inl (found_was (found h argument) call t o y now)
call_was h p call t o y now = inl (y, now, refl, refl)

step_was : (h : History) (step : Step) (deed : Deed) (t : Ref) (o : Option tables.Table) (y : tables.Table) → table_in h step deed t o ≡ Some y → WasThere o y ⊎ (made_in h step deed (argument_for t y) ≡ Some t)
step_was h (Turn p) (Served kind arguments answer) t o y now = call_was h p (call_of kind arguments) t o y now
step_was h step deed t o y now = inl (y, now, refl, refl)

named_alike : (t : Ref) (x y : tables.Table) → y.name ≡ x.name → y.is_named ≡ x.is_named → argument_for t y ≡ argument_for t x
named_alike t x y name_ named_ = λ i. if named_ i then ByName (name_ i) else ByReference t

event_was : (h : History) (e : Event) (t : Ref) (y : tables.Table) → table (e ∷ h) t ≡ Some y → WasThere (table h t) y ⊎ (made_in h e.step e.deed (argument_for t y) ≡ Some t)
event_was h e t y now =
    let passed_ = end_was h (ended_by e) t (table_in h e.step e.deed t (table h t)) y (sym (table_told h e t) ∙ now) in
    elim (step_was h e.step e.deed t (table h t) passed_.0 passed_.1) [
      | inl was ↦ inl (was.0, was.1, passed_.2 ∙ was.2, passed_.3 ∙ was.3)
      | inr made ↦ inr (ap (made_in h e.step e.deed) (named_alike t passed_.0 y passed_.2 passed_.3) ∙ made)
    ]

-- ---- what is made is there, and is new

abbrev IsMade : History → Event → TableArgument → Ref → Type 0
IsMade h e argument t = (x : tables.Table) × (table (e ∷ h) t ≡ Some x) × (argument_for t x ≡ argument)

made_by : (g : History) (u t : Ref) (x : tables.Table) (argument : TableArgument) (b : Bool) → same_argument (argument_for u x) argument ≡ b → (if b then Some u else None) ≡ Some t → table g u ≡ Some x → (y : tables.Table) × (table g t ≡ Some y) × (argument_for t y ≡ argument)
made_by g u t x argument true same now there =
    let here = ref_is u t now in
    (x, ap (table g) (sym here) ∙ there, ap (λ w. argument_for w x) (sym here) ∙ arguments_same (argument_for u x) argument same)
made_by g u t x argument false same now there = absurd (no_some now)

made_by_new : (h : History) (p : Pid) (kind : CallKind) (arguments : List Meaning) (answer : Meaning) (call : Call) (argument : TableArgument) (t : Ref) → call_of kind arguments ≡ call → made_by_call h p call argument ≡ Some t → IsMade h (event (Turn p) (Served kind arguments answer)) argument t
made_by_new h p kind arguments answer (New (Some name) (Some os)) argument t is now =
    let u = next_ref (contents h) p in
    made_by (event (Turn p) (Served kind arguments answer) ∷ h) u t (table_of p name os) argument (same_argument (argument_for u (table_of p name os)) argument) refl now (makes_table h p kind arguments name os answer is)
made_by_new h p kind arguments answer call argument t is now = absurd (no_some now)

made_there : (h : History) (step : Step) (deed : Deed) (argument : TableArgument) (t : Ref) → made_in h step deed argument ≡ Some t → IsMade h (event step deed) argument t
made_there h (Turn p) (Served kind arguments answer) argument t now = made_by_new h p kind arguments answer (call_of kind arguments) argument t refl now
made_there h step deed argument t now = absurd (no_some now)

chosen_new : (b : Bool) (u t : Ref) → (if b then Some u else None) ≡ Some t → u ≡ t
chosen_new true u t now = ref_is u t now
chosen_new false u t now = absurd (no_some now)

call_new : (h : History) (p : Pid) (call : Call) (argument : TableArgument) (t : Ref) → made_by_call h p call argument ≡ Some t → next_ref (contents h) p ≡ t
call_new h p (New (Some name) (Some os)) argument t now = chosen_new (same_argument (argument_for (next_ref (contents h) p) (table_of p name os)) argument) (next_ref (contents h) p) t now
call_new h p call argument t now = absurd (no_some now)

made_new : (a : Program) (h : History) (step : Step) (deed : Deed) (argument : TableArgument) (t : Ref) → IsRun a h → made_in h step deed argument ≡ Some t → table h t ≡ None
made_new a h (Turn p) (Served kind arguments answer) argument t is now = ap (table h) (sym (call_new h p (call_of kind arguments) argument t now)) ∙ (names_new a h p (turns h p + 1) is (omega arith)).table
made_new a h step deed argument t is now = absurd (no_some now)

-- ---- what is found

ref_of_found : (f g : Found) → Some f ≡ Some g → f.ref ≡ g.ref
ref_of_found f g now = ap (λ o. (unwrap_or o f).ref) now

-- what is found after an event was found before it, or is made by it
module _ (a : Program) (h : History) (e : Event) (argument : TableArgument) (is : IsRun a (e ∷ h)) where
  here : (t : Ref) (y : tables.Table) → table (e ∷ h) t ≡ Some y → argument_for t y ≡ argument → found (e ∷ h) argument ≡ as_found t (table (e ∷ h) t)
  here t y there by = ap (found (e ∷ h)) (sym by) ∙ tables_found a (e ∷ h) t y is there ∙ ap (as_found t) (sym there)

  before_or_made : (g : Found) → found (e ∷ h) argument ≡ Some g → ((x : tables.Table) × (found h argument ≡ Some (record { ref = g.ref; table = x }))) ⊎ (made_in h e.step e.deed argument ≡ Some g.ref)
  before_or_made g now =
      let there = found_are_there a (e ∷ h) argument g is now in
      elim (event_was h e g.ref g.table there.0) [
        | inl was ↦ inl (was.0, ap (found h) (sym (sym (named_alike g.ref was.0 g.table was.2 was.3) ∙ there.1)) ∙ tables_found a h g.ref was.0 is.1 was.1)
        | inr made ↦ inr (ap (made_in h e.step e.deed) (sym there.1) ∙ made)
      ]

  nothing_by : (o : Option Found) → found (e ∷ h) argument ≡ o → made_in h e.step e.deed argument ≡ None → found h argument ≡ None → o ≡ None
  nothing_by None now made none = refl
  nothing_by (Some g) now made none = elim (before_or_made g now) [
    | inl was ↦ absurd (no_some (sym none ∙ was.1))
    | inr one ↦ absurd (no_some (sym made ∙ one))
  ]

  gone_by : (o : Option Found) (f : Found) → found (e ∷ h) argument ≡ o → made_in h e.step e.deed argument ≡ None → found h argument ≡ Some f → table (e ∷ h) f.ref ≡ None → o ≡ None
  gone_by None f now made was gone_ = refl
  gone_by (Some g) f now made was gone_ = elim (before_or_made g now) [
    | inl old ↦ absurd (no_some (sym gone_ ∙ ap (table (e ∷ h)) (ref_of_found f (record { ref = g.ref; table = old.0 }) (sym was ∙ old.1)) ∙ (found_are_there a (e ∷ h) argument g is now).0))
    | inr one ↦ absurd (no_some (sym made ∙ one))
  ]

  stays_by : (f : Found) (o : Option tables.Table) → table (e ∷ h) f.ref ≡ o → made_in h e.step e.deed argument ≡ None → found h argument ≡ Some f → found (e ∷ h) argument ≡ as_found f.ref (table (e ∷ h) f.ref)
  stays_by f None now made was = gone_by (found (e ∷ h) argument) f refl made was now ∙ ap (as_found f.ref) (sym now)
  stays_by f (Some y) now made was =
      let there = found_are_there a h argument f is.1 was in
      elim (event_was h e f.ref y now) [
        | inl old ↦
            let same = table_is f.table old.0 (sym there.0 ∙ old.1) in
            here f.ref y now (named_alike f.ref old.0 y old.2 old.3 ∙ ap (argument_for f.ref) (sym same) ∙ there.1)
        | inr one ↦ absurd (no_some (sym (made_new a h e.step e.deed (argument_for f.ref y) f.ref is.1 one) ∙ there.0))
      ]

  told_by : (m : Option Ref) (was : Option Found) → made_in h e.step e.deed argument ≡ m → found h argument ≡ was → found (e ∷ h) argument ≡ if_there (e ∷ h) (option_or m (option_map (λ f. f.ref) was))
  told_by (Some t) was made now = let one = made_there h e.step e.deed argument t made in here t one.0 one.1 one.2
  told_by None (Some f) made now = stays_by f (table (e ∷ h) f.ref) refl made now
  told_by None None made now = nothing_by (found (e ∷ h) argument) refl made now

pub found_told : FoundIsTold
found_told a h e argument is = told_by a h e argument is (made_in h e.step e.deed argument) (found h argument) refl refl
