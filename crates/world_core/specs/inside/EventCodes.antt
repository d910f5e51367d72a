-- The codes of events, by which proofs distinguish values.
use Rattle.std.specs.Prelude.{◌≡◌, ◌⊎◌, ℕ, List, Option, refl}
use Rattle.std.specs.Coded.{Coded, code_by, coded×, coded⊎, coded_list, coded_option, coded_ℕ}
use Rattle.std.proofs.Common.{inl, inr}
use base.Stored.{coded_unit}
use Rattle.core_calls.specs.declared.call.CallKind.{CallKind}
use Rattle.core_calls.specs.CallCodes.{coded_call}
use Rattle.proc_signals.specs.inside.SignalCodes.{coded_signal}
use Rattle.term_core.specs.Meaning.{Meaning}
use Rattle.term_core.specs.inside.MeaningCodes.{coded_meaning}
use Rattle.term_core.specs.declared.step.Step.{Step}
use Rattle.term_core.specs.contracts.step.Step as step
use Rattle.world_model.specs.Events.{Signal, Fate, Arrives, IsIgnored, IsDropped, Kills, Refusal, Badarg, NoProcess, ByRule, Deed, Served, Refused, EndedItself, Received, TimedOut, Ended, RanAway, Delivered, Event, History}
use Rattle.world_model.specs.declared.rule.Rule.{Rule}
use Rattle.world_model.specs.contracts.rule.Rule as rule

-- ---- what becomes of a signal

abbrev FateParts : Type 0
FateParts = (Meaning ⊎ Meaning) ⊎ (Unit {0} ⊎ Unit {0})

abbrev parts_of_fate : Fate → FateParts
parts_of_fate (Arrives message) = inl (inl message)
parts_of_fate (Kills reason) = inl (inr reason)
parts_of_fate IsIgnored = inr (inl tt)
parts_of_fate IsDropped = inr (inr tt)

abbrev fate_in : FateParts → Fate
fate_in (inl (inl message)) = Arrives message
fate_in (inl (inr reason)) = Kills reason
fate_in (inr (inl u)) = IsIgnored
fate_in (inr (inr u)) = IsDropped

pub fate_in-parts_of_fate : (f : Fate) → fate_in (parts_of_fate f) ≡ f
fate_in-parts_of_fate (Arrives message) = refl
fate_in-parts_of_fate (Kills reason) = refl
fate_in-parts_of_fate IsIgnored = refl
fate_in-parts_of_fate IsDropped = refl

abbrev pub coded_fate : Coded Fate
coded_fate = code_by FateParts (coded⊎ (coded⊎ coded_meaning coded_meaning) (coded⊎ coded_unit coded_unit)) parts_of_fate fate_in fate_in-parts_of_fate

-- ---- why a call is refused

abbrev RefusalParts : Type 0
RefusalParts = (Unit {0} ⊎ Unit {0}) ⊎ (Rule × Option (List ℕ))

abbrev parts_of_refusal : Refusal → RefusalParts
parts_of_refusal Badarg = inl (inl tt)
parts_of_refusal NoProcess = inl (inr tt)
parts_of_refusal (ByRule r owner) = inr (r, owner)

abbrev refusal_in : RefusalParts → Refusal
refusal_in (inl (inl u)) = Badarg
refusal_in (inl (inr u)) = NoProcess
refusal_in (inr p) = ByRule p.0 p.1

pub refusal_in-parts_of_refusal : (r : Refusal) → refusal_in (parts_of_refusal r) ≡ r
refusal_in-parts_of_refusal Badarg = refl
refusal_in-parts_of_refusal NoProcess = refl
refusal_in-parts_of_refusal (ByRule r owner) = refl

abbrev pub coded_refusal : Coded Refusal
coded_refusal = code_by RefusalParts (coded⊎ (coded⊎ coded_unit coded_unit) (coded× rule.the_row.coded (coded_option (coded_list coded_ℕ)))) parts_of_refusal refusal_in refusal_in-parts_of_refusal

-- ---- what a step did

abbrev Called : Type 0
Called = CallKind × List Meaning

-- of a call; of a message or an end; and the others
abbrev DeedParts : Type 0
DeedParts = ((Called × Meaning) ⊎ ((Called × Refusal) ⊎ (Called × Meaning))) ⊎ ((Meaning ⊎ Meaning) ⊎ ((Unit {0} ⊎ Unit {0}) ⊎ (Signal × Fate)))

abbrev parts_of_deed : Deed → DeedParts
parts_of_deed (Served kind arguments answer) = inl (inl ((kind, arguments), answer))
parts_of_deed (Refused kind arguments refusal) = inl (inr (inl ((kind, arguments), refusal)))
parts_of_deed (EndedItself kind arguments reason) = inl (inr (inr ((kind, arguments), reason)))
parts_of_deed (Received message) = inr (inl (inl message))
parts_of_deed (Ended reason) = inr (inl (inr reason))
parts_of_deed TimedOut = inr (inr (inl (inl tt)))
parts_of_deed RanAway = inr (inr (inl (inr tt)))
parts_of_deed (Delivered signal fate) = inr (inr (inr (signal, fate)))

abbrev deed_from : DeedParts → Deed
deed_from (inl (inl x)) = Served x.0.0 x.0.1 x.1
deed_from (inl (inr (inl x))) = Refused x.0.0 x.0.1 x.1
deed_from (inl (inr (inr x))) = EndedItself x.0.0 x.0.1 x.1
deed_from (inr (inl (inl message))) = Received message
deed_from (inr (inl (inr reason))) = Ended reason
deed_from (inr (inr (inl (inl u)))) = TimedOut
deed_from (inr (inr (inl (inr u)))) = RanAway
deed_from (inr (inr (inr x))) = Delivered x.0 x.1

pub deed_from-parts_of_deed : (d : Deed) → deed_from (parts_of_deed d) ≡ d
deed_from-parts_of_deed (Served kind arguments answer) = refl
deed_from-parts_of_deed (Refused kind arguments refusal) = refl
deed_from-parts_of_deed (EndedItself kind arguments reason) = refl
deed_from-parts_of_deed (Received message) = refl
deed_from-parts_of_deed (Ended reason) = refl
deed_from-parts_of_deed TimedOut = refl
deed_from-parts_of_deed RanAway = refl
deed_from-parts_of_deed (Delivered signal fate) = refl

abbrev pub coded_called : Coded (CallKind × List Meaning)
coded_called = coded× coded_call (coded_list coded_meaning)

abbrev pub coded_deed : Coded Deed
coded_deed =
    code_by DeedParts
    (coded⊎ (coded⊎ (coded× coded_called coded_meaning) (coded⊎ (coded× coded_called coded_refusal) (coded× coded_called coded_meaning)))
    (coded⊎ (coded⊎ coded_meaning coded_meaning) (coded⊎ (coded⊎ coded_unit coded_unit) (coded× coded_signal coded_fate))))
    parts_of_deed deed_from deed_from-parts_of_deed

-- ---- events and histories

abbrev pub coded_event : Coded Event
coded_event = code_by (Step × Deed) (coded× step.the_row.coded coded_deed) (λ e. (e.step, e.deed)) (λ p. record { step = p.0; deed = p.1 }) (λ _. refl)

abbrev pub coded_history : Coded History
coded_history = coded_list coded_event
