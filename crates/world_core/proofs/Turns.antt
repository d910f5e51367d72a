-- A process that lives has a turn, unless it waits.
use Rattle.std.proofs.Common.{◌≡◌, ◌∙◌, Bool, true, false, List, Option, Some, None, refl, sym, ap, if◌then◌else◌, option_map, true≢false}
use Rattle.term_core.specs.Meaning.{Meaning}
use Rattle.term_core.specs.declared.step.Step.TheVariants.{Turn}
use Rattle.core_calls.specs.declared.call.CallKind.{CallKind}
use Rattle.world_model.specs.Calls.{call_of}
use Rattle.world_model.specs.Cells.{Alive, Contents, Machine}
use Rattle.world_model.specs.Events.{Deed, Event, event, History}
use Rattle.world_model.specs.Mailboxes.{mailbox_in, selected_of}
use Rattle.world_model.specs.Names.{Pid}
use Rattle.world_model.specs.Requests.{Program, Request, Calls, Receives, Ends, RunsAway}
use Rattle.world_model.specs.Run.{next_event}
use Rattle.world_model.specs.Steps.{asked, deed_asked, must_wait, received}
use Rattle.world_model.specs.World.{alive, contents}
use Rattle.world_core.specs.Waiting.{WaitsAt, Waits}

served_if : (b : Bool) (deed : Deed) → (b ≡ true → ⊥) → (d : Deed) × ((if b then None else Some deed) ≡ Some d)
served_if true deed not = absurd (not refl)
served_if false deed not = (deed, refl)

received_if : (waits : Bool) (o : Option Meaning) → ((waits ≡ true) × (o ≡ None) → ⊥) → (d : Deed) × (received waits o ≡ Some d)
received_if true None not = absurd (not (refl, refl))
received_if false None not = (_, refl)
received_if waits (Some message) not = (_, refl)

has_deed : (v : Contents) (p : Pid) (request : Request) → (WaitsAt v p request → ⊥) → (d : Deed) × (deed_asked v p request ≡ Some d)
has_deed v p (Calls kind arguments) not = served_if (must_wait v p (call_of kind arguments)) _ not
has_deed v p (Receives waits selects) not = received_if waits (selected_of selects (mailbox_in v p)) not
has_deed v p (Ends reason) not = (_, refl)
has_deed v p RunsAway not = (_, refl)

none_if : (b : Bool) (deed : Deed) → b ≡ true → (if b then None else Some deed) ≡ None
none_if true deed e = refl
none_if false deed e = absurd (true≢false (sym e))

none_received : (waits : Bool) (o : Option Meaning) → waits ≡ true → o ≡ None → received waits o ≡ None
none_received waits o w e = λ i. received (w i) (e i)

has_none : (v : Contents) (p : Pid) (request : Request) → WaitsAt v p request → deed_asked v p request ≡ None
has_none v p (Calls kind arguments) waits = none_if (must_wait v p (call_of kind arguments)) _ waits
has_none v p (Receives waits_ selects) waits = none_received waits_ (selected_of selects (mailbox_in v p)) waits.0 waits.1
has_none v p (Ends reason) waits = absurd waits
has_none v p RunsAway waits = absurd waits

event_of : (a : Program) (h : History) (p : Pid) (b : Bool) (o : Option Deed) (d : Deed) → b ≡ true → o ≡ Some d → option_map (event (Turn p)) (if b then o else None) ≡ Some (event (Turn p) d)
event_of a h p b o d lives is = λ i. option_map (event (Turn p)) (if lives i then is i else None)

pub has_turn : (a : Program) (h : History) (p : Pid) → alive h p ≡ true → (Waits a h p → ⊥) → (e : Event) × (next_event a h (Turn p) ≡ Some e)
has_turn a h p lives not =
    let d = has_deed (contents h) p (asked a p (contents h (Machine p))) (λ waits. not (lives, waits)) in
    (event (Turn p) d.0, event_of a h p (contents h (Alive p)) _ d.0 lives d.1)

pub has_no_turn : (a : Program) (h : History) (p : Pid) → Waits a h p → next_event a h (Turn p) ≡ None
has_no_turn a h p waits = λ i. option_map (event (Turn p)) (if waits.0 i then has_none (contents h) p (asked a p (contents h (Machine p))) waits.1 i else None)
