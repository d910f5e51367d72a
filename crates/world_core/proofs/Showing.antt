-- What a world shows is determined by its records, its last event and its enabled steps.
use Rattle.std.proofs.Common.{◌≡◌, ◌∙◌, ◌++◌, ◌+◌, if◌then◌else◌, ℕ, Bool, List, [], ◌∷◌, Option, Some, None, refl, sym, ap, arith, option_map, is_some, Bor, length, ◌==◌, false, true, append_assoc}
use Rattle.std.proofs.lemmas.Bool.{eqb-true, false≢true}
use Rattle.std.proofs.lemmas.Option.{none-some}
use Rattle.std.specs.BTreeMap.{is_at}
use Rattle.std.specs.List.{filter, list_any, slice_get}
use Rattle.std.specs.List.Sorted.{IsStrictlySortedBy}
use Rattle.std.specs.Prelude.{◌&&◌, option_copied}
use Rattle.term_core.specs.Order.{order_of_lists}
use Rattle.term_core.specs.declared.step.Step.{Step}
use Rattle.term_core.specs.declared.step.Step.TheVariants.{Turn, Deliver}
use Rattle.term_core.specs.Meaning.{Meaning}
use Rattle.core_calls.specs.declared.call.CallKind.{CallKind}
use Rattle.core_tree.specs.Syntax.{ModuleTree}
use Rattle.proc_machines.specs.Processes.{lives_in, turns_in}
use Rattle.proc_mailboxes.specs.Mailboxes.{Mailboxes, messages_in}
use Rattle.world_model.specs.Asking.{program_of}
use Rattle.world_model.specs.Events as events
use Rattle.world_model.specs.Events.{event, History, Refusal, Served, Refused, EndedItself, Received, TimedOut, Ended, RanAway, Delivered}
use Rattle.world_model.specs.Mailboxes.{mailbox_in}
use Rattle.world_model.specs.Names.{Pid}
use Rattle.world_model.specs.Run.{latest, living, next_event}
use Rattle.world_model.specs.Shown.{Identity, are_some, deadlock_of, has_first, request_in, shown_at_rest, shown_by, shown_last, unread_by, unread_of, with_messages}
use Rattle.world_model.specs.World.{contents, turns}
use Rattle.world_records.specs.Records.{Agrees, mailboxes_of, processes_of}
use Rattle.world_records.specs.declared.records.Records.{Records}
use Rattle.world_footprints.specs.Deeds.{deed_in, event_in}
use Rattle.world_footprints.specs.Footprints.{IsPlan}
use Rattle.world_footprints.specs.declared.deed.Deed.{Deed}
use Rattle.world_footprints.specs.declared.deed.Event.{Event}
use Rattle.world_footprints.specs.declared.plan.Plan.{Plan}
use Rattle.world_core.specs.inside.Showing.{has_unread, last_shown, next_request, request_by}
use Rattle.world_model.proofs.Lives.{turns_told}
use Rattle.world_model.proofs.Meeting.{pid_itself}
use Rattle.world_core.proofs.Living.{living_are}

event_is : (x y : events.Event) → Some x ≡ Some y → x ≡ y
event_is x y e = cc

none_is_not : (x : events.Event) → Some x ≡ None → ⊥
none_is_not x e = absurd cc

same_request : (h : History) (taken : Pid → ℕ) → ((p : Pid) → taken p ≡ turns h p) → (step : Step) → request_by taken step ≡ request_in step h
same_request h taken same (Turn p) = same p
same_request h taken same (Deliver s r) = refl

pub last_is : (h : History) (taken : Pid → ℕ) (last : Option Event) → ((p : Pid) → taken p ≡ turns h p) → option_map event_in last ≡ latest (Some h) → last_shown taken last ≡ shown_last h
last_is [] taken None same is = refl
last_is [] taken (Some x) same is = absurd (none_is_not (event_in x) is)
last_is (e ∷ h) taken None same is = absurd (none_is_not e (sym is))
last_is (e ∷ h) taken (Some x) same is =
    ap (λ n. shown_by x.step n (deed_in x.deed)) (same_request (e ∷ h) taken same x.step)
    ∙ ap (λ (f : events.Event). shown_by f.step (request_in f.step (e ∷ h)) f.deed) (event_is (event_in x) e is)

pub told_copied : (last : Option (Bor Event)) → option_map event_in (option_copied last) ≡ option_map (λ (event : Bor Event). event_in event.now) last
told_copied None = refl
told_copied (Some event) = refl

-- what the last event shows, by the records and as they keep it
pub last_shows : (m : ModuleTree) (h : History) (records : Records) (last : Option (Bor Event)) → Agrees m records (contents h) → option_map (λ (event : Bor Event). event_in event.now) last ≡ latest (Some h)
    → last_shown (turns_in (processes_of records)) (option_copied last) ≡ shown_last h
last_shows m h records last told is = last_is h (turns_in (processes_of records)) (option_copied last) (λ p. told.processes_are.turns p) (told_copied last ∙ is)

-- ---- where no step is enabled

-- nothing is shown where one is
pub goes_on : (steps : List Step) (h : History) → false ≡ (length steps == 0) → shown_at_rest steps h ≡ []
goes_on [] h some = absurd (false≢true some)
goes_on (step ∷ steps) h some = refl

no_length : (steps : List Step) → length steps ≡ 0 → steps ≡ []
no_length [] none = refl
no_length (step ∷ steps) none = absurd (omega arith)

pub no_step : (steps : List Step) → true ≡ (length steps == 0) → steps ≡ []
no_step steps none = no_length steps (eqb-true (length steps) 0 (sym none))

-- a mailbox has messages where it has a first one
pub has_one : {A : Type 0} (o : Option A) (f : A → Meaning) (messages : List Meaning) → option_map f o ≡ slice_get messages 0 → is_some o ≡ are_some messages
has_one None f [] is = refl
has_one None f (m ∷ ms) is = absurd (none-some m is)
has_one (Some x) f [] is = absurd (none-some (f x) (sym is))
has_one (Some x) f (m ∷ ms) is = refl

-- nothing is unread where the first process lives, and else what is in mailboxes
pub first_lives : (ps unread : List Pid) (b : Bool) → b ≡ has_first ps → b ≡ true → unread_of ps unread ≡ []
first_lives ps unread b is on = ap (λ (c : Bool). if c then [] else unread_by unread) (sym is ∙ on)

pub first_is_gone : (ps unread : List Pid) (b : Bool) → b ≡ has_first ps → b ≡ false → unread_of ps unread ≡ unread_by unread
first_is_gone ps unread b is off = ap (λ (c : Bool). if c then [] else unread_by unread) (sym is ∙ off)

-- processes that are listed live after the history, where they are those of the records
pub all_live : (m : ModuleTree) (h : History) (records : Records) (keys ps : List Pid) → Agrees m records (contents h) → ps ≡ keys → IsStrictlySortedBy order_of_lists keys → ((p : Pid) → list_any (is_at (order_of_lists p)) keys ≡ lives_in (processes_of records) p)
    → ps ≡ living h
all_live m h records keys ps told listed sorted lives = listed ∙ living_are h keys sorted (λ p. lives p ∙ told.processes_are.alive p)

-- those that have messages in the mailboxes of the records
messages_same : (m : ModuleTree) (h : History) (records : Records) (mailboxes : Mailboxes) (ps : List Pid) → Agrees m records (contents h) → mailboxes ≡ mailboxes_of records → filter (has_unread mailboxes) ps ≡ with_messages h ps
messages_same m h records mailboxes ps told is =
    let same : (p : Pid) → messages_in mailboxes p ≡ mailbox_in (contents h) p = λ p. ap (λ (kept : Mailboxes). messages_in kept p) is ∙ (told.mailboxes_are p).left in
    (λ i. filter (λ p. are_some (same p i)) ps)

-- what is put after others is shown where no step is enabled: the deadlock of these processes, and what they leave unread
pub put_at_rest : (m : ModuleTree) (h : History) (records : Records) (mailboxes : Mailboxes) (ps : List Pid) (old one all dead left : List Identity) → Agrees m records (contents h) → mailboxes ≡ mailboxes_of records → ps ≡ living h
    → one ≡ old ++ dead → all ≡ one ++ left → dead ≡ deadlock_of ps → left ≡ unread_of ps (filter (has_unread mailboxes) ps) → all ≡ old ++ shown_at_rest [] h
put_at_rest m h records mailboxes ps old one all dead left told is lives first second dead_is left_is =
    second
    ∙ ap (λ (xs : List Identity). xs ++ left) first
    ∙ append_assoc old dead left
    ∙ (λ i. old ++ (dead_is i ++ left_is i))
    ∙ ap (λ (qs : List Pid). old ++ (deadlock_of qs ++ unread_of qs (filter (has_unread mailboxes) qs))) lives
    ∙ ap (λ (us : List Pid). old ++ (deadlock_of (living h) ++ unread_of (living h) us)) (messages_same m h records mailboxes (living h) told is)

-- ---- what a plan shows

refused_counts : (h : History) (p : Pid) (kind : CallKind) (arguments : List Meaning) (refusal : Refusal) → turns (event (Turn p) (Refused kind arguments refusal) ∷ h) p ≡ turns h p + 1
refused_counts h p kind arguments refusal =
    turns_told h (event (Turn p) (Refused kind arguments refusal)) p ∙ ap (λ b. if b && true then turns h p + 1 else turns h p) (pid_itself p)

-- the request of a step is that which its process serves next; only of a refused call it is shown
same_shown : (h : History) (step : Step) (deed : events.Deed) → shown_by step (next_request (turns h) step) deed ≡ shown_by step (request_in step (event step deed ∷ h)) deed
same_shown h (Turn p) (Served kind arguments answer) = refl
same_shown h (Turn p) (Refused kind arguments refusal) = ap (λ n. shown_by (Turn p) n (Refused kind arguments refusal)) (sym (refused_counts h p kind arguments refusal))
same_shown h (Turn p) (EndedItself kind arguments reason) = refl
same_shown h (Turn p) (Received message) = refl
same_shown h (Turn p) TimedOut = refl
same_shown h (Turn p) (Ended reason) = refl
same_shown h (Turn p) RanAway = refl
same_shown h (Turn p) (Delivered signal fate) = refl
same_shown h (Deliver s r) deed = refl

next_same : (taken : Pid → ℕ) (h : History) → ((p : Pid) → taken p ≡ turns h p) → (step : Step) → next_request taken step ≡ next_request (turns h) step
next_same taken h same (Turn p) = ap (λ n. n + 1) (same p)
next_same taken h same (Deliver s r) = refl

pub plan_shows : (m : ModuleTree) (h : History) (e : events.Event) (records : Records) (plan : Plan) (deed : Deed) → Agrees m records (contents h) → IsPlan (program_of m) (contents h) plan → next_event (program_of m) h plan.step ≡ Some e → plan.deed ≡ Some deed
    → shown_by plan.step (next_request (turns_in (processes_of records)) plan.step) (deed_in deed) ≡ shown_last (e ∷ h)
plan_shows m h e records plan deed told is now here =
    let event_now : event plan.step (deed_in deed) ≡ e = event_is _ _ (ap (option_map (event plan.step)) (sym (ap (option_map deed_in) here) ∙ is.deed) ∙ now) in
    ap (λ n. shown_by plan.step n (deed_in deed)) (next_same (turns_in (processes_of records)) h (λ p. told.processes_are.turns p) plan.step)
    ∙ same_shown h plan.step (deed_in deed)
    ∙ ap (λ (f : events.Event). shown_by f.step (request_in f.step (f ∷ h)) f.deed) event_now

-- and without a deed there is no event
pub plan_shows_none : (m : ModuleTree) (h : History) (e : events.Event) (plan : Plan) → IsPlan (program_of m) (contents h) plan → next_event (program_of m) h plan.step ≡ Some e → plan.deed ≡ None → ⊥
plan_shows_none m h e plan is now none = none_is_not e (sym now ∙ ap (option_map (event plan.step)) (sym is.deed ∙ ap (option_map deed_in) none))
