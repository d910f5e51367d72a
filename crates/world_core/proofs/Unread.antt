-- Where messages are shown that are not taken, and by which processes.
use Rattle.std.proofs.Common.{◌≡◌, ◌∙◌, ◌||◌, inl, inr, Bool, true, false, List, [], ◌∷◌, refl, sym, ap, if◌then◌else◌, true≢false}
use Rattle.term_core.specs.declared.step.Step.{Step}
use Rattle.world_model.specs.Events.{History}
use Rattle.world_model.specs.Names.{Pid, IsAmong, same_pid}
use Rattle.world_model.specs.Requests.{Program}
use Rattle.world_model.specs.Run.{enabled_steps, living}
use Rattle.world_model.specs.Shown.{Unread, Shows, deadlock_of, has_first, shown_at_rest, shown_last, unread_by, unread_of, with_messages}
use Rattle.world_model.specs.World.{alive}
use Rattle.world_model.proofs.Meeting.{pid_itself, pids_same}
use Rattle.world_core.proofs.Deadlocks.{IsOfNoEvent, behind, in_back, not_last, some_live}
use Rattle.world_core.proofs.Living.{alive_listed, listed_alive}

-- ---- whether the first process lives

first_here : (p : Pid) (ps : List Pid) (b : Bool) → same_pid p [] ≡ b → (has_first ps ≡ true → IsAmong {A = Pid} [] ps) → (b || has_first ps) ≡ true → IsAmong {A = Pid} [] (p ∷ ps)
first_here p ps true is later on = inl (pids_same p [] is)
first_here p ps false is later on = inr (later on)

first_among : (ps : List Pid) → has_first ps ≡ true → IsAmong {A = Pid} [] ps
first_among [] on = absurd (true≢false (sym on))
first_among (p ∷ ps) on = first_here p ps (same_pid p []) refl (first_among ps) on

or_true : (b : Bool) → (b || true) ≡ true
or_true true = refl
or_true false = refl

among_first : (ps : List Pid) → IsAmong {A = Pid} [] ps → has_first ps ≡ true
among_first [] there = absurd there
among_first (p ∷ ps) (inl is) = ap (λ (q : Pid). same_pid q [] || has_first ps) is ∙ ap (λ (b : Bool). b || has_first ps) (pid_itself [])
among_first (p ∷ ps) (inr there) = ap (λ (b : Bool). same_pid p [] || b) (among_first ps there) ∙ or_true (same_pid p [])

has_gone : (h : History) (b : Bool) → alive h [] ≡ b → has_first (living h) ≡ false → alive h [] ≡ false
has_gone h false is none = is
has_gone h true is none = absurd (true≢false (sym (among_first (living h) (alive_listed h [] is)) ∙ none))

none_is_first : (h : History) (b : Bool) → has_first (living h) ≡ b → alive h [] ≡ false → has_first (living h) ≡ false
none_is_first h false is gone = is
none_is_first h true is gone = absurd (true≢false (sym (listed_alive h [] (first_among (living h) is)) ∙ gone))

-- ---- what a list of processes leaves unread

unread_apart : (ps : List Pid) → IsOfNoEvent (Unread ps)
unread_apart ps = record {
  no_end = λ p reason is. absurd cc;
  no_runaway = λ p is. absurd cc;
  no_refusal = λ p n kind arguments rule told is. absurd cc;
}

pids_are : (ps qs : List Pid) → Unread ps ≡ Unread qs → ps ≡ qs
pids_are ps qs is = cc

-- a deadlock is none
no_deadlock : (ps all : List Pid) → IsAmong (Unread ps) (deadlock_of all) → ⊥
no_deadlock ps [] there = there
no_deadlock ps (p ∷ all) (inl is) = absurd cc
no_deadlock ps (p ∷ all) (inr there) = there

left : (all ps : List Pid) → IsAmong (Unread ps) (unread_by all) → (all ≡ ps) × (ps ≡ [] → ⊥)
left [] ps there = absurd there
left (p ∷ all) ps (inl is) = (pids_are (p ∷ all) ps is, some_live p all ps (pids_are (p ∷ all) ps is))
left (p ∷ all) ps (inr there) = absurd there

is_left : (all ps : List Pid) → all ≡ ps → (ps ≡ [] → ⊥) → IsAmong (Unread ps) (unread_by all)
is_left [] ps is some = absurd (some (sym is))
is_left (p ∷ all) ps is some = inl (ap Unread is)

left_if : (b : Bool) (all ps : List Pid) → IsAmong (Unread ps) (if b then [] else unread_by all) → (b ≡ false) × ((all ≡ ps) × (ps ≡ [] → ⊥))
left_if true all ps there = absurd there
left_if false all ps there = (refl, left all ps there)

is_left_if : (b : Bool) (all ps : List Pid) → b ≡ false → all ≡ ps → (ps ≡ [] → ⊥) → IsAmong (Unread ps) (if b then [] else unread_by all)
is_left_if true all ps gone is some = absurd (true≢false gone)
is_left_if false all ps gone is some = is_left all ps is some

-- ---- in what is shown

left_at_rest : (steps : List Step) (h : History) (ps : List Pid) → IsAmong (Unread ps) (shown_at_rest steps h) → (steps ≡ []) × ((has_first (living h) ≡ false) × ((with_messages h (living h) ≡ ps) × (ps ≡ [] → ⊥)))
left_at_rest [] h ps there =
    let unread = with_messages h (living h) in
    (refl, left_if (has_first (living h)) unread ps (behind (Unread ps) (deadlock_of (living h)) (unread_of (living h) unread) (no_deadlock ps (living h)) there))
left_at_rest (step ∷ steps) h ps there = absurd there

rests_left : (steps : List Step) (h : History) (ps : List Pid) → steps ≡ [] → has_first (living h) ≡ false → with_messages h (living h) ≡ ps → (ps ≡ [] → ⊥) → IsAmong (Unread ps) (shown_at_rest steps h)
rests_left [] h ps none gone is some =
    let unread = with_messages h (living h) in
    in_back (Unread ps) (deadlock_of (living h)) (unread_of (living h) unread) (is_left_if (has_first (living h)) unread ps gone is some)
rests_left (step ∷ steps) h ps none gone is some = absurd cc

pub shown_left : (a : Program) (h : History) (ps : List Pid) → Shows a h (Unread ps) → (enabled_steps a h ≡ []) × ((alive h [] ≡ false) × ((with_messages h (living h) ≡ ps) × (ps ≡ [] → ⊥)))
shown_left a h ps shows =
    let told = left_at_rest (enabled_steps a h) h ps (behind (Unread ps) (shown_last h) (shown_at_rest (enabled_steps a h) h) (not_last (Unread ps) (unread_apart ps) h) shows) in
    (told.0, (has_gone h (alive h []) refl told.1.0, told.1.1))

pub left_shown : (a : Program) (h : History) (ps : List Pid) → (enabled_steps a h ≡ []) × ((alive h [] ≡ false) × ((with_messages h (living h) ≡ ps) × (ps ≡ [] → ⊥))) → Shows a h (Unread ps)
left_shown a h ps is =
    let gone = none_is_first h (has_first (living h)) refl is.1.0 in
    in_back (Unread ps) (shown_last h) (shown_at_rest (enabled_steps a h) h) (rests_left (enabled_steps a h) h ps is.0 gone is.1.1.0 is.1.1.1)
