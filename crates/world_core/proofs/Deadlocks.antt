-- Where a deadlock is shown, and for which processes.
use Rattle.std.proofs.Common.{◌≡◌, ℕ, inl, inr, Bool, true, false, List, [], ◌∷◌, ◌++◌, Option, refl, sym, ap, if◌then◌else◌}
use Rattle.term_core.specs.Meaning.{Meaning}
use Rattle.term_core.specs.declared.step.Step.{Step}
use Rattle.term_core.specs.declared.step.Step.TheVariants.{Turn, Deliver}
use Rattle.world_model.specs.Events.{Deed, Fate, Refusal, History, Served, Refused, EndedItself, Received, TimedOut, Ended, RanAway, Delivered, Arrives, IsIgnored, IsDropped, Kills, Badarg, NoProcess, ByRule}
use Rattle.world_model.specs.Names.{Pid, IsAmong}
use Rattle.world_model.specs.Requests.{Program}
use Rattle.world_model.specs.Run.{enabled_steps, living}
use Rattle.world_model.specs.Shown.{Identity, Deadlock, End, Runaway, RefusedCall, Shows, deadlock_of, has_first, request_in, shown_at_rest, shown_by, shown_by_fate, shown_by_refusal, shown_last, unread_by, unread_of, with_messages}
use Rattle.world_model.specs.Signals.{is_normal}
use Rattle.world_model.specs.declared.rule.Rule.{Rule}
use Rattle.core_calls.specs.declared.call.CallKind.{CallKind}

-- ---- what the last event does not show

-- it is no end, no runaway and no refused call
pub record IsOfNoEvent (i : Identity) : Type 0 where
  pub no_end : (p : Pid) (reason : Meaning) → End p reason ≡ i → ⊥
  pub no_runaway : (p : Pid) → Runaway p ≡ i → ⊥
  pub no_refusal : (p : Pid) (n : ℕ) (kind : CallKind) (arguments : List Meaning) (rule : Rule) (told : Option Pid) → RefusedCall p n kind arguments rule told ≡ i → ⊥

module _ (i : Identity) (apart : IsOfNoEvent i) where
  not_by_end : (p : Pid) (reason : Meaning) (b : Bool) → IsAmong i (if b then [] else End p reason ∷ []) → ⊥
  not_by_end p reason true there = there
  not_by_end p reason false (inl is) = apart.no_end p reason is
  not_by_end p reason false (inr there) = there

  not_by_refusal : (p : Pid) (n : ℕ) (kind : CallKind) (arguments : List Meaning) (refusal : Refusal) → IsAmong i (shown_by_refusal p n kind arguments refusal) → ⊥
  not_by_refusal p n kind arguments Badarg there = there
  not_by_refusal p n kind arguments NoProcess there = there
  not_by_refusal p n kind arguments (ByRule rule told) (inl is) = apart.no_refusal p n kind arguments rule told is
  not_by_refusal p n kind arguments (ByRule rule told) (inr there) = there

  not_by_fate : (r : Pid) (fate : Fate) → IsAmong i (shown_by_fate r fate) → ⊥
  not_by_fate r (Arrives message) there = there
  not_by_fate r IsIgnored there = there
  not_by_fate r IsDropped there = there
  not_by_fate r (Kills reason) there = not_by_end r reason (is_normal reason) there

  not_by_run : (p : Pid) → IsAmong i (Runaway p ∷ []) → ⊥
  not_by_run p (inl is) = apart.no_runaway p is
  not_by_run p (inr there) = there

  not_by : (step : Step) (n : ℕ) (deed : Deed) → IsAmong i (shown_by step n deed) → ⊥
  not_by (Turn p) n (Served kind arguments answer) there = there
  not_by (Turn p) n (Refused kind arguments refusal) there = not_by_refusal p n kind arguments refusal there
  not_by (Turn p) n (EndedItself kind arguments reason) there = not_by_end p reason (is_normal reason) there
  not_by (Turn p) n (Received message) there = there
  not_by (Turn p) n TimedOut there = there
  not_by (Turn p) n (Ended reason) there = not_by_end p reason (is_normal reason) there
  not_by (Turn p) n RanAway there = not_by_run p there
  not_by (Turn p) n (Delivered signal fate) there = there
  not_by (Deliver s r) n (Served kind arguments answer) there = there
  not_by (Deliver s r) n (Refused kind arguments refusal) there = there
  not_by (Deliver s r) n (EndedItself kind arguments reason) there = there
  not_by (Deliver s r) n (Received message) there = there
  not_by (Deliver s r) n TimedOut there = there
  not_by (Deliver s r) n (Ended reason) there = there
  not_by (Deliver s r) n RanAway there = there
  not_by (Deliver s r) n (Delivered signal fate) there = not_by_fate r fate there

  pub not_last : (h : History) → IsAmong i (shown_last h) → ⊥
  not_last [] there = there
  not_last (e ∷ h) there = not_by e.step (request_in e.step (e ∷ h)) e.deed there

-- ---- in one of two lists

pub behind : (i : Identity) (xs ys : List Identity) → (IsAmong i xs → ⊥) → IsAmong i (xs ++ ys) → IsAmong i ys
behind i [] ys none there = there
behind i (x ∷ xs) ys none (inl is) = absurd (none (inl is))
behind i (x ∷ xs) ys none (inr there) = behind i xs ys (λ among. none (inr among)) there

pub in_back : (i : Identity) (xs ys : List Identity) → IsAmong i ys → IsAmong i (xs ++ ys)
in_back i [] ys there = there
in_back i (x ∷ xs) ys there = inr (in_back i xs ys there)

ahead : (i : Identity) (xs ys : List Identity) → (IsAmong i ys → ⊥) → IsAmong i (xs ++ ys) → IsAmong i xs
ahead i [] ys none there = absurd (none there)
ahead i (x ∷ xs) ys none (inl is) = inl is
ahead i (x ∷ xs) ys none (inr there) = inr (ahead i xs ys none there)

in_front : (i : Identity) (xs ys : List Identity) → IsAmong i xs → IsAmong i (xs ++ ys)
in_front i [] ys there = absurd there
in_front i (x ∷ xs) ys (inl is) = inl is
in_front i (x ∷ xs) ys (inr there) = inr (in_front i xs ys there)

-- ---- the deadlock of a list of those that live

deadlock_apart : (ps : List Pid) → IsOfNoEvent (Deadlock ps)
deadlock_apart ps = record {
  no_end = λ p reason is. absurd cc;
  no_runaway = λ p is. absurd cc;
  no_refusal = λ p n kind arguments rule told is. absurd cc;
}

pids_are : (ps qs : List Pid) → Deadlock ps ≡ Deadlock qs → ps ≡ qs
pids_are ps qs is = cc

pub some_live : (p : Pid) (ps qs : List Pid) → p ∷ ps ≡ qs → qs ≡ [] → ⊥
some_live p ps qs is none = absurd cc

dead : (all ps : List Pid) → IsAmong (Deadlock ps) (deadlock_of all) → (all ≡ ps) × (ps ≡ [] → ⊥)
dead [] ps there = absurd there
dead (p ∷ all) ps (inl is) = (pids_are (p ∷ all) ps is, some_live p all ps (pids_are (p ∷ all) ps is))
dead (p ∷ all) ps (inr there) = absurd there

is_dead : (all ps : List Pid) → all ≡ ps → (ps ≡ [] → ⊥) → IsAmong (Deadlock ps) (deadlock_of all)
is_dead [] ps is some = absurd (some (sym is))
is_dead (p ∷ all) ps is some = inl (ap Deadlock is)

-- what is unread is none
not_unread : (ps qs : List Pid) → IsAmong (Deadlock ps) (unread_by qs) → ⊥
not_unread ps [] there = there
not_unread ps (q ∷ qs) (inl is) = absurd cc
not_unread ps (q ∷ qs) (inr there) = there

none_unread : (b : Bool) (ps qs : List Pid) → IsAmong (Deadlock ps) (if b then [] else unread_by qs) → ⊥
none_unread true ps qs there = there
none_unread false ps qs there = not_unread ps qs there

-- ---- in what is shown

dead_at_rest : (steps : List Step) (h : History) (ps : List Pid) → IsAmong (Deadlock ps) (shown_at_rest steps h) → (steps ≡ []) × ((living h ≡ ps) × (ps ≡ [] → ⊥))
dead_at_rest [] h ps there =
    let unread = with_messages h (living h) in
    (refl, dead (living h) ps (ahead (Deadlock ps) (deadlock_of (living h)) (unread_of (living h) unread) (none_unread (has_first (living h)) ps unread) there))
dead_at_rest (step ∷ steps) h ps there = absurd there

rests_dead : (steps : List Step) (h : History) (ps : List Pid) → steps ≡ [] → living h ≡ ps → (ps ≡ [] → ⊥) → IsAmong (Deadlock ps) (shown_at_rest steps h)
rests_dead [] h ps none is some = in_front (Deadlock ps) (deadlock_of (living h)) (unread_of (living h) (with_messages h (living h))) (is_dead (living h) ps is some)
rests_dead (step ∷ steps) h ps none is some = absurd cc

pub shown_dead : (a : Program) (h : History) (ps : List Pid) → Shows a h (Deadlock ps) → (enabled_steps a h ≡ []) × ((living h ≡ ps) × (ps ≡ [] → ⊥))
shown_dead a h ps shows =
    dead_at_rest (enabled_steps a h) h ps (behind (Deadlock ps) (shown_last h) (shown_at_rest (enabled_steps a h) h) (not_last (Deadlock ps) (deadlock_apart ps) h) shows)

pub dead_shown : (a : Program) (h : History) (ps : List Pid) → (enabled_steps a h ≡ []) × ((living h ≡ ps) × (ps ≡ [] → ⊥)) → Shows a h (Deadlock ps)
dead_shown a h ps is = in_back (Deadlock ps) (shown_last h) (shown_at_rest (enabled_steps a h) h) (rests_dead (enabled_steps a h) h ps is.0 is.1.0 is.1.1)
