-- A replay on its way: what was written and what is still to be written.
use Rattle.std.proofs.Common.{◌≡◌, ◌<◌, ◌≤◌, ℕ, ◌+◌, Bool, false, List, [], ◌∷◌, length, drop, get_or, Option, Some, None, refl, sym, ap, subst, ◌∙◌}
use Rattle.std.specs.Prelude.{Ok, Err}
use Rattle.std.proofs.lemmas.List.{at_drop_more, at_drop_all}
use Rattle.world_model.specs.Requests.{Program}
use Rattle.term_core.specs.Stream.{WritesAll}
use Rattle.term_core.specs.declared.step.Step.{Step}
use Rattle.term_core.specs.inside.Writing.{Owes, owes_all, owes_same, owes_less, owes_nothing, owes_break_in}
use Rattle.world_model.specs.Events.{Event, History}
use Rattle.world_model.specs.Run.{next_event}
use Rattle.world_event_text.specs.EventText.{text_of_event}
use Rattle.world_replay.specs.Replay.{with_next, stop_on, stop, transcript, Replays, ReplaysStep}
use Rattle.world_replay.specs.declared.replay_fault.ReplayFault.{ReplayFault}
use Rattle.world_replay.specs.declared.replay_fault.ReplayFault.TheVariants.{NotEnabled, Memory, Write}
use Rattle.world_replay.proofs.Lines.{line_and, lines_follow, lines_on}
use Rattle.world_replay.proofs.WholeLines.{AreWritten, are_whole, none_written, one_written}

-- so far each step was enabled and its line written; the rest is still to be written
pub record SoFar (a : Program) (steps : List Step) (start now : Option (List ℕ)) (failed : Bool) (program : Program) (h : History) (spent : Bool) (i : ℕ) : Type 0 where
  pub sound : failed ≡ false
  pub lives : spent ≡ false
  pub same : program ≡ a
  pub owes : Owes start now (lines_on a h (i + 1) (drop i steps)) (transcript a steps)
  pub stops : stop a steps ≡ stop_on a h (i + 1) (drop i steps)
  pub whole : AreWritten a steps start now h i

pub begins : (a : Program) (steps : List Step) (start : Option (List ℕ)) (failed : Bool) → failed ≡ false → SoFar a steps start start failed a [] false 0
begins a steps start failed sound = record {
  sound = sound;
  lives = refl;
  same = refl;
  owes = owes_same start start (transcript a steps) (lines_on a [] 1 steps) (transcript a steps) (lines_follow a [] 1 steps refl) (owes_all start (transcript a steps));
  stops = refl;
  whole = none_written a steps start;
}

-- the lines and the stop, where the next step is known
lines_at : (a : Program) (h : History) (steps : List Step) (i : ℕ) (step : Step) (o : Option Event) → i < length steps → step ≡ get_or steps i step → next_event a h step ≡ o
    → lines_on a h (i + 1) (drop i steps) ≡ line_and (i + 1) (λ g. lines_on a g (i + 1 + 1) (drop (i + 1) steps)) h o
lines_at a h steps i step o within at next =
    at_drop_more (lines_on a h (i + 1)) steps i step within
    ∙ ap (λ s. lines_on a h (i + 1) (s ∷ drop (i + 1) steps)) (sym at)
    ∙ ap (line_and (i + 1) (λ g. lines_on a g (i + 1 + 1) (drop (i + 1) steps)) h) next

stop_at : (a : Program) (h : History) (steps : List Step) (i : ℕ) (step : Step) (o : Option Event) → i < length steps → step ≡ get_or steps i step → next_event a h step ≡ o
    → stop_on a h (i + 1) (drop i steps) ≡ with_next (λ g. stop_on a g (i + 1 + 1) (drop (i + 1) steps)) (Some (i + 1)) h o
stop_at a h steps i step o within at next =
    at_drop_more (stop_on a h (i + 1)) steps i step within
    ∙ ap (λ s. stop_on a h (i + 1) (s ∷ drop (i + 1) steps)) (sym at)
    ∙ ap (with_next (λ g. stop_on a g (i + 1 + 1) (drop (i + 1) steps)) (Some (i + 1)) h) next

-- one more step
pub goes_on : (a : Program) (steps : List Step) (start now new : Option (List ℕ)) (failed failed' : Bool) (program program' : Program) (h later : History) (spent spent' : Bool) (i : ℕ) (step : Step)
    → SoFar a steps start now failed program h spent i → i < length steps → step ≡ get_or steps i step
    → ReplaysStep program h (i + 1) step now new failed' later (Ok tt) → spent' ≡ false → program' ≡ program
    → SoFar a steps start new failed' program' later spent' (i + 1)
goes_on a steps start now new failed failed' program program' h later spent spent' i step so within at took lives same =
    let next : next_event a h step ≡ Some took.0 = ap (λ p. next_event p h step) (sym so.same) ∙ took.1 in
    record {
      sound = took.3.sound;
      lives = lives;
      same = same ∙ so.same;
      owes = subst (λ (g : History). Owes start new (lines_on a g (i + 1 + 1) (drop (i + 1) steps)) (transcript a steps)) (sym took.2)
          (owes_less start now new (text_of_event (i + 1) took.0) (lines_on a (took.0 ∷ h) (i + 1 + 1) (drop (i + 1) steps)) (transcript a steps)
          (owes_same start now _ _ (transcript a steps) (lines_at a h steps i step (Some took.0) within at next) so.owes) took.3.appends);
      stops = so.stops ∙ stop_at a h steps i step (Some took.0) within at next ∙ ap (λ (g : History). stop_on a g (i + 1 + 1) (drop (i + 1) steps)) (sym took.2);
      whole = one_written a steps start now new h later i step took.0 so.whole within at next took.2 took.3.appends;
    }

-- a step at which the replay stops
pub stops_there : (a : Program) (steps : List Step) (start now new : Option (List ℕ)) (failed failed' : Bool) (program : Program) (h later : History) (spent : Bool) (i : ℕ) (step : Step) (fault : ReplayFault)
    → SoFar a steps start now failed program h spent i → i < length steps → step ≡ get_or steps i step
    → ReplaysStep program h (i + 1) step now new failed' later (Err fault)
    → Replays a steps start new failed' (Err fault)
stops_there a steps start now new failed failed' program h later spent i step (NotEnabled place) so within at took =
    let next : next_event a h step ≡ None = ap (λ p. next_event p h step) (sym so.same) ∙ took.0 in
    let done : Owes start now [] (transcript a steps) = owes_same start now _ _ (transcript a steps) (lines_at a h steps i step None within at next) so.owes in (
      so.stops ∙ stop_at a h steps i step None within at next ∙ ap Some (sym took.1),
      subst (λ (n : Option (List ℕ)). WritesAll start n failed' (transcript a steps)) (sym took.2) (owes_nothing start now failed' (transcript a steps) done took.3),
    )
stops_there a steps start now new failed failed' program h later spent i step Memory so within at took =
    (i, so.whole.runs, record { appends = are_whole a steps start now new h i so.whole took.0; sound = took.1 })
stops_there a steps start now new failed failed' program h later spent i step Write so within at took =
    let next : next_event a h step ≡ Some took.0 = ap (λ p. next_event p h step) (sym so.same) ∙ took.1 in
    owes_break_in start now new failed' (text_of_event (i + 1) took.0) (lines_on a (took.0 ∷ h) (i + 1 + 1) (drop (i + 1) steps)) (transcript a steps)
    (owes_same start now _ _ (transcript a steps) (lines_at a h steps i step (Some took.0) within at next) so.owes) took.2

-- no step is left
pub ends : (a : Program) (steps : List Step) (start now : Option (List ℕ)) (failed : Bool) (program : Program) (h : History) (spent : Bool) (i : ℕ)
    → SoFar a steps start now failed program h spent i → length steps ≤ i → Replays a steps start now failed (Ok tt)
ends a steps start now failed program h spent i so all = (
  so.stops ∙ at_drop_all (stop_on a h (i + 1)) steps i all,
  owes_nothing start now failed (transcript a steps) (owes_same start now _ _ (transcript a steps) (at_drop_all (lines_on a h (i + 1)) steps i all) so.owes) so.sound,
)
