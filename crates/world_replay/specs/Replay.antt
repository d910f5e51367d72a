-- What a replay of a schedule results in: as far as its steps are enabled.
use Rattle.std.specs.Prelude.{◌≡◌, ℕ, ◌+◌, Bool, false, List, [], ◌∷◌, take, Option, Some, None, Result, Ok, Err}
use Rattle.world_model.specs.Requests.{Program}
use Rattle.term_core.specs.Stream.{WritesAll, BreaksOff}
use Rattle.term_core.specs.declared.step.Step.{Step}
use Rattle.world_model.specs.Events.{Event, History}
use Rattle.world_model.specs.Run.{next_event, run}
use Rattle.world_event_text.specs.EventText.{text_of_event, text_of_events}
use Rattle.world_replay.specs.declared.replay_fault.ReplayFault.{ReplayFault}
use Rattle.world_replay.specs.declared.replay_fault.ReplayFault.TheVariants.{NotEnabled, Memory, Write}

-- go on with the next event, or stop
abbrev pub with_next : {A : Type 0} → (History → A) → A → History → Option Event → A
with_next go stop h None = stop
with_next go stop h (Some e) = go (e ∷ h)

-- the history of a schedule up to its first step that is not enabled
abbrev pub reached_on : Program → History → List Step → History
reached_on a h [] = h
reached_on a h (step ∷ steps) = with_next (λ g. reached_on a g steps) h h (next_event a h step)

-- the place of that step, where the steps are counted from this number
abbrev pub stop_on : Program → History → ℕ → List Step → Option ℕ
stop_on a h number [] = None
stop_on a h number (step ∷ steps) = with_next (λ g. stop_on a g (number + 1) steps) (Some number) h (next_event a h step)

-- the history of the longest beginning of a schedule with all its steps enabled
abbrev pub reached : Program → List Step → History
reached a steps = reached_on a [] steps

-- the place of the first step that is not enabled, from 1
abbrev pub stop : Program → List Step → Option ℕ
stop a steps = stop_on a [] 1 steps

-- the lines of a schedule, up to its first step that is not enabled
abbrev pub transcript : Program → List Step → List ℕ
transcript a steps = text_of_events (reached a steps)

-- a replay wrote the whole transcript and reached its end or the step that is not enabled; or memory ran out, and it wrote the lines of the steps that it took; or it broke off within a line, where the sink has failed
abbrev pub Replays : Program → List Step → (old new : Option (List ℕ)) → Bool → Result (Unit {0}) ReplayFault → Type 0
Replays a steps old new failed (Ok done) = (stop a steps ≡ None) × WritesAll old new failed (transcript a steps)
Replays a steps old new failed (Err (NotEnabled place)) = (stop a steps ≡ Some place) × WritesAll old new failed (transcript a steps)
Replays a steps old new failed (Err Memory) = (n : ℕ) × (stop a (take n steps) ≡ None) × WritesAll old new failed (transcript a (take n steps))
Replays a steps old new failed (Err Write) = BreaksOff old new failed (transcript a steps)

-- one step was replayed in a world: its event was added and its line written; or it is not enabled and nothing was written; or memory ran out; or the line broke off
abbrev pub ReplaysStep : Program → History → ℕ → Step → (old new : Option (List ℕ)) → Bool → History → Result (Unit {0}) ReplayFault → Type 0
ReplaysStep a h number step old new failed later (Ok done) = (e : Event) × (next_event a h step ≡ Some e) × (later ≡ e ∷ h) × WritesAll old new failed (text_of_event number e)
ReplaysStep a h number step old new failed later (Err (NotEnabled place)) = (next_event a h step ≡ None) × (place ≡ number) × (new ≡ old) × (failed ≡ false)
ReplaysStep a h number step old new failed later (Err Memory) = (new ≡ old) × (failed ≡ false)
ReplaysStep a h number step old new failed later (Err Write) = (e : Event) × (next_event a h step ≡ Some e) × BreaksOff old new failed (text_of_event number e)

-- the steps before this place of a schedule, counted from 1, are a run with this history, and together with the step at that place they are no run
pub record StopsAt (a : Program) (steps : List Step) (place : ℕ) (h : History) : Type 0 where
  pub before : ℕ
  pub counted : place ≡ before + 1
  pub runs : run a (take before steps) ≡ Some h
  pub ends : run a (take (before + 1) steps) ≡ None
