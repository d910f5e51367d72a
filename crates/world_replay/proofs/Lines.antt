-- The lines of steps that follow a history.
use Rattle.std.proofs.Common.{◌≡◌, ℕ, ◌+◌, List, [], ◌∷◌, ◌++◌, length, Option, Some, None, sym, ap, ◌∙◌, append_assoc, append-nil, arith}
use Rattle.world_model.specs.Requests.{Program}
use Rattle.term_core.specs.declared.step.Step.{Step}
use Rattle.world_model.specs.Events.{Event, History}
use Rattle.world_model.specs.Run.{next_event}
use Rattle.world_event_text.specs.EventText.{text_of_event, text_of_events}
use Rattle.world_replay.specs.Replay.{with_next, reached_on}

-- the line of the next event and what follows it
abbrev pub line_and : ℕ → (History → List ℕ) → History → Option Event → List ℕ
line_and number go h None = []
line_and number go h (Some e) = text_of_event number e ++ go (e ∷ h)

-- the lines of steps that follow a history, numbered from there on
abbrev pub lines_on : Program → History → ℕ → List Step → List ℕ
lines_on a h number [] = []
lines_on a h number (step ∷ steps) = line_and number (λ g. lines_on a g (number + 1) steps) h (next_event a h step)

-- the same at the next event, where it is so of what follows
follow_by : (a : Program) (h : History) (number : ℕ) (steps : List Step) → number ≡ length h + 1
    → ((event : Event) → text_of_events (reached_on a (event ∷ h) steps) ≡ text_of_events (event ∷ h) ++ lines_on a (event ∷ h) (number + 1) steps)
    → (o : Option Event) → text_of_events (with_next (λ g. reached_on a g steps) h h o) ≡ text_of_events h ++ line_and number (λ g. lines_on a g (number + 1) steps) h o
follow_by a h number steps e rest None = sym (append-nil (text_of_events h))
follow_by a h number steps e rest (Some event) =
    rest event
    ∙ append_assoc (text_of_events h) (text_of_event (length h + 1) event) (lines_on a (event ∷ h) (number + 1) steps)
    ∙ ap (λ n. text_of_events h ++ (text_of_event n event ++ lines_on a (event ∷ h) (number + 1) steps)) (sym e)

next_number : (h : History) (event : Event) (number : ℕ) → number ≡ length h + 1 → number + 1 ≡ length (event ∷ h) + 1
next_number h event number e = omega (arith, e)

-- the lines of the history, and then the others
pub lines_follow : (a : Program) (h : History) (number : ℕ) (steps : List Step) → number ≡ length h + 1 → text_of_events (reached_on a h steps) ≡ text_of_events h ++ lines_on a h number steps
lines_follow a h number [] e = sym (append-nil (text_of_events h))
lines_follow a h number (step ∷ steps) e = follow_by a h number steps e (λ event. lines_follow a (event ∷ h) (number + 1) steps (next_number h event number e)) (next_event a h step)
