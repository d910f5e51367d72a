-- The lines that were written, each of them whole, and the steps that they are of.
use Rattle.std.proofs.Common.{◌≡◌, ◌<◌, ℕ, ◌+◌, List, [], ◌∷◌, ◌++◌, length, take, drop, get_or, Option, Some, None, refl, sym, ap, subst, ◌∙◌, arith}
use Rattle.std.proofs.lemmas.List.{take_more, take-append-drop}
use Rattle.std.specs.Io.KnownBytes.{Appends}
use Rattle.world_model.specs.Requests.{Program}
use Rattle.term_core.specs.declared.step.Step.{Step}
use Rattle.term_core.specs.inside.Writing.{appends_none, appends_then}
use Rattle.world_model.specs.Events.{Event, History}
use Rattle.world_model.specs.Run.{next_event}
use Rattle.world_event_text.specs.EventText.{text_of_event, text_of_events}
use Rattle.world_replay.specs.Replay.{with_next, reached_on, stop_on, stop, transcript}
use Rattle.world_replay.proofs.Lines.{lines_follow, lines_on}

-- ---- a schedule in two parts, the first of which runs

parts_by : (a : Program) (h : History) (number : ℕ) (xs ys : List Step)
    → ((g : History) → stop_on a g (number + 1) xs ≡ None → reached_on a g (xs ++ ys) ≡ reached_on a (reached_on a g xs) ys)
    → (o : Option Event) → with_next (λ g. stop_on a g (number + 1) xs) (Some number) h o ≡ None
    → with_next (λ g. reached_on a g (xs ++ ys)) h h o ≡ reached_on a (with_next (λ g. reached_on a g xs) h h o) ys
parts_by a h number xs ys rest None e = absurd cc
parts_by a h number xs ys rest (Some event) e = rest (event ∷ h) e

reached_parts : (a : Program) (h : History) (number : ℕ) (xs ys : List Step) → stop_on a h number xs ≡ None → reached_on a h (xs ++ ys) ≡ reached_on a (reached_on a h xs) ys
reached_parts a h number [] ys e = refl
reached_parts a h number (x ∷ xs) ys e = parts_by a h number xs ys (λ g. reached_parts a g (number + 1) xs ys) (next_event a h x) e

more_by : (a : Program) (h : History) (number : ℕ) (xs : List Step) (step : Step) (event : Event)
    → ((g : History) → stop_on a g (number + 1) xs ≡ None → next_event a (reached_on a g xs) step ≡ Some event → stop_on a g (number + 1) (xs ++ step ∷ []) ≡ None)
    → (o : Option Event) → with_next (λ g. stop_on a g (number + 1) xs) (Some number) h o ≡ None → next_event a (with_next (λ g. reached_on a g xs) h h o) step ≡ Some event
    → with_next (λ g. stop_on a g (number + 1) (xs ++ step ∷ [])) (Some number) h o ≡ None
more_by a h number xs step event rest None e next = absurd cc
more_by a h number xs step event rest (Some first) e next = rest (first ∷ h) e next

stop_more : (a : Program) (h : History) (number : ℕ) (xs : List Step) (step : Step) (event : Event) → stop_on a h number xs ≡ None → next_event a (reached_on a h xs) step ≡ Some event → stop_on a h number (xs ++ step ∷ []) ≡ None
stop_more a h number [] step event e next = ap (with_next (λ g. stop_on a g (number + 1) []) (Some number) h) next
stop_more a h number (x ∷ xs) step event e next = more_by a h number xs step event (λ g. stop_more a g (number + 1) xs step event) (next_event a h x) e next

-- the lines of a beginning are a beginning of the lines
pub transcript_parts : (a : Program) (steps : List Step) (n : ℕ) → stop a (take n steps) ≡ None
    → transcript a steps ≡ transcript a (take n steps) ++ lines_on a (reached_on a [] (take n steps)) (length (reached_on a [] (take n steps)) + 1) (drop n steps)
transcript_parts a steps n runs =
    ap (λ ss. text_of_events (reached_on a [] ss)) (sym (take-append-drop n steps))
    ∙ ap text_of_events (reached_parts a [] 1 (take n steps) (drop n steps) runs)
    ∙ lines_follow a (reached_on a [] (take n steps)) (length (reached_on a [] (take n steps)) + 1) (drop n steps) refl

-- ---- step by step

-- so many steps were enabled, and their lines were written
pub record AreWritten (a : Program) (steps : List Step) (start now : Option (List ℕ)) (h : History) (i : ℕ) : Type 0 where
  pub reached : reached_on a [] (take i steps) ≡ h
  pub runs : stop a (take i steps) ≡ None
  pub counted : length h ≡ i
  pub appends : Appends start now (text_of_events h)

pub none_written : (a : Program) (steps : List Step) (start : Option (List ℕ)) → AreWritten a steps start start [] 0
none_written a steps start = record { reached = refl; runs = refl; counted = refl; appends = appends_none start }

one_counted : (h : History) (event : Event) (i : ℕ) → length h ≡ i → length (event ∷ h) ≡ i + 1
one_counted h event i e = omega (arith, e)

pub one_written : (a : Program) (steps : List Step) (start now new : Option (List ℕ)) (h later : History) (i : ℕ) (step : Step) (event : Event)
    → AreWritten a steps start now h i → i < length steps → step ≡ get_or steps i step → next_event a h step ≡ Some event → later ≡ event ∷ h → Appends now new (text_of_event (i + 1) event)
    → AreWritten a steps start new later (i + 1)
one_written a steps start now new h later i step event so within at next is grown =
    let more : take (i + 1) steps ≡ take i steps ++ step ∷ [] = take_more steps i step within ∙ ap (λ s. take i steps ++ s ∷ []) (sym at) in
    let there : next_event a (reached_on a [] (take i steps)) step ≡ Some event = ap (λ g. next_event a g step) so.reached ∙ next in
    let text : text_of_events h ++ text_of_event (i + 1) event ≡ text_of_events later = ap (λ n. text_of_events h ++ text_of_event (n + 1) event) (sym so.counted) ∙ ap text_of_events (sym is) in
    record {
      reached =
          ap (reached_on a []) more
          ∙ reached_parts a [] 1 (take i steps) (step ∷ []) so.runs
          ∙ ap (λ g. reached_on a g (step ∷ [])) so.reached
          ∙ ap (with_next (λ g. reached_on a g []) h h) next
          ∙ sym is;
      runs = ap (stop_on a [] 1) more ∙ stop_more a [] 1 (take i steps) step event so.runs there;
      counted = ap length is ∙ one_counted h event i so.counted;
      appends = subst (Appends start new) text (appends_then start now new (text_of_events h) (text_of_event (i + 1) event) so.appends grown);
    }

-- the lines that are there where nothing more is written
pub are_whole : (a : Program) (steps : List Step) (start now new : Option (List ℕ)) (h : History) (i : ℕ) → AreWritten a steps start now h i → new ≡ now → Appends start new (transcript a (take i steps))
are_whole a steps start now new h i so same = subst (λ (n : Option (List ℕ)). Appends start n (transcript a (take i steps))) (sym same) (subst (λ (g : History). Appends start now (text_of_events g)) (sym so.reached) so.appends)
