-- The steps of a schedule that are told on their way: their lines were written, and the rest is still to be written.
use Rattle.std.proofs.Common.{◌≡◌, ◌<◌, ◌≤◌, ℕ, ◌+◌, Bool, true, false, List, [], ◌∷◌, ◌++◌, length, drop, get_or, Option, Some, None, refl, sym, ap, subst, ◌∙◌, append_assoc, append-nil, arith}
use Rattle.std.specs.Prelude.{Result, Ok, Err}
use Rattle.std.specs.Io.KnownBytes.{Appends}
use Rattle.std.proofs.lemmas.List.{at_drop_more, at_drop_all}
use Rattle.term_core.specs.Stream.{WritesAll}
use Rattle.term_core.specs.declared.step.Step.{Step}
use Rattle.term_core.specs.inside.Writing.{Owes, appends_none, appends_then, owes_all, owes_less, owes_same}
use Rattle.world_model.specs.Events.{Event, History}
use Rattle.world_model.specs.Requests.{Program}
use Rattle.world_model.specs.Run.{extended, latest, next_event}
use Rattle.world_replay.specs.Replay.{reached, reached_on, with_next}
use Rattle.report_explained.specs.Explained.{IsExplained}
use Rattle.report_explained.specs.declared.explain_fault.ExplainFault.{ExplainFault}
use Rattle.report_explained.proofs.Parts.{part_fails}
use Rattle.report_terms.specs.EventTerms.{event_line}
use Rattle.report_terms.specs.TermsReport.{event_lines}
use Rattle.report_terms.specs.inside.ToldSteps.{TellsStep, line_of_next}

-- ---- one step

-- the event that was added is the next one
pub next_is : (o : Option Event) (h later : History) (last : Option Event) → extended h o ≡ Some later → last ≡ latest (Some later) → o ≡ last
next_is None h later last added at = absurd cc
next_is (Some e) h later last added at = sym (at ∙ ap latest (sym added))

-- its line was not written to its end
pub line_fails : (a : Program) (h : History) (number : ℕ) (step : Step) (e : Event) (old new : Option (List ℕ)) (failed : Bool) (later : History) (r : Result Bool ExplainFault) (fault : ExplainFault)
    → r ≡ Err fault → next_event a h step ≡ Some e → IsExplained (event_line number e) old new failed (Err fault) → TellsStep a h number step old new failed later r
line_fails a h number step e old new failed later r fault is next broken =
    subst (λ (x : Result Bool ExplainFault). TellsStep a h number step old new failed later x) (sym is)
    (subst (λ (o : Option Event). IsExplained (line_of_next number o) old new failed (Err fault)) (sym next) broken)

-- ---- the lines of a history come before those of the histories that follow it

-- the lines of the later history are those of this one and more
abbrev Follows : History → History → Type 0
Follows h later = (more : List ℕ) × (event_lines later ≡ event_lines h ++ more)

follows_by : (a : Program) (h : History) (steps : List Step) → ((e : Event) → Follows (e ∷ h) (reached_on a (e ∷ h) steps)) → (o : Option Event) → Follows h (with_next (λ g. reached_on a g steps) h h o)
follows_by a h steps rest None = ([], sym (append-nil (event_lines h)))
follows_by a h steps rest (Some e) =
    (event_line (length h + 1) e ++ (rest e).0, (rest e).1 ∙ append_assoc (event_lines h) (event_line (length h + 1) e) (rest e).0)

follows : (a : Program) (h : History) (steps : List Step) → Follows h (reached_on a h steps)
follows a h [] = ([], sym (append-nil (event_lines h)))
follows a h (step ∷ steps) = follows_by a h steps (λ e. follows a (e ∷ h) steps) (next_event a h step)

-- the line of the next event, by its number
line_at : (h : History) (e : Event) (i : ℕ) → length h ≡ i → event_lines (e ∷ h) ≡ event_lines h ++ event_line (i + 1) e
line_at h e i is = ap (λ n. event_lines h ++ event_line (n + 1) e) is

-- the lines of what is reached are those of this history, that of the next event, and more
parts_by : (a : Program) (h : History) (steps : List Step) (i : ℕ) → length h ≡ i → (o : Option Event) → (more : List ℕ) × (event_lines (with_next (λ g. reached_on a g steps) h h o) ≡ event_lines h ++ (line_of_next (i + 1) o ++ more))
parts_by a h steps i is None = ([], sym (append-nil (event_lines h)))
parts_by a h steps i is (Some e) =
    let more = follows a (e ∷ h) steps in
    (more.0, more.1 ∙ ap (λ w. w ++ more.0) (line_at h e i is) ∙ append_assoc (event_lines h) (event_line (i + 1) e) more.0)

-- ---- step by step

-- so far each step was enabled and its line written
pub record StepsSoFar (a : Program) (steps : List Step) (start now : Option (List ℕ)) (failed : Bool) (program : Program) (h : History) (spent : Bool) (i : ℕ) : Type 0 where
  pub sound : failed ≡ false
  pub lives : spent ≡ false
  pub same : program ≡ a
  pub leads : reached_on a h (drop i steps) ≡ reached a steps
  pub counted : length h ≡ i
  pub appends : Appends start now (event_lines h)

pub steps_begin : (a : Program) (steps : List Step) (start : Option (List ℕ)) (failed : Bool) (h : History) (spent : Bool) → failed ≡ false → spent ≡ false → h ≡ [] → StepsSoFar a steps start start failed a h spent 0
steps_begin a steps start failed h spent sound lives begins = record {
  sound = sound;
  lives = lives;
  same = refl;
  leads = ap (λ g. reached_on a g steps) begins;
  counted = ap length begins;
  appends = subst (λ (g : History). Appends start start (event_lines g)) (sym begins) (appends_none start);
}

-- the history that is reached, where the next step is known
reached_at : (a : Program) (h : History) (steps : List Step) (i : ℕ) (step : Step) (o : Option Event) → i < length steps → step ≡ get_or steps i step → next_event a h step ≡ o
    → reached_on a h (drop i steps) ≡ with_next (λ g. reached_on a g (drop (i + 1) steps)) h h o
reached_at a h steps i step o within at next =
    at_drop_more (reached_on a h) steps i step within
    ∙ ap (λ s. reached_on a h (s ∷ drop (i + 1) steps)) (sym at)
    ∙ ap (with_next (λ g. reached_on a g (drop (i + 1) steps)) h h) next

-- all lines are still to be written except those that were written
owed : (a : Program) (steps : List Step) (start now : Option (List ℕ)) (h : History) (rest : List ℕ) → Appends start now (event_lines h) → event_lines (reached a steps) ≡ event_lines h ++ rest → Owes start now rest (event_lines (reached a steps))
owed a steps start now h rest appends parts =
    owes_less start start now (event_lines h) rest (event_lines (reached a steps)) (owes_same start start (event_lines (reached a steps)) (event_lines h ++ rest) (event_lines (reached a steps)) parts (owes_all start (event_lines (reached a steps)))) appends

one_counted : (h : History) (e : Event) (i : ℕ) → length h ≡ i → length (e ∷ h) ≡ i + 1
one_counted h e i is = omega (arith, is)

module _ (a : Program) (steps : List Step) (start now new : Option (List ℕ)) (failed failed' : Bool) (program : Program) (h later : History) (spent : Bool) (i : ℕ) (step : Step) where
  -- one more step
  goes_on : (program' : Program) (spent' : Bool) → StepsSoFar a steps start now failed program h spent i → i < length steps → step ≡ get_or steps i step
      → TellsStep program h (i + 1) step now new failed' later (Ok true) → spent' ≡ false → program' ≡ program
      → StepsSoFar a steps start new failed' program' later spent' (i + 1)
  goes_on program' spent' so within at took lives same =
      let next : next_event a h step ≡ Some took.0 = ap (λ p. next_event p h step) (sym so.same) ∙ took.1 in
      record {
        sound = took.3.sound;
        lives = lives;
        same = same ∙ so.same;
        leads = ap (λ g. reached_on a g (drop (i + 1) steps)) took.2 ∙ sym (reached_at a h steps i step (Some took.0) within at next) ∙ so.leads;
        counted = ap length took.2 ∙ one_counted h took.0 i so.counted;
        appends = subst (Appends start new) (sym (ap event_lines took.2 ∙ line_at h took.0 i so.counted)) (appends_then start now new (event_lines h) (event_line (i + 1) took.0) so.appends took.3.appends);
      }

  pub step_goes_on : (program' : Program) (spent' is_enabled : Bool) → is_enabled ≡ true → StepsSoFar a steps start now failed program h spent i → i < length steps → step ≡ get_or steps i step
      → TellsStep program h (i + 1) step now new failed' later (Ok is_enabled) → spent' ≡ false → program' ≡ program
      → StepsSoFar a steps start new failed' program' later spent' (i + 1)
  step_goes_on program' spent' is_enabled is so within at took lives same =
      goes_on program' spent' so within at (subst (λ (b : Bool). TellsStep program h (i + 1) step now new failed' later (Ok b)) is took) lives same

  -- a step that is not enabled: all lines were written
  stops : StepsSoFar a steps start now failed program h spent i → i < length steps → step ≡ get_or steps i step
      → TellsStep program h (i + 1) step now new failed' later (Ok false)
      → WritesAll start new failed' (event_lines (reached a steps)) × (later ≡ reached a steps)
  stops so within at took =
      let next : next_event a h step ≡ None = ap (λ p. next_event p h step) (sym so.same) ∙ took.0 in
      let there : h ≡ reached a steps = sym (reached_at a h steps i step None within at next) ∙ so.leads in (
        record {
          appends = subst (λ (n : Option (List ℕ)). Appends start n (event_lines (reached a steps))) (sym took.2) (subst (λ (g : History). Appends start now (event_lines g)) there so.appends);
          sound = took.3;
        },
        took.1 ∙ there,
      )

  pub step_stops : (is_enabled : Bool) → is_enabled ≡ false → StepsSoFar a steps start now failed program h spent i → i < length steps → step ≡ get_or steps i step
      → TellsStep program h (i + 1) step now new failed' later (Ok is_enabled)
      → WritesAll start new failed' (event_lines (reached a steps)) × (later ≡ reached a steps)
  step_stops is_enabled is so within at took = stops so within at (subst (λ (b : Bool). TellsStep program h (i + 1) step now new failed' later (Ok b)) is took)

  -- a step whose line was not written to its end, where the next event is known
  fails_at : (o : Option Event) → next_event a h step ≡ o → (fault : ExplainFault) → StepsSoFar a steps start now failed program h spent i → i < length steps → step ≡ get_or steps i step
      → IsExplained (line_of_next (i + 1) o) now new failed' (Err fault)
      → IsExplained (event_lines (reached a steps)) start new failed' (Err fault)
  fails_at o next fault so within at broken =
      let part = parts_by a h (drop (i + 1) steps) i so.counted o in
      let parts : event_lines (reached a steps) ≡ event_lines h ++ (line_of_next (i + 1) o ++ part.0) =
      ap event_lines (sym so.leads ∙ reached_at a h steps i step o within at next) ∙ part.1 in
      part_fails start now new failed' (Err fault) fault (line_of_next (i + 1) o) part.0 (event_lines (reached a steps)) refl
      (owed a steps start now h (line_of_next (i + 1) o ++ part.0) so.appends parts) broken

  fails : (fault : ExplainFault) → StepsSoFar a steps start now failed program h spent i → i < length steps → step ≡ get_or steps i step
      → TellsStep program h (i + 1) step now new failed' later (Err fault)
      → IsExplained (event_lines (reached a steps)) start new failed' (Err fault)
  fails fault so within at took =
      fails_at (next_event a h step) refl fault so within at (subst (λ (p : Program). IsExplained (line_of_next (i + 1) (next_event p h step)) now new failed' (Err fault)) so.same took)

  pub step_fails : (r : Result (Unit {0}) ExplainFault) (fault : ExplainFault) → r ≡ Err fault → StepsSoFar a steps start now failed program h spent i → i < length steps → step ≡ get_or steps i step
      → TellsStep program h (i + 1) step now new failed' later (Err fault)
      → IsExplained (event_lines (reached a steps)) start new failed' r
  step_fails r fault is so within at took =
      subst (λ (x : Result (Unit {0}) ExplainFault). IsExplained (event_lines (reached a steps)) start new failed' x) (sym is) (fails fault so within at took)

-- no step is left
pub steps_end : (a : Program) (steps : List Step) (start now : Option (List ℕ)) (failed : Bool) (program : Program) (h : History) (spent : Bool) (i : ℕ)
    → StepsSoFar a steps start now failed program h spent i → length steps ≤ i → WritesAll start now failed (event_lines (reached a steps)) × (h ≡ reached a steps)
steps_end a steps start now failed program h spent i so all =
    let there : h ≡ reached a steps = sym (at_drop_all (reached_on a h) steps i all) ∙ so.leads in
    (record { appends = subst (λ (g : History). Appends start now (event_lines g)) there so.appends; sound = so.sound }, there)
