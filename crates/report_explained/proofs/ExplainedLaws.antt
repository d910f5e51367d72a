-- The steps of a schedule that are explained on their way: their lines were written, and the rest is still to be written.
use Rattle.std.proofs.Common.{◌≡◌, ◌<◌, ◌≤◌, ℕ, ◌+◌, Bool, true, false, List, [], ◌∷◌, ◌++◌, length, drop, get_or, Option, Some, None, refl, sym, ap, subst, ◌∙◌, append_assoc, append-nil, arith}
use Rattle.std.specs.Prelude.{Result, Ok, Err}
use Rattle.std.specs.Io.KnownBytes.{Appends}
use Rattle.std.proofs.lemmas.List.{at_drop_more, at_drop_all}
use Rattle.term_core.specs.Stream.{WritesAll}
use Rattle.term_core.specs.declared.step.Step.{Step}
use Rattle.term_core.specs.inside.Writing.{Owes, appends_none, appends_then, owes_all, owes_break_in, owes_less, owes_same}
use Rattle.world_model.specs.Events.{Event, History}
use Rattle.world_model.specs.Requests.{Program}
use Rattle.world_model.specs.Run.{next_event}
use Rattle.world_event_text.specs.EventText.{text_of_event}
use Rattle.report_explained.specs.Explained.{IsExplained, indented, text_of_steps}
use Rattle.world_replay.specs.Replay.{reached, reached_on, with_next}
use Rattle.report_explained.specs.declared.explain_fault.ExplainFault.{ExplainFault}
use Rattle.report_explained.specs.declared.explain_fault.ExplainFault.TheVariants.{Memory, Write}
use Rattle.report_explained.specs.inside.ExplainedSteps.{ExplainsStep}
use Rattle.report_explained.proofs.Parts.{wants_memory}

-- ---- the lines of a history come before those of the histories that follow it

-- the lines of the later history are those of this one and more
abbrev Follows : History → History → Type 0
Follows h later = (more : List ℕ) × (text_of_steps later ≡ text_of_steps h ++ more)

follows_by : (a : Program) (h : History) (steps : List Step) → ((e : Event) → Follows (e ∷ h) (reached_on a (e ∷ h) steps)) → (o : Option Event) → Follows h (with_next (λ g. reached_on a g steps) h h o)
follows_by a h steps rest None = ([], sym (append-nil (text_of_steps h)))
follows_by a h steps rest (Some e) =
    (indented (text_of_event (length h + 1) e) ++ (rest e).0, (rest e).1 ∙ append_assoc (text_of_steps h) (indented (text_of_event (length h + 1) e)) (rest e).0)

follows : (a : Program) (h : History) (steps : List Step) → Follows h (reached_on a h steps)
follows a h [] = ([], sym (append-nil (text_of_steps h)))
follows a h (step ∷ steps) = follows_by a h steps (λ e. follows a (e ∷ h) steps) (next_event a h step)

-- ---- step by step

-- so far each step was enabled and its line written
pub record StepsSoFar (a : Program) (steps : List Step) (start now : Option (List ℕ)) (failed : Bool) (program : Program) (h : History) (spent : Bool) (i : ℕ) : Type 0 where
  pub sound : failed ≡ false
  pub lives : spent ≡ false
  pub same : program ≡ a
  pub leads : reached_on a h (drop i steps) ≡ reached a steps
  pub counted : length h ≡ i
  pub appends : Appends start now (text_of_steps h)

pub steps_begin : (a : Program) (steps : List Step) (start : Option (List ℕ)) (failed : Bool) (h : History) (spent : Bool) → failed ≡ false → spent ≡ false → h ≡ [] → StepsSoFar a steps start start failed a h spent 0
steps_begin a steps start failed h spent sound lives begins = record {
  sound = sound;
  lives = lives;
  same = refl;
  leads = ap (λ g. reached_on a g steps) begins;
  counted = ap length begins;
  appends = subst (λ (g : History). Appends start start (text_of_steps g)) (sym begins) (appends_none start);
}

-- the history that is reached, where the next step is known
reached_at : (a : Program) (h : History) (steps : List Step) (i : ℕ) (step : Step) (o : Option Event) → i < length steps → step ≡ get_or steps i step → next_event a h step ≡ o
    → reached_on a h (drop i steps) ≡ with_next (λ g. reached_on a g (drop (i + 1) steps)) h h o
reached_at a h steps i step o within at next =
    at_drop_more (reached_on a h) steps i step within
    ∙ ap (λ s. reached_on a h (s ∷ drop (i + 1) steps)) (sym at)
    ∙ ap (with_next (λ g. reached_on a g (drop (i + 1) steps)) h h) next

-- all lines are still to be written except those that were written
owed : (a : Program) (steps : List Step) (start now : Option (List ℕ)) (h : History) (rest : List ℕ) → Appends start now (text_of_steps h) → text_of_steps (reached a steps) ≡ text_of_steps h ++ rest → Owes start now rest (text_of_steps (reached a steps))
owed a steps start now h rest appends parts =
    owes_less start start now (text_of_steps h) rest (text_of_steps (reached a steps)) (owes_same start start (text_of_steps (reached a steps)) (text_of_steps h ++ rest) (text_of_steps (reached a steps)) parts (owes_all start (text_of_steps (reached a steps)))) appends

one_counted : (h : History) (e : Event) (i : ℕ) → length h ≡ i → length (e ∷ h) ≡ i + 1
one_counted h e i is = omega (arith, is)

-- the line of the next event, by its number
line_at : (h : History) (e : Event) (i : ℕ) → length h ≡ i → text_of_steps (e ∷ h) ≡ text_of_steps h ++ indented (text_of_event (i + 1) e)
line_at h e i is = ap (λ n. text_of_steps h ++ indented (text_of_event (n + 1) e)) is

module _ (a : Program) (steps : List Step) (start now new : Option (List ℕ)) (failed failed' : Bool) (program : Program) (h later : History) (spent : Bool) (i : ℕ) (step : Step) where
  -- one more step
  goes_on : (program' : Program) (spent' : Bool) → StepsSoFar a steps start now failed program h spent i → i < length steps → step ≡ get_or steps i step
      → ExplainsStep program h (i + 1) step now new failed' later (Ok true) → spent' ≡ false → program' ≡ program
      → StepsSoFar a steps start new failed' program' later spent' (i + 1)
  goes_on program' spent' so within at took lives same =
      let next : next_event a h step ≡ Some took.0 = ap (λ p. next_event p h step) (sym so.same) ∙ took.1 in
      record {
        sound = took.3.sound;
        lives = lives;
        same = same ∙ so.same;
        leads = ap (λ g. reached_on a g (drop (i + 1) steps)) took.2 ∙ sym (reached_at a h steps i step (Some took.0) within at next) ∙ so.leads;
        counted = ap length took.2 ∙ one_counted h took.0 i so.counted;
        appends = subst (Appends start new) (sym (ap text_of_steps took.2 ∙ line_at h took.0 i so.counted)) (appends_then start now new (text_of_steps h) (indented (text_of_event (i + 1) took.0)) so.appends took.3.appends);
      }

  pub step_goes_on : (program' : Program) (spent' is_enabled : Bool) → is_enabled ≡ true → StepsSoFar a steps start now failed program h spent i → i < length steps → step ≡ get_or steps i step
      → ExplainsStep program h (i + 1) step now new failed' later (Ok is_enabled) → spent' ≡ false → program' ≡ program
      → StepsSoFar a steps start new failed' program' later spent' (i + 1)
  step_goes_on program' spent' is_enabled is so within at took lives same =
      goes_on program' spent' so within at (subst (λ (b : Bool). ExplainsStep program h (i + 1) step now new failed' later (Ok b)) is took) lives same

  -- a step that is not enabled: all lines were written
  stops : StepsSoFar a steps start now failed program h spent i → i < length steps → step ≡ get_or steps i step
      → ExplainsStep program h (i + 1) step now new failed' later (Ok false)
      → WritesAll start new failed' (text_of_steps (reached a steps)) × (later ≡ reached a steps)
  stops so within at took =
      let next : next_event a h step ≡ None = ap (λ p. next_event p h step) (sym so.same) ∙ took.0 in
      let there : h ≡ reached a steps = sym (reached_at a h steps i step None within at next) ∙ so.leads in (
        record {
          appends = subst (λ (n : Option (List ℕ)). Appends start n (text_of_steps (reached a steps))) (sym took.2) (subst (λ (g : History). Appends start now (text_of_steps g)) there so.appends);
          sound = took.3;
        },
        took.1 ∙ there,
      )

  pub step_stops : (is_enabled : Bool) → is_enabled ≡ false → StepsSoFar a steps start now failed program h spent i → i < length steps → step ≡ get_or steps i step
      → ExplainsStep program h (i + 1) step now new failed' later (Ok is_enabled)
      → WritesAll start new failed' (text_of_steps (reached a steps)) × (later ≡ reached a steps)
  step_stops is_enabled is so within at took = stops so within at (subst (λ (b : Bool). ExplainsStep program h (i + 1) step now new failed' later (Ok b)) is took)

  -- a step that was not explained
  fails : (fault : ExplainFault) → StepsSoFar a steps start now failed program h spent i → i < length steps → step ≡ get_or steps i step
      → ExplainsStep program h (i + 1) step now new failed' later (Err fault)
      → IsExplained (text_of_steps (reached a steps)) start new failed' (Err fault)
  fails Memory so within at took =
      let more = follows a h (drop i steps) in
      subst (λ (n : Option (List ℕ)). IsExplained (text_of_steps (reached a steps)) start n failed' (Err Memory)) (sym took.0)
      (wants_memory start now failed' more.0 (text_of_steps (reached a steps)) took.1 (owed a steps start now h more.0 so.appends (ap text_of_steps (sym so.leads) ∙ more.1)))
  fails Write so within at took =
      let next : next_event a h step ≡ Some took.0 = ap (λ p. next_event p h step) (sym so.same) ∙ took.1 in
      let more = follows a (took.0 ∷ h) (drop (i + 1) steps) in
      let line = indented (text_of_event (i + 1) took.0) in
      let parts : text_of_steps (reached a steps) ≡ text_of_steps h ++ (line ++ more.0) =
      ap text_of_steps (sym so.leads ∙ reached_at a h steps i step (Some took.0) within at next)
      ∙ more.1
      ∙ ap (λ w. w ++ more.0) (line_at h took.0 i so.counted)
      ∙ append_assoc (text_of_steps h) line more.0 in
      owes_break_in start now new failed' line more.0 (text_of_steps (reached a steps)) (owed a steps start now h (line ++ more.0) so.appends parts) took.2

  pub step_fails : (r : Result (Unit {0}) ExplainFault) (fault : ExplainFault) → r ≡ Err fault → StepsSoFar a steps start now failed program h spent i → i < length steps → step ≡ get_or steps i step
      → ExplainsStep program h (i + 1) step now new failed' later (Err fault)
      → IsExplained (text_of_steps (reached a steps)) start new failed' r
  step_fails r fault is so within at took =
      subst (λ (x : Result (Unit {0}) ExplainFault). IsExplained (text_of_steps (reached a steps)) start new failed' x) (sym is) (fails fault so within at took)

-- no step is left
pub steps_end : (a : Program) (steps : List Step) (start now : Option (List ℕ)) (failed : Bool) (program : Program) (h : History) (spent : Bool) (i : ℕ)
    → StepsSoFar a steps start now failed program h spent i → length steps ≤ i → WritesAll start now failed (text_of_steps (reached a steps)) × (h ≡ reached a steps)
steps_end a steps start now failed program h spent i so all =
    let there : h ≡ reached a steps = sym (at_drop_all (reached_on a h) steps i all) ∙ so.leads in
    (record { appends = subst (λ (g : History). Appends start now (text_of_steps g)) there so.appends; sound = so.sound }, there)
