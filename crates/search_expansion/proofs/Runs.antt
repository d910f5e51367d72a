-- Schedules that go on.
use Rattle.std.proofs.Common.{◌≡◌, ◌+◌, [], ◌∷◌, ◌++◌, length, map, Option, Some, None, refl, sym, ap, ◌∙◌, length-append}
use Rattle.std.proofs.lemmas.List.{reverse-append}
use Rattle.term_core.specs.declared.step.Step.{Step}
use Rattle.world_model.specs.Events.{Event, History}
use Rattle.world_model.specs.Requests.{Program}
use Rattle.world_model.specs.Run.{next_event, extended, schedule_of}
use Rattle.world_model.specs.Steps.{next_deed}
use Rattle.world_model.specs.World.{contents}
use Rattle.world_model.proofs.Histories.{step_is}

pub some_is : {X : Type 0} (x y : X) → Some x ≡ Some y → x ≡ y
some_is x y e = cc

-- one history follows another by a step
pub record IsNext (a : Program) (h : History) (s : Step) (g : History) : Type 0 where
  pub event : Event
  pub is_next : next_event a h s ≡ Some event
  pub grown : g ≡ event ∷ h
  pub step : s ≡ event.step

pub next_of : (a : Program) (h : History) (s : Step) (g : History) → extended h (next_event a h s) ≡ Some g → IsNext a h s g
next_of a h s g now = go (next_event a h s) refl now
  where
    go : (o : Option Event) → next_event a h s ≡ o → extended h o ≡ Some g → IsNext a h s g
    go None is k = absurd cc
    go (Some e) is k = record { event = e; is_next = is; grown = sym (some_is (e ∷ h) g k); step = step_is s (next_deed a (contents h) s) e is }

-- its schedule has one step more
pub longer : (a : Program) (h : History) (s : Step) (g : History) → IsNext a h s g → schedule_of g ≡ schedule_of h ++ s ∷ []
longer a h s g n =
    ap schedule_of n.grown ∙ reverse-append (n.event.step ∷ []) (map (λ (d : Event). d.step) h) ∙ ap (λ t. schedule_of h ++ t ∷ []) (sym n.step)

pub one_longer : (a : Program) (h : History) (s : Step) (g : History) → IsNext a h s g → length (schedule_of g) ≡ length (schedule_of h) + 1
one_longer a h s g n = ap length (longer a h s g n) ∙ length-append (schedule_of h) (s ∷ [])
