-- Runs in the words of the theory are runs of the world, and show the same.
use Rattle.std.proofs.Common.{◌≡◌, inl, inr, List, [], ◌∷◌, Option, Some, None, refl, sym, ap, ◌∙◌, subst}
use Rattle.term_core.specs.declared.step.Step.{Step}
use Rattle.world_model.specs.Events.{Event, History}
use Rattle.world_model.specs.Names.{IsAmong}
use Rattle.world_model.specs.Requests.{Program}
use Rattle.world_model.specs.Run.{next_event, extended, run_from}
use Rattle.world_model.specs.Shown.{Identity, shown_last, shown}
use Rattle.tree_sleep_sets.specs.Schedules as theory
use Rattle.tree_sleep_sets.specs.Shown as signs_of
use Rattle.tree_coverage.specs.Explored.{Happening, happening, explored, signs}
use Rattle.tree_coverage.specs.Shown.{RunShows}
use Rattle.tree_coverage.specs.Trees.{AreEquivalent, Itself, Swap, After, Chain}
use Rattle.tree_coverage.proofs.Instance.{Happened, happened, take}
use Rattle.tree_coverage.proofs.Lists.{among_left, among_right, among_append}

-- ---- a run of the theory leads to the history of its schedule, and back

after_step : (a : Program) (h : History) (s : Step) (e : Event) (rest : List Step) → next_event a h s ≡ Some e → run_from a (extended h (next_event a h s)) rest ≡ run_from a (Some (e ∷ h)) rest
after_step a h s e rest is = ap (λ o. run_from a (extended h o) rest) is

pub run_of : (a : Program) (h : History) (s : List Step) (r : theory.Runs (explored a) h s) → run_from a (Some h) s ≡ Some (theory.final (explored a) h s r)
run_of a h [] r = refl
run_of a h (x ∷ s) r =
    let k : Happened a h x r.0.event r.0.world = happened a h x r.0 in
    after_step a h x k.event s k.is_next ∙ ap (λ g. run_from a (Some g) s) k.is_world ∙ run_of a r.0.world s r.1

-- a run that leads to a history
pub record Led (a : Program) (h : History) (s : List Step) (g : History) : Type 0 where
  pub runs : theory.Runs (explored a) h s
  pub is_final : theory.final (explored a) h s runs ≡ g

some_is : {h g : History} → Some h ≡ Some g → h ≡ g
some_is e = cc

none_runs : (a : Program) (s : List Step) (g : History) → run_from a None s ≡ Some g → ⊥
none_runs a s g now = absurd cc

led_by : (a : Program) (h : History) (x : Step) (s : List Step) (g : History) (o : Option Event) → next_event a h x ≡ o → run_from a (extended h o) s ≡ Some g → ((e : Event) → run_from a (Some (e ∷ h)) s ≡ Some g → Led a (e ∷ h) s g) → Led a h (x ∷ s) g
led_by a h x s g None is now rest = absurd (none_runs a s g now)
led_by a h x s g (Some e) is now rest =
    let l : Led a (e ∷ h) s g = rest e now in
    record { runs = (take a h x e is, l.runs); is_final = l.is_final }

pub led : (a : Program) (h : History) (s : List Step) (g : History) → run_from a (Some h) s ≡ Some g → Led a h s g
led a h [] g now = record { runs = tt; is_final = some_is now }
led a h (x ∷ s) g now = led_by a h x s g (next_event a h x) refl now (λ e more. led a (e ∷ h) s g more)

-- ---- the latest event of a run is that of its history

abbrev last_happening : History → Option Happening
last_happening [] = None
last_happening (e ∷ h) = Some (happening h e)

last_of : (a : Program) (h : History) (s : List Step) (r : theory.Runs (explored a) h s) → theory.latest (explored a) (last_happening h) h s r ≡ last_happening (theory.final (explored a) h s r)
last_of a h [] r = refl
last_of a h (x ∷ s) r =
    let k : Happened a h x r.0.event r.0.world = happened a h x r.0 in
    ap (λ o. theory.latest (explored a) o r.0.world s r.1) (sym (ap Some k.is_happening) ∙ ap last_happening k.is_world) ∙ last_of a r.0.world s r.1

-- ---- what is shown

abbrev ByEvent : (a : Program) → Option Happening → Identity → Type 0
ByEvent a o i = (e : Happening) × (o ≡ Some e) × (signs a).event_shows e i

by_last : (a : Program) (h : History) (i : Identity) → ByEvent a (last_happening h) i → IsAmong i (shown_last h)
by_last a [] i (e, is, shows) = absurd cc
by_last a (d ∷ h) i (e, is, shows) = subst (λ x. (signs a).event_shows x i) (happening_is _ _ (sym is)) shows
  where
    happening_is : (x y : Happening) → Some x ≡ Some y → x ≡ y
    happening_is x y e = cc

last_by : (a : Program) (h : History) (i : Identity) → IsAmong i (shown_last h) → ByEvent a (last_happening h) i
last_by a [] i shows = absurd shows
last_by a (e ∷ h) i shows = (happening h e, refl, shows)

pub shows_to : (a : Program) (s : List Step) (i : Identity) → signs_of.Shows (explored a) (signs a) [] s i → RunShows a s i
shows_to a s i (r, inl (e, is, shows)) =
    let g : History = theory.final (explored a) [] s r in
    (g, run_of a [] s r, among_left (shown_last g) _ i (by_last a g i (e, sym (last_of a [] s r) ∙ is, shows)))
shows_to a s i (r, inr shows) =
    let g : History = theory.final (explored a) [] s r in
    (g, run_of a [] s r, among_right (shown_last g) _ i shows)

pub shows_from : (a : Program) (s : List Step) (i : Identity) → RunShows a s i → signs_of.Shows (explored a) (signs a) [] s i
shows_from a s i (h, now, shows) =
    let l : Led a [] s h = led a [] s h now in
    let there : IsAmong i (shown a (theory.final (explored a) [] s l.runs)) = subst (λ g. IsAmong i (shown a g)) (sym l.is_final) shows in (
      l.runs,
      elim (among_append (shown_last (theory.final (explored a) [] s l.runs)) _ i there) [
        | inl k ↦
            let b : ByEvent a (last_happening (theory.final (explored a) [] s l.runs)) i = last_by a _ i k in
            inl (b.0, last_of a [] s l.runs ∙ b.1, b.2)
        | inr k ↦ inr k
      ],
    )

-- ---- schedules that are equivalent

pub equivalent_to : (a : Program) (h : History) (r s : List Step) → theory.Equivalent (explored a) h r s → AreEquivalent a h r s
equivalent_to a h r s theory.Itself = Itself
equivalent_to a h r s (theory.Swap i) = Swap i
equivalent_to a h r s (theory.After {a = x} {r = p} {s = q} t e) =
    let k : Happened a h x t.event t.world = happened a h x t in
    After k.is_next (subst (λ g. AreEquivalent a g p q) (sym k.is_world) (equivalent_to a t.world p q e))
equivalent_to a h r s (theory.Chain {r = q} e f) = Chain (equivalent_to a h r q e) (equivalent_to a h q s f)
