-- Records after a planned step, and what is shown of those where no step is enabled.
use Rattle.std.proofs.lemmas.Bool.{eq-eqb, eqb-true, false≢true}
use Rattle.std.proofs.Common.{◌≡◌, ◌∙◌, ◌==◌, ◌++◌, ℕ, Bool, List, [], ◌∷◌, Option, Some, None, Bor, is_some, map, option_map, true, false, not, refl, sym, ap, subst, append-nil, length}
use Rattle.core_tree.specs.Syntax.{ModuleTree}
use Rattle.term_core.specs.declared.step.Step.{Step}
use Rattle.tree_coverage.specs.Covers.{is_empty}
use Rattle.tree_cuts.specs.Cuts.{goes_on}
use Rattle.world_identities.specs.Identities.{identity_in}
use Rattle.world_identities.specs.declared.identity.Identity.{Identity}
use Rattle.world_model.specs.Asking.{program_of}
use Rattle.world_model.specs.Events.{Event, event, History}
use Rattle.world_model.specs.Requests.{Program}
use Rattle.world_model.specs.Run.{enabled_steps, next_event}
use Rattle.world_model.specs.Shown.{shown_at_rest}
use Rattle.world_model.specs.Signals.{first_of}
use Rattle.world_model.specs.World.{contents}
use Rattle.world_model.specs.Cells.{Contents}
use Rattle.world_records.specs.Records.{Agrees}
use Rattle.world_records.specs.declared.records.Records.{Records}
use Rattle.search_agenda.specs.Plans.{IsPlan, IsWorld}
use Rattle.world_footprints.specs.Deeds.{deed_in}
use Rattle.world_footprints.specs.Plans.{IsNewFor, left}
use Rattle.world_footprints.specs.Footprints as footprints
use Rattle.world_footprints.specs.declared.deed.Deed.{Deed}
use Rattle.world_footprints.specs.declared.plan.Plan.{Plan}
use Rattle.world_core.proofs.Worlds.{grown_world, new_for, next_is, not_none, planned_next, planned_none}
use Rattle.search_expansion.specs.inside.Nodes.{AddsDeadlock}
use Rattle.search_jobs.proofs.Lists.{none_left}
use Rattle.search_expansion.proofs.Runs.{some_is}

-- what was done as planned
abbrev pub IsDoneAs : Records → Plan → Records → Type 0
IsDoneAs old p new = (m : ModuleTree) (v : Contents) → Agrees m old v → footprints.IsPlan (program_of m) v p → IsNewFor v p.step → Agrees m new (left v p.step (option_map deed_in p.deed))

pub done : (m : ModuleTree) (h : History) (e : Event) (p : Plan) (old new : Records) → IsWorld m h old → IsPlan (program_of m) h p → next_event (program_of m) h p.step ≡ Some e → IsDoneAs old p new → IsWorld m (e ∷ h) new
done m h e p old new world plan next is = go p.deed refl
  where
    go : (d : Option Deed) → p.deed ≡ d → IsWorld m (e ∷ h) new
    go None none = absurd (not_none _ e next (planned_none m h p plan none))
    go (Some deed) here =
        let grown = grown_world m h p deed new world.is_run plan here (is m (contents h) world.agrees plan (new_for (program_of m) h p.step world.is_run)) in
        let same : event p.step (deed_in deed) ≡ e = some_is _ _ (sym (next_is m h p.step (deed_in deed) (planned_next m h p deed plan here)) ∙ next) in
        subst (λ f. IsWorld m (f ∷ h) new) same (record { agrees = grown.agrees; is_run = grown.is_run })

-- ---- whether a step is enabled, by the first one that is

pub none_enabled : (o : Option (Bor Step)) (steps : List Step) → option_map (λ (s : Bor Step). s.now) o ≡ first_of steps → is_some o ≡ false → steps ≡ []
none_enabled None [] is off = refl
none_enabled None (s ∷ steps) is off = absurd cc
none_enabled (Some t) steps is off = absurd cc

pub some_enabled : (o : Option (Bor Step)) (steps : List Step) → option_map (λ (s : Bor Step). s.now) o ≡ first_of steps → is_some o ≡ true → steps ≡ [] → ⊥
some_enabled None steps is on none = absurd cc
some_enabled (Some t) [] is on none = absurd cc
some_enabled (Some t) (s ∷ steps) is on none = absurd cc

no_deadlock : (steps : List Step) (h : History) → (steps ≡ [] → ⊥) → shown_at_rest steps h ≡ []
no_deadlock [] h some = absurd (some refl)
no_deadlock (s ∷ steps) h some = refl

-- nothing is added where one is
pub lives_on : (a : Program) (h : History) (shown : List Identity) → (enabled_steps a h ≡ [] → ⊥) → AddsDeadlock a h shown shown
lives_on a h shown some = sym (append-nil (map identity_in shown)) ∙ ap (λ more. map identity_in shown ++ more) (sym (no_deadlock (enabled_steps a h) h some))

-- and where none is, what is shown of those that live
pub dies_out : (a : Program) (h : History) (old new : List Identity) → enabled_steps a h ≡ [] → map identity_in new ≡ map identity_in old ++ shown_at_rest [] h → AddsDeadlock a h old new
dies_out a h old new none adds = adds ∙ ap (λ steps. map identity_in old ++ shown_at_rest steps h) (sym none)

-- so it goes on, or not
pub goes : (a : Program) (h : History) → (enabled_steps a h ≡ [] → ⊥) → goes_on a (Some h) ≡ true
goes a h some = go (enabled_steps a h) some
  where
    go : (steps : List Step) → (steps ≡ [] → ⊥) → not (is_empty steps) ≡ true
    go [] some = absurd (some refl)
    go (s ∷ steps) some = refl

pub goes_not : (a : Program) (h : History) → enabled_steps a h ≡ [] → goes_on a (Some h) ≡ false
goes_not a h none = ap (λ (steps : List Step). not (is_empty steps)) none

-- and by whether there is a first one
pub goes_first : (a : Program) (h : History) (o : Option (Bor Step)) (b : Bool) → option_map (λ (s : Bor Step). s.now) o ≡ first_of (enabled_steps a h) → is_some o ≡ b → b ≡ goes_on a (Some h)
goes_first a h o true is on = sym (goes a h (some_enabled o (enabled_steps a h) is on))
goes_first a h o false is off = sym (goes_not a h (none_enabled o (enabled_steps a h) is off))

-- ---- whether a list is empty, by its length

pub some_there : {X : Type 0} (xs : List X) (n : ℕ) → n ≡ length xs → false ≡ (n == 0) → xs ≡ [] → ⊥
some_there xs n count some none = false≢true (some ∙ eq-eqb n 0 (count ∙ ap length none))

pub none_there : {X : Type 0} (xs : List X) (n : ℕ) → n ≡ length xs → true ≡ (n == 0) → xs ≡ []
none_there xs n count none = none_left xs (sym count ∙ eqb-true n 0 (sym none))
