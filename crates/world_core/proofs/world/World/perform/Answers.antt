use Rattle.std.proofs.Common.{◌≡◌, ◌∷◌, ◌∙◌, Some, None, sym, ap, subst}
use Rattle.world_model.specs.Asking.{program_of}
use Rattle.world_model.specs.Events.{event}
use Rattle.world_model.specs.Run.{extended, next_event}
use Rattle.world_model.specs.World.{contents}
use Rattle.world_footprints.specs.Deeds.{deed_in}
use Rattle.world_footprints.specs.Footprints.{IsPlan}
use Rattle.world_core.specs.Seen.{Seen, program_in}
use Rattle.world_core.specs.inside.Worlds.{IsWorld}
use Rattle.world_core.specs.Shared.{events_in}
use Rattle.world_core.proofs.Worlds.{grown_history, grown_world, new_for, next_is, not_none, planned_next, planned_none}
use Rattle.world_core.proofs.world.World.perform.Goals as goal

pub returns-in_default-clause-not_enabled : goal.returns-in_default-clause-not_enabled
returns-in_default-clause-not_enabled c = λ _.
    let m = c.self.inside.program.now in
    let h = events_in c.self.inside.events in
    let plan = c.args.plan.now in
    let is = subst (λ (s : Seen). IsPlan (program_in s) (contents s.history) plan) (sym c.self.view_is) c.requires.plan in
    subst (λ (s : Seen). next_event (program_in s) s.history plan.step ≡ None) c.self.view_is (planned_none m h plan is c.in_default.is)

pub invariant_of-self-2 : goal.invariant_of-self-2
invariant_of-self-2 c = λ _.
    let m = c.self.inside.program.now in
    let h = events_in c.self.inside.events in
    let plan = c.args.plan.now in
    let deed = c.in-Some.deed in
    let was = c.self.invariant c.if-self.false in
    let is = subst (λ (s : Seen). IsPlan (program_in s) (contents s.history) plan) (sym c.self.view_is) c.requires.plan in
    let after = c.in_ok-perform.ensures m (contents h) was.agrees is (new_for (program_of m) h plan.step was.is_run) in
    let told = c.in_ok-self-inside.ensures ∙ ap (λ g. event c.in_ok-copy.field-0 (deed_in c.in_ok-copy_deed.field-0) ∷ g) c.in_ok-before.ensures ∙ ap (λ s. event s (deed_in c.in_ok-copy_deed.field-0) ∷ h) c.in_ok-copy.ensures ∙ ap (λ d. event plan.step d ∷ h) c.in_ok-copy_deed.ensures in
    subst (λ g. IsWorld m g c.perform.new.records) (sym told) (grown_world m h plan deed c.perform.new.records was.is_run is c.in-Some.is after)

pub returns-clause-ok : goal.returns-clause-ok
returns-clause-ok c =
    let m = c.self.inside.program.now in
    let h = events_in c.self.inside.events in
    let plan = c.args.plan.now in
    let deed = c.in-Some.deed in
    let is = subst (λ (s : Seen). IsPlan (program_in s) (contents s.history) plan) (sym c.self.view_is) c.requires.plan in
    let told = c.in_ok-self-inside.ensures ∙ ap (λ g. event c.in_ok-copy.field-0 (deed_in c.in_ok-copy_deed.field-0) ∷ g) c.in_ok-before.ensures ∙ ap (λ s. event s (deed_in c.in_ok-copy_deed.field-0) ∷ h) c.in_ok-copy.ensures ∙ ap (λ d. event plan.step d ∷ h) c.in_ok-copy_deed.ensures in
    subst (λ (s : Seen). extended s.history (next_event (program_in s) s.history plan.step) ≡ Some (events_in c.in_ok-self-inside.field-0)) c.self.view_is
    (grown_history m h plan.step (deed_in deed) (planned_next m h plan deed is c.in-Some.is) ∙ ap Some (sym told))

pub returns-clause-only : goal.returns-clause-only
returns-clause-only c = λ _ none.
    let m = c.self.inside.program.now in
    let h = events_in c.self.inside.events in
    let plan = c.args.plan.now in
    let deed = c.in-Some.deed in
    let is = subst (λ (s : Seen). IsPlan (program_in s) (contents s.history) plan) (sym c.self.view_is) c.requires.plan in
    absurd (not_none _ _ (next_is m h plan.step (deed_in deed) (planned_next m h plan deed is c.in-Some.is)) (subst (λ (s : Seen). next_event (program_in s) s.history plan.step ≡ None) (sym c.self.view_is) none))
