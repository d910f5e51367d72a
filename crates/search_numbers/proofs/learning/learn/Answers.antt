use Rattle.std.proofs.Common.{◌≡◌, ◌∙◌, Option, None, Some, is_some, false, true≢false, refl, subst, sym}
use Rattle.world_footprints.specs.Plans.{actor_of}
use Rattle.world_model.specs.Cells.{Alive}
use Rattle.search_numbers.specs.inside.Covered.{AreWithin}
use Rattle.search_numbers.specs.inside.Learning.{AreUntouched, IsLearned}
use Rattle.search_numbers.specs.Local.{CoversPlan}
use Rattle.search_numbers.specs.Rows.{numbers_in}
use Rattle.search_numbers.specs.Stored.{BeginsAt, covers}
use Rattle.search_numbers.specs.declared.remembered.Remembered.{Remembered}
use Rattle.search_numbers.proofs.Followed.{begins_later, follows_itself}
use Rattle.search_numbers.proofs.Learned.{planned_later, right_none}
use Rattle.search_numbers.proofs.learning.learn.Goals as goal

pub returns-in_err-records-clause-follows : goal.returns-in_err-records-clause-follows
returns-in_err-records-clause-follows c = follows_itself c.args.store.now

pub returns-in_err-copy-clause-follows : goal.returns-in_err-copy-clause-follows
returns-in_err-copy-clause-follows c = follows_itself c.args.store.now

pub returns-in_err-plan-clause-follows : goal.returns-in_err-plan-clause-follows
returns-in_err-plan-clause-follows c = follows_itself c.args.store.now

pub learn_of_an_event-requires-clause-planned : goal.learn_of_an_event-requires-clause-planned
learn_of_an_event-requires-clause-planned c =
    planned_later c.args.store.now c.columns_of.new.store (numbers_in c.args.row.now) c.in_ok-records.records c.in-Some.plan c.as_slice.result.now c.requires.world c.in_ok-columns.ensures.follows c.in_ok-records.ensures.agrees
    (rw c.in-Some.is at c.in_ok-plan.ensures.plan)
    (subst (λ cs. CoversPlan (covers c.columns_of.new.store.places.items cs) c.in-Some.plan) (sym c.as_slice.ensures.value) c.in_ok-columns.ensures.covers)
    (subst (AreWithin c.columns_of.new.store) (sym c.as_slice.ensures.value) c.in_ok-columns.ensures.within)

pub learn_of_the_dead-requires-clause-dead : goal.learn_of_the_dead-requires-clause-dead
learn_of_the_dead-requires-clause-dead c = record {
  world = c.requires.world;
  dead = λ m v has. subst (λ s. v (Alive (actor_of s)) ≡ false) c.in_ok-copy.ensures ((rw c.in_default.is at c.in_ok-plan.ensures.none) m v (c.in_ok-records.ensures.agrees m v has));
}

pub learn_of_an_event-requires-clause-begins : goal.learn_of_an_event-requires-clause-begins
learn_of_an_event-requires-clause-begins c =
    let step : c.in-Some.plan.step ≡ c.in_ok-copy.field-0 = rw c.in-Some.is at c.in_ok-plan.ensures.step in
    begins_later c.columns_of.new.store c.args.store.now c.args.begins c.in-Some.plan.step c.in_ok-columns.ensures.follows
    (subst (BeginsAt c.args.store.now.places.items c.args.begins) (sym (step ∙ c.in_ok-copy.ensures)) c.requires.begins)

none_if : {X : Type 0} (o : Option X) → is_some o ≡ false → o ≡ None
none_if None off = refl
none_if (Some x) off = absurd (true≢false off)

pub returns-clause-learned : goal.returns-clause-learned
returns-clause-learned c =
    let store = c.columns_of.new.store in
    let numbers = numbers_in c.args.row.now in
    let plan = c.in-Some.plan in
    let columns = c.in_ok-columns.columns.items in
    let r : Remembered = record { step = c.in_ok-copy-2.field-0; column = c.args.begins; touches = c.in_ok-untouched.field-0; shown = None } in
    let planned = planned_later c.args.store.now store numbers c.in_ok-records.records plan columns c.requires.world c.in_ok-columns.ensures.follows c.in_ok-records.ensures.agrees (rw c.in-Some.is at c.in_ok-plan.ensures.plan) c.in_ok-columns.ensures.covers c.in_ok-columns.ensures.within in
    let step : plan.step ≡ c.in_ok-copy.field-0 = rw c.in-Some.is at c.in_ok-plan.ensures.step in
    let is_of : plan.step ≡ c.args.step.now = step ∙ c.in_ok-copy.ensures in
    subst (λ s. IsLearned store numbers s r) is_of
    (right_none store numbers c.in_ok-records.records plan columns r planned (none_if plan.deed (sym c.is_some.ensures ∙ c.if-is_some.false))
    (subst (λ cs. AreUntouched numbers cs c.in_ok-untouched.field-0.items) c.as_slice-2.ensures.value c.in_ok-untouched.ensures)
    (begins_later store c.args.store.now c.args.begins c.in_ok-copy-2.field-0 c.in_ok-columns.ensures.follows (subst (BeginsAt c.args.store.now.places.items c.args.begins) (sym c.in_ok-copy-2.ensures) c.requires.begins))
    (c.in_ok-copy-2.ensures ∙ sym is_of) refl)
