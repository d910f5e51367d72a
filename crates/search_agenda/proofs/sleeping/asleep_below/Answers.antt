use Rattle.std.proofs.Common.{◌≡◌, ◌∙◌, ◌++◌, ◌∷◌, [], true, false, Vec, Global, ap, sym, subst}
use Rattle.std.proofs.lemmas.List.{append-nil, map-append}
use Rattle.world_model.specs.Events.{History}
use Rattle.world_model.specs.Independence.{are_independent}
use Rattle.world_model.specs.Requests.{Program}
use Rattle.search_agenda.specs.Plans.{ArePlans, IsPlan, Shared, steps_in}
use Rattle.world_footprints.specs.declared.plan.Plan.{Plan}
use Rattle.world_model.specs.World.{contents}
use Rattle.search_agenda.proofs.Settling.{independent_as}
use Rattle.search_agenda.proofs.Staying.{one_more, one_plan_more, plan_among, stays_asleep}
use Rattle.search_agenda.proofs.sleeping.asleep_below.Goals as goal
use Rattle.search_agenda.proofs.sleeping.asleep_below.Goals.{then-are_independent+in_ok-share+in_ok-push, else-are_independent}

pub loop-other-preserved : goal.loop-other-preserved
loop-other-preserved c =
    let slept = c.args.slept.now in
    let taken = c.args.taken.now in
    let i = c.loop-other.other-index in
    let p = c.other-item.result in
    let old = c.loop-other.asleep.items in
    let new = c.if-are_independent.asleep.items in
    let told = λ (a : Program) (h : History) (all : ArePlans a h slept) (of : IsPlan a h taken).
    c.are_independent.ensures a (contents h) of (subst (IsPlan a h) (sym c.deref.ensures) (plan_among a h slept i p c.loop-other-test.true c.other-item.is all))
    ∙ independent_as a h taken.step _
    ∙ ap (λ (q : Plan). are_independent a h taken.step q.step) c.deref.ensures in
    elim c.if-are_independent.branch [
      | then-are_independent+in_ok-share+in_ok-push w ↦
          (let put : new ≡ old ++ w.in_ok-share.field-0 ∷ [] = ap (λ (v : Vec Shared Global). v.items) w.asleep-is ∙ w.in_ok-push.ensures.items in (
            (λ a h all of.
                one_more (are_independent a h taken.step) slept i p (steps_in old) (steps_in new) true c.loop-other-test.true c.other-item.is (sym w.if-are_independent.true ∙ told a h all of) (c.loop-other.invariant.0 a h all of)
                (ap steps_in put ∙ map-append (λ (q : Shared). q.value.step) old (w.in_ok-share.field-0 ∷ []) ∙ ap (λ (q : Plan). steps_in old ++ q.step ∷ []) w.in_ok-share.ensures)),
            (λ a h e all of now.
                one_plan_more a (e ∷ h) p w.in_ok-share.field-0 old new put w.in_ok-share.ensures
                (stays_asleep a h e taken p.value (plan_among a h slept i p c.loop-other-test.true c.other-item.is all) (sym (told a h all of) ∙ w.if-are_independent.true) now)
                (c.loop-other.invariant.1 a h e all of now)),
          ))
      | else-are_independent w ↦
          (let left : new ≡ old = ap (λ (v : Vec Shared Global). v.items) w.asleep-is in (
            (λ a h all of.
                one_more (are_independent a h taken.step) slept i p (steps_in old) (steps_in new) false c.loop-other-test.true c.other-item.is (sym w.if-are_independent.false ∙ told a h all of) (c.loop-other.invariant.0 a h all of)
                (ap steps_in left ∙ sym (append-nil (steps_in old)))),
            (λ a h e all of now. subst (ArePlans a (e ∷ h)) (sym left) (c.loop-other.invariant.1 a h e all of now)),
          ))
    ]
