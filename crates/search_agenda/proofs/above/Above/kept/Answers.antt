use Rattle.std.proofs.Common.{◌≡◌, ◌<◌, get_or, inr, length, IfSome, subst}
use Rattle.search_agenda.specs.Plans.{Shared}
use Rattle.search_agenda.specs.inside.Planning.{step_in}
use Rattle.search_agenda.proofs.Putting.{met_at}
use Rattle.search_agenda.proofs.above.Above.kept.Goals as goal

pub returns-clause-none : goal.returns-clause-none
returns-clause-none c = λ none.
    let plans = c.args.self.plans.now in
    let here = subst (λ o. IfSome o (λ place. (place < length plans) × ((p : Shared) → p ≡ get_or plans place p → p.value.step ≡ (step_in c.args.step)))) c.in_ok-found.was c.place_from-found.ensures.found in
    inr (met_at c.args.self c.in_ok-found.field-0 (step_in c.args.step) here.0 here.1 (c.unmet_at.ensures.met none))
