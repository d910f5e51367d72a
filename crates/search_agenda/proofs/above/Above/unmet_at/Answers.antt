use Rattle.std.proofs.Common.{subst}
use Rattle.search_agenda.specs.inside.Planning.{IsHeldIn}
use Rattle.search_agenda.proofs.Putting.{held_at}
use Rattle.search_agenda.proofs.above.Above.unmet_at.Goals as goal

pub returns-clause-held : goal.returns-clause-held
returns-clause-held c =
    subst (λ y. IsHeldIn y c.args.self.plans.now) c.index-self-place.is (held_at c.args.self.plans.now c.args.place c.index-self-place.result c.requires c.index-self-place.is)
