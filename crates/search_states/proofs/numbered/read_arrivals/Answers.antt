use Rattle.std.proofs.Common.{◌∙◌, refl, subst, sym}
use Rattle.search_numbers.specs.Rows.{numbers_in}
use Rattle.search_numbers.specs.declared.known.Known.{Known}
use Rattle.search_states.proofs.Looking.{some_is}
use Rattle.search_states.proofs.numbered.read_arrivals.Goals as goal
use Rattle.search_states.specs.inside.Keeping.{AreArrivalsIn, AreRead, CanRead}

pub arrivals_from-requires : goal.arrivals_from-requires
arrivals_from-requires g c κs = ((refl, tt), subst (λ (k : Known). CanRead k (numbers_in c.args.row.now)) (sym c.new-reader.ensures) c.requires.world)

pub returns-in-Ok-clause-arrivals : goal.returns-in-Ok-clause-arrivals
returns-in-Ok-clause-arrivals g c =
    let same = some_is (c.arrivals_from.new.look.is ∙ sym c.requires.lasts) in
    λ on. subst (λ (k : Known). AreArrivalsIn c.args.delivery k (numbers_in c.args.row.now) c.arrivals_from.new.into) same c.in-Ok.ensures.arrivals

pub returns-in-Ok-clause-of_known : goal.returns-in-Ok-clause-of_known
returns-in-Ok-clause-of_known g c =
    let same = some_is (c.arrivals_from.new.look.is ∙ sym c.requires.lasts) in
    λ on. subst (λ (k : Known). AreRead k c.arrivals_from.new.into) same c.in-Ok.ensures.of_known
