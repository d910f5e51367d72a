use Rattle.std.proofs.Common.{[], ◌∷◌, ap, sym, subst, is_ok}
use Rattle.world_model.specs.Changes.{after, TableRemoved, RowsCleared}
use Rattle.world_model.specs.Names.{ref_of}
use Rattle.ets_tables.specs.Shelves.{AreShelved}
use Rattle.ets_tables.proofs.Following.{still, same_shelves, goes}
use Rattle.ets_tables.proofs.registry.Registry.take.Goals as goal

pub returns-clause-ok : goal.returns-clause-ok
returns-clause-ok c =
    let t = ref_of c.args.id.now in
    let old = c.args.self.now.shelves.value in
    let lent = c.in_ok-shelves.shelves.now in
    let same = same_shelves old lent c.in_ok-shelves.ensures.value in
    λ v told. subst (λ s. AreShelved s (after (TableRemoved t ∷ RowsCleared t ∷ []) v)) (sym (c.make_mut.follows.holds c.take.new.self (ap is_ok c.in_ok-shelves.was)))
    (goes lent c.take.new.self t v c.take.ensures.left (still old lent v same told))
