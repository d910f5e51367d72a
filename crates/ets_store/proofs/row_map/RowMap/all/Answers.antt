use Rattle.std.proofs.Common.{◌++◌, List, map, ap, ◌∙◌}
use Rattle.term_core.specs.Term.{meaning_of}
use Rattle.term_core.specs.declared.term.Term.{Term}
use Rattle.world_model.specs.Terms.{tuple}
use Rattle.ets_store.proofs.Listing.{objects_in, all_shown}
use Rattle.ets_store.proofs.row_map.RowMap.all.Goals as goal

pub loop-key-init : goal.loop-key-init
loop-key-init c =
    ap (λ (ts : List Term). map meaning_of ts ++ map tuple (objects_in c.into_iter-key-iterator.result)) c.new-terms.ensures.items
    ∙ ap (map tuple) (all_shown c.self.inside.entries.entries c.into_iter-key-iterator.result c.args.self.now c.self.invariant.0 c.self.view_is c.into_iter-key-iterator.ensures.into_iter_gives.0)
