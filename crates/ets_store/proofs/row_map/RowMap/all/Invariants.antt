use Rattle.std.proofs.Common.{◌≡◌, ◌++◌, map}
use Rattle.term_core.specs.Term.{meaning_of}
use Rattle.world_model.specs.Rows.{all_objects}
use Rattle.world_model.specs.Terms.{tuple}
use Rattle.ets_store.proofs.Listing.{objects_in}
use Rattle.ets_store.proofs.row_map.RowMap.all.Given as goal

abbrev pub invariant-loop-key : goal.invariant-loop-key
invariant-loop-key l = map meaning_of l.terms.items ++ map tuple (objects_in l._key-iterator) ≡ map tuple (all_objects l.self)
