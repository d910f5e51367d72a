use Rattle.std.proofs.Common.{◌≡◌, ap}
use Rattle.std.specs.BTreeMap.{is_at}
use Rattle.term_core.specs.Order.{order_of_lists}
use Rattle.world_model.specs.Names.{ref_of}
use Rattle.ets_tables.proofs.Shelving.{clones_show}
use Rattle.ets_tables.proofs.name_map.NameMapClone.clone.Goals as goal

pub returns : goal.returns
returns c = record {
  cases = λ name. clones_show ref_of (λ a b. b ≡ a) (λ _ _ same. ap ref_of same) c.args.self.now.references.entries c.in_ok-clone.field-0.entries c.in_ok-clone.ensures.cases (is_at (order_of_lists name));
}
