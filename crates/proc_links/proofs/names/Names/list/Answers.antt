use Rattle.std.proofs.Common.{ap, map, ◌∙◌}
use Rattle.std.specs.BTreeMap.{get}
use Rattle.term_core.specs.Order.{order_of_lists}
use Rattle.world_model.specs.Cells as cells
use Rattle.world_model.specs.Terms.{atom, list_of}
use Rattle.proc_links.specs.declared.names.Bearers.{Bearers}
use Rattle.proc_links.proofs.Listing.{all_names, if_answered}
use Rattle.proc_links.proofs.names.Names.list.Goals as goal

pub returns : goal.returns
returns c = if_answered _ _ c.list_onto.result (λ list is v told.
    is ∙ ap (λ names. list_of names) (c.in_ok-names.ensures.names ∙ ap (map atom) (all_names c.deref.result.now.holders (v cells.Holders) c.in_ok-names.ensures.ordered (λ name.
    ap (λ (b : Bearers). get order_of_lists b.holders name) c.deref.ensures ∙ told name)))) c.list_onto.ensures
