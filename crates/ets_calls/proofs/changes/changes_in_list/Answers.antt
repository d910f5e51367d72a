use Rattle.std.proofs.Common.{option_map, sym, ap, ◌∙◌}
use Rattle.ets_store.specs.Parts.{part_in}
use Rattle.term_core.specs.Term.{meaning_of}
use Rattle.world_model.specs.Calls.{change_of}
use Rattle.ets_calls.proofs.Listing.{read_on}
use Rattle.ets_calls.proofs.changes.changes_in_list.Goals as goal

pub loop-pair-preserved : goal.loop-pair-preserved
loop-pair-preserved c =
    read_on change_of part_in c.loop-pair.changes.items c.push.new.self.items c.in-Some-2.change (meaning_of c.loop-pair.rest.now) c.in-Some.pair.now (meaning_of c.head.result.now) (meaning_of c.tail-rest.result.now) _ c.in-Some.ensures c.head.ensures c.tail-rest.ensures (sym (ap (option_map part_in) c.in-Some-2.is) ∙ c.in_ok-change.ensures) c.in_ok-push.ensures.items c.loop-pair.invariant
