use Rattle.std.proofs.Common.{option_map, sym, ap, ◌∙◌}
use Rattle.term_core.specs.Term.{meaning_of}
use Rattle.world_model.specs.Calls.{addition_of}
use Rattle.ets_calls.specs.Arguments.{addition_in}
use Rattle.ets_calls.proofs.Listing.{read_on}
use Rattle.ets_calls.proofs.increment.additions_in_list.Goals as goal

pub loop-pair-preserved : goal.loop-pair-preserved
loop-pair-preserved c =
    read_on addition_of addition_in c.loop-pair.additions.items c.push.new.self.items c.in-Some-addition_of.addition (meaning_of c.loop-pair.rest.now) c.in-Some.pair.now (meaning_of c.head.result.now) (meaning_of c.tail-rest.result.now) _ c.in-Some.ensures c.head.ensures c.tail-rest.ensures (sym (ap (option_map addition_in) c.in-Some-addition_of.is) ∙ c.addition_of.ensures) c.in_ok-push.ensures.items c.loop-pair.invariant
