use Rattle.std.proofs.Common.{option_map, sym, ap, ◌∙◌}
use Rattle.term_core.specs.Term.{meaning_of}
use Rattle.world_model.specs.Tables.{option_of}
use Rattle.ets_calls.specs.Options.{option_in}
use Rattle.ets_calls.proofs.Listing.{read_on}
use Rattle.ets_calls.proofs.options.options_of.Goals as goal

pub loop-pair-preserved : goal.loop-pair-preserved
loop-pair-preserved c =
    read_on option_of option_in c.loop-pair.options.items c.push.new.self.items c.in-Some-2.option (meaning_of c.loop-pair.rest.now) c.in-Some.pair.now (meaning_of c.head.result.now) (meaning_of c.tail-rest.result.now) _ c.in-Some.ensures c.head.ensures c.tail-rest.ensures (sym (ap (option_map option_in) c.in-Some-2.is) ∙ c.in_ok-option.ensures) c.in_ok-push.ensures.items c.loop-pair.invariant
