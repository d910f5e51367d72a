use Rattle.std.proofs.Common.{◌≡◌, ◌++◌, ◌∙◌, [], true, sym, ap, subst}
use Rattle.std.specs.BTreeSet.{contains}
use Rattle.term_core.specs.Order.{order_of_lists}
use Rattle.proc_machines.specs.Processes.{lives_in}
use Rattle.proc_signals.specs.Channels.{between}
use Rattle.world_model.specs.World.{contents}
use Rattle.world_steps.specs.inside.Enabling.{PutsEnabled, turns_of, deliveries_of}
use Rattle.world_steps.proofs.Listed.{key_among, listed, puts_both}
use Rattle.world_steps.proofs.enabled.enabled_steps.Goals as goal

pub returns : goal.returns
returns c = λ m h told.
    let ps = c.living-living.result.now.keys in
    let pairs = c.in_ok-pairs.pairs.items in
    let first = subst (λ old. PutsEnabled c.args.records.now (turns_of ps) old c.push_turns.new.steps.items) c.new-steps.ensures.items c.in_ok-push_turns.ensures.put in
    puts_both c.args.records.now (turns_of ps) (deliveries_of pairs) c.push_turns.new.steps.items c.push_deliveries.new.steps.items first c.in_ok-push_deliveries.ensures m (contents h) told
    ∙ listed m h ps pairs c.in_ok-push_turns.ensures.in_order c.in_ok-pairs.ensures.ordered
    (λ p lives. key_among p ps (c.living-living.ensures p ∙ ap (λ r. lives_in r p) c.processes.ensures ∙ told.processes_are.alive p ∙ lives))
    (λ s r waits. (c.in_ok-pairs.ensures.listed s r).1 (λ empty. waits (sym (told.channels_are s r).waiting ∙ ap (λ cs. between cs s r) (sym c.channels.ensures) ∙ empty)))
