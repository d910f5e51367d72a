use Rattle.std.proofs.Common.{◌++◌, ◌∙◌, [], sym, ap, subst}
use Rattle.proc_machines.specs.Processes.{lives_in}
use Rattle.proc_signals.specs.Channels.{between}
use Rattle.world_steps.proofs.Listed.{key_among}
use Rattle.world_steps.specs.inside.Enabling.{turns_of, deliveries_of}
use Rattle.world_model.specs.Asking.{program_of}
use Rattle.search_agenda.specs.inside.Planning.{HasPlans, PutsPlans}
use Rattle.search_agenda.proofs.Putting.{all_enabled, puts_more}
use Rattle.search_agenda.proofs.agenda.agenda_below.Goals as goal

pub returns : goal.returns
returns c = λ m h world takes.
    let records = c.args.records.now in
    let above = c.args.above in
    let ps = c.living-living.result.now.keys in
    let pairs = c.in_ok-pairs.pairs.items in
    let mid = c.put_turns.new.plans.items in
    let plans = c.put_deliveries.new.plans.items in
    let first = subst (λ old. PutsPlans records above (turns_of ps) old mid) c.in_ok-plans.ensures.items c.in_ok-put_turns.ensures.put in
    let has : HasPlans (program_of m) h (turns_of ps ++ deliveries_of pairs) [] plans = puts_more records above (turns_of ps) (deliveries_of pairs) [] mid plans first c.in_ok-put_deliveries.ensures m h world takes tt in
    record {
      plans = has.hold;
      enabled =
          all_enabled m h ps pairs plans c.in_ok-put_turns.ensures.in_order c.in_ok-pairs.ensures.ordered
          (λ p lives. key_among p ps (c.living-living.ensures p ∙ ap (λ r. lives_in r p) c.processes.ensures ∙ world.agrees.processes_are.alive p ∙ lives))
          (λ s r waits. (c.in_ok-pairs.ensures.listed s r).1 (λ empty. waits (sym (world.agrees.channels_are s r).waiting ∙ ap (λ cs. between cs s r) (sym c.channels.ensures) ∙ empty)))
          has;
    }
