use Rattle.std.proofs.Common.{◌≡◌, Some, sym, subst}
use Rattle.proc_signals.specs.Signal.{signal_of}
use Rattle.term_core.specs.declared.step.Step.{Step}
use Rattle.world_model.specs.Asking.{program_of}
use Rattle.world_model.specs.Changes.{after}
use Rattle.world_model.specs.Steps.{next_deed}
use Rattle.world_records.specs.Records.{Agrees}
use Rattle.world_footprints.specs.Deeds.{deed_in}
use Rattle.world_footprints.specs.Plans.{first_changes}
use Rattle.world_plans.proofs.Performed.{fetches, is_there}
use Rattle.world_plans.proofs.Turning.{on_ok}
use Rattle.world_plans.proofs.performing.begin.Goals as goal

pub returns-in-Turn : goal.returns-in-Turn
returns-in-Turn c = on_ok c.count_turn.result _ _ (λ follows m v told next. subst (λ (s : Step). Agrees m c.count_turn.new.records (after (first_changes s (deed_in c.args.deed.now)) v)) (sym c.in-Turn.is) (follows m v told)) c.count_turn.ensures

pub returns-in_ok-_fetched-in-Deliver : goal.returns-in_ok-_fetched-in-Deliver
returns-in_ok-_fetched-in-Deliver c = λ m v told next.
    let deed = deed_in c.args.deed.now in
    let both = fetches v c.in-Deliver.from c.in-Deliver.to _ _ deed (subst (λ (s : Step). next_deed (program_of m) v s ≡ Some deed) c.in-Deliver.is next) in
    subst (λ (s : Step). Agrees m c.fetch.new.self (after (first_changes s deed) v)) (sym c.in-Deliver.is)
    (subst (λ ks. Agrees m c.fetch.new.self (after ks v)) (sym both.1) (c.in_ok-_fetched-in-Deliver.ensures.ok (is_there signal_of _ _ (c.in_ok-_fetched-in-Deliver.ensures.fetched m v told) both.0) m v told))
