use Rattle.std.proofs.Common.{◌∙◌, ap, sym}
use Rattle.proc_signals.specs.Channels.{Senders, between}
use Rattle.search_samples.proofs.Chosen.{by_the_front}
use Rattle.search_samples.proofs.drawing.is_at_once.Goals as goal
use Rattle.tree_schedules.specs.Deliveries.{is_at_once}
use Rattle.world_model.specs.Signals.{first_of}

pub returns-in-Deliver : goal.returns-in-Deliver
returns-in-Deliver c =
    let world = c.args.world.now in
    let s = c.in-Deliver.from in
    let r = c.in-Deliver.to in
    c.arrives_at_once.ensures
    ∙ by_the_front world.program world.history c.records.result.now s r _ (c.records.ensures c.requires) (c.front.ensures ∙ ap (λ (cs : Senders). first_of (between cs s r)) c.channels.ensures)
    ∙ ap (is_at_once world.history) (sym c.in-Deliver.is)
