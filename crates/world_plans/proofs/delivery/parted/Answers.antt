use Rattle.std.proofs.Common.{◌∙◌, sym}
use Rattle.proc_signals.specs.Signal.{signal_of}
use Rattle.world_planned.proofs.Calling.{if_ok}
use Rattle.world_plans.proofs.Parting.{link_goes, links_stay}
use Rattle.world_plans.proofs.delivery.parted.Goals as goal

pub returns-then-is_of_link : goal.returns-then-is_of_link
returns-then-is_of_link c =
    if_ok c.unlinked.result _ _ (λ links goes. link_goes c.args.links.now c.in_ok-parted.parted links c.args.from.now c.args.to.now (signal_of c.args.signal.now) (sym c.is_of_link.ensures ∙ c.if-is_of_link.true) c.in_ok-parted.ensures goes) c.unlinked.ensures

pub returns : goal.returns
returns c = links_stay c.args.links.now c.in_ok-parted.parted c.args.from.now c.args.to.now (signal_of c.args.signal.now) (sym c.is_of_link.ensures ∙ c.if-is_of_link.false) c.in_ok-parted.ensures
