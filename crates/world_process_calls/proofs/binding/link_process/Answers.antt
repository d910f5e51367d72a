use Rattle.world_planned.proofs.Adding.{adds_then}
use Rattle.world_planned.proofs.Calling.{link_fails, link_serves}
use Rattle.world_process_calls.proofs.binding.link_process.Goals as goal

pub returns-in-Fails : goal.returns-in-Fails
returns-in-Fails c = λ m v told meant.
    link_fails v c.args.caller.now c.args.to.now c.link_way-linking.result _ _ c.in-Fails.is (c.link_way-linking.ensures m v told) (adds_then _ _ _ _ _ _ _ c.in_ok-read_link.ensures c.in_ok-change_links.ensures)

pub returns-in-Stands : goal.returns-in-Stands
returns-in-Stands c = λ m v told meant.
    link_serves v c.args.caller.now c.args.to.now c.link_way-linking.result c.done.result _ _ c.in-Stands.is (c.link_way-linking.ensures m v told) c.done.ensures (adds_then _ _ _ _ _ _ _ c.in_ok-read_link.ensures c.in_ok-change_links.ensures)
