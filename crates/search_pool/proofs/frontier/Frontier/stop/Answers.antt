use Rattle.std.proofs.Common.{◌≡◌, length, arith}
use Rattle.tree_findings.specs.declared.extent.Extent.{Extent}
use Rattle.search_jobs.specs.Explorations.{exploration_in}
use Rattle.search_pool.proofs.Frontiers.{stop_kept}
use Rattle.search_pool.proofs.frontier.Frontier.stop.Goals as goal

pub invariant_of-self : goal.invariant_of-self
invariant_of-self c =
    let f = c.self.inside in
    let x : Extent = record { nodes = f.nodes; cut = f.cut } in
    let place : c.len.result ≡ length f.events.items = omega arith in
    stop_kept (exploration_in f.exploration) f.start f.limit f.todo.items f.out.items f.findings x f.taken f.events.items f.stop _ c.in-None.is place c.self.invariant
