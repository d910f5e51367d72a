use Rattle.std.proofs.Common.{◌≡◌, ◌∙◌, ap, sym, subst, arith}
use Rattle.world_identities.specs.Identities.{flags_in}
use Rattle.tree_findings.specs.declared.extent.Extent.{Extent}
use Rattle.search_jobs.specs.Explorations.{ExplorationSeen, JobSeen}
use Rattle.search_expansion.specs.inside.Walks.{BeginsWalk, frames_in}
use Rattle.search_expansion.proofs.Pieces.{exploring_first, exploring_more, extent_fits}
use Rattle.search_expansion.proofs.expansion.expanded.Goals as goal

pub loop-extent-init : goal.loop-extent-init
loop-extent-init g c =
    let e = c.args.job.now.exploration in
    let begins = subst (λ (j : JobSeen). BeginsWalk j.exploration j.name c.new-findings.result c.visit_first.new.findings c.visit_first.new.self c.in_ok-is_cut.is_cut) c.in_ok-own.ensures c.in_ok-is_cut.ensures.begins in
    let one = ap (λ (x : Extent). x.nodes) c.with_node-extent.ensures in
    record {
      exploring = exploring_first e c.args.job.now.name c.new-findings.result c.visit_first.new.findings c.visit_first.new.self c.in_ok-is_cut.is_cut c.with_node-extent.result begins c.new-findings.ensures c.with_node-extent.ensures;
      walk_is = begins.walk;
      program_is = ap (λ p. p.now) c.visit_first.ensures.program ∙ c.new-walk.ensures.program;
      some = omega (arith, one);
      within = omega (arith, one, c.requires.some);
    }

pub with_node-extent-requires-in-loop-extent-clause-fewer : goal.with_node-extent-requires-in-loop-extent-clause-fewer
with_node-extent-requires-in-loop-extent-clause-fewer g c =
    let x = c.loop-extent.invariant.exploring in
    extent_fits c.args.job.now.exploration x.done c.loop-extent.extent x.is_done.counted

pub loop-extent-preserved : goal.loop-extent-preserved
loop-extent-preserved g c =
    let e = c.args.job.now.exploration in
    let flags = flags_in c.exploration-exploration.result.flags in
    let same : e.flags ≡ flags = sym (ap (λ (x : ExplorationSeen). x.flags) c.exploration-exploration.ensures) in
    let more = ap (λ (x : Extent). x.nodes) c.with_node-extent-in-loop-extent.ensures in
    record {
      exploring = exploring_more e c.args.job.now.name flags c.loop-extent.findings c.visit_next.new.findings c.loop-extent.extent c.with_node-extent-in-loop-extent.result c.in_ok-is_cut-2.is_cut (frames_in c.loop-extent.walk) (frames_in c.visit_next.new.self)
          c.loop-extent.invariant.exploring same c.in_ok-is_cut-2.ensures.visits c.with_node-extent-in-loop-extent.ensures;
      walk_is = c.in_ok-is_cut-2.ensures.walk;
      program_is = ap (λ p. p.now) c.visit_next.ensures.program ∙ c.loop-extent.invariant.program_is;
      some = omega (arith, more);
      within = omega (arith, more);
    }
