use Rattle.std.proofs.Common.{◌∙◌, ap, subst}
use Rattle.tree_coverage.specs.Jobs.{Job}
use Rattle.world_core.specs.Advanced.{IsStopped}
use Rattle.world_core.specs.declared.fault.WorldFault.{WorldFault}
use Rattle.search_expansion.proofs.Reached.{not_refused}
use Rattle.search_expansion.proofs.world.world_of.Goals as goal

pub unreachable-requires : goal.unreachable-requires
unreachable-requires c =
    let steps = c.as_slice.result.now in
    let prefix = c.as_slice.ensures.value ∙ ap (λ (x : Job). x.prefix) (c.name.view_is ∙ c.name-name.ensures) in
    let stops = subst (λ (f : WorldFault). IsStopped c.in_ok-world.world steps c.in-Err-default-NotEnabled.field-0-0 f c.advance.new.self) c.in-Err-default-NotEnabled.field-0-1-is c.in-Err-default-NotEnabled.ensures.advanced in
    not_refused c.args.job.now.exploration c.args.job.now.name c.args.program.now c.in_ok-world.world steps c.in-Err-default-NotEnabled.field-0-0 c.advance.new.self.history
    c.names_a_node.ensures c.in_ok-world.ensures c.requires prefix stops.0
