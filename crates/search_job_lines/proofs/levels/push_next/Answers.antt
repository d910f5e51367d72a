use Rattle.std.proofs.Common.{◌≡◌, ap, subst, ◌∙◌}
use Rattle.tree_coverage.specs.Jobs.{Job}
use Rattle.world_core.specs.Advanced.{IsStopped}
use Rattle.world_core.specs.declared.fault.WorldFault.{WorldFault}
use Rattle.search_job_lines.proofs.Deeper.{is_reached, on_ok, steps_are_next, stopped_has_none}
use Rattle.search_job_lines.proofs.levels.push_next.Goals as goal

pub push_below-requires : goal.push_below-requires
push_below-requires c =
    let prefix : c.as_slice.result.now ≡ c.args.job.now.prefix = c.as_slice.ensures.value ∙ ap (λ (j : Job). j.prefix) c.job.view_is in
    is_reached c.args.program.now c.args.job.now c.in_ok-world.world c.advance.new.self c.as_slice.result.now c.in_ok-world.ensures prefix c.in-Ok.ensures.program c.in-Ok.ensures.advanced.0 c.in-Ok.ensures.advanced.1

pub returns-in-Ok-clause-pushed : goal.returns-in-Ok-clause-pushed
returns-in-Ok-clause-pushed c =
    let prefix : c.as_slice.result.now ≡ c.args.job.now.prefix = c.as_slice.ensures.value ∙ ap (λ (j : Job). j.prefix) c.job.view_is in
    let again : c.as_slice-in-Ok.result.now ≡ c.args.job.now.prefix = c.as_slice-in-Ok.ensures.value ∙ ap (λ (j : Job). j.prefix) c.job.view_is in
    let slept : c.as_slice-in-Ok-2.result.now ≡ c.args.job.now.slept = c.as_slice-in-Ok-2.ensures.value ∙ ap (λ (j : Job). j.slept) c.job.view_is in
    on_ok c.push_below.result
    (steps_are_next c.args.program.now c.args.job.now c.in_ok-world.world c.advance.new.self c.as_slice.result.now c.in_ok-world.ensures prefix c.as_slice-in-Ok.result.now c.as_slice-in-Ok-2.result.now c.args.jobs.now.items c.push_below.new.jobs.items again slept c.in-Ok.ensures.program c.in-Ok.ensures.advanced.0)
    c.push_below.ensures.pushed

pub returns-in-Err-default-NotEnabled-clause-pushed : goal.returns-in-Err-default-NotEnabled-clause-pushed
returns-in-Err-default-NotEnabled-clause-pushed c =
    let steps = c.as_slice.result.now in
    let prefix : steps ≡ c.args.job.now.prefix = c.as_slice.ensures.value ∙ ap (λ (j : Job). j.prefix) c.job.view_is in
    let place = c.in-Err-default-NotEnabled.field-0-0 in
    let stops = subst (λ (f : WorldFault). IsStopped c.in_ok-world.world steps place f c.advance.new.self) c.in-Err-default-NotEnabled.field-0-1-is c.in-Err-default-NotEnabled.ensures.advanced in
    stopped_has_none c.args.program.now c.args.job.now c.in_ok-world.world c.advance.new.self steps c.in_ok-world.ensures prefix place c.args.jobs.now.items stops.0
