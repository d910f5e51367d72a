use Rattle.std.proofs.Common.{◌≡◌, ◌≤◌, length, ap, subst, ◌∙◌, arith}
use Rattle.tree_coverage.specs.Jobs.{Job}
use Rattle.search_jobs.specs.Explorations.{exploration_in}
use Rattle.world_core.specs.Advanced.{IsStopped}
use Rattle.world_core.specs.declared.fault.WorldFault.{WorldFault}
use Rattle.search_job_lines.proofs.Checks.{IsNode, fault_if, is_node, is_stopped, taken_if}
use Rattle.search_job_lines.proofs.check.check_name.Goals as goal

pub returns-in-Ok-advance-clause-taken : goal.returns-in-Ok-advance-clause-taken
returns-in-Ok-advance-clause-taken c =
    let e = exploration_in c.args.exploration in
    let prefix : c.as_slice.result.now ≡ c.args.name.now.prefix = c.as_slice.ensures.value ∙ ap (λ (j : Job). j.prefix) c.name.view_is in
    let slept : c.as_slice-in-Ok-advance.result.now ≡ c.args.name.now.slept = c.as_slice-in-Ok-advance.ensures.value ∙ ap (λ (j : Job). j.slept) c.name.view_is in
    let short : length c.args.name.now.prefix ≤ c.args.exploration.depth = omega (arith, c.if-len-exploration.false, c.len.ensures, ap (λ (j : Job). length j.prefix) c.name.view_is) in
    let node = is_node e c.args.name.now c.in-Ok.world c.advance.new.self c.as_slice.result.now c.in-Ok.ensures prefix short c.in-Ok-advance.ensures.program c.in-Ok-advance.ensures.advanced.0 in
    taken_if e c.args.name.now c.advance.new.self node c.as_slice-in-Ok-advance.result.now slept c.check_slept.result c.check_slept.ensures.taken

pub returns-in-Ok-advance-clause-fault : goal.returns-in-Ok-advance-clause-fault
returns-in-Ok-advance-clause-fault c =
    let e = exploration_in c.args.exploration in
    let prefix : c.as_slice.result.now ≡ c.args.name.now.prefix = c.as_slice.ensures.value ∙ ap (λ (j : Job). j.prefix) c.name.view_is in
    let slept : c.as_slice-in-Ok-advance.result.now ≡ c.args.name.now.slept = c.as_slice-in-Ok-advance.ensures.value ∙ ap (λ (j : Job). j.slept) c.name.view_is in
    let short : length c.args.name.now.prefix ≤ c.args.exploration.depth = omega (arith, c.if-len-exploration.false, c.len.ensures, ap (λ (j : Job). length j.prefix) c.name.view_is) in
    let node = is_node e c.args.name.now c.in-Ok.world c.advance.new.self c.as_slice.result.now c.in-Ok.ensures prefix short c.in-Ok-advance.ensures.program c.in-Ok-advance.ensures.advanced.0 in
    fault_if e c.args.name.now c.advance.new.self node c.as_slice-in-Ok-advance.result.now slept c.check_slept.result c.check_slept.ensures.fault

pub returns-in-Err-default-NotEnabled-clause-fault : goal.returns-in-Err-default-NotEnabled-clause-fault
returns-in-Err-default-NotEnabled-clause-fault c =
    let e = exploration_in c.args.exploration in
    let steps = c.as_slice.result.now in
    let prefix : steps ≡ c.args.name.now.prefix = c.as_slice.ensures.value ∙ ap (λ (j : Job). j.prefix) c.name.view_is in
    let short : length c.args.name.now.prefix ≤ c.args.exploration.depth = omega (arith, c.if-len-exploration.false, c.len.ensures, ap (λ (j : Job). length j.prefix) c.name.view_is) in
    let stops = subst (λ (f : WorldFault). IsStopped c.in-Ok.world steps c.in-Err-default-NotEnabled.place f c.advance.new.self) c.in-Err-default-NotEnabled.field-0-1-is c.in-Err-default-NotEnabled.ensures.advanced in
    is_stopped e c.args.name.now c.in-Ok.world c.advance.new.self steps c.in-Ok.ensures prefix short c.in-Err-default-NotEnabled.place stops.0
