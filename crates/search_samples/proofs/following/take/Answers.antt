use Rattle.std.proofs.Common.{ap, Err}
use Rattle.std.proofs.lemmas.Result.{err_from_is_err_and}
use Rattle.world_core.specs.Seen.{program_in}
use Rattle.search_samples.proofs.Walking.{only_memory}
use Rattle.search_samples.proofs.following.take.Goals as goal

pub returns-in_err-step-clause-memory : goal.returns-in_err-step-clause-memory
returns-in_err-step-clause-memory c =
    let p = err_from_is_err_and c.from_residual.result c.from_residual.ensures.1 in
    let world = c.args.world.now in
    rw (p.1, p.2) (only_memory (program_in world) world.history c.args.step.now c.in_err-step.field-0.0 c.requires (λ e. c.in_err-step.ensures.not_enabled (ap Err e)))
