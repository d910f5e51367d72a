use Rattle.std.proofs.Common.{rules, ◌≡◌, length}
use Rattle.world_model.specs.Asking.{program_of}
use Rattle.search_job_lines.proofs.Deeper.{none_deeper}
use Rattle.search_job_lines.proofs.levels.level_of.Goals as goal

pub returns-then-is_empty-clause-jobs : goal.returns-then-is_empty-clause-jobs
returns-then-is_empty-clause-jobs c =
    let none : length c.levels.jobs.items ≡ 0 = search rules in
    none_deeper (program_of c.args.program.now) c.levels.level c.args.depth c.levels.jobs.items c.levels.invariant.within c.levels.invariant.jobs none
