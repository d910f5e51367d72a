use Rattle.world_model.proofs.Runs.{run_is, runs_real}
use Rattle.world_model.proofs.laws.steps.histories_are_runs.Goals as goal

pub returns-clause-run : goal.returns-clause-run
returns-clause-run c = run_is

pub returns-clause-real : goal.returns-clause-real
returns-clause-real c = runs_real
