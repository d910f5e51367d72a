use Rattle.world_model.proofs.Lives.{turns_told, answers_told}
use Rattle.world_model.proofs.laws.processes.answers_are_told.Goals as goal

pub returns-clause-turns : goal.returns-clause-turns
returns-clause-turns c = turns_told

pub returns-clause-answers : goal.returns-clause-answers
returns-clause-answers c = answers_told
