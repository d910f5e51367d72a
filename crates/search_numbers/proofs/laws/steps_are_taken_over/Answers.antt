use Rattle.search_numbers.proofs.Local.{taken_over}
use Rattle.search_numbers.proofs.laws.steps_are_taken_over.Goals as goal

pub returns : goal.returns
returns c = taken_over
