use Rattle.program_runs.proofs.InputLaws.{input_of_read}
use Rattle.program_runs.proofs.input.read_input.Goals as goal

pub returns-clause-input : goal.returns-clause-input
returns-clause-input g c =
    input_of_read c.read_through.result (λ v. v.items) _ _ 1048576 c.read_through.ensures.bytes c.read_through.ensures.end
