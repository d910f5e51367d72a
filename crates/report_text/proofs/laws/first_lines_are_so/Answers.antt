use Rattle.std.proofs.Common.{refl}
use Rattle.std.specs.Fmt.{digits}
use Rattle.report_text.proofs.laws.first_lines_are_so.Goals as goal

pub returns-clause-nodes : goal.returns-clause-nodes
unfolding digits
returns-clause-nodes c = λ findings. refl

pub returns-clause-states : goal.returns-clause-states
unfolding digits
returns-clause-states c = λ findings. refl

pub returns-clause-limit : goal.returns-clause-limit
unfolding digits
returns-clause-limit c = λ findings. refl

pub returns-clause-memory : goal.returns-clause-memory
unfolding digits
returns-clause-memory c = λ findings. refl

pub returns-clause-cut : goal.returns-clause-cut
unfolding digits
returns-clause-cut c = λ findings. refl

pub returns-clause-stop : goal.returns-clause-stop
unfolding digits
returns-clause-stop c = λ findings. refl

pub returns-clause-prompt : goal.returns-clause-prompt
unfolding digits
returns-clause-prompt c = λ findings. refl

pub returns-clause-prompt_stop : goal.returns-clause-prompt_stop
unfolding digits
returns-clause-prompt_stop c = λ findings. refl

pub returns-clause-prompt_alike : goal.returns-clause-prompt_alike
unfolding digits
returns-clause-prompt_alike c = λ findings. refl
