use Rattle.std.proofs.Common.{refl}
use Rattle.std.specs.Fmt.{digits}
use Rattle.report_terms.proofs.laws.first_terms_are_so.Goals as goal

pub returns-clause-nodes : goal.returns-clause-nodes
unfolding digits
returns-clause-nodes c = λ findings. refl

pub returns-clause-states : goal.returns-clause-states
unfolding digits
returns-clause-states c = λ findings. refl

pub returns-clause-prompt : goal.returns-clause-prompt
unfolding digits
returns-clause-prompt c = λ findings. refl

pub returns-clause-tree_stops : goal.returns-clause-tree_stops
unfolding digits
returns-clause-tree_stops c = λ findings. refl

pub returns-clause-tree_memory : goal.returns-clause-tree_memory
unfolding digits
returns-clause-tree_memory c = λ findings. refl

pub returns-clause-states_stop : goal.returns-clause-states_stop
unfolding digits
returns-clause-states_stop c = λ findings. refl

pub returns-clause-states_memory : goal.returns-clause-states_memory
unfolding digits
returns-clause-states_memory c = λ findings. refl

pub returns-clause-samples : goal.returns-clause-samples
unfolding digits
returns-clause-samples c = refl
