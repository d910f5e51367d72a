use Rattle.core_grammar.proofs.FaultLaws.{scopes_stand}
use Rattle.core_grammar.proofs.laws.fault_of_scopes_stands.Goals as goal

pub returns : goal.returns
returns c = scopes_stand
