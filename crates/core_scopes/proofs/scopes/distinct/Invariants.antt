use Rattle.std.proofs.Common.{[], drop}
use Rattle.core_scopes.specs.inside.Environment.{shown}
use Rattle.core_scopes.proofs.Binding.{Adding}
use Rattle.core_scopes.proofs.scopes.distinct.Given as goal

abbrev pub invariant-variables : goal.invariant-variables
invariant-variables l = Adding [] l.variables (shown l.names.keys) (drop l.variable-index l.variables)
