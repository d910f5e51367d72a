use Rattle.std.proofs.Common.{◌≡◌, drop}
use Rattle.core_tree.specs.Definitions.{keys_in}
use Rattle.core_scopes.specs.ScopeChecks.{check_exports}
use Rattle.core_scopes.proofs.functions.check_exports.Given as goal

abbrev pub invariant-loop-export : goal.invariant-loop-export
invariant-loop-export l = check_exports (keys_in l.definitions.entries) (drop l.export-index l.exports) ≡ check_exports (keys_in l.definitions.entries) l.exports
