use Rattle.std.proofs.Common.{◌≡◌, ◌||◌, drop}
use Rattle.core_tree.specs.Syntax.{Function}
use Rattle.core_scopes.specs.Scopes.{exported_by}
use Rattle.core_scopes.specs.ScopeChecks.{is_defined}
use Rattle.core_scopes.specs.inside.Environment.{shown}
use Rattle.core_scopes.proofs.functions.exported_names.Given as goal

abbrev pub invariant-exports : goal.invariant-exports
invariant-exports l =
    (f : Function) → (is_defined (shown l.names.keys) f || is_defined (exported_by (drop l.export-index l.exports)) f) ≡ is_defined (exported_by l.exports) f
