use Rattle.std.proofs.Common.{◌≡◌}
use Rattle.core_scopes.specs.inside.Environment.{bound_in}
use Rattle.core_scopes.specs.ScopeChecks.{is_among}
use Rattle.core_scopes.proofs.scopes.is_bound.Given as goal

abbrev pub invariant-loop-inner : goal.invariant-loop-inner
invariant-loop-inner l = is_among (bound_in l.inner) l.name ≡ is_among (bound_in l.scope) l.name
