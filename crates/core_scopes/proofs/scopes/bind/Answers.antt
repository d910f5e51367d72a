use Rattle.std.proofs.Common.{refl}
use Rattle.core_scopes.proofs.Binding.{binds_new, binds_twice}
use Rattle.core_scopes.proofs.scopes.bind.Goals as goal

pub returns-then-branch : goal.returns-then-branch
returns-then-branch c =
    binds_new c.args.names.now.keys c.insert.new.self.keys c.as_slice.result _ _ _ c.in_ok-insert.ensures.added c.as_slice.ensures.value c.variable.view_is c.if-branch.true c.in_ok-insert.ensures.keys

pub returns-else-branch : goal.returns-else-branch
returns-else-branch c =
    binds_twice c.args.names.now.keys c.insert.new.self.keys c.as_slice.result _ _ _ c.in_ok-insert.ensures.added c.as_slice.ensures.value c.variable.view_is c.if-branch.false _ refl
