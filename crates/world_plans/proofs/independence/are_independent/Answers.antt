use Rattle.std.proofs.Common.{◌∙◌, sym}
use Rattle.world_plans.proofs.Apart.{dependent_when, independent_when}
use Rattle.world_plans.proofs.independence.are_independent.Goals as goal

pub returns-then-both_enabled : goal.returns-then-both_enabled
returns-then-both_enabled c = λ a v is are. independent_when a v c.args.one.now c.args.other.now _ (sym c.if-both_enabled.ensures) c.are_apart.ensures is are

pub returns-else-both_enabled : goal.returns-else-both_enabled
returns-else-both_enabled c = λ a v is are. c.if-both_enabled.false ∙ dependent_when a v c.args.one.now c.args.other.now (sym c.if-both_enabled.ensures) is are
