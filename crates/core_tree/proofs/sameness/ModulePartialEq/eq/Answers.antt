use Rattle.core_tree.specs.inside.AlikeLaws.{module_bears, same_image}
use Rattle.core_tree.proofs.sameness.ModulePartialEq.eq.Goals as goal

pub returns-clause-same : goal.returns-clause-same
returns-clause-same c = same_image module_bears _ _ _ c.same_modules.ensures
