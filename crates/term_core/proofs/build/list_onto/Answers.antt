use Rattle.std.proofs.Common.{◌∙◌}
use Rattle.term_core.proofs.Building.{list_onto-last}
use Rattle.term_core.proofs.build.list_onto.Goals as goal

pub loop-head-preserved : goal.loop-head-preserved
loop-head-preserved c =
    list_onto-last _ _ _ _ _ c.in-Some.ensures.items c.in_ok-list.ensures ∙ c.loop-head.invariant
