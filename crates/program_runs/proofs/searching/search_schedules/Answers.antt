use Rattle.std.proofs.Common.{IfOk, subst, sym}
use Rattle.tree_findings.specs.declared.options.Search.{Search}
use Rattle.search_jobs.specs.Explorations.{explored_by}
use Rattle.program_runs.specs.Explored.{IsExactBy, IsWholeBy, delivery_by}
use Rattle.program_runs.proofs.searching.search_schedules.Goals as goal

pub returns-in-ByTree-clause-exact : goal.returns-in-ByTree-clause-exact
returns-in-ByTree-clause-exact g c =
    subst (λ (s : Search). IfOk c.search_by_tree.result (λ found. IsExactBy (delivery_by s) (explored_by c.args.program.now c.args.options.now) found.outcome)) (sym c.in-ByTree.is) c.search_by_tree.ensures.exact

pub returns-in-ByTree-clause-whole : goal.returns-in-ByTree-clause-whole
returns-in-ByTree-clause-whole g c =
    subst (λ (s : Search). IfOk c.search_by_tree.result (λ found. IsWholeBy (delivery_by s) (explored_by c.args.program.now c.args.options.now) found.outcome)) (sym c.in-ByTree.is) c.search_by_tree.ensures.whole

pub returns-in-ByStates-clause-whole : goal.returns-in-ByStates-clause-whole
returns-in-ByStates-clause-whole g c =
    subst (λ (s : Search). IfOk c.search_by_states.result (λ found. IsWholeBy (delivery_by s) (explored_by c.args.program.now c.args.options.now) found.outcome)) (sym c.in-ByStates.is) c.search_by_states.ensures.whole
