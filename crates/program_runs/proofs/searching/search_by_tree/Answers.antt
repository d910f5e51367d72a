use Rattle.search_crew.specs.Outcomes.{IsExact, IsOutcome, IsWhole}
use Rattle.program_runs.proofs.StatesLaws.{exact_by_tree, whole_by_tree}
use Rattle.search_jobs.specs.Explorations.{explored_by}
use Rattle.program_runs.proofs.ExploredLaws.{of_whole_tree}
use Rattle.program_runs.proofs.searching.search_by_tree.Goals as goal

pub returns-clause-outcome : goal.returns-clause-outcome
returns-clause-outcome g c =
    let limit = c.args.options.now.nodes in
    of_whole_tree (λ e. IsOutcome e limit c.in_ok-outcome.outcome) c.root-whole.result c.args.program.now c.args.options.now c.root-whole.ensures c.in_ok-outcome.ensures.outcome

pub returns-clause-exact : goal.returns-clause-exact
returns-clause-exact g c =
    exact_by_tree (explored_by c.args.program.now c.args.options.now) c.in_ok-outcome.outcome
    (of_whole_tree (λ e. IsExact e c.in_ok-outcome.outcome) c.root-whole.result c.args.program.now c.args.options.now c.root-whole.ensures c.in_ok-outcome.ensures.exact)

pub returns-clause-whole : goal.returns-clause-whole
returns-clause-whole g c =
    whole_by_tree (explored_by c.args.program.now c.args.options.now) c.in_ok-outcome.outcome
    (of_whole_tree (λ e. IsWhole e c.in_ok-outcome.outcome) c.root-whole.result c.args.program.now c.args.options.now c.root-whole.ensures c.in_ok-outcome.ensures.whole)
