use Rattle.search_jobs.specs.Explorations.{explored_by}
use Rattle.program_runs.proofs.StatesLaws.{exact_by_states, whole_by_states}
use Rattle.program_runs.proofs.searching.search_by_states.Goals as goal

pub returns-clause-exact : goal.returns-clause-exact
returns-clause-exact g c =
    let searched = c.in_ok-searched.searched in
    exact_by_states c.args.delivery (explored_by c.args.program.now c.args.options.now) c.args.options.now.nodes searched.whole_to searched.outcome c.in_ok-searched.ensures

pub returns-clause-whole : goal.returns-clause-whole
returns-clause-whole g c =
    let searched = c.in_ok-searched.searched in
    whole_by_states c.args.delivery (explored_by c.args.program.now c.args.options.now) c.args.options.now.nodes searched.whole_to searched.outcome c.in_ok-searched.ensures
