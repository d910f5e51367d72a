use Rattle.search_crew.specs.Outcomes.{IsOutcome, IsOutcomeOf}
use Rattle.search_crew.proofs.Coming.{comes_to, is_exact, is_whole, of_tree}
use Rattle.search_crew.proofs.crew.searched.Goals as goal

pub returns-in-Ok-clause-of_job : goal.returns-in-Ok-clause-of_job
returns-in-Ok-clause-of_job g c =
    comes_to c.into_state-state.result c.args.job.now.exploration c.args.job.now.name c.args.options.now.nodes c.in-Ok.outcome c.places_do_not_matter.ensures.nodes c.places_do_not_matter.ensures.findings c.in-Ok.ensures.own c.in-Ok.ensures.outcome

pub returns-in-Ok-clause-outcome : goal.returns-in-Ok-clause-outcome
returns-in-Ok-clause-outcome g c = λ is.
    let e = c.args.job.now.exploration in
    let name = c.args.job.now.name in
    let limit = c.args.options.now.nodes in
    let comes : IsOutcomeOf e name limit c.in-Ok.outcome =
    comes_to c.into_state-state.result e name limit c.in-Ok.outcome c.places_do_not_matter.ensures.nodes c.places_do_not_matter.ensures.findings c.in-Ok.ensures.own c.in-Ok.ensures.outcome in
    of_tree e name limit c.in-Ok.outcome comes is

pub returns-in-Ok-clause-exact : goal.returns-in-Ok-clause-exact
returns-in-Ok-clause-exact g c = λ is.
    let e = c.args.job.now.exploration in
    let name = c.args.job.now.name in
    let limit = c.args.options.now.nodes in
    let comes : IsOutcomeOf e name limit c.in-Ok.outcome =
    comes_to c.into_state-state.result e name limit c.in-Ok.outcome c.places_do_not_matter.ensures.nodes c.places_do_not_matter.ensures.findings c.in-Ok.ensures.own c.in-Ok.ensures.outcome in
    is_exact e limit c.in-Ok.outcome (of_tree e name limit c.in-Ok.outcome comes is)

pub returns-in-Ok-clause-whole : goal.returns-in-Ok-clause-whole
returns-in-Ok-clause-whole g c = λ is.
    let e = c.args.job.now.exploration in
    let name = c.args.job.now.name in
    let limit = c.args.options.now.nodes in
    let comes : IsOutcomeOf e name limit c.in-Ok.outcome =
    comes_to c.into_state-state.result e name limit c.in-Ok.outcome c.places_do_not_matter.ensures.nodes c.places_do_not_matter.ensures.findings c.in-Ok.ensures.own c.in-Ok.ensures.outcome in
    is_whole e limit c.in-Ok.outcome (of_tree e name limit c.in-Ok.outcome comes is)
