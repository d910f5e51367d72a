use Rattle.search_job_lines.proofs.Bars.{goes_on}
use Rattle.search_job_lines.proofs.bar.split_at_bar.Goals as goal

pub places-preserved : goal.places-preserved
places-preserved c = goes_on c.args.line.now c.places.rest.now c.in-Some.later.now c.in-Some._byte.now c.in-Some.ensures.cases.0 c.in_default-behind_bar.ensures c.places.invariant
