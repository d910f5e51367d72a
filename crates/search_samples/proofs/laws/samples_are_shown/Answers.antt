use Rattle.search_samples.proofs.Showing.{samples_shown}
use Rattle.search_samples.proofs.laws.samples_are_shown.Goals as goal

pub returns : goal.returns
returns c = samples_shown
