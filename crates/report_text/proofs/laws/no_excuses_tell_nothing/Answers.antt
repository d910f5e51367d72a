use Rattle.report_text.proofs.NoExcuses.{no_excuses_tell_nothing}
use Rattle.report_text.proofs.laws.no_excuses_tell_nothing.Goals as goal

pub returns : goal.returns
returns c = no_excuses_tell_nothing
