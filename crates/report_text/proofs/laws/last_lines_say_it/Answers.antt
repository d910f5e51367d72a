use Rattle.report_text.proofs.CleanLaws.{lines_say_it}
use Rattle.report_text.proofs.laws.last_lines_say_it.Goals as goal

pub returns : goal.returns
returns c = lines_say_it
