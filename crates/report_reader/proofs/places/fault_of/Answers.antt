use Rattle.report_reader.proofs.Lines.{is_line}
use Rattle.report_reader.proofs.places.fault_of.Goals as goal

pub returns-in-Bad-clause-line : goal.returns-in-Bad-clause-line
returns-in-Bad-clause-line c = is_line c.args.text.now c.in-Bad.left c.line_of.result c.line_of.ensures

pub returns-in-Deep-clause-line : goal.returns-in-Deep-clause-line
returns-in-Deep-clause-line c = is_line c.args.text.now c.in-Deep.left c.line_of-in-Deep.result c.line_of-in-Deep.ensures
