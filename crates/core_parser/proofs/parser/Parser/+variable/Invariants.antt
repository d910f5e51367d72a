use Rattle.core_parser.proofs.parser.Parser.+variable.Given as goal

abbrev pub decreases-variable : goal.decreases-variable
decreases-variable l = l.levels
