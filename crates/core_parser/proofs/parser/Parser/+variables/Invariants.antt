use Rattle.core_parser.proofs.parser.Parser.+variables.Given as goal

abbrev pub decreases-variables : goal.decreases-variables
decreases-variables l = l.levels
