use Rattle.core_parser.proofs.parser.Parser.+function_name.Given as goal

abbrev pub decreases-function_name : goal.decreases-function_name
decreases-function_name l = l.levels
