use Rattle.core_parser.proofs.parser.Parser.+callee.Given as goal

abbrev pub decreases-callee : goal.decreases-callee
decreases-callee l = l.levels
