use Rattle.core_parser.proofs.parser.Parser.+caught.Given as goal

abbrev pub decreases-caught : goal.decreases-caught
decreases-caught l = l.levels
