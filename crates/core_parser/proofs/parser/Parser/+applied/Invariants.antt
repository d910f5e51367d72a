use Rattle.core_parser.proofs.parser.Parser.+applied.Given as goal

abbrev pub decreases-applied : goal.decreases-applied
decreases-applied l = l.levels
