use Rattle.core_reader.proofs.grammar.ModuleReader.+fun.Given as goal

abbrev pub decreases-fun : goal.decreases-fun
decreases-fun l = l.levels
