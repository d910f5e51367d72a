use Rattle.core_reader.proofs.grammar.ModuleReader.+noted_module.Given as goal

abbrev pub decreases-noted_module : goal.decreases-noted_module
decreases-noted_module l = l.levels
