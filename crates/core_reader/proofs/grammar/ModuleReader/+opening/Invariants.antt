use Rattle.std.proofs.Common.{◌+◌, ◌*◌}
use Rattle.core_reader.proofs.grammar.ModuleReader.+opening.Given as goal

abbrev pub decreases-opening : goal.decreases-opening
decreases-opening l = 2 * l.levels

abbrev pub decreases-inside_opening : goal.decreases-inside_opening
decreases-inside_opening l = 2 * l.levels + 1
