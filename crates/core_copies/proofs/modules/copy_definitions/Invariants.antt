use Rattle.std.proofs.Common.{◌≡◌, ◌++◌, map}
use Rattle.core_tree.specs.Definitions.{definition_of}
use Rattle.core_copies.proofs.modules.copy_definitions.Given as goal

abbrev pub invariant-loop-function : goal.invariant-loop-function
invariant-loop-function l =
    map definition_of l.copied.entries ++ map definition_of l.function-iterator ≡ map definition_of l.definitions.entries
