use Rattle.std.proofs.Common.{◌≡◌, take, map}
use Rattle.core_tree.specs.Tree.{constant_of}
use Rattle.core_copies.proofs.constants.+constants.Given as goal

abbrev pub invariant-copy_consts-loop-constant : goal.invariant-copy_consts-loop-constant
invariant-copy_consts-loop-constant l = map constant_of l.copied.items ≡ map constant_of (take l.constant-index l.constant-items)
