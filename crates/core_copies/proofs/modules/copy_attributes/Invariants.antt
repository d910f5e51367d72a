use Rattle.std.proofs.Common.{◌≡◌, take}
use Rattle.core_copies.proofs.modules.copy_attributes.Given as goal

abbrev pub invariant-loop-attribute : goal.invariant-loop-attribute
invariant-loop-attribute l = l.copied.items ≡ take l.attribute-index l.attributes
