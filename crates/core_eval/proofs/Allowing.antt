-- What the value of an attribute says of how many applications are allowed.
use Rattle.std.proofs.Common.{◌≡◌, ◌≤◌, List, [], ◌∷◌, length, map, None, refl, arith}
use Rattle.core_tree.specs.Constant.{constants_of}
use Rattle.core_tree.specs.Tree.{constant_of}
use Rattle.core_tree.specs.declared.constant.Const.{Const}
use Rattle.core_semantics.specs.Limits.{number_alone}

-- several items say nothing
pub several_say_none : (cs : List Const) → 2 ≤ length cs → None ≡ number_alone (constants_of (map constant_of cs))
several_say_none [] le = absurd (omega (arith, le))
several_say_none (c ∷ []) le = absurd (omega (arith, le))
several_say_none (c ∷ d ∷ cs) le = refl
