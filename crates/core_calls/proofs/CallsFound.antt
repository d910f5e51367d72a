-- The first of several calls that passes a test.
use Rattle.std.proofs.Common.{◌≡◌, Bool, List, [], ◌∷◌, refl}
use Rattle.std.specs.List.{find}
use Rattle.core_calls.specs.Calls.{first_with}

pub found : {X : Type 0} (test : X → Bool) (xs : List X) → find test xs ≡ first_with test xs
found test [] = refl
found test (x ∷ xs) = rw (found test xs) refl
