-- What holds of all items of a list, at each place.
use Rattle.std.proofs.Common.{◌≡◌, ℕ, zero, suc, Bool, true, List, [], ◌∷◌, get_or}
use Rattle.std.proofs.lemmas.Bool.{and_parts}
use Rattle.std.specs.List.{AllByRecursion, list_all}

-- what holds of all items, holds at each place, where it also holds of what is past the end
pub all_at : {X : Type 0} (P : X → Type 0) (xs : List X) (n : ℕ) (d : X) → AllByRecursion P xs → P d → P (get_or xs n d)
all_at P [] n d all one = one
all_at P (x ∷ xs) zero d all one = all.0
all_at P (x ∷ xs) (suc n) d all one = all_at P xs n d all.1 one

-- what all items pass, each place passes, where what is past the end also passes
pub at_all : {X : Type 0} (test : X → Bool) (xs : List X) (n : ℕ) (d : X) → list_all test xs ≡ true → test d ≡ true → test (get_or xs n d) ≡ true
at_all test [] n d all one = one
at_all test (x ∷ xs) zero d all one = (and_parts _ _ all).0
at_all test (x ∷ xs) (suc n) d all one = at_all test xs n d (and_parts _ _ all).1 one
