-- Which messages are those of a watch.
use Rattle.std.proofs.Common.{◌≡◌, List, [], ◌∷◌, refl, arith, length, map, slice_index_or, false}
use Rattle.term_core.specs.Term.{meaning_of}
use Rattle.term_core.specs.declared.term.Term.{Term}
use Rattle.world_model.specs.Changes.{has_second}
use Rattle.world_model.specs.Names.{Ref, same_term}
use Rattle.world_model.specs.Terms.{reference}

-- of five parts the second decides
pub second_of_five : (ref : Ref) (xs : List Term) (d : Term) → length xs ≡ 5 → has_second ref (map meaning_of xs) ≡ same_term (reference ref) (meaning_of (slice_index_or xs 1 d))
second_of_five ref [] d is = absurd (omega arith)
second_of_five ref (a ∷ []) d is = absurd (omega arith)
second_of_five ref (a ∷ b ∷ []) d is = absurd (omega arith)
second_of_five ref (a ∷ b ∷ c ∷ []) d is = absurd (omega arith)
second_of_five ref (a ∷ b ∷ c ∷ e ∷ []) d is = absurd (omega arith)
second_of_five ref (a ∷ b ∷ c ∷ e ∷ f ∷ []) d is = refl
second_of_five ref (a ∷ b ∷ c ∷ e ∷ f ∷ g ∷ xs) d is = absurd (omega arith)

pub not_five : (ref : Ref) (xs : List Term) → (length xs ≡ 5 → ⊥) → has_second ref (map meaning_of xs) ≡ false
not_five ref [] not = refl
not_five ref (a ∷ []) not = refl
not_five ref (a ∷ b ∷ []) not = refl
not_five ref (a ∷ b ∷ c ∷ []) not = refl
not_five ref (a ∷ b ∷ c ∷ e ∷ []) not = refl
not_five ref (a ∷ b ∷ c ∷ e ∷ f ∷ []) not = absurd (not refl)
not_five ref (a ∷ b ∷ c ∷ e ∷ f ∷ g ∷ xs) not = refl
