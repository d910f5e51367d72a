-- Sizes of lists of terms, as one more is added, and of a copy.
use Rattle.std.proofs.Common.{◌≡◌, ℕ, ◌+◌, ◌-◌, ◌^◌, min, List, [], ◌∷◌, ◌++◌, map, sym, ap, ◌∙◌, arith}
use Rattle.std.proofs.lemmas.List.{append-nil, map-append}
use Rattle.term_core.specs.Meaning.{Meaning, node_count, sum_of_nodes}
use Rattle.term_core.specs.Term.{meaning_of}
use Rattle.term_core.specs.declared.term.Term.{Term}

-- one more at the end
sum_of_nodes-push : (ms : List Meaning) (m : Meaning) → sum_of_nodes (ms ++ m ∷ []) ≡ sum_of_nodes ms + node_count m
sum_of_nodes-push [] m = omega arith
sum_of_nodes-push (n ∷ ms) m = omega (arith, sum_of_nodes-push ms m)

-- the sum of the sizes, cut off, goes along with the terms
pub pushed : (before after : List Term) (term : Term) (nodes size now : ℕ) → after ≡ before ++ term ∷ [] → nodes ≡ min (sum_of_nodes (map meaning_of before)) (2 ^ 64 - 1) → size ≡ min (node_count (meaning_of term)) (2 ^ 64 - 1) → now ≡ min (nodes + size) (2 ^ 64 - 1) → now ≡ min (sum_of_nodes (map meaning_of after)) (2 ^ 64 - 1)
pushed before after term nodes size now e f g h =
    let sum = ap (λ ts. sum_of_nodes (map meaning_of ts)) e ∙ ap sum_of_nodes (map-append meaning_of before (term ∷ [])) ∙ sum_of_nodes-push (map meaning_of before) (meaning_of term) in
    omega (arith, sum, f, g, h)

-- where nothing is left to copy, the size of the copy is the size of all
pub all_copied : (copied left all : List Meaning) (nodes : ℕ) → copied ++ left ≡ all → left ≡ [] → nodes ≡ min (sum_of_nodes all) (2 ^ 64 - 1) → nodes ≡ min (sum_of_nodes copied) (2 ^ 64 - 1)
all_copied copied left all nodes e z is =
    is ∙ ap (λ ms. min (sum_of_nodes ms) (2 ^ 64 - 1)) (sym e ∙ ap (λ ms. copied ++ ms) z ∙ append-nil copied)
