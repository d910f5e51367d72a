-- Other ways to say several terms as strings.
use Rattle.std.proofs.Common.{◌≡◌, List, [], ◌∷◌, ◌++◌, map, refl, ap}
use Rattle.std.specs.List.{flat_map}
use Rattle.term_core.specs.Term.{meaning_of}
use Rattle.term_core.specs.declared.term.Term.{Term}
use Rattle.report_terms.specs.Strings.{string_of_term, strings_of_terms, term_after_comma}

others : (ts : List Term) → flat_map term_after_comma (map meaning_of ts) ≡ flat_map (λ u. term_after_comma (meaning_of u)) ts
others [] = refl
others (t ∷ ts) = ap (λ w. term_after_comma (meaning_of t) ++ w) (others ts)

-- the first, and each other after a comma
pub strings-cons : (t : Term) (ts : List Term) → strings_of_terms (map meaning_of (t ∷ ts)) ≡ string_of_term (meaning_of t) ++ flat_map (λ u. term_after_comma (meaning_of u)) ts
strings-cons t ts = ap (λ w. string_of_term (meaning_of t) ++ w) (others ts)
