-- Lists of heads, one after another.
use Rattle.std.proofs.Common.{◌≡◌, List, [], ◌∷◌, ◌++◌, refl, ap, ◌∙◌, sym, map}
use Rattle.std.proofs.lemmas.List.{map-append}
use Rattle.term_core.specs.Meaning.{Meaning, Cons}
use Rattle.term_core.specs.Term.{meaning_of, list_onto}
use Rattle.term_core.specs.declared.term.Term.{Term}

list_onto-append : (xs ys : List Meaning) (t : Meaning) → list_onto (xs ++ ys) t ≡ list_onto xs (list_onto ys t)
list_onto-append [] ys t = refl
list_onto-append (x ∷ xs) ys t = ap (λ u. Cons x u) (list_onto-append xs ys t)

-- the last head goes from the heads to the list
pub list_onto-last : (before after : List Term) (head : Term) (rest list : Meaning) → before ≡ after ++ head ∷ [] → list ≡ Cons (meaning_of head) rest → list_onto (map meaning_of after) list ≡ list_onto (map meaning_of before) rest
list_onto-last before after head rest list e f =
    ap (list_onto (map meaning_of after)) f ∙ sym (list_onto-append (map meaning_of after) (meaning_of head ∷ []) rest) ∙ ap (λ ms. list_onto ms rest) (sym (map-append meaning_of after (head ∷ []))) ∙ ap (λ ts. list_onto (map meaning_of ts) rest) (sym e)
