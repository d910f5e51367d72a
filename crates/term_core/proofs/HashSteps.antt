-- Steps of feeding the parts of a term to a hasher, one after another.
use Rattle.std.proofs.Common.{Global, ◌≡◌, ℕ, ◌+◌, ◌<◌, List, [], ◌∷◌, ◌++◌, length, get_or, drop, map, refl, sym, ap, ◌∙◌, add-one}
use Rattle.std.specs.declared.sync.Arc.{Arc}
use Rattle.std.specs.List.{fold, flat_map}
use Rattle.std.specs.Hash as fed
use Rattle.std.specs.Hash.{fed_then}
use Rattle.term_core.specs.Meaning.{Meaning, meanings_of}
use Rattle.term_core.specs.Meaning as terms
use Rattle.term_core.specs.Term.{meaning_of}
use Rattle.term_core.specs.inside.OrderLaws.{length-parts_of}
use Rattle.term_core.specs.HashInput.{writes_of_term, writes_of_parts, writes_of_items}
use Rattle.term_core.specs.declared.term.Term.{Term}
use Rattle.term_core.specs.declared.term.Term.TheVariants.{Tuple}
use Rattle.term_core.proofs.ItemsOrder.{drop-map}

-- the parts are fed as the list that they were made of
writes_of_parts-meanings_of : (ms : List Meaning) → writes_of_parts (meanings_of ms) ≡ flat_map writes_of_term ms
writes_of_parts-meanings_of [] = refl
writes_of_parts-meanings_of (m ∷ ms) = λ i. writes_of_term m ++ writes_of_parts-meanings_of ms i

-- a tuple is fed as its kind and then the list of its parts
writes_of_term-Tuple : (ms : List Meaning) → fed.u8 4 ++ writes_of_items ms ≡ writes_of_term (terms.Tuple (meanings_of ms))
writes_of_term-Tuple ms =
    λ i. fed.u8 4 ++ (fed.usize (sym (length-parts_of ms) i) ++ sym (writes_of_parts-meanings_of ms) i)

-- what is still to be fed is the next part, and then the rest
next_part : (xs : List Term) (vs : List Meaning) (i : ℕ) (x : Term) → map meaning_of xs ≡ vs → i < length xs → x ≡ get_or xs i x → writes_of_term (meaning_of x) ++ flat_map writes_of_term (drop (i + 1) vs) ≡ flat_map writes_of_term (drop i vs)
next_part xs vs i x p h e = rw (add-one, ← p) (sym (ap (flat_map writes_of_term) (drop-map xs i x h e)))

module _ {S : Type 0} (write : S → List ℕ → S) where
  -- one part more is fed
  pub part_fed : (xs : List Term) (vs : List Meaning) (i : ℕ) (x : Term) (start now next : S) → map meaning_of xs ≡ vs → i < length xs → x ≡ get_or xs i x → fold write now (flat_map writes_of_term (drop i vs)) ≡ fold write start (writes_of_items vs) → next ≡ fold write now (writes_of_term (meaning_of x)) → fold write next (flat_map writes_of_term (drop (i + 1) vs)) ≡ fold write start (writes_of_items vs)
  part_fed xs vs i x start now next p h e so by =
      let whole = fed_then write now next (fold write next (flat_map writes_of_term (drop (i + 1) vs))) (writes_of_term (meaning_of x)) (flat_map writes_of_term (drop (i + 1) vs)) by refl in
      whole ∙ ap (fold write now) (next_part xs vs i x p h e) ∙ so

  -- a tuple is fed to its end
  pub tuple_fed : (term rest : Term) (parts : Arc (List Meaning) Global) (ms : List Meaning) (start before after done : S) → rest ≡ Tuple parts → ms ≡ parts.value → fold write before (writes_of_term (meaning_of rest)) ≡ fold write start (writes_of_term (meaning_of term)) → after ≡ fold write before (fed.u8 4) → done ≡ fold write after (writes_of_items ms) → done ≡ fold write start (writes_of_term (meaning_of term))
  tuple_fed term rest parts ms start before after done is same so kind each =
      let whole = fed_then write before after done (fed.u8 4) (writes_of_items ms) kind each in
      whole ∙ ap (fold write before) (writes_of_term-Tuple ms) ∙ (λ i. fold write before (writes_of_term (terms.Tuple (meanings_of (same i))))) ∙ (λ i. fold write before (writes_of_term (meaning_of (sym is i)))) ∙ so
