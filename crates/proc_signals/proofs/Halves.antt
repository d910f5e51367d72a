-- Lists of entries in the order of their keys: where those that come before a key end, which a search by halves finds.
use Rattle.std.proofs.Common.{◌≡◌, ◌≢◌, ◌<◌, ◌↔◌, ℕ, Bool, true, false, IsTrue, List, inl, inr, length, get_or, refl, sym, ap, ◌∙◌, subst, arith, true≢false}
use Rattle.std.proofs.Math.ListN.{get_or-map}
use Rattle.std.proofs.lemmas.Bool.{cases_lt}
use Rattle.std.proofs.lemmas.Map.Entries.{length-keys_of}
use Rattle.std.proofs.lemmas.Map.Keys.{Less-from_sorted}
use Rattle.std.specs.Cmp.{IsTotalOrder}
use Rattle.std.specs.List.{AllWithin, HoldsAt}
use Rattle.std.specs.List.Sorted.{IsStrictlySortedBy, IsPartitionedBy, IsPartitionPoint}
use Rattle.std.specs.Map.{keys_of}
use Rattle.std.specs.Ordering.{is_lt}
use Rattle.std.specs.declared.cmp.Ordering.{Ordering}
use Rattle.std.specs.declared.cmp.Ordering.TheVariants.{Less, Equal, Greater}

-- ---- a test that passes just at Less

is_less : (o : Ordering) → is_lt o ≡ true → o ≡ Less
is_less Less e = refl
is_less Equal e = absurd (true≢false (sym e))
is_less Greater e = absurd (true≢false (sym e))

not_less : (o : Ordering) → is_lt o ≡ false → o ≢ Less
not_less o e same = true≢false (sym (ap is_lt same) ∙ e)

pub told : (b : Bool) (o : Ordering) → (IsTrue b ↔ (o ≡ Less)) → b ≡ is_lt o
told true o tells = ap is_lt (sym (tells.0 refl))
told false Less tells = tells.1 refl
told false Equal tells = refl
told false Greater tells = refl

-- ---- where the two parts of a list meet

module _ {K X : Type 0} (R : K → K → Ordering) (es : List (K × X)) where
  -- the earlier of two entries comes before the later
  pub by_place : IsStrictlySortedBy R (keys_of es) → (i j : ℕ) (d : K × X) → i < j → j < length es → R (get_or es i d).0 (get_or es j d).0 ≡ Less
  by_place sorted i j d lt within =
      ap (λ k. R k (get_or es j d).0) (sym (get_or-map (λ (e : K × X). e.0) es i d))
      ∙ ap (R (get_or (keys_of es) i d.0)) (sym (get_or-map (λ (e : K × X). e.0) es j d))
      ∙ Less-from_sorted R (keys_of es) i j d.0 sorted lt (omega (arith, length-keys_of es))

  module _ (key : K) where
    -- whether an entry comes before the key
    abbrev pub is_earlier : K × X → Bool
    is_earlier e = is_lt (R e.0 key)

    -- those that are earlier come before the others
    pub parted : IsTotalOrder R → IsStrictlySortedBy R (keys_of es) → IsPartitionedBy is_earlier es
    parted total sorted i j d le within below = elim (cases_lt i j) [
      | inl lt ↦ ap is_lt (total.trans (get_or es i d).0 (get_or es j d).0 key (by_place sorted i j d lt within) (is_less (R (get_or es j d).0 key) below))
      | inr ge ↦
          let same : j ≡ i = omega arith in
          subst (λ k. is_earlier (get_or es k d) ≡ true) same below
    ]

    module _ (at : ℕ) where
      -- they end at a place
      abbrev pub AreParted : Type 0
      AreParted = IsPartitionPoint (λ e. is_earlier e ≡ true) (λ e. is_earlier e ≡ false) es at

      -- those before the place come before the key
      abbrev pub AreBefore : Type 0
      AreBefore = AllWithin (λ e. R e.0 key ≡ Less) es 0 at

      -- the one at the place does not
      abbrev pub IsNotBefore : Type 0
      IsNotBefore = at < length es → HoldsAt (λ e. R e.0 key ≢ Less) es at

      pub before_place : AreParted → AreBefore
      before_place point k d low high = is_less (R (get_or es k d).0 key) (point.0 k d low high)

      pub behind_place : AreParted → IsNotBefore
      behind_place point within d = not_less (R (get_or es at d).0 key) (point.1 at d (omega arith) within)
