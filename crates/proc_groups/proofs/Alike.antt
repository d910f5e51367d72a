-- Sets that are compared as the same have the same items.
use Rattle.std.proofs.Common.{◌≡◌, ◌&&◌, ℕ, Bool, true, false, List, [], ◌∷◌, Some, Option, if◌then◌else◌, bytes_eq, refl, ap, ◌∙◌}
use Rattle.std.proofs.lemmas.Bool.{and_parts}
use Rattle.std.proofs.lemmas.Slice.Eq.{bytes_eq-Decides}
use Rattle.std.specs.BTreeMap.{is_at}
use Rattle.std.specs.BTreeSet.{BTreeSet}
use Rattle.std.specs.Cmp.Lexicographic.{pointwise}
use Rattle.std.specs.Map.{lookup}
use Rattle.term_core.specs.Order.{order_of_lists}
use Rattle.proc_groups.specs.Groups.{members_of}

module _ {X : Type 0} (same : X → X → Bool) (equal : (a b : X) → same a b ≡ true → a ≡ b) where
  -- lists that are the same item by item
  pub items_told : (xs ys : List X) → pointwise same xs ys ≡ true → xs ≡ ys
  items_told [] [] e = refl
  items_told [] (y ∷ ys) e = cc
  items_told (x ∷ xs) [] e = cc
  items_told (x ∷ xs) (y ∷ ys) e =
      let p = and_parts (same x y) (pointwise same xs ys) e in
      λ i. equal x y p.0 i ∷ items_told xs ys p.1 i

  abbrev same_entry : List ℕ × BTreeSet X → List ℕ × BTreeSet X → Bool
  same_entry e f = bytes_eq e.0 f.0 && pointwise same e.1.keys f.1.keys

  either : (b : Bool) (s t : BTreeSet X) (o r : Option (BTreeSet X)) → s.keys ≡ t.keys → members_of o ≡ members_of r → members_of (if b then Some s else o) ≡ members_of (if b then Some t else r)
  either true s t o r here others = here
  either false s t o r here others = others

  -- maps that are the same entry by entry
  pub members_told : (p : List ℕ) (es fs : List (List ℕ × BTreeSet X)) → pointwise same_entry es fs ≡ true → members_of (lookup (is_at (order_of_lists p)) es) ≡ members_of (lookup (is_at (order_of_lists p)) fs)
  members_told p [] [] e = refl
  members_told p [] (g ∷ gs) e = cc
  members_told p (f ∷ fs) [] e = cc
  members_told p (f ∷ fs) (g ∷ gs) e =
      let q = and_parts (same_entry f g) (pointwise same_entry fs gs) e in
      let r = and_parts (bytes_eq f.0 g.0) (pointwise same f.1.keys g.1.keys) q.0 in
      let others = lookup (is_at (order_of_lists p)) fs in
      let rest = lookup (is_at (order_of_lists p)) gs in
      either (is_at (order_of_lists p) f.0) f.1 g.1 others rest (items_told f.1.keys g.1.keys r.1) (members_told p fs gs q.1)
      ∙ ap (λ k. members_of (if is_at (order_of_lists p) k then Some g.1 else rest)) ((bytes_eq-Decides f.0 g.0).0 r.0)

-- pairs that are the same in both parts
pub pairs_told : {K X : Type 0} (same : K → K → Bool) (also : X → X → Bool) → ((a b : K) → same a b ≡ true → a ≡ b) → ((x y : X) → also x y ≡ true → x ≡ y) → (p q : K × X) → (same p.0 q.0 && also p.1 q.1) ≡ true → p ≡ q
pairs_told same also keys values p q e =
    let both = and_parts (same p.0 q.0) (also p.1 q.1) e in
    λ i. (keys p.0 q.0 both.0 i, values p.1 q.1 both.1 i)

-- maps whose keys and values are the same have the same entries
pub entries_told : {K X : Type 0} (same : K → K → Bool) (also : X → X → Bool) → ((a b : K) → same a b ≡ true → a ≡ b) → ((x y : X) → also x y ≡ true → x ≡ y) → (es fs : List (K × X)) → pointwise (λ p q. same p.0 q.0 && also p.1 q.1) es fs ≡ true → es ≡ fs
entries_told same also keys values = items_told (λ p q. same p.0 q.0 && also p.1 q.1) (pairs_told same also keys values)
