-- Where a finding goes in a list that is stored in order.
use Rattle.std.specs.Prelude.{Result, Ok, Err, MatchResult, IfOk, IfErr}
use Rattle.std.proofs.Common.{◌≡◌, ◌↔◌, ℕ, zero, suc, ◌<◌, ◌≤◌, List, [], ◌∷◌, map, length, get_or, take, ◌++◌, ◌+◌, insert, slice_set, refl, sym, ap, ◌∙◌, subst, arith}
use Rattle.std.proofs.lemmas.List.{map-append, take_more}
use Rattle.std.specs.List.Sorted.{IsNonDecreasingBy, IsPartitionPoint}
use Rattle.std.specs.Ordering.{ordering_index}
use Rattle.std.specs.declared.cmp.Ordering.{Ordering}
use Rattle.std.specs.declared.cmp.Ordering.TheVariants.{Less, Equal, Greater}
use Rattle.term_core.specs.declared.step.Step.{Step}
use Rattle.world_identities.specs.inside.OrderLaws.{identities_total, same_identity}
use Rattle.world_identities.specs.Order.{order_of_identities}
use Rattle.world_model.specs.Shown.{Identity}
use Rattle.tree_coverage.specs.Findings.{Finding, lesser, with_finding, LeadsAll, AreSorted}
use Rattle.tree_findings.proofs.Putting.{finding, turned, put_less, put_equal, put_greater}

-- what comes after the first compares as more with an identity
rises : (i j k : Identity) → order_of_identities i j ≡ Less → ordering_index (order_of_identities i k) ≤ ordering_index (order_of_identities j k)
rises i j k less = go (order_of_identities i k) refl
  where
    go : (o : Ordering) → order_of_identities i k ≡ o → ordering_index (order_of_identities i k) ≤ ordering_index (order_of_identities j k)
    go Less e = let a : ordering_index (order_of_identities i k) ≡ 0 = ap ordering_index e in omega arith
    go Equal e =
        let a : ordering_index (order_of_identities i k) ≡ 1 = ap ordering_index e in
        let b : ordering_index (order_of_identities j k) ≡ 2 = ap ordering_index (ap (order_of_identities j) (sym (same_identity i k e)) ∙ turned i j Less less) in
        omega arith
    go Greater e =
        let a : ordering_index (order_of_identities i k) ≡ 2 = ap ordering_index e in
        let b : ordering_index (order_of_identities j k) ≡ 2 = ap ordering_index (turned k j Less (identities_total.trans k i j (turned i k Greater e) less)) in
        omega arith

-- the schedule of the first, and those after it
abbrev first_schedule : List Finding → List Step
first_schedule [] = []
first_schedule (f ∷ fs) = f.schedule

abbrev behind_first : List Finding → List Finding
behind_first [] = []
behind_first (f ∷ fs) = fs

module _ {X : Type 0} (v : X → Finding) where
  leads_at : (f : Finding) (xs : List X) (at : ℕ) (d : X) → LeadsAll f (map v xs) → at < length xs → order_of_identities f.identity (v (get_or xs at d)).identity ≡ Less
  leads_at f [] at d leads h = absurd (omega arith)
  leads_at f (x ∷ xs) zero d leads h = leads.0
  leads_at f (x ∷ xs) (suc at) d leads h = leads_at f xs at d leads.1 (omega arith)

  pub never_falls : (k : Identity) (xs : List X) → AreSorted (map v xs) → IsNonDecreasingBy (λ y. ordering_index (order_of_identities (v y).identity k)) xs
  never_falls k [] sorted i j d h l = absurd (omega arith)
  never_falls k (x ∷ xs) sorted zero zero d h l = omega arith
  never_falls k (x ∷ xs) sorted zero (suc j) d h l =
      rises (v x).identity (v (get_or xs j d)).identity k (leads_at (v x) xs j d sorted.0 (omega arith))
  never_falls k (x ∷ xs) sorted (suc i) zero d h l = absurd (omega arith)
  never_falls k (x ∷ xs) sorted (suc i) (suc j) d h l = never_falls k xs sorted.1 i j d (omega arith) (omega arith)

  -- a finding whose identity is there after the first
  put_behind : (f : Finding) (w : X) (xs : List X) (at : ℕ) (x : X) → at < length xs → x ≡ get_or xs at x → LeadsAll (v w) (map v xs) → order_of_identities (v x).identity f.identity ≡ Equal → with_finding f (v w ∷ map v xs) ≡ v w ∷ with_finding f (map v xs)
  put_behind f w xs at x h g leads e =
      let less : order_of_identities (v w).identity (v x).identity ≡ Less = ap (λ (z : X). order_of_identities (v w).identity (v z).identity) g ∙ leads_at (v w) xs at x leads h in
      let before : order_of_identities (v w).identity f.identity ≡ Less = ap (order_of_identities (v w).identity) (sym (same_identity (v x).identity f.identity e)) ∙ less in
      put_greater f (v w) (map v xs) (turned (v w).identity f.identity Less before)

  -- or is the first
  put_first : (f : Finding) (w x : X) (xs : List X) → x ≡ w → order_of_identities (v x).identity f.identity ≡ Equal → with_finding f (v w ∷ map v xs) ≡ finding (v w).identity (lesser f.schedule (v w).schedule) ∷ map v xs
  put_first f w x xs g e =
      put_equal f (v w) (map v xs) (turned (v w).identity f.identity Equal (subst (λ (z : X). order_of_identities (v z).identity f.identity ≡ Equal) g e))

  -- a finding whose identity is there
  pub put_there : (f : Finding) (xs : List X) (at : ℕ) (x y : X) → at < length xs → x ≡ get_or xs at x → AreSorted (map v xs) → order_of_identities (v x).identity f.identity ≡ Equal → v y ≡ finding (v x).identity (lesser f.schedule (v x).schedule) → map v (slice_set xs at y) ≡ with_finding f (map v xs)
  put_there f [] at x y h g sorted e new = absurd (omega arith)
  put_there f (w ∷ xs) zero x y h g sorted e new =
      ap (λ (k : Finding). k ∷ map v xs) (new ∙ ap (λ (z : X). finding (v z).identity (lesser f.schedule (v z).schedule)) g) ∙ sym (put_first f w x xs g e)
  put_there f (w ∷ xs) (suc at) x y h g sorted e new =
      ap (◌∷◌ (v w)) (put_there f xs at x y (omega arith) g sorted.1 e new) ∙ sym (put_behind f w xs at x (omega arith) g sorted.0 e)

  -- and one whose identity is not
  pub put_between : (f : Finding) (xs : List X) (at : ℕ) (y : X) → at ≤ length xs → IsPartitionPoint (λ z. order_of_identities (v z).identity f.identity ≡ Less) (λ z. order_of_identities (v z).identity f.identity ≡ Greater) xs at → v y ≡ f → map v (insert xs at y) ≡ with_finding f (map v xs)
  put_between f [] zero y h parts new = ap (λ (k : Finding). k ∷ []) new
  put_between f [] (suc at) y h parts new = absurd (omega arith)
  put_between f (w ∷ xs) zero y h parts new =
      ap (λ (k : Finding). k ∷ v w ∷ map v xs) new ∙ sym (put_less f (v w) (map v xs) (turned (v w).identity f.identity Greater (parts.1 0 w (omega arith) (omega arith))))
  put_between f (w ∷ xs) (suc at) y h parts new =
      ap (◌∷◌ (v w)) (put_between f xs at y (omega arith) (λ k d l m. parts.0 (suc k) d (omega arith) (omega arith), λ k d l m. parts.1 (suc k) d (omega arith) (omega arith)) new) ∙ sym (put_greater f (v w) (map v xs) (turned (v w).identity f.identity Less (parts.0 0 w (omega arith) (omega arith))))

  -- one whose identity is there changes nothing exactly where the schedule that is there stays
  pub stays_there : (f : Finding) (xs : List X) (at : ℕ) (x : X) → at < length xs → x ≡ get_or xs at x → AreSorted (map v xs) → order_of_identities (v x).identity f.identity ≡ Equal → (lesser f.schedule (v x).schedule ≡ (v x).schedule) ↔ (with_finding f (map v xs) ≡ map v xs)
  stays_there f [] at x h g sorted e = absurd (omega arith)
  stays_there f (w ∷ xs) zero x h g sorted e =
      let put = put_first f w x xs g e in
      let both = ap (λ (z : X). lesser f.schedule (v z).schedule) g in
      let own = ap (λ (z : X). (v z).schedule) g in (
        λ same. put ∙ ap (λ (s : List Step). finding (v w).identity s ∷ map v xs) (sym both ∙ same ∙ own),
        λ same. both ∙ ap first_schedule (sym put ∙ same) ∙ sym own,
      )
  stays_there f (w ∷ xs) (suc at) x h g sorted e =
      let put = put_behind f w xs at x (omega arith) g sorted.0 e in
      let more = stays_there f xs at x (omega arith) g sorted.1 e in
      (λ same. put ∙ ap (◌∷◌ (v w)) (more.0 same), λ same. more.1 (ap behind_first (sym put ∙ same)))

  -- one whose identity is not there makes the list longer
  grows_between : (f : Finding) (xs : List X) (at : ℕ) → at ≤ length xs → IsPartitionPoint (λ z. order_of_identities (v z).identity f.identity ≡ Less) (λ z. order_of_identities (v z).identity f.identity ≡ Greater) xs at → length (with_finding f (map v xs)) ≡ suc (length (map v xs))
  grows_between f [] at h parts = refl
  grows_between f (w ∷ xs) zero h parts =
      ap length (put_less f (v w) (map v xs) (turned (v w).identity f.identity Greater (parts.1 0 w (omega arith) (omega arith))))
  grows_between f (w ∷ xs) (suc at) h parts =
      ap length (put_greater f (v w) (map v xs) (turned (v w).identity f.identity Less (parts.0 0 w (omega arith) (omega arith)))) ∙ ap suc (grows_between f xs at (omega arith) (λ k d l m. parts.0 (suc k) d (omega arith) (omega arith), λ k d l m. parts.1 (suc k) d (omega arith) (omega arith)))

  -- so it changes it
  pub changes_between : (f : Finding) (xs : List X) (at : ℕ) → at ≤ length xs → IsPartitionPoint (λ z. order_of_identities (v z).identity f.identity ≡ Less) (λ z. order_of_identities (v z).identity f.identity ≡ Greater) xs at → with_finding f (map v xs) ≡ map v xs → ⊥
  changes_between f xs at h parts same =
      omega (arith, grows_between f xs at h parts, ap length same)

-- ---- what a search says

pub if_found : {A B : Type 0} (P : A → Type 0) (Q : B → Type 0) (r : Result A B) → MatchResult r P Q → IfOk r P
if_found P Q (Ok x) h = h
if_found P Q (Err e) h = tt

pub if_missing : {A B : Type 0} (P : A → Type 0) (Q R : B → Type 0) (r : Result A B) → ((x : B) → Q x → R x) → MatchResult r P Q → IfErr r R
if_missing P Q R (Ok x) more h = tt
if_missing P Q R (Err e) more h = more e h

-- ---- copies

pub copied_more : {X Y : Type 0} (v : X → Y) (xs ys : List X) (at : ℕ) (x y : X) → at < length xs → x ≡ get_or xs at x → map v ys ≡ map v (take at xs) → v y ≡ v x → map v (ys ++ y ∷ []) ≡ map v (take (at + 1) xs)
copied_more v xs ys at x y h is same new =
    map-append v ys (y ∷ []) ∙ (λ i. same i ++ new i ∷ []) ∙ sym (map-append v (take at xs) (x ∷ [])) ∙ ap (map v) (ap (λ z. take at xs ++ z ∷ []) is ∙ sym (take_more xs at x h))
