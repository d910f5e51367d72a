-- Errors that are written one after another where they have a standing, by whatever text each has: what is still to be written.
use Rattle.std.proofs.Common.{◌≡◌, ◌<◌, ◌≤◌, ℕ, ◌+◌, Bool, true, false, cond, List, [], ◌∷◌, ◌++◌, length, map, drop, get_or, filter, Option, sym, ap, subst, ◌∙◌, arith}
use Rattle.std.proofs.lemmas.List.{at_drop_more, at_drop_all}
use Rattle.term_core.specs.Stream.{WritesAll}
use Rattle.term_core.specs.inside.Writing.{Owes, owes_all, owes_less, owes_nothing, owes_same}
use Rattle.tree_coverage.specs.Findings as coverage
use Rattle.tree_findings.specs.Found.{finding_in}
use Rattle.tree_findings.specs.declared.finding.Finding.{Finding}

-- the text of all, numbered on from a number, is that of the first and then that of the others
pub record IsListing (text : ℕ → List coverage.Finding → List ℕ) (one : ℕ → coverage.Finding → List ℕ) : Type 0 where
  pub none : (n : ℕ) → text n [] ≡ []
  pub more : (n : ℕ) (f : coverage.Finding) (fs : List coverage.Finding) → text n (f ∷ fs) ≡ one n f ++ text (n + 1) fs

-- those that are listed and come before this place were written, so many, and the others are still to be written
pub record ListedSoFar (text : ℕ → List coverage.Finding → List ℕ) (test : coverage.Finding → Bool) (fs : List Finding) (start now : Option (List ℕ)) (failed : Bool) (whole : List ℕ) (i number : ℕ) : Type 0 where
  pub sound : failed ≡ false
  pub counted : number ≤ i
  pub owes : Owes start now (text (number + 1) (filter test (map finding_in (drop i fs)))) whole

module _ (text : ℕ → List coverage.Finding → List ℕ) (one : ℕ → coverage.Finding → List ℕ) (test : coverage.Finding → Bool) (fs : List Finding) where
  -- the text of those from this place on, where so many come before it
  abbrev left : ℕ → ℕ → List ℕ
  left i number = text (number + 1) (filter test (map finding_in (drop i fs)))

  -- the next one is listed, or it is not
  left-next : (i number : ℕ) (d f : Finding) (b : Bool) → i < length fs → f ≡ get_or fs i d → test (finding_in f) ≡ b
      → left i number ≡ text (number + 1) (cond b (finding_in f ∷ filter test (map finding_in (drop (i + 1) fs))) (filter test (map finding_in (drop (i + 1) fs))))
  left-next i number d f b within at is =
      let others = filter test (map finding_in (drop (i + 1) fs)) in
      at_drop_more (λ (gs : List Finding). text (number + 1) (filter test (map finding_in gs))) fs i d within
      ∙ ap (λ (g : Finding). text (number + 1) (cond (test (finding_in g)) (finding_in g ∷ others) others)) (sym at)
      ∙ ap (λ (b : Bool). text (number + 1) (cond b (finding_in f ∷ others) others)) is

  left-listed : IsListing text one → (i number : ℕ) (d f : Finding) → i < length fs → f ≡ get_or fs i d → test (finding_in f) ≡ true → left i number ≡ one (number + 1) (finding_in f) ++ left (i + 1) (number + 1)
  left-listed listing i number d f within at is =
      left-next i number d f true within at is ∙ listing.more (number + 1) (finding_in f) (filter test (map finding_in (drop (i + 1) fs)))

  left-skipped : (i number : ℕ) (d f : Finding) → i < length fs → f ≡ get_or fs i d → test (finding_in f) ≡ false → left i number ≡ left (i + 1) number
  left-skipped i number d f within at is = left-next i number d f false within at is

  pub listing_begins : (start : Option (List ℕ)) (failed : Bool) (all : List coverage.Finding) (whole : List ℕ) → map finding_in fs ≡ all → whole ≡ text 1 (filter test all) → failed ≡ false → ListedSoFar text test fs start start failed whole 0 0
  listing_begins start failed all whole are is sound = record {
    sound = sound;
    counted = omega arith;
    owes = owes_same start start _ _ whole (is ∙ ap (λ (es : List coverage.Finding). text 1 (filter test es)) (sym are)) (owes_all start whole);
  }

  -- one that is listed is written next
  pub owes_listed : IsListing text one → (start now : Option (List ℕ)) (failed : Bool) (whole : List ℕ) (i number : ℕ) (d f : Finding) → ListedSoFar text test fs start now failed whole i number
      → i < length fs → f ≡ get_or fs i d → test (finding_in f) ≡ true → Owes start now (one (number + 1) (finding_in f) ++ left (i + 1) (number + 1)) whole
  owes_listed listing start now failed whole i number d f so within at is =
      owes_same start now _ _ whole (left-listed listing i number d f within at is) so.owes

  -- it was written, and then the sink is this one
  pub listing_goes_on : IsListing text one → (start now new new' : Option (List ℕ)) (failed failed' failed'' : Bool) (whole : List ℕ) (i number number' : ℕ) (d f : Finding) → ListedSoFar text test fs start now failed whole i number
      → i < length fs → f ≡ get_or fs i d → test (finding_in f) ≡ true → number' ≡ number + 1 → WritesAll now new failed' (one (number + 1) (finding_in f)) → new' ≡ new → failed'' ≡ failed'
      → ListedSoFar text test fs start new' failed'' whole (i + 1) number'
  listing_goes_on listing start now new new' failed failed' failed'' whole i number number' d f so within at is counts written same stays = record {
    sound = stays ∙ written.sound;
    counted = omega (arith, counts, so.counted);
    owes =
        subst (λ (w : Option (List ℕ)). Owes start w (left (i + 1) number') whole) (sym same)
        (subst (λ (n : ℕ). Owes start new (left (i + 1) n) whole) (sym counts) (owes_less start now new _ _ whole (owes_listed listing start now failed whole i number d f so within at is) written.appends));
  }

  -- one that is not listed was passed over, and the sink is this one
  pub listing_skips : (start now now' : Option (List ℕ)) (failed failed' : Bool) (whole : List ℕ) (i number number' : ℕ) (d f : Finding) → ListedSoFar text test fs start now failed whole i number
      → i < length fs → f ≡ get_or fs i d → test (finding_in f) ≡ false → number' ≡ number → now' ≡ now → failed' ≡ failed
      → ListedSoFar text test fs start now' failed' whole (i + 1) number'
  listing_skips start now now' failed failed' whole i number number' d f so within at is counts same stays = record {
    sound = stays ∙ so.sound;
    counted = omega (arith, counts, so.counted);
    owes =
        subst (λ (w : Option (List ℕ)). Owes start w (left (i + 1) number') whole) (sym same)
        (subst (λ (n : ℕ). Owes start now (left (i + 1) n) whole) (sym counts) (owes_same start now _ _ whole (left-skipped i number d f within at is) so.owes));
  }

  -- no error is left
  pub listing_ends : IsListing text one → (start now : Option (List ℕ)) (failed : Bool) (whole : List ℕ) (i number : ℕ) → ListedSoFar text test fs start now failed whole i number → length fs ≤ i → WritesAll start now failed whole
  listing_ends listing start now failed whole i number so all =
      owes_nothing start now failed whole (owes_same start now _ _ whole (at_drop_all (λ (gs : List Finding). text (number + 1) (filter test (map finding_in gs))) fs i all ∙ listing.none (number + 1)) so.owes) so.sound
