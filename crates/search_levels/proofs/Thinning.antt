-- What follows states, where what comes again is left out.
use Rattle.std.proofs.Common.{◌≡◌, ◌∙◌, ◌+◌, ◌≤◌, inl, inr, ℕ, suc, List, [], ◌∷◌, ◌++◌, Option, Some, None, length, drop, slice_range, ◌-◌, refl, sym, ap, subst, arith, append_assoc, append-nil}
use Rattle.std.proofs.lemmas.List.{length-append, take-append-drop, length-drop, drop-drop}
use Rattle.search_levels.specs.Arrivals.{Arrived}
use Rattle.search_levels.specs.Rows.{HasRow}
use Rattle.search_levels.specs.inside.Following.{AreFollowed, AreKept, FollowsNext, FollowsOne, IsCopy, IsKept, IsLeftOut, Thins, rows_after}
use Rattle.search_levels.specs.inside.Visits.{Visit}
use Rattle.search_levels.proofs.Lying.{range_last, range_more}
use Rattle.world_model.specs.Names.{IsAmong}

-- ---- the rows so far

pub rows_both : (xs ys : List Arrived) (rows : List (List ℕ)) → rows_after (xs ++ ys) rows ≡ rows_after ys (rows_after xs rows)
rows_both [] ys rows = refl
rows_both (x ∷ xs) ys rows = rows_both xs ys (x.row ∷ rows)

still_among : (ks : List Arrived) (rows : List (List ℕ)) (row : List ℕ) → IsAmong row rows → IsAmong row (rows_after ks rows)
still_among [] rows row there = there
still_among (k ∷ ks) rows row there = still_among ks (k.row ∷ rows) row (inr there)

kept_among : (ks : List Arrived) (rows : List (List ℕ)) (row : List ℕ) (x : Arrived) → IsAmong x ks → x.row ≡ row → IsAmong row (rows_after ks rows)
kept_among [] rows row x there is = absurd there
kept_among (k ∷ ks) rows row x (inl e) is = still_among ks (k.row ∷ rows) row (inl (ap (λ (y : Arrived). y.row) e ∙ is))
kept_among (k ∷ ks) rows row x (inr there) is = kept_among ks (k.row ∷ rows) row x there is

pub row_among : (ks : List Arrived) (row : List ℕ) → HasRow ks row → IsAmong row (rows_after ks [])
row_among ks row has = kept_among ks [] row has.0 has.1 has.2

-- ---- one arrival more

thins_out : (rows : List (List ℕ)) (rs ks : List Arrived) (r : Arrived) → Thins rows rs ks → IsLeftOut (rows_after ks rows) r → Thins rows (rs ++ r ∷ []) ks
thins_out rows [] [] r thins out = (out, tt)
thins_out rows [] (k ∷ ks) r thins out = absurd thins
thins_out rows (x ∷ rs) [] r thins out = (thins.0, thins_out rows rs [] r thins.1 out)
thins_out rows (x ∷ rs) (k ∷ ks) r (inl thins) out = inl (thins.0, thins_out rows rs (k ∷ ks) r thins.1 out)
thins_out rows (x ∷ rs) (k ∷ ks) r (inr thins) out = inr (thins.0, thins_out (k.row ∷ rows) rs ks r thins.1 out)

thins_in : (rows : List (List ℕ)) (rs ks : List Arrived) (r k : Arrived) → Thins rows rs ks → IsCopy k r → Thins rows (rs ++ r ∷ []) (ks ++ k ∷ [])
thins_in rows [] [] r k thins copy = inr (copy, tt)
thins_in rows [] (y ∷ ks) r k thins copy = absurd thins
thins_in rows (x ∷ rs) [] r k thins copy = inl (thins.0, thins_in rows rs [] r k thins.1 copy)
thins_in rows (x ∷ rs) (y ∷ ks) r k (inl thins) copy = inl (thins.0, thins_in rows rs (y ∷ ks) r k thins.1 copy)
thins_in rows (x ∷ rs) (y ∷ ks) r k (inr thins) copy = inr (thins.0, thins_in (y.row ∷ rows) rs ks r k thins.1 copy)

pub none_kept : (old new : List Arrived) → new ≡ old → AreKept [] old new
none_kept old new is = record { kept = []; is = is ∙ sym (append-nil old); thins = tt }

pub one_kept : (rs old now new : List Arrived) (r : Arrived) → AreKept rs old now → IsKept r now new → AreKept (rs ++ r ∷ []) old new
one_kept rs old now new r before (inl is) = record {
  kept = before.kept;
  is = is.0 ∙ before.is;
  thins = thins_out (rows_after old []) rs before.kept r before.thins (is.1.0, subst (IsAmong r.row) (ap (λ ks. rows_after ks []) before.is ∙ rows_both old before.kept []) is.1.1);
}
one_kept rs old now new r before (inr is) = record {
  kept = before.kept ++ is.0 ∷ [];
  is = is.2 ∙ ap (λ ks. ks ++ is.0 ∷ []) before.is ∙ append_assoc old before.kept (is.0 ∷ []);
  thins = thins_in (rows_after old []) rs before.kept r is.0 before.thins is.1;
}

-- each that is kept is a copy
pub thins_source : (rows : List (List ℕ)) (rs ks : List Arrived) (k : Arrived) → Thins rows rs ks → IsAmong k ks → (r : Arrived) × IsAmong r rs × IsCopy k r
thins_source rows rs [] k thins there = absurd there
thins_source rows [] (y ∷ ks) k thins there = absurd thins
thins_source rows (x ∷ rs) (y ∷ ks) k (inl thins) there = let s = thins_source rows rs (y ∷ ks) k thins.1 there in (s.0, inr s.1, s.2)
thins_source rows (x ∷ rs) (y ∷ ks) k (inr thins) (inl e) = (x, inl refl, subst (λ z. IsCopy z x) e thins.0)
thins_source rows (x ∷ rs) (y ∷ ks) k (inr thins) (inr there) = let s = thins_source (y.row ∷ rows) rs ks k thins.1 there in (s.0, inr s.1, s.2)

-- ---- one state more

module _ (AreAll : List ℕ → List Arrived → Type 0) where
  -- what follows one more state, after such rows
  abbrev FollowsAfter : List (List ℕ) → Visit → List Arrived → List Arrived → Option ℕ → Type 0
  FollowsAfter rows x old new None = new ≡ old
  FollowsAfter rows x old new (Some e) = (ks : List Arrived) × (new ≡ old ++ ks) × (e ≡ length new) × FollowsOne AreAll rows x ks

  as_after : (x : Visit) (old new : List Arrived) (e : Option ℕ) → FollowsNext AreAll x old new e → FollowsAfter (rows_after old []) x old new e
  as_after x old new None is = is
  as_after x old new (Some e) is = (is.2.kept, is.2.is, is.3, (is.0, is.1, is.2.thins))

  no_more : (xs : List Arrived) → length xs ≤ 0 → xs ≡ []
  no_more [] le = refl
  no_more (x ∷ xs) le = absurd (omega (arith, le))

  first_one : (rows : List (List ℕ)) (x : Visit) (old new : List Arrived) (at : ℕ) (e : Option ℕ) → at ≡ length old → FollowsAfter rows x old new e → AreFollowed AreAll rows new at (x ∷ []) (e ∷ [])
  first_one rows x old new at None end is = end ∙ ap length (sym is)
  first_one rows x old new at (Some e) end is =
      let long : length new ≡ length old + length is.0 = ap length is.1 ∙ length-append old is.0 in
      let whole : slice_range new at e ≡ is.0 = ap (λ ks. slice_range ks at e) is.1 ∙ range_last old is.0 at e end (is.2 ∙ long) in
      (omega (arith, end, is.2, long), omega (arith, is.2), subst (FollowsOne AreAll rows x) (sym whole) is.3, is.2)

  followed_after : (rows last : List (List ℕ)) (old new : List Arrived) (at : ℕ) (xs : List Visit) (es : List (Option ℕ)) (x : Visit) (e : Option ℕ) → at ≤ length old → last ≡ rows_after (drop at old) rows
      → ((more : List Arrived) → new ≡ old ++ more → FollowsAfter last x old new e → AreFollowed AreAll rows old at xs es → AreFollowed AreAll rows new at (xs ++ x ∷ []) (es ++ e ∷ []))
  followed_after rows last old new at [] [] x e within is more grown next before = first_one rows x old new at e before (subst (λ zs. FollowsAfter zs x old new e) (is ∙ ap (λ ks. rows_after ks rows) (no_more (drop at old) (omega (arith, length-drop at old, before)))) next)
  followed_after rows last old new at [] (d ∷ es) x e within is more grown next before = absurd before
  followed_after rows last old new at (y ∷ xs) [] x e within is more grown next before = absurd before
  followed_after rows last old new at (y ∷ xs) (None ∷ es) x e within is more grown next before = followed_after rows last old new at xs es x e within is more grown next before
  followed_after rows last old new at (y ∷ xs) (Some d ∷ es) x e within is more grown next before =
      let same : slice_range new at d ≡ slice_range old at d = ap (λ ks. slice_range ks at d) grown ∙ range_more old more at d before.0 before.1 in
      let parts : drop at old ≡ slice_range old at d ++ drop d old = parts_of old at d before.0 in
      let last_is : last ≡ rows_after (drop d old) (rows_after (slice_range old at d) rows) = is ∙ ap (λ ks. rows_after ks rows) parts ∙ rows_both (slice_range old at d) (drop d old) rows in (
        before.0,
        omega (arith, before.1, ap length grown, length-append old more),
        subst (FollowsOne AreAll rows y) (sym same) before.2,
        subst (λ ks. AreFollowed AreAll (rows_after ks rows) new d (xs ++ x ∷ []) (es ++ e ∷ [])) (sym same) (followed_after (rows_after (slice_range old at d) rows) last old new d xs es x e before.1 last_is more grown next before.3),
      )
    where
      parts_of : (zs : List Arrived) (a b : ℕ) → a ≤ b → drop a zs ≡ slice_range zs a b ++ drop b zs
      parts_of zs a b le =
          let on : a + (b - a) ≡ b = omega (arith, le) in
          sym (take-append-drop (b - a) (drop a zs)) ∙ ap (λ ws. slice_range zs a b ++ ws) (drop-drop (b - a) a zs ∙ ap (λ n. drop n zs) on)

  more_of : (x : Visit) (old new : List Arrived) (e : Option ℕ) → FollowsNext AreAll x old new e → (more : List Arrived) × (new ≡ old ++ more)
  more_of x old new None is = ([], is ∙ sym (append-nil old))
  more_of x old new (Some e) is = (is.2.kept, is.2.is)

  pub followed_more : (old new : List Arrived) (xs : List Visit) (es : List (Option ℕ)) (x : Visit) (e : Option ℕ) → AreFollowed AreAll [] old 0 xs es → FollowsNext AreAll x old new e → AreFollowed AreAll [] new 0 (xs ++ x ∷ []) (es ++ e ∷ [])
  followed_more old new xs es x e before is =
      let more = more_of x old new e is in
      followed_after [] (rows_after old []) old new 0 xs es x e (omega arith) refl more.0 more.1 (as_after x old new e is) before

  -- as many states as ends
  pub followed_length : (rows : List (List ℕ)) (ks : List Arrived) (at : ℕ) (xs : List Visit) (es : List (Option ℕ)) → AreFollowed AreAll rows ks at xs es → length es ≡ length xs
  followed_length rows ks at [] [] are = refl
  followed_length rows ks at [] (e ∷ es) are = absurd are
  followed_length rows ks at (x ∷ xs) [] are = absurd are
  followed_length rows ks at (x ∷ xs) (None ∷ es) are = ap suc (followed_length rows ks at xs es are)
  followed_length rows ks at (x ∷ xs) (Some e ∷ es) are = ap suc (followed_length (rows_after (slice_range ks at e) rows) ks e xs es are.3)
