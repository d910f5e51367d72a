-- The search's tree is whole, and so is each tree that passes the test.
use Rattle.std.proofs.Common.{◌≡◌, ◌⊎◌, inl, inr, ℕ, zero, suc, Bool, true, false, ◌&&◌, ◌||◌, not, cond, List, [], ◌∷◌, ◌++◌, map, filter, refl, sym, ap, ◌∙◌, subst, append_assoc, append-nil, true≢false}
use Rattle.tree_sleep_sets.specs.System.{System, Takes, Laws}
use Rattle.tree_sleep_sets.specs.Tree.{Plan, Child, asleep, IsWhole, Includes}
use Rattle.tree_sleep_sets.specs.Search.{Choice, ChoiceLaws, is_among, is_each, awake, search, is_after, is_each_child, is_whole}
use Rattle.tree_sleep_sets.proofs.Among.{among_append, among_map, Split, split}

-- ---- tests of lists

both_first : (a b : Bool) → (a && b) ≡ true → a ≡ true
both_first true b e = refl
both_first false b e = e

both_second : (a b : Bool) → (a && b) ≡ true → b ≡ true
both_second true b e = e
both_second false b e = absurd cc

-- what the test finds is there
among_true : {X : Type 0} (is_same : X → X → Bool) → ((a b : X) → is_same a b ≡ true → a ≡ b) → (xs : List X) (a : X) → is_among is_same xs a ≡ true → Includes xs a
among_true is_same exact [] a e = absurd cc
among_true is_same exact (b ∷ bs) a e = go (is_same b a) refl e (among_true is_same exact bs a)
  where
    go : (t : Bool) → is_same b a ≡ t → (t || is_among is_same bs a) ≡ true → (is_among is_same bs a ≡ true → Includes bs a) → Includes (b ∷ bs) a
    go true q h more = inl (exact b a q)
    go false q h more = inr (more h)

each_true : {X : Type 0} (test : X → Bool) (xs : List X) (a : X) → is_each test xs ≡ true → Includes xs a → test a ≡ true
each_true test [] a e h = absurd h
each_true test (x ∷ xs) a e (inl p) = ap test (sym p) ∙ both_first _ _ e
each_true test (x ∷ xs) a e (inr q) = each_true test xs a (both_second _ _ e) q

among_kept : {X : Type 0} (test : X → Bool) (xs : List X) (a : X) → test a ≡ true → Includes xs a → Includes (filter test xs) a
among_kept test [] a e h = absurd h
among_kept test (x ∷ xs) a e h = go (test x) refl h (among_kept test xs a e)
  where
    go : (b : Bool) → test x ≡ b → Includes (x ∷ xs) a → (Includes xs a → Includes (filter test xs) a) → Includes (cond b (x ∷ filter test xs) (filter test xs)) a
    go true q (inl p) more = inl p
    go true q (inr k) more = inr (more k)
    go false q (inl p) more = absurd (true≢false (sym e ∙ ap test (sym p) ∙ q))
    go false q (inr k) more = more k

-- ---- children

module _ (S : System) (P : Plan S) where
  -- a step of the line that can be taken is a child
  child_of : (x : P.Place) (w : S.World) (slept : List S.Step) (a : S.Step) → Takes S w a → Includes (map (λ c. c.0) (P.line x w slept)) a → Child S P x w slept a
  child_of x w slept a t h =
      let s : Split (P.line x w slept) a = split (P.line x w slept) a h in
      record { before = s.before; place = s.other; after = s.after; is_in_line = s.is; takes = t }

-- ---- the search

module _ (S : System) (C : Choice S) (L : Laws S) (D : ChoiceLaws S C) where
  -- an enabled step sleeps or is taken
  taken : (x : Unit {0}) (w : S.World) (slept : List S.Step) (a : S.Step) → Takes S w a → Includes (C.enabled w) a → Child S (search S C) x w slept a ⊎ Includes slept a
  taken x w slept a t h = go (is_among C.is_same slept a) refl
    where
      go : (b : Bool) → is_among C.is_same slept a ≡ b → Child S (search S C) x w slept a ⊎ Includes slept a
      go true e = inr (among_true C.is_same D.same_step slept a e)
      go false e =
          inl (child_of S (search S C) x w slept a t (among_map (λ c. c.0) (map (λ b. (b, tt)) (awake S C w slept)) (a, tt) (among_map (λ b. (b, tt)) (awake S C w slept) a (among_kept _ (C.enabled w) a (ap not e) h))))

  pub searched : (n : ℕ) (x : Unit {0}) (w : S.World) → S.IsReal w → (slept : List S.Step) → IsWhole S (search S C) n x w slept
  searched zero x w wr slept = tt
  searched (suc n) x w wr slept =
      (λ a t. taken x w slept a t (D.has_enabled w a wr t), λ a c. searched n c.place c.takes.world (L.real_next w a wr c.takes) _)

-- ---- the test of a tree

module _ (S : System) (C : Choice S) (P : Plan S) where
  after_true : (test : S.World → Bool) (w : S.World) (a : S.Step) (t : Takes S w a) → is_after S C P test (S.next w a) ≡ true → test t.world ≡ true
  after_true test w a t e = subst (λ o. is_after S C P test o ≡ true) t.is_next e

  -- each child passes, from some element of the line on
  each_child : (test : P.Place → S.World → List S.Step → Bool) (w : S.World) (slept : List S.Step) (before more after : List (S.Step × P.Place)) (a : S.Step) (x : P.Place) → is_each_child S C P test w slept before (more ++ (a, x) ∷ after) ≡ true → (t : Takes S w a) → test x t.world (asleep S P w slept (before ++ more) a) ≡ true
  each_child test w slept before [] after a x e t =
      ap (λ cs. test x t.world (asleep S P w slept cs a)) (append-nil before) ∙ after_true (λ v. test x v (asleep S P w slept before a)) w a t (both_first _ _ e)
  each_child test w slept before (c ∷ more) after a x e t =
      ap (λ cs. test x t.world (asleep S P w slept cs a)) (sym (append_assoc before (c ∷ []) more)) ∙ each_child test w slept (before ++ c ∷ []) more after a x (both_second _ _ e) t

  module _ (D : ChoiceLaws S C) (L : Laws S) where
    pub tested : (n : ℕ) (x : P.Place) (w : S.World) → S.IsReal w → (slept : List S.Step) → is_whole S C P n x w slept ≡ true → IsWhole S P n x w slept
    tested zero x w wr slept e = tt
    tested (suc n) x w wr slept e = (
      λ a t.
          let h : is_among C.is_same (slept ++ map (λ c. c.0) (P.line x w slept)) a ≡ true = each_true (λ b. is_among C.is_same (slept ++ map (λ c. c.0) (P.line x w slept)) b) (C.enabled w) a (both_first _ _ e) (D.has_enabled w a wr t) in
          elim (among_append slept _ a (among_true C.is_same D.same_step _ a h)) [
            | inl k ↦ inr k
            | inr k ↦ inl (child_of S P x w slept a t k)
          ],
      λ a c.
          tested n c.place c.takes.world (L.real_next w a wr c.takes) _ (each_child (is_whole S C P n) w slept [] c.before c.after a c.place (ap (is_each_child S C P (is_whole S C P n) w slept []) (sym c.is_in_line) ∙ both_second _ _ e) c.takes),
    )
