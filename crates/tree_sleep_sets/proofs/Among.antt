-- Elements of lists.
use Rattle.std.proofs.Common.{◌≡◌, ◌⊎◌, inl, inr, ◌<◌, Bool, true, false, List, [], ◌∷◌, ◌++◌, map, filter, cond, length, refl, sym, ap, ◌∙◌, arith}
use Rattle.tree_sleep_sets.specs.Tree.{Includes}

pub among_append : {X : Type 0} (xs ys : List X) (x : X) → Includes (xs ++ ys) x → Includes xs x ⊎ Includes ys x
among_append [] ys x h = inr h
among_append (z ∷ xs) ys x (inl p) = inl (inl p)
among_append (z ∷ xs) ys x (inr q) = elim (among_append xs ys x q) [ inl l ↦ inl (inr l) | inr r ↦ inr r ]

-- what is among the kept elements passes the test
pub among_filter : {X : Type 0} (test : X → Bool) (xs : List X) (x : X) → Includes (filter test xs) x → (test x ≡ true) × Includes xs x
among_filter test [] x h = absurd h
among_filter test (y ∷ ys) x h = go (test y) refl (among_filter test ys x) h
  where
    go : (b : Bool) → test y ≡ b → (Includes (filter test ys) x → (test x ≡ true) × Includes ys x) → Includes (cond b (y ∷ filter test ys) (filter test ys)) x → (test x ≡ true) × Includes (y ∷ ys) x
    go true e more (inl p) = (ap test (sym p) ∙ e, inl p)
    go true e more (inr q) = ((more q).0, inr (more q).1)
    go false e more q = ((more q).0, inr (more q).1)

pub among_map : {X Y : Type 0} (f : X → Y) (xs : List X) (a : X) → Includes xs a → Includes (map f xs) (f a)
among_map f [] a h = absurd h
among_map f (x ∷ xs) a (inl p) = inl (ap f p)
among_map f (x ∷ xs) a (inr q) = inr (among_map f xs a q)

-- an element's place in a list of pairs, by its first part
pub record Split {A B : Type 0} (cs : List (A × B)) (a : A) : Type 0 where
  pub before : List (A × B)
  pub other : B
  pub after : List (A × B)
  pub is : cs ≡ before ++ (a, other) ∷ after
  pub shorter : length before < length cs

pub split : {A B : Type 0} (cs : List (A × B)) (a : A) → Includes (map (λ c. c.0) cs) a → Split cs a
split [] a h = absurd h
split (c ∷ cs) a (inl p) = record { before = []; other = c.1; after = cs; is = λ i. (p i, c.1) ∷ cs; shorter = omega arith }
split (c ∷ cs) a (inr q) =
    let s : Split cs a = split cs a q in
    record { before = c ∷ s.before; other = s.other; after = s.after; is = ap (◌∷◌ c) s.is; shorter = omega (arith, s.shorter) }
