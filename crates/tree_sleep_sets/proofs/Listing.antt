-- The listed paths are those of the nodes.
use Rattle.std.proofs.Common.{◌≡◌, ◌↔◌, inl, inr, ℕ, zero, suc, List, [], ◌∷◌, ◌++◌, map, Option, Some, None, refl, sym, ◌∙◌, subst, append_assoc, append-nil}
use Rattle.tree_sleep_sets.specs.System.{System, Takes}
use Rattle.tree_sleep_sets.specs.Tree.{Plan, asleep, IsPath, Includes}
use Rattle.tree_sleep_sets.specs.Nodes.{paths_after, paths_along, paths}
use Rattle.tree_sleep_sets.proofs.Among.{among_append, among_map}

among_left : {X : Type 0} (xs ys : List X) (x : X) → Includes xs x → Includes (xs ++ ys) x
among_left [] ys x h = absurd h
among_left (z ∷ xs) ys x (inl p) = inl p
among_left (z ∷ xs) ys x (inr q) = inr (among_left xs ys x q)

among_right : {X : Type 0} (xs ys : List X) (x : X) → Includes ys x → Includes (xs ++ ys) x
among_right [] ys x h = h
among_right (z ∷ xs) ys x h = inr (among_right xs ys x h)

module _ (S : System) (P : Plan S) where
  -- ---- each node is listed

  after_listed : (a : S.Step) (w : S.World) (t : Takes S w a) (below : S.World → List (List S.Step)) (p : List S.Step) → Includes (below t.world) p → Includes (paths_after S P a below (S.next w a)) (a ∷ p)
  after_listed a w t below p h =
      subst (λ o. Includes (paths_after S P a below o) (a ∷ p)) (sym t.is_next) (among_map (◌∷◌ a) (below t.world) p h)

  along_listed : (below : P.Place → S.World → List S.Step → List (List S.Step)) (w : S.World) (slept : List S.Step) (before more after : List (S.Step × P.Place)) (a : S.Step) (x : P.Place) (t : Takes S w a) (p : List S.Step) → Includes (below x t.world (asleep S P w slept (before ++ more) a)) p → Includes (paths_along S P below w slept before (more ++ (a, x) ∷ after)) (a ∷ p)
  along_listed below w slept before [] after a x t p h =
      among_left _ _ _ (after_listed a w t (λ v. below x v (asleep S P w slept before a)) p (subst (λ cs. Includes (below x t.world (asleep S P w slept cs a)) p) (append-nil before) h))
  along_listed below w slept before (c ∷ more) after a x t p h =
      among_right (paths_after S P c.0 (λ v. below c.1 v (asleep S P w slept before c.0)) (S.next w c.0)) _ _ (along_listed below w slept (before ++ c ∷ []) more after a x t p (subst (λ cs. Includes (below x t.world (asleep S P w slept cs a)) p) (sym (append_assoc before (c ∷ []) more)) h))

  pub listed : (n : ℕ) (x : P.Place) (w : S.World) (slept p : List S.Step) → IsPath S P n x w slept p → Includes (paths S P n x w slept) p
  listed zero x w slept [] is = inl refl
  listed zero x w slept (a ∷ p) is = absurd is
  listed (suc n) x w slept [] is = inl refl
  listed (suc n) x w slept (a ∷ p) is =
      inr (subst (λ cs. Includes (paths_along S P (paths S P n) w slept [] cs) (a ∷ p)) (sym is.0.is_in_line) (along_listed (paths S P n) w slept [] is.0.before is.0.after a is.0.place is.0.takes p (listed n is.0.place is.0.takes.world (asleep S P w slept is.0.before a) p is.1)))

-- ---- each listed path is a node's

-- where an element of a mapped list comes from
record Source {X Y : Type 0} (f : X → Y) (xs : List X) (y : Y) : Type 0 where
  from : X
  is_among : Includes xs from
  is : f from ≡ y

source : {X Y : Type 0} (f : X → Y) (xs : List X) (y : Y) → Includes (map f xs) y → Source f xs y
source f [] y h = absurd h
source f (x ∷ xs) y (inl p) = record { from = x; is_among = inl refl; is = p }
source f (x ∷ xs) y (inr q) =
    let s : Source f xs y = source f xs y q in
    record { from = s.from; is_among = inr s.is_among; is = s.is }

module _ (S : System) (P : Plan S) where
  AreNodes : ℕ → Type 0
  AreNodes n =
      (x : P.Place) (w : S.World) (slept p : List S.Step) → Includes (paths S P n x w slept) p → IsPath S P n x w slept p

  after_node : (n : ℕ) → AreNodes n → (x : P.Place) (w : S.World) (slept : List S.Step) (before after : List (S.Step × P.Place)) (a : S.Step) (y : P.Place) → P.line x w slept ≡ before ++ (a, y) ∷ after → (o : Option (S.Event × S.World)) → S.next w a ≡ o → (p : List S.Step) → Includes (paths_after S P a (λ v. paths S P n y v (asleep S P w slept before a)) o) p → IsPath S P (suc n) x w slept p
  unfolding AreNodes
  after_node n are x w slept before after a y is None e p h = absurd h
  after_node n are x w slept before after a y is (Some o) e p h =
      let s : Source (◌∷◌ a) (paths S P n y o.1 (asleep S P w slept before a)) p = source (◌∷◌ a) (paths S P n y o.1 (asleep S P w slept before a)) p h in
      subst (IsPath S P (suc n) x w slept) s.is (record { before = before; place = y; after = after; is_in_line = is; takes = record { event = o.0; world = o.1; is_next = e } }, are y o.1 (asleep S P w slept before a) s.from s.is_among)

  along_node : (n : ℕ) → AreNodes n → (x : P.Place) (w : S.World) (slept : List S.Step) (before cs : List (S.Step × P.Place)) → P.line x w slept ≡ before ++ cs → (p : List S.Step) → Includes (paths_along S P (paths S P n) w slept before cs) p → IsPath S P (suc n) x w slept p
  along_node n are x w slept before [] is p h = absurd h
  along_node n are x w slept before (c ∷ cs) is p h =
      elim (among_append (paths_after S P c.0 (λ v. paths S P n c.1 v (asleep S P w slept before c.0)) (S.next w c.0)) _ p h) [
        | inl k ↦ after_node n are x w slept before cs c.0 c.1 is (S.next w c.0) refl p k
        | inr k ↦ along_node n are x w slept (before ++ c ∷ []) cs (is ∙ sym (append_assoc before (c ∷ []) cs)) p k
      ]

  pub node : (n : ℕ) (x : P.Place) (w : S.World) (slept p : List S.Step) → Includes (paths S P n x w slept) p → IsPath S P n x w slept p
  unfolding AreNodes
  node zero x w slept p (inl e) = subst (IsPath S P zero x w slept) e tt
  node zero x w slept p (inr h) = elim h [ ]
  node (suc n) x w slept p (inl e) = subst (IsPath S P (suc n) x w slept) e tt
  node (suc n) x w slept p (inr h) = along_node n (node n) x w slept [] (P.line x w slept) refl p h

  -- the listed paths are those of the nodes
  pub listed_nodes : (n : ℕ) (x : P.Place) (w : S.World) (slept p : List S.Step) → Includes (paths S P n x w slept) p ↔ IsPath S P n x w slept p
  listed_nodes n x w slept p = (node n x w slept p, listed S P n x w slept p)
