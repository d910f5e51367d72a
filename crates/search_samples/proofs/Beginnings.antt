-- Beginnings of one schedule, and of several.
use Rattle.std.proofs.Common.{◌≡◌, ◌⊎◌, ◌↔◌, inl, inr, List, [], ◌∷◌, ◌++◌, refl, sym, ap, subst, ◌∙◌, append_assoc, append-nil}
use Rattle.search_samples.specs.Samples.{Begins, BeginsSome}
use Rattle.term_core.specs.declared.step.Step.{Step}
use Rattle.tree_coverage.proofs.Lists.{among_append, among_left, among_right}
use Rattle.world_model.specs.Names.{IsAmong}

-- ---- schedules of one more step

same_head : {x y : Step} {xs ys : List Step} → x ∷ xs ≡ y ∷ ys → x ≡ y
same_head e = cc

same_tail : {x y : Step} {xs ys : List Step} → x ∷ xs ≡ y ∷ ys → xs ≡ ys
same_tail e = cc

first_empty : (t rest : List Step) → [] ≡ t ++ rest → t ≡ []
first_empty [] rest e = refl
first_empty (y ∷ t) rest e = absurd cc

-- what begins a schedule of one more step is that one, or begins the one before
beginning : (s : List Step) (x : Step) (t rest : List Step) → s ++ x ∷ [] ≡ t ++ rest → (t ≡ s ++ x ∷ []) ⊎ Begins t s
beginning s x [] rest e = inr (s, refl)
beginning [] x (y ∷ t) rest e = inl (λ i. same_head (sym e) i ∷ first_empty t rest (same_tail e) i)
beginning (z ∷ s) x (y ∷ t) rest e = elim (beginning s x t rest (same_tail e)) [
  | inl is ↦ inl (λ i. same_head (sym e) i ∷ is i)
  | inr p ↦ inr (p.0, λ i. same_head e i ∷ p.1 i)
]

begins_itself : (s t : List Step) → s ≡ t → Begins t s
begins_itself s t is = ([], is ∙ sym (append-nil t))

begins_longer : (s : List Step) (x : Step) (t : List Step) → Begins t s → Begins t (s ++ x ∷ [])
begins_longer s x t p = (p.0 ++ x ∷ [], ap (λ (r : List Step). r ++ x ∷ []) p.1 ∙ append_assoc t p.0 (x ∷ []))

-- ---- all beginnings of a schedule

-- nothing begins the schedule without steps but itself
pub nothing_begins : (t : List Step) → IsAmong t ([] ∷ []) ↔ Begins t []
nothing_begins t = (λ there. to there, λ p. inl (sym (first_empty t p.0 p.1)))
  where
    to : IsAmong t ([] ∷ []) → Begins t []
    to (inl is) = begins_itself [] t is
    to (inr never) = absurd never

-- with one more step it is the one that comes to its beginnings
pub one_more_begins : (s : List Step) (x : Step) (visited : List (List Step)) → ((t : List Step) → IsAmong t visited ↔ Begins t s) → (t : List Step) → IsAmong t (visited ++ (s ++ x ∷ []) ∷ []) ↔ Begins t (s ++ x ∷ [])
one_more_begins s x visited are t = (λ there. to there, λ p. from p)
  where
    last : IsAmong t ((s ++ x ∷ []) ∷ []) → Begins t (s ++ x ∷ [])
    last (inl is) = begins_itself (s ++ x ∷ []) t is
    last (inr never) = absurd never

    to : IsAmong t (visited ++ (s ++ x ∷ []) ∷ []) → Begins t (s ++ x ∷ [])
    to there = elim (among_append visited ((s ++ x ∷ []) ∷ []) t there) [
      | inl before ↦ begins_longer s x t ((are t).0 before)
      | inr here ↦ last here
    ]

    from : Begins t (s ++ x ∷ []) → IsAmong t (visited ++ (s ++ x ∷ []) ∷ [])
    from p = elim (beginning s x t p.0 p.1) [
      | inl is ↦ among_right visited ((s ++ x ∷ []) ∷ []) t (inl (sym is))
      | inr q ↦ among_left visited ((s ++ x ∷ []) ∷ []) t ((are t).1 q)
    ]

-- ---- all beginnings of several

pub none_begin : (t : List Step) → IsAmong t [] ↔ BeginsSome [] t
none_begin t = (λ there. absurd there, λ p. absurd p.1)

pub those_begin : (wholes : List (List Step)) (visited : List (List Step)) (s : List Step) (more : List (List Step)) → ((t : List Step) → IsAmong t visited ↔ BeginsSome wholes t) → ((t : List Step) → IsAmong t more ↔ Begins t s) → (t : List Step) → IsAmong t (visited ++ more) ↔ BeginsSome (wholes ++ s ∷ []) t
those_begin wholes visited s more are ones t = (λ there. to there, λ p. from p)
  where
    to : IsAmong t (visited ++ more) → BeginsSome (wholes ++ s ∷ []) t
    to there = elim (among_append visited more t there) [
      | inl before ↦ let p : BeginsSome wholes t = (are t).0 before in (p.0, among_left wholes (s ∷ []) p.0 p.1, p.2)
      | inr here ↦ (s, among_right wholes (s ∷ []) s (inl refl), (ones t).0 here)
    ]

    last : (whole : List Step) → IsAmong whole (s ∷ []) → Begins t whole → IsAmong t more
    last whole (inl is) p = (ones t).1 (subst (Begins t) (sym is) p)
    last whole (inr never) p = absurd never

    from : BeginsSome (wholes ++ s ∷ []) t → IsAmong t (visited ++ more)
    from p = elim (among_append wholes (s ∷ []) p.0 p.1) [
      | inl before ↦ among_left visited more t ((are t).1 (p.0, before, p.2))
      | inr here ↦ among_right visited more t (last p.0 here p.2)
    ]
