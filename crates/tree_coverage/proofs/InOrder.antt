-- The nodes of the search come in the order of their schedules.
use Rattle.std.proofs.Common.{◌≡◌, inl, inr, ℕ, zero, suc, Bool, true, false, List, [], ◌∷◌, ◌++◌, map, filter, cond, Option, Some, None, refl, sym, ap, ◌∙◌}
use Rattle.std.proofs.lemmas.Cmp.{tied_itself}
use Rattle.std.specs.Ordering.{ordering_then}
use Rattle.std.specs.declared.cmp.Ordering.TheVariants.{Less}
use Rattle.term_core.specs.StepOrder.{order_of_steps}
use Rattle.term_core.specs.inside.StepOrderLaws.{steps_total}
use Rattle.term_core.specs.declared.step.Step.{Step}
use Rattle.world_model.specs.Events.{History}
use Rattle.world_model.specs.Names.{IsAmong}
use Rattle.world_model.specs.Requests.{Program}
use Rattle.world_model.specs.Run.{enabled_steps}
use Rattle.world_model.specs.StepLaws.{ComesBefore, AreInOrder}
use Rattle.world_model.proofs.Opened.{listed_in_order}
use Rattle.tree_sleep_sets.specs.Nodes.{paths_after, paths_along, paths}
use Rattle.tree_sleep_sets.specs.Search.{search, awake}
use Rattle.tree_sleep_sets.specs.Tree.{asleep}
use Rattle.tree_coverage.specs.Explored.{Happening, explored, choice}
use Rattle.tree_coverage.specs.Trees.{order_in_tree, GoesBefore, AreInTreeOrder}
use Rattle.tree_coverage.proofs.Lists.{among_append, Source, source}
use Rattle.world_model.proofs.StepLists.{comes}

-- ---- lists in order

each_before : (s : List Step) (ts : List (List Step)) → ((t : List Step) → IsAmong t ts → order_in_tree s t ≡ Less) → GoesBefore s ts
each_before s [] each = tt
each_before s (t ∷ ts) each = (each t (inl refl), each_before s ts (λ u h. each u (inr h)))

pub goes : (s t : List Step) (ts : List (List Step)) → GoesBefore s ts → IsAmong t ts → order_in_tree s t ≡ Less
goes s t [] before there = absurd there
goes s t (u ∷ ts) before (inl is) = ap (order_in_tree s) (sym is) ∙ before.0
goes s t (u ∷ ts) before (inr there) = goes s t ts before.1 there

joined : (ss ts : List (List Step)) → AreInTreeOrder ss → AreInTreeOrder ts → ((s t : List Step) → IsAmong s ss → IsAmong t ts → order_in_tree s t ≡ Less) → AreInTreeOrder (ss ++ ts)
joined [] ts p q across = q
joined (s ∷ ss) ts p q across =
    (each_before s (ss ++ ts) (λ t h. elim (among_append ss ts t h) [ inl k ↦ goes s t ss p.0 k | inr k ↦ across s t (inl refl) k ]), joined ss ts p.1 q (λ r t k. across r t (inr k)))

same_first : (x : Step) (s t : List Step) → order_in_tree s t ≡ Less → order_in_tree (x ∷ s) (x ∷ t) ≡ Less
same_first x s t less = ap (λ o. ordering_then o (order_in_tree s t)) (tied_itself steps_total x) ∙ less

less_first : (x y : Step) (s t : List Step) → order_of_steps x y ≡ Less → order_in_tree (x ∷ s) (y ∷ t) ≡ Less
less_first x y s t less = ap (λ o. ordering_then o (order_in_tree s t)) less

before_all : (x : Step) (s : List Step) (ts : List (List Step)) → GoesBefore s ts → GoesBefore (x ∷ s) (map (λ t. x ∷ t) ts)
before_all x s [] before = tt
before_all x s (t ∷ ts) before = (same_first x s t before.0, before_all x s ts before.1)

pub all_after : (x : Step) (ss : List (List Step)) → AreInTreeOrder ss → AreInTreeOrder (map (λ t. x ∷ t) ss)
all_after x [] p = tt
all_after x (s ∷ ss) p = (before_all x s ss p.0, all_after x ss p.1)

-- ---- the steps that are taken

kept_after : (test : Step → Bool) (x : Step) (xs : List Step) → ComesBefore x xs → ComesBefore x (filter test xs)
kept_after test x [] before = tt
kept_after test x (y ∷ xs) before = go (test y) (kept_after test x xs before.1)
  where
    go : (b : Bool) → ComesBefore x (filter test xs) → ComesBefore x (cond b (y ∷ filter test xs) (filter test xs))
    go true more = (before.0, more)
    go false more = more

pub kept_in_order : (test : Step → Bool) (xs : List Step) → AreInOrder xs → AreInOrder (filter test xs)
kept_in_order test [] p = tt
kept_in_order test (x ∷ xs) p = go (test x) (kept_in_order test xs p.1)
  where
    go : (b : Bool) → AreInOrder (filter test xs) → AreInOrder (cond b (x ∷ filter test xs) (filter test xs))
    go true more = (kept_after test x xs p.0, more)
    go false more = more

abbrev pub with_tt : List Step → List (Step × Unit {0})
with_tt xs = map (λ s. (s, tt)) xs

-- ---- the paths

module _ (a : Program) where
  -- a path begins with one of the steps
  record Begins (xs : List Step) (p : List Step) : Type 0 where
    first : Step
    rest : List Step
    is_among : IsAmong first xs
    is : first ∷ rest ≡ p

  abbrev Below : Type 0
  Below = Unit {0} → History → List Step → List (List Step)

  -- the paths below the next step of a line, and below all from some step on
  abbrev of_step : Below → History → List Step → List (Step × Unit {0}) → Step → List (List Step)
  of_step below h slept before x =
      paths_after (explored a) (search (explored a) (choice a)) x (λ v. below tt v (asleep (explored a) (search (explored a) (choice a)) h slept before x)) ((explored a).next h x)

  abbrev of_steps : Below → History → List Step → List (Step × Unit {0}) → List Step → List (List Step)
  of_steps below h slept before xs = paths_along (explored a) (search (explored a) (choice a)) below h slept before (with_tt xs)

  after_begins : (x : Step) (below : History → List (List Step)) (o : Option (Happening × History)) (p : List Step) → IsAmong p (paths_after (explored a) (search (explored a) (choice a)) x below o) → (rest : List Step) × (x ∷ rest ≡ p)
  after_begins x below None p h = absurd h
  after_begins x below (Some o) p h =
      let s : Source (λ q. x ∷ q) (below o.1) p = source (λ q. x ∷ q) (below o.1) p h in
      (s.from, s.is)

  step_begins : (below : Below) (h : History) (slept : List Step) (before : List (Step × Unit {0})) (x : Step) (p : List Step) → IsAmong p (of_step below h slept before x) → (rest : List Step) × (x ∷ rest ≡ p)
  step_begins below h slept before x p there =
      after_begins x (λ v. below tt v (asleep (explored a) (search (explored a) (choice a)) h slept before x)) ((explored a).next h x) p there

  steps_begin : (below : Below) (h : History) (slept : List Step) (before : List (Step × Unit {0})) (xs p : List Step) → IsAmong p (of_steps below h slept before xs) → Begins xs p
  steps_begin below h slept before [] p there = absurd there
  steps_begin below h slept before (x ∷ xs) p there =
      elim (among_append (of_step below h slept before x) (of_steps below h slept (before ++ (x, tt) ∷ []) xs) p there) [
        | inl k ↦
            let f : (rest : List Step) × (x ∷ rest ≡ p) = step_begins below h slept before x p k in
            record { first = x; rest = f.0; is_among = inl refl; is = f.1 }
        | inr k ↦
            let b : Begins xs p = steps_begin below h slept (before ++ (x, tt) ∷ []) xs p k in
            record { first = b.first; rest = b.rest; is_among = inr b.is_among; is = b.is }
      ]

  after_in_order : (x : Step) (below : History → List (List Step)) → ((h : History) → AreInTreeOrder (below h)) → (o : Option (Happening × History)) → AreInTreeOrder (paths_after (explored a) (search (explored a) (choice a)) x below o)
  after_in_order x below each None = tt
  after_in_order x below each (Some o) = all_after x (below o.1) (each o.1)

  steps_in_order : (below : Below) → ((h : History) (slept : List Step) → AreInTreeOrder (below tt h slept)) → (h : History) (slept : List Step) (before : List (Step × Unit {0})) (xs : List Step) → AreInOrder xs → AreInTreeOrder (of_steps below h slept before xs)
  steps_in_order below each h slept before [] p = tt
  steps_in_order below each h slept before (x ∷ xs) p =
      joined (of_step below h slept before x) (of_steps below h slept (before ++ (x, tt) ∷ []) xs) (after_in_order x _ (λ g. each g (asleep (explored a) (search (explored a) (choice a)) h slept before x)) ((explored a).next h x)) (steps_in_order below each h slept (before ++ (x, tt) ∷ []) xs p.1) (λ s t k l.
      let f : (rest : List Step) × (x ∷ rest ≡ s) = step_begins below h slept before x s k in
      let b : Begins xs t = steps_begin below h slept (before ++ (x, tt) ∷ []) xs t l in
      ap (λ u. order_in_tree u t) (sym f.1) ∙ ap (order_in_tree (x ∷ f.0)) (sym b.is) ∙ less_first x b.first f.0 b.rest (comes x b.first xs p.0 b.is_among))

  nothing_first : (xs : List Step) (ps : List (List Step)) → ((p : List Step) → IsAmong p ps → Begins xs p) → GoesBefore [] ps
  nothing_first xs ps each =
      each_before [] ps (λ p there. let b : Begins xs p = each p there in ap (order_in_tree []) (sym b.is))

  pub paths_in_order : (n : ℕ) (h : History) (slept : List Step) → AreInTreeOrder (paths (explored a) (search (explored a) (choice a)) n tt h slept)
  paths_in_order zero h slept = (tt, tt)
  paths_in_order (suc n) h slept =
      let xs : List Step = awake (explored a) (choice a) h slept in
      (nothing_first xs _ (λ p there. steps_begin (paths (explored a) (search (explored a) (choice a)) n) h slept [] xs p there), steps_in_order (paths (explored a) (search (explored a) (choice a)) n) (λ g z. paths_in_order n g z) h slept [] xs (kept_in_order _ (enabled_steps a h) (listed_in_order a h)))
