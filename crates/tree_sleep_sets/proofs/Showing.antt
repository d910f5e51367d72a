-- What is shown by a schedule is shown by a node.
use Rattle.std.proofs.Common.{◌≡◌, ◌⊎◌, inl, inr, ℕ, zero, suc, ◌≤◌, List, [], ◌∷◌, length, Option, Some, None, ap, ◌∙◌, arith}
use Rattle.tree_sleep_sets.specs.System.{System, Laws}
use Rattle.tree_sleep_sets.specs.Schedules.{Runs, latest}
use Rattle.tree_sleep_sets.specs.Tree.{Plan, asleep, IsPath, IsWhole}
use Rattle.tree_sleep_sets.specs.Shown.{Signs, SignLaws, IsShown, IsShownByNode}
use Rattle.tree_sleep_sets.specs.Coverage.{CoversSchedules, CoversSigns}
use Rattle.tree_sleep_sets.proofs.Moves.{Happens, Moved, over_one, one_event, moved}
use Rattle.tree_sleep_sets.proofs.Cover.{Found, here, covered}

-- the latest event is one that happens
latest_happens : (S : System) (L : Laws S) (o : Option S.Event) (w : S.World) (s : List S.Step) (run : Runs S w s) (e : S.Event) → latest S o w s run ≡ Some e → (o ≡ Some e) ⊎ Happens S L w s run e
latest_happens S L o w [] run e is = inl is
latest_happens S L o w (a ∷ s) run e is =
    elim (latest_happens S L (Some run.0.event) run.0.world s run.1 e is) [ inl p ↦ inr (inl cc) | inr h ↦ inr (inr h) ]

module _ (S : System) (P : Plan S) where
  -- the path of a node runs
  pub path_runs : (n : ℕ) (x : P.Place) (w : S.World) (slept p : List S.Step) → IsPath S P n x w slept p → Runs S w p
  path_runs n x w slept [] is = tt
  path_runs zero x w slept (a ∷ p) is = absurd is
  path_runs (suc n) x w slept (a ∷ p) is =
      (is.0.takes, path_runs n is.0.place is.0.takes.world (asleep S P w slept is.0.before a) p is.1)

  -- and is no longer than the tree is deep
  pub path_short : (n : ℕ) (x : P.Place) (w : S.World) (slept p : List S.Step) → IsPath S P n x w slept p → length p ≤ n
  path_short n x w slept [] is = omega arith
  path_short zero x w slept (a ∷ p) is = absurd is
  path_short (suc n) x w slept (a ∷ p) is =
      omega (arith, path_short n is.0.place is.0.takes.world (asleep S P w slept is.0.before a) p is.1)

module _ (S : System) (P : Plan S) (L : Laws S) where
  -- a node whose last event this is
  pub record Ending (n : ℕ) (x : P.Place) (w : S.World) (slept : List S.Step) (e : S.Event) : Type 0 where
    pub path : List S.Step
    pub is_path : IsPath S P n x w slept path
    pub runs : Runs S w path
    pub is_last : (o : Option S.Event) → latest S o w path runs ≡ Some e

  -- the node above at which an event of a path happens
  ending : (n : ℕ) (x : P.Place) (w : S.World) → S.IsReal w → (slept p : List S.Step) → IsPath S P n x w slept p → (run : Runs S w p) (e : S.Event) → Happens S L w p run e → Ending n x w slept e
  ending n x w wr slept [] is run e h = absurd h
  ending zero x w wr slept (a ∷ p) is run e h = absurd is
  ending (suc n) x w wr slept (a ∷ p) is run e (inl q) =
      record { path = a ∷ []; is_path = (is.0, here S P L n is.0.place is.0.takes.world (asleep S P w slept is.0.before a)); runs = (is.0.takes, tt); is_last = λ o. ap Some (one_event S L w wr a is.0.takes run.0 ∙ q) }
  ending (suc n) x w wr slept (a ∷ p) is run e (inr q) =
      let m : Moved S L run.0.world is.0.takes.world p p run.1 = over_one S L w wr a run.0 is.0.takes p run.1 in
      let d : Ending n is.0.place is.0.takes.world (asleep S P w slept is.0.before a) e = ending n is.0.place is.0.takes.world (L.real_next w a wr is.0.takes) (asleep S P w slept is.0.before a) p is.1 m.runs e (m.happens e q) in
      record { path = a ∷ d.path; is_path = (is.0, d.is_path); runs = (is.0.takes, d.runs); is_last = λ o. d.is_last (Some is.0.takes.event) }

  -- nothing sleeps at the root, so each schedule is found
  pub root_found : (n : ℕ) (x : P.Place) (w : S.World) → S.IsReal w → IsWhole S P n x w [] → (s : List S.Step) → length s ≤ n → Runs S w s → Found S P L n x w [] s
  root_found n x w wr whole s short run = elim (covered S P L n x w wr [] whole s short run) [ inl f ↦ f | inr z ↦ absurd z.is_asleep ]

  pub covers_schedules : (n : ℕ) (x : P.Place) (w : S.World) → S.IsReal w → IsWhole S P n x w [] → CoversSchedules S P n x w
  covers_schedules n x w wr whole s short run =
      let f : Found S P L n x w [] s = root_found n x w wr whole s short run in
      (f.path, f.is_path, f.is_equivalent)

  module _ (I : Signs S) (M : SignLaws S I) where
    shown_by_node : (n : ℕ) (x : P.Place) (w : S.World) → S.IsReal w → IsWhole S P n x w [] → (i : I.Identity) → IsShown S I n w i → IsShownByNode S I P n x w i
    shown_by_node n x w wr whole i (s, short, (run, inr state)) =
        let f : Found S P L n x w [] s = root_found n x w wr whole s short run in
        let m : Moved S L w w s f.path run = moved S L w wr s f.path f.is_equivalent run in
        (f.path, f.is_path, (m.runs, inr (M.same_shown _ _ i m.same_final state)))
    shown_by_node n x w wr whole i (s, short, (run, inl (e, is, shows))) =
        elim (latest_happens S L None w s run e is) [
          | inl p ↦ absurd cc
          | inr h ↦
              let f : Found S P L n x w [] s = root_found n x w wr whole s short run in
              let m : Moved S L w w s f.path run = moved S L w wr s f.path f.is_equivalent run in
              let d : Ending n x w [] e = ending n x w wr [] f.path f.is_path m.runs e (m.happens e h) in
              (d.path, d.is_path, (d.runs, inl (e, d.is_last None, shows)))
        ]

    shown_by_schedule : (n : ℕ) (x : P.Place) (w : S.World) (i : I.Identity) → IsShownByNode S I P n x w i → IsShown S I n w i
    shown_by_schedule n x w i (p, is, shows) = (p, path_short S P n x w [] p is, shows)

    pub covers_signs : (n : ℕ) (x : P.Place) (w : S.World) → S.IsReal w → IsWhole S P n x w [] → CoversSigns S I P n x w
    covers_signs n x w wr whole i = (shown_by_node n x w wr whole i, shown_by_schedule n x w i)
