-- Good covers are whole trees whose nodes show no error.
use Rattle.std.proofs.Common.{◌≡◌, inl, inr, ℕ, zero, suc, Bool, true, false, ◌||◌, List, [], ◌∷◌, ◌++◌, map, Option, Some, None, refl, sym, ap, ◌∙◌, subst, append_assoc, append-nil}
use Rattle.std.specs.List.{filter, list_all}
use Rattle.std.specs.Prelude.{option_and_then}
use Rattle.term_core.specs.declared.step.Step.{Step}
use Rattle.world_model.specs.Events.{Event, History}
use Rattle.world_model.specs.Names.{IsAmong}
use Rattle.world_model.specs.Requests.{Program}
use Rattle.world_model.specs.Run.{next_event, is_enabled, enabled_steps, extended, run_from}
use Rattle.world_model.specs.Shown.{Identity, Shows, shown}
use Rattle.tree_sleep_sets.specs.Search.{is_among}
use Rattle.tree_sleep_sets.specs.Shown as signs_of
use Rattle.tree_sleep_sets.specs.System.{Takes}
use Rattle.tree_sleep_sets.specs.Tree as theory
use Rattle.tree_sleep_sets.specs.Tree.{Plan, Child, IsPath, IsWhole}
use Rattle.tree_sleep_sets.proofs.Among as lists
use Rattle.tree_sleep_sets.proofs.Among.{Split, split}
use Rattle.tree_sleep_sets.proofs.Showing.{covers_signs}
use Rattle.tree_coverage.specs.Covers.{Lines, is_one_of, are_once, is_empty, is_clean, is_good_line, left_by_next, left_by_step, left_by_steps, left_if, left_over, CoversShowNoError}
use Rattle.tree_coverage.specs.Explored.{explored, signs, same_step}
use Rattle.tree_coverage.specs.Jobs.{asleep_below}
use Rattle.tree_coverage.specs.Shown.{RunShows}
use Rattle.tree_coverage.proofs.Instance.{Happened, happened, laws, choice_laws, sign_laws, same_steps}
use Rattle.tree_coverage.proofs.Lists.{both_first, both_second, from_theory, passes_kept, all_true}
use Rattle.tree_coverage.proofs.Runs.{shows_to, shows_from}

-- ---- tests that hold

pub empty_has : {X : Type 0} (xs : List X) (x : X) → is_empty xs ≡ true → IsAmong x xs → ⊥
empty_has [] x e h = h
empty_has (y ∷ xs) x e h = absurd cc

pub one_of : (xs : List Step) (s : Step) → is_one_of xs s ≡ true → theory.Includes xs s
one_of [] s e = absurd cc
one_of (x ∷ xs) s e = go (same_step x s) refl e (one_of xs s)
  where
    go : (b : Bool) → same_step x s ≡ b → (b || is_among same_step xs s) ≡ true → (is_among same_step xs s ≡ true → theory.Includes xs s) → theory.Includes (x ∷ xs) s
    go true q h more = inl (same_steps x s q)
    go false q h more = inr (more h)

-- a node that passes shows no error
clean_shows : (counts : Identity → Bool) (a : Program) (h : History) (i : Identity) → is_clean counts a h ≡ true → Shows a h i → counts i ≡ false
clean_shows counts a h i clean shows = go (counts i) refl
  where
    go : (b : Bool) → counts i ≡ b → counts i ≡ false
    go true e = absurd (empty_has (filter counts (shown a h)) i clean (passes_kept counts (shown a h) i e shows))
    go false e = e

if_good : (b : Bool) (o : Option Lines) (rest : Lines) → left_if b o ≡ Some rest → (b ≡ true) × (o ≡ Some rest)
if_good true o rest e = (refl, e)
if_good false o rest e = absurd cc

-- ---- lines as a tree: a place is how many steps are left, and the lines from its own on

abbrev Place : Type 0
Place = ℕ × Lines

abbrev or_none : Option Lines → Lines
or_none None = []
or_none (Some lines) = lines

module _ (counts : Identity → Bool) (a : Program) where
  -- the steps of a line, each with the lines from those of its node on
  abbrev entries : ℕ → History → List Step → List Step → Lines → List (Step × Place)
  entries n h slept [] lines = []
  entries n h slept (s ∷ steps) lines =
      (s, (n, lines)) ∷ entries n h (slept ++ s ∷ []) steps (or_none (left_by_step (left_over counts a n) a h slept s lines))

  abbrev line_at : Place → History → List Step → List (Step × Place)
  line_at (zero, lines) h slept = []
  line_at (suc n, []) h slept = []
  line_at (suc n, line ∷ lines) h slept = entries n h slept line lines

  abbrev as_written : Plan (explored a)
  as_written = record { Place = Place; line = line_at }

  entry_steps : (n : ℕ) (h : History) (slept steps : List Step) (lines : Lines) → map (λ c. c.0) (entries n h slept steps lines) ≡ steps
  entry_steps n h slept [] lines = refl
  entry_steps n h slept (s ∷ steps) lines = ap (λ ss. s ∷ ss) (entry_steps n h (slept ++ s ∷ []) steps _)

  -- the lines of a step are good from its node on
  record GoodBelow (n : ℕ) (h : History) (slept : List Step) (s : Step) (place : Place) : Type 0 where
    is_place : place ≡ (n, place.1)
    rest : Lines
    is_left : left_by_step (left_over counts a n) a h slept s place.1 ≡ Some rest

  record Left (f : Lines → Option Lines) (o : Option Lines) (rest : Lines) : Type 0 where
    between : Lines
    is_first : o ≡ Some between
    is_second : f between ≡ Some rest

  left : (f : Lines → Option Lines) (o : Option Lines) (rest : Lines) → option_and_then f o ≡ Some rest → Left f o rest
  left f None rest e = absurd cc
  left f (Some lines) rest e = record { between = lines; is_first = refl; is_second = e }

  good_below : (n : ℕ) (h : History) (slept steps : List Step) (lines rest : Lines) → left_by_steps (left_over counts a n) a h slept steps lines ≡ Some rest → (cs : List (Step × Place)) (s : Step) (place : Place) (ds : List (Step × Place)) → entries n h slept steps lines ≡ cs ++ (s, place) ∷ ds → GoodBelow n h (slept ++ map (λ c. c.0) cs) s place
  good_below n h slept [] lines rest e [] s place ds is = absurd cc
  good_below n h slept [] lines rest e (c ∷ cs) s place ds is = absurd cc
  good_below n h slept (t ∷ steps) lines rest e [] s place ds is =
      let l : Left (left_by_steps (left_over counts a n) a h (slept ++ t ∷ []) steps) (left_by_step (left_over counts a n) a h slept t lines) rest = left _ _ rest e in
      let first : (t, (n, lines)) ≡ (s, place) = cc in
      subst (λ (c : Step × Place). GoodBelow n h (slept ++ []) c.0 c.1) first (record { is_place = refl; rest = l.between; is_left = ap (λ b. left_by_step (left_over counts a n) a h b t lines) (append-nil slept) ∙ l.is_first })
  good_below n h slept (t ∷ steps) lines rest e (c ∷ cs) s place ds is =
      let l : Left (left_by_steps (left_over counts a n) a h (slept ++ t ∷ []) steps) (left_by_step (left_over counts a n) a h slept t lines) rest = left _ _ rest e in
      let first : t ≡ c.0 = ap (λ (c : Step × Place). c.0) (cons_first is) in
      subst (λ b. GoodBelow n h b s place) (append_assoc slept (t ∷ []) (map (λ c. c.0) cs) ∙ ap (λ x. slept ++ x ∷ map (λ c. c.0) cs) first) (good_below n h (slept ++ t ∷ []) steps _ rest (ap (λ o. left_by_steps (left_over counts a n) a h (slept ++ t ∷ []) steps (or_none o)) l.is_first ∙ l.is_second) cs s place ds (cons_rest is))
    where
      cons_first : {X : Type 0} {x y : X} {xs ys : List X} → x ∷ xs ≡ y ∷ ys → x ≡ y
      cons_first e = cc

      cons_rest : {X : Type 0} {x y : X} {xs ys : List X} → x ∷ xs ≡ y ∷ ys → xs ≡ ys
      cons_rest e = cc

  -- ---- a good cover is whole

  after_next : (lines : Lines) (below : History → Option Lines) (h : History) (e : Event) (o : Option Event) (rest : Lines) → o ≡ Some e → left_by_next lines below h o ≡ Some rest → below (e ∷ h) ≡ Some rest
  after_next lines below h e o rest is now = ap (left_by_next lines below h) (sym is) ∙ now

  -- the child of a line leaves some of its lines
  record ChildLeft (n : ℕ) (g : History) (slept : List Step) (place : Place) : Type 0 where
    is_place : place ≡ (n, place.1)
    rest : Lines
    is_left : left_over counts a n g slept place.1 ≡ Some rest

  child_left : (n : ℕ) (line : List Step) (lines : Lines) (h : History) (slept : List Step) (rest : Lines) → left_by_steps (left_over counts a n) a h slept line lines ≡ Some rest → (s : Step) (c : Child (explored a) as_written (suc n, line ∷ lines) h slept s) → ChildLeft n c.takes.world (theory.asleep (explored a) as_written h slept c.before s) c.place
  child_left n line lines h slept rest e s c =
      let b : GoodBelow n h (slept ++ map (λ d. d.0) c.before) s c.place = good_below n h slept line lines rest e c.before s c.place c.after c.is_in_line in
      let k : Happened a h s c.takes.event c.takes.world = happened a h s c.takes in
      record {
        is_place = b.is_place;
        rest = b.rest;
        is_left = ap (λ g. left_over counts a n g (asleep_below a h (slept ++ map (λ d. d.0) c.before) s) c.place.1) (sym k.is_world) ∙ after_next c.place.1 (λ g. left_over counts a n g (asleep_below a h (slept ++ map (λ d. d.0) c.before) s) c.place.1) h k.event (next_event a h s) b.rest k.is_next b.is_left;
      }

  good_whole : (n : ℕ) (h : History) (slept : List Step) (lines rest : Lines) → left_over counts a n h slept lines ≡ Some rest → IsWhole (explored a) as_written n (n, lines) h slept
  good_whole zero h slept lines rest e = tt
  good_whole (suc n) h slept [] rest e = absurd cc
  good_whole (suc n) h slept (line ∷ lines) rest e =
      let k : (is_good_line counts a h slept line ≡ true) × (left_by_steps (left_over counts a n) a h slept line lines ≡ Some rest) = if_good _ _ rest e in (
        λ s t.
            let h1 : list_all (is_one_of (slept ++ line)) (enabled_steps a h) ≡ true = both_second (list_all (is_enabled a h) line) _ (both_second (are_once line) _ (both_second (is_clean counts a h) _ k.0)) in
            let there : theory.Includes (slept ++ line) s = one_of (slept ++ line) s (all_true (is_one_of (slept ++ line)) (enabled_steps a h) s h1 (from_theory (enabled_steps a h) s ((choice_laws a).has_enabled h s tt t))) in
            elim (lists.among_append slept line s there) [
              | inl asleep ↦ inr asleep
              | inr taken ↦ inl (child s t (subst (λ ss. theory.Includes ss s) (sym (entry_steps n h slept line lines)) taken))
            ],
        λ s c.
            let l : ChildLeft n c.takes.world (theory.asleep (explored a) as_written h slept c.before s) c.place = child_left n line lines h slept rest k.1 s c in
            subst (λ place. IsWhole (explored a) as_written n place c.takes.world (theory.asleep (explored a) as_written h slept c.before s)) (sym l.is_place) (good_whole n c.takes.world _ c.place.1 l.rest l.is_left),
      )
    where
      child : (s : Step) → Takes (explored a) h s → theory.Includes (map (λ c. c.0) (entries n h slept line lines)) s → Child (explored a) as_written (suc n, line ∷ lines) h slept s
      child s t there =
          let p : Split (entries n h slept line lines) s = split (entries n h slept line lines) s there in
          record { before = p.before; place = p.other; after = p.after; is_in_line = p.is; takes = t }

  -- ---- its nodes show no error

  clean_here : (n : ℕ) (h : History) (slept : List Step) (lines rest : Lines) → left_over counts a n h slept lines ≡ Some rest → is_clean counts a h ≡ true
  clean_here zero h slept [] rest e = absurd cc
  clean_here zero h slept (line ∷ lines) rest e = both_first _ _ (if_good _ _ rest e).0
  clean_here (suc n) h slept [] rest e = absurd cc
  clean_here (suc n) h slept (line ∷ lines) rest e = both_first _ _ (if_good _ _ rest e).0

  some_is : {h g : History} → Some h ≡ Some g → h ≡ g
  some_is e = cc

  clean_path : (n : ℕ) (h : History) (slept : List Step) (lines rest : Lines) → left_over counts a n h slept lines ≡ Some rest → (p : List Step) → IsPath (explored a) as_written n (n, lines) h slept p → (g : History) → run_from a (Some h) p ≡ Some g → is_clean counts a g ≡ true
  clean_path n h slept lines rest e [] is g now = ap (is_clean counts a) (sym (some_is now)) ∙ clean_here n h slept lines rest e
  clean_path zero h slept lines rest e (s ∷ p) is g now = absurd is
  clean_path (suc n) h slept [] rest e (s ∷ p) is g now = absurd cc
  clean_path (suc n) h slept (line ∷ lines) rest e (s ∷ p) (c, below) g now =
      let k : (is_good_line counts a h slept line ≡ true) × (left_by_steps (left_over counts a n) a h slept line lines ≡ Some rest) = if_good _ _ rest e in
      let l : ChildLeft n c.takes.world (theory.asleep (explored a) as_written h slept c.before s) c.place = child_left n line lines h slept rest k.1 s c in
      let b : Happened a h s c.takes.event c.takes.world = happened a h s c.takes in
      clean_path n c.takes.world _ c.place.1 l.rest l.is_left p (subst (λ place. IsPath (explored a) as_written n place c.takes.world (theory.asleep (explored a) as_written h slept c.before s) p) l.is_place below) g (ap (λ w. run_from a (Some w) p) (sym b.is_world) ∙ ap (λ o. run_from a (extended h o) p) (sym b.is_next) ∙ now)

-- ---- so no schedule shows one

pub covers_clean : CoversShowNoError
covers_clean counts a n lines good s i short shows =
    let whole : IsWhole (explored a) (as_written counts a) n (n, lines) [] [] = good_whole counts a n [] [] lines [] good in
    let node : signs_of.IsShownByNode (explored a) (signs a) (as_written counts a) n (n, lines) [] i = (covers_signs (explored a) (as_written counts a) (laws a) (signs a) (sign_laws a) n (n, lines) [] tt whole i).0 (s, short, shows_from a s i shows) in
    let there : RunShows a node.0 i = shows_to a node.0 i node.2 in
    clean_shows counts a there.0 i (clean_path counts a n [] [] lines [] good node.0 node.1 there.0 there.1) there.2
