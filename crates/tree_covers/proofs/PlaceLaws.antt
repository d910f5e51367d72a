-- The nodes whose lines are to come, and what is left of lines after them.
use Rattle.std.proofs.Common.{◌≡◌, ℕ, zero, suc, Bool, true, false, ◌&&◌, List, [], ◌∷◌, ◌++◌, Option, Some, None, refl, sym, ap, ◌∙◌, append-nil}
use Rattle.std.specs.Prelude.{option_and_then}
use Rattle.std.specs.List.{list_all}
use Rattle.term_core.specs.declared.step.Step.{Step}
use Rattle.world_model.specs.Events.{Event, History}
use Rattle.world_model.specs.Requests.{Program}
use Rattle.world_model.specs.Run.{next_event, is_enabled, enabled_steps}
use Rattle.world_model.specs.Shown.{Identity}
use Rattle.tree_coverage.specs.Covers.{Lines, is_one_of, are_once, is_empty, is_clean, left_by_next, left_by_steps, left_if, left_over, IsGoodCover}
use Rattle.tree_coverage.specs.Jobs.{asleep_below}
use Rattle.tree_covers.specs.Faults.{sleeping, place_after, places_along, places_under, places_below, root_place, after_line, places_after}
use Rattle.tree_covers.specs.Judging.{Place, are_enabled_once, are_all_there, judgement, judgement_of}
use Rattle.tree_covers.specs.declared.judging.Judgement.{Judgement}
use Rattle.tree_covers.specs.declared.judging.Judgement.TheVariants.{Good, Missing, Strange, ErrorFound}

module _ (counts : Identity → Bool) (a : Program) where
  -- what the nodes leave of lines, one after another
  abbrev pub left_by_places : List Place → Lines → Option Lines
  left_by_places [] lines = Some lines
  left_by_places (v ∷ places) lines = option_and_then (left_by_places places) (left_over counts a v.left v.history v.slept lines)

  then_same : (f g : Lines → Option Lines) → ((lines : Lines) → f lines ≡ g lines) → (o : Option Lines) → option_and_then f o ≡ option_and_then g o
  then_same f g same None = refl
  then_same f g same (Some lines) = same lines

  then_then : (f g : Lines → Option Lines) (o : Option Lines) → option_and_then (λ lines. option_and_then f (g lines)) o ≡ option_and_then f (option_and_then g o)
  then_then f g None = refl
  then_then f g (Some lines) = refl

  pub left_join : (xs ys : List Place) (lines : Lines) → left_by_places (xs ++ ys) lines ≡ option_and_then (left_by_places ys) (left_by_places xs lines)
  left_join [] ys lines = refl
  left_join (v ∷ xs) ys lines =
      then_same (left_by_places (xs ++ ys)) (λ more. option_and_then (left_by_places ys) (left_by_places xs more)) (λ more. left_join xs ys more) (left_over counts a v.left v.history v.slept lines)
      ∙ then_then (left_by_places ys) (left_by_places xs) (left_over counts a v.left v.history v.slept lines)

  -- at the depth it does not matter what sleeps
  any_sleep : (n : ℕ) (h : History) (slept : List Step) (lines : Lines) → left_over counts a n h (sleeping n slept) lines ≡ left_over counts a n h slept lines
  any_sleep zero h slept [] = refl
  any_sleep zero h slept (line ∷ lines) = refl
  any_sleep (suc n) h slept lines = refl

  then_some : (o : Option Lines) → option_and_then (left_by_places []) o ≡ o
  then_some None = refl
  then_some (Some lines) = refl

  after_step : (n : ℕ) (h : History) (slept : List Step) (lines : Lines) (o : Option Event) → left_by_next lines (λ g. left_over counts a n g slept lines) h o ≡ left_by_places (place_after n slept h o) lines
  after_step n h slept lines None = refl
  after_step n h slept lines (Some e) = sym (then_some (left_over counts a n (e ∷ h) (sleeping n slept) lines) ∙ any_sleep n (e ∷ h) slept lines)

  -- the nodes of the steps of a line leave what the steps leave
  pub along_steps : (n : ℕ) (h : History) (slept steps : List Step) (lines : Lines) → left_by_steps (left_over counts a n) a h slept steps lines ≡ left_by_places (places_along a n h slept steps) lines
  along_steps n h slept [] lines = refl
  along_steps n h slept (s ∷ steps) lines =
      ap (option_and_then (left_by_steps (left_over counts a n) a h (slept ++ s ∷ []) steps)) (after_step n h (asleep_below a h slept s) lines (next_event a h s))
      ∙ then_same (left_by_steps (left_over counts a n) a h (slept ++ s ∷ []) steps) (left_by_places (places_along a n h (slept ++ s ∷ []) steps)) (λ more. along_steps n h (slept ++ s ∷ []) steps more) (left_by_places (place_after n (asleep_below a h slept s) h (next_event a h s)) lines)
      ∙ sym (left_join (place_after n (asleep_below a h slept s) h (next_event a h s)) (places_along a n h (slept ++ s ∷ []) steps) lines)

  -- ---- one line

  when_good : (clean enabled all : Bool) (o : Option Lines) → judgement clean enabled all ≡ Good → left_if (clean && (enabled && all)) o ≡ o
  when_good true true true o e = refl
  when_good false enabled all o e = absurd cc
  when_good true false all o e = absurd cc
  when_good true true false o e = absurd cc

  when_not : (clean enabled all : Bool) (o : Option Lines) → (judgement clean enabled all ≡ Good → ⊥) → left_if (clean && (enabled && all)) o ≡ None
  when_not true true true o bad = absurd (bad refl)
  when_not false enabled all o bad = refl
  when_not true false all o bad = refl
  when_not true true false o bad = refl

  both_assoc : (x y z : Bool) → (x && (y && z)) ≡ ((x && y) && z)
  both_assoc true y z = refl
  both_assoc false y z = refl

  both_true : (x : Bool) → x ≡ (x && true)
  both_true true = refl
  both_true false = refl

  abbrev is_good : ℕ → History → List Step → List Step → Bool
  is_good n h slept line = is_clean counts a h && (are_enabled_once a n h line && are_all_there a n h slept line)

  -- what a node leaves, where its line is there
  by_line : (n : ℕ) (h : History) (slept line : List Step) (lines : Lines) → left_over counts a n h slept (line ∷ lines) ≡ left_if (is_good n h slept line) (left_by_places (places_under a n h slept line) lines)
  by_line zero h slept line lines = ap (λ b. left_if (is_clean counts a h && b) (Some lines)) (both_true (is_empty line))
  by_line (suc n) h slept line lines =
      ap (λ b. left_if (is_clean counts a h && b) (left_by_steps (left_over counts a n) a h slept line lines)) (both_assoc (are_once line) (list_all (is_enabled a h) line) (list_all (is_one_of (slept ++ line)) (enabled_steps a h)))
      ∙ ap (left_if (is_good (suc n) h slept line)) (along_steps n h slept line lines)

  pub good_line : (v : Place) (line : List Step) (lines : Lines) → judgement_of counts a v line ≡ Good → left_over counts a v.left v.history v.slept (line ∷ lines) ≡ left_by_places (places_below a v line) lines
  good_line v line lines good =
      by_line v.left v.history v.slept line lines
      ∙ when_good (is_clean counts a v.history) (are_enabled_once a v.left v.history line) (are_all_there a v.left v.history v.slept line) (left_by_places (places_below a v line) lines) good

  pub bad_line : (v : Place) (line : List Step) (lines : Lines) → (judgement_of counts a v line ≡ Good → ⊥) → left_over counts a v.left v.history v.slept (line ∷ lines) ≡ None
  bad_line v line lines bad =
      by_line v.left v.history v.slept line lines
      ∙ when_not (is_clean counts a v.history) (are_enabled_once a v.left v.history line) (are_all_there a v.left v.history v.slept line) (left_by_places (places_below a v line) lines) bad

  pub no_line : (n : ℕ) (h : History) (slept : List Step) → left_over counts a n h slept [] ≡ None
  no_line zero h slept = refl
  no_line (suc n) h slept = refl

  -- ---- lines one after another

  some_is : {X : Type 0} (x y : X) → Some x ≡ Some y → x ≡ y
  some_is x y e = cc

  after_by : (v : Place) (places rest : List Place) (line : List Step) (before more : Lines) (j : Judgement) → judgement_of counts a v line ≡ j
      → (places_after counts a (places_below a v line ++ places) before ≡ Some rest → left_by_places (places_below a v line ++ places) (before ++ more) ≡ left_by_places rest more)
      → after_line (λ next. places_after counts a next before) j (places_below a v line ++ places) ≡ Some rest → left_by_places (v ∷ places) (line ∷ (before ++ more)) ≡ left_by_places rest more
  after_by v places rest line before more Good is later q =
      ap (option_and_then (left_by_places places)) (good_line v line (before ++ more) is) ∙ sym (left_join (places_below a v line) places (before ++ more)) ∙ later q
  after_by v places rest line before more Missing is later q = absurd cc
  after_by v places rest line before more Strange is later q = absurd cc
  after_by v places rest line before more ErrorFound is later q = absurd cc

  -- after good lines the nodes that are to come leave what all leave
  pub left_after : (places rest : List Place) (before more : Lines) → places_after counts a places before ≡ Some rest → left_by_places places (before ++ more) ≡ left_by_places rest more
  left_after places rest [] more e = ap (λ vs. left_by_places vs more) (some_is places rest e)
  left_after [] rest (line ∷ before) more e = absurd cc
  left_after (v ∷ places) rest (line ∷ before) more e =
      after_by v places rest line before more (judgement_of counts a v line) refl (left_after (places_below a v line ++ places) rest before more) e

  more_by : (u : Place) (first : List Step) (places goal others : List Place) (before : Lines) (line : List Step) (j : Judgement)
      → (places_after counts a (places_below a u first ++ places) before ≡ Some others → places_after counts a (places_below a u first ++ places) (before ++ line ∷ []) ≡ Some goal)
      → after_line (λ next. places_after counts a next before) j (places_below a u first ++ places) ≡ Some others → after_line (λ next. places_after counts a next (before ++ line ∷ [])) j (places_below a u first ++ places) ≡ Some goal
  more_by u first places goal others before line Good later q = later q
  more_by u first places goal others before line Missing later q = absurd cc
  more_by u first places goal others before line Strange later q = absurd cc
  more_by u first places goal others before line ErrorFound later q = absurd cc

  -- one good line more
  pub one_more : (places others : List Place) (v : Place) (before : Lines) (line : List Step) → places_after counts a places before ≡ Some (v ∷ others) → judgement_of counts a v line ≡ Good → places_after counts a places (before ++ line ∷ []) ≡ Some (places_below a v line ++ others)
  one_more places others v [] line e good =
      ap (λ vs. places_after counts a vs (line ∷ [])) (some_is places (v ∷ others) e)
      ∙ ap (λ j. after_line (λ next. places_after counts a next []) j (places_below a v line ++ others)) good
  one_more [] others v (first ∷ before) line e good = absurd cc
  one_more (u ∷ places) others v (first ∷ before) line e good =
      more_by u first places (places_below a v line ++ others) (v ∷ others) before line (judgement_of counts a u first) (λ q. one_more (places_below a u first ++ places) others v before line q good) e

  -- ---- whole covers

  pub from_root : (n : ℕ) (lines : Lines) → left_by_places (root_place n ∷ []) lines ≡ left_over counts a n [] [] lines
  from_root n lines = then_some (left_over counts a n [] [] lines)

  -- where after all lines no node is to come, they are a good cover
  pub all_good : (n : ℕ) (lines : Lines) → places_after counts a (root_place n ∷ []) lines ≡ Some [] → IsGoodCover counts a n lines
  all_good n lines e =
      sym (from_root n lines) ∙ ap (left_by_places (root_place n ∷ [])) (sym (append-nil lines)) ∙ left_after (root_place n ∷ []) [] lines [] e

  -- and of a good cover the nodes that are to come after some lines leave nothing of the others
  pub good_leaves : (n : ℕ) (before more : Lines) (rest : List Place) → IsGoodCover counts a n (before ++ more) → places_after counts a (root_place n ∷ []) before ≡ Some rest → left_by_places rest more ≡ Some []
  good_leaves n before more rest good e =
      sym (left_after (root_place n ∷ []) rest before more e) ∙ from_root n (before ++ more) ∙ good
