-- The judgement of a line, by the steps that are enabled.
use Rattle.std.proofs.Common.{◌≡◌, ℕ, zero, suc, Bool, true, false, ◌&&◌, ◌||◌, not, List, [], ◌∷◌, ◌++◌, refl, sym, ap, ◌∙◌}
use Rattle.std.specs.List.{list_all}
use Rattle.term_core.specs.declared.step.Step.{Step}
use Rattle.world_model.specs.Events.{History}
use Rattle.world_model.specs.Names.{IsAmong}
use Rattle.world_model.specs.Requests.{Program}
use Rattle.world_model.specs.Run.{next_event, is_enabled, enabled_steps}
use Rattle.world_model.specs.Shown.{Identity}
use Rattle.world_model.proofs.Opened.{listed_enabled}
use Rattle.tree_sleep.proofs.Listed.{listed}
use Rattle.tree_coverage.specs.Covers.{is_one_of, are_once, is_clean}
use Rattle.tree_coverage.specs.Explored.{same_step}
use Rattle.tree_coverage.specs.Jobs.{taken_steps}
use Rattle.tree_coverage.proofs.Lists.{both_second, all_true, kept_passes}
use Rattle.tree_covers.specs.Judging.{Place, are_enabled_once, are_all_there, judgement, judgement_of}
use Rattle.tree_covers.specs.inside.Frames.{AreEnabled}
use Rattle.tree_covers.proofs.FrameLaws.{is_no_event}
use Rattle.tree_covers.specs.declared.judging.Judgement.TheVariants.{Good, Missing, Strange}

-- ---- steps that are enabled

all_same : {X : Type 0} (p q : X → Bool) → ((x : X) → p x ≡ q x) → (xs : List X) → list_all p xs ≡ list_all q xs
all_same p q same [] = refl
all_same p q same (x ∷ xs) = λ i. same x i && all_same p q same xs i

pub once_enabled : (a : Program) (n : ℕ) (h : History) (line : List Step) → (n ≡ 0 → ⊥) → (are_once line && list_all (is_one_of (enabled_steps a h)) line) ≡ are_enabled_once a n h line
once_enabled a zero h line some = absurd (some refl)
once_enabled a (suc n) h line some = ap (λ b. are_once line && b) (all_same (is_one_of (enabled_steps a h)) (is_enabled a h) (listed a h) line)

pub all_there : (a : Program) (n : ℕ) (h : History) (slept line : List Step) → (n ≡ 0 → ⊥) → list_all (is_one_of (slept ++ line)) (enabled_steps a h) ≡ are_all_there a n h slept line
all_there a zero h slept line some = absurd (some refl)
all_there a (suc n) h slept line some = refl

-- ---- the judgement of the line of a node above the depth

module _ (a : Program) (n : ℕ) (h : History) (enabled slept line : List Step) (some : n ≡ 0 → ⊥) (listed_are : enabled ≡ enabled_steps a h) where
  once_is : (b : Bool) → (are_once line && list_all (is_one_of enabled) line) ≡ b → are_enabled_once a n h line ≡ b
  once_is b e = sym (once_enabled a n h line some) ∙ ap (λ es. are_once line && list_all (is_one_of es) line) (sym listed_are) ∙ e

  all_is : (b : Bool) → list_all (is_one_of (slept ++ line)) enabled ≡ b → are_all_there a n h slept line ≡ b
  all_is b e = sym (all_there a n h slept line some) ∙ ap (list_all (is_one_of (slept ++ line))) (sym listed_are) ∙ e

  pub judged_strange : (are_once line && list_all (is_one_of enabled) line) ≡ false → Strange ≡ judgement true (are_enabled_once a n h line) (are_all_there a n h slept line)
  judged_strange e = sym (ap (λ b. judgement true b (are_all_there a n h slept line)) (once_is false e))

  pub judged_missing : (are_once line && list_all (is_one_of enabled) line) ≡ true → list_all (is_one_of (slept ++ line)) enabled ≡ false → Missing ≡ judgement true (are_enabled_once a n h line) (are_all_there a n h slept line)
  judged_missing e f = sym (ap (λ b. judgement true b (are_all_there a n h slept line)) (once_is true e) ∙ ap (judgement true true) (all_is false f))

  pub judged_good : (are_once line && list_all (is_one_of enabled) line) ≡ true → list_all (is_one_of (slept ++ line)) enabled ≡ true → Good ≡ judgement true (are_enabled_once a n h line) (are_all_there a n h slept line)
  judged_good e f = sym (ap (λ b. judgement true b (are_all_there a n h slept line)) (once_is true e) ∙ ap (judgement true true) (all_is true f))

-- ---- loops

-- the steps of a line one after another
pub next_once : (enabled later : List Step) (s : Step) → is_one_of enabled s ≡ true → is_one_of later s ≡ false → (are_once (s ∷ later) && list_all (is_one_of enabled) (s ∷ later)) ≡ (are_once later && list_all (is_one_of enabled) later)
next_once enabled later s e f = λ i. (not (f i) && are_once later) && (e i && list_all (is_one_of enabled) later)

none_first : (x y : Bool) → x ≡ false → (x && y) ≡ false
none_first x y e = ap (λ b. b && y) e

none_second : (x y : Bool) → y ≡ false → (x && y) ≡ false
none_second true y e = e
none_second false y e = refl

pub not_enabled : (enabled later : List Step) (s : Step) → is_one_of enabled s ≡ false → (are_once (s ∷ later) && list_all (is_one_of enabled) (s ∷ later)) ≡ false
not_enabled enabled later s e = none_second (are_once (s ∷ later)) _ (none_first (is_one_of enabled s) _ e)

pub twice : (enabled later : List Step) (s : Step) → is_one_of later s ≡ true → (are_once (s ∷ later) && list_all (is_one_of enabled) (s ∷ later)) ≡ false
twice enabled later s e = none_first (are_once (s ∷ later)) _ (none_first (not (is_one_of later s)) _ (ap not e))

-- a step sleeps or is taken
pub in_either : (slept line : List Step) (s : Step) → is_one_of (slept ++ line) s ≡ (is_one_of slept s || is_one_of line s)
in_either [] line s = refl
in_either (x ∷ slept) line s = ap (λ b. same_step x s || b) (in_either slept line s) ∙ or_assoc (same_step x s) (is_one_of slept s) (is_one_of line s)
  where
    or_assoc : (x y z : Bool) → (x || (y || z)) ≡ ((x || y) || z)
    or_assoc true y z = refl
    or_assoc false y z = refl

-- ---- a good line can be taken

pub line_enabled : (a : Program) (n : ℕ) (h : History) (line : List Step) → are_enabled_once a n h line ≡ true → (s : Step) → IsAmong s line → is_enabled a h s ≡ true
line_enabled a zero h [] e s there = absurd there
line_enabled a zero h (x ∷ line) e s there = absurd cc
line_enabled a (suc n) h line e s there = all_true (is_enabled a h) line s (both_second (are_once line) _ e) there

pub in_first : (slept line : List Step) (s : Step) → is_one_of slept s ≡ true → true ≡ is_one_of (slept ++ line) s
in_first slept line s e = sym (in_either slept line s ∙ ap (λ b. b || is_one_of line s) e)

pub in_second : (slept line : List Step) (s : Step) → is_one_of slept s ≡ false → is_one_of line s ≡ is_one_of (slept ++ line) s
in_second slept line s e = sym (in_either slept line s ∙ ap (λ b. b || is_one_of line s) e)

-- so each step of a good line can be taken
enabled_if_good : (clean enabled all : Bool) → judgement clean enabled all ≡ Good → enabled ≡ true
enabled_if_good true true all e = refl
enabled_if_good false enabled all e = absurd cc
enabled_if_good true false all e = absurd cc

pub good_enabled : (counts : Identity → Bool) (a : Program) (v : Place) (line : List Step) → judgement_of counts a v line ≡ Good → AreEnabled a v.history line
good_enabled counts a v line good s there none =
    is_no_event (next_event a v.history s) (line_enabled a v.left v.history line (enabled_if_good (is_clean counts a v.history) (are_enabled_once a v.left v.history line) (are_all_there a v.left v.history v.slept line) good) s there) none

-- and each step that the search takes
pub taken_enabled : (a : Program) (n : ℕ) (h : History) (slept : List Step) → AreEnabled a h (taken_steps a n h slept)
taken_enabled a zero h slept s there none = absurd there
taken_enabled a (suc n) h slept s there none =
    is_no_event (next_event a h s) (listed_enabled a h s (kept_passes (λ t. not (is_one_of slept t)) (enabled_steps a h) s there).1) none
