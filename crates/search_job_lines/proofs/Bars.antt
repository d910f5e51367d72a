-- Where a line is cut: before its first bar.
use Rattle.std.proofs.Common.{◌≡◌, ◌==◌, ◌≤◌, ◌<◌, ◌+◌, ◌-◌, ℕ, true≢false, false, List, [], ◌∷◌, ◌++◌, length, take, drop, inl, inr, refl, sym, ap, ap₂, ◌∙◌, subst, arith, append_assoc, take_at, take-append-drop, length-append}
use Rattle.std.proofs.lemmas.Bool.{cases_eq, cases_lt}
use Rattle.term_core.proofs.Pieces.{Lacks, all-append}
use Rattle.term_core.proofs.PidTexts.{lacks-pid}
use Rattle.term_core.specs.Schedule.{IsLawfulStep, AreLawful}
use Rattle.term_core.specs.Text.{text_of_pid, text_of_step, text_of_schedule}
use Rattle.term_core.specs.declared.step.Step.{Step}
use Rattle.term_core.specs.declared.step.Step.TheVariants.{Turn, Deliver}
use Rattle.search_job_lines.specs.Faults.{HasNoBar, IsCutAtBar}
use Rattle.search_job_lines.specs.JobText.{bar}

-- ---- no bar is in the text of a schedule

lacks_step : (s : Step) → IsLawfulStep s → Lacks 124 (text_of_step s)
lacks_step (Turn p) h = lacks-pid 124 (inr (omega arith)) refl p h
lacks_step (Deliver p q) h =
    let behind : Lacks 124 (62 ∷ text_of_pid q) = (refl, lacks-pid 124 (inr (omega arith)) refl q h.1) in
    all-append (λ byte. (byte == 124) ≡ false) (text_of_pid p) (62 ∷ text_of_pid q) (lacks-pid 124 (inr (omega arith)) refl p h.0) behind

pub lacks_bar : (steps : List Step) → AreLawful steps → Lacks 124 (text_of_schedule steps)
lacks_bar [] h = tt
lacks_bar (s ∷ []) h = lacks_step s h.0
lacks_bar (s ∷ t ∷ steps) h =
    let behind : Lacks 124 (32 ∷ text_of_schedule (t ∷ steps)) = (refl, lacks_bar (t ∷ steps) h.1) in
    all-append (λ byte. (byte == 124) ≡ false) (text_of_step s) (32 ∷ text_of_schedule (t ∷ steps)) (lacks_step s h.0) behind

-- ---- so a line is cut there

abbrev second : List ℕ → ℕ
second [] = 0
second (x ∷ []) = 0
second (x ∷ y ∷ rest) = y

no_mark : (d : ℕ) → 124 ≡ d → (d == 124) ≡ false → ⊥
no_mark d is lacks = true≢false (ap (λ n. n == 124) is ∙ lacks)

-- what comes before a first bar, and what has no mark before a bar, are the same
pub cut_is : (front behind x y : List ℕ) → length front ≤ length x → Lacks 124 x → front ++ (bar ++ behind) ≡ x ++ (bar ++ y) → (front ≡ x) × (behind ≡ y)
cut_is [] behind [] y short lacks e = (refl, cc)
cut_is [] behind (c ∷ []) y short lacks e = let odd : 124 ≡ 32 = ap second e in absurd (omega (arith, odd))
cut_is [] behind (c ∷ d ∷ x) y short lacks e = absurd (no_mark d (ap second e) lacks.1.0)
cut_is (f ∷ front) behind [] y short lacks e = absurd (omega (arith, short))
cut_is (f ∷ front) behind (c ∷ x) y short lacks e =
    let first : f ≡ c = cc in
    let same = cut_is front behind x y (omega (arith, short)) lacks.1 cc in
    (ap₂ ◌∷◌ first same.0, same.1)

pub one_cut : (a x b y : List ℕ) → Lacks 124 a → Lacks 124 b → a ++ (bar ++ x) ≡ b ++ (bar ++ y) → (a ≡ b) × (x ≡ y)
one_cut a x b y l k e = elim (cases_lt (length b) (length a)) [
  | inl less ↦ let same = cut_is b y a x (omega (arith, less)) l (sym e) in (sym same.0, sym same.1)
  | inr le ↦ cut_is a x b y le k e
]

-- ---- a bar at the beginning of a text

pub bar_stands : (text first behind : List ℕ) → first ≡ take 3 text → behind ≡ drop 3 text → first ≡ bar → text ≡ bar ++ behind
bar_stands text first behind front back is = sym (take-append-drop 3 text) ∙ ap₂ ◌++◌ (sym front ∙ is) (sym back)

pub other_stands : (text first : List ℕ) → first ≡ take 3 text → (first ≡ bar → ⊥) → (behind : List ℕ) → text ≡ bar ++ behind → ⊥
other_stands text first front other behind e = other (front ∙ ap (take 3) e ∙ take_at bar behind 3 refl)

pub too_short : (text : List ℕ) → length text < 3 → (behind : List ℕ) → text ≡ bar ++ behind → ⊥
too_short text short behind e =
    let whole : length text ≡ 3 + length behind = ap length e ∙ length-append bar behind in
    omega (arith, short, whole)

-- ---- the search for the first one

-- before this rest of the line no bar begins
pub record IsSought (line rest : List ℕ) : Type 0 where
  pub before : List ℕ
  pub parts : line ≡ before ++ rest
  pub none : (front behind : List ℕ) → line ≡ front ++ (bar ++ behind) → length before ≤ length front

pub sought : (line : List ℕ) → IsSought line line
sought line = record { before = []; parts = refl; none = λ front behind e. omega arith }

same_rest : (a b x y : List ℕ) → length a ≡ length b → a ++ x ≡ b ++ y → x ≡ y
same_rest [] [] x y l e = e
same_rest [] (d ∷ b) x y l e = absurd (omega (arith, l))
same_rest (c ∷ a) [] x y l e = absurd (omega (arith, l))
same_rest (c ∷ a) (d ∷ b) x y l e = same_rest a b x y (omega (arith, l)) cc

one_further : (line rest : List ℕ) (b : ℕ) (s : IsSought line rest) → ((behind : List ℕ) → rest ≡ bar ++ behind → ⊥) → (front behind : List ℕ) → line ≡ front ++ (bar ++ behind) → length (s.before ++ b ∷ []) ≤ length front
one_further line rest b s other front behind e = elim (cases_eq (length s.before) (length front)) [
  | inl same ↦ absurd (other behind (same_rest s.before front rest (bar ++ behind) same (sym s.parts ∙ e)))
  | inr differs ↦ let le = s.none front behind e in omega (arith, le, differs, length-append s.before (b ∷ []))
]

pub goes_on : (line rest later : List ℕ) (b : ℕ) → rest ≡ b ∷ later → ((behind : List ℕ) → rest ≡ bar ++ behind → ⊥) → IsSought line rest → IsSought line later
goes_on line rest later b is other s = record {
  before = s.before ++ b ∷ [];
  parts = s.parts ∙ ap (λ w. s.before ++ w) is ∙ sym (append_assoc s.before (b ∷ []) later);
  none = one_further line rest b s other;
}

-- the bar is here
pub found : (line rest front behind : List ℕ) → rest ≡ bar ++ behind → front ≡ take (length line - length rest) line → IsSought line rest → IsCutAtBar line front behind
found line rest front behind is cut s =
    let whole : length line ≡ length s.before + length rest = ap length s.parts ∙ length-append s.before rest in
    let same : front ≡ s.before = cut ∙ ap (take (length line - length rest)) s.parts ∙ take_at s.before rest (length line - length rest) (omega (arith, whole)) in
    record {
      parts = s.parts ∙ ap₂ ◌++◌ (sym same) is;
      is_first = λ before after e. subst (λ f. length f ≤ length before) (sym same) (s.none before after e);
    }

pub shorter : (line rest : List ℕ) → IsSought line rest → length rest ≤ length line
shorter line rest s =
    let whole : length line ≡ length s.before + length rest = ap length s.parts ∙ length-append s.before rest in
    omega (arith, whole)

-- or nowhere
pub nowhere : (line rest : List ℕ) → length rest ≡ 0 → IsSought line rest → HasNoBar line
nowhere line rest none s front behind e =
    let le = s.none front behind e in
    let whole : length line ≡ length s.before + length rest = ap length s.parts ∙ length-append s.before rest in
    let parts : length line ≡ length front + (3 + length behind) = ap length e ∙ length-append front (bar ++ behind) ∙ ap (λ n. length front + n) (length-append bar behind) in
    omega (arith, none, le, whole, parts)
