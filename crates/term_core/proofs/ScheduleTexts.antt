-- The texts of schedules: what is read of one, and that a text is the text of one schedule alone.
use Rattle.std.proofs.Common.{◌≡◌, ℕ, List, [], ◌∷◌, ◌++◌, length, ap, ap₂, sym, refl, ◌∙◌, subst, arith, append_assoc, append-nil, eqb-true, Result, Ok, Err, IfOk, IsErrOf, MatchResult}
use Rattle.term_core.proofs.Pieces.{Begins, front, behind, front-append-behind, front-append, behind_begins, one_cut, all-append}
use Rattle.term_core.proofs.StepTexts.{lacks-step, no_bytes, nonempty_step, step_injective}
use Rattle.term_core.specs.Schedule.{IsLawfulStep, AreLawful, steps_and_blanks, IsFirstBadStep}
use Rattle.term_core.specs.Text.{text_of_step, text_of_schedule}
use Rattle.term_core.specs.declared.schedule.ScheduleFault.{ScheduleFault}
use Rattle.term_core.specs.declared.schedule.ScheduleFault.TheVariants.{BadStep, Memory}
use Rattle.term_core.specs.declared.step.Step.{Step}

-- what follows the first step's text
abbrev pub behind_first : List Step → List ℕ
behind_first [] = []
behind_first (step ∷ steps) = 32 ∷ text_of_schedule (step ∷ steps)

pub behind_first_begins : (steps : List Step) → Begins 32 (behind_first steps)
behind_first_begins [] = tt
behind_first_begins (step ∷ steps) = refl

pub text_of_schedule-cons : (step : Step) (steps : List Step) → text_of_schedule (step ∷ steps) ≡ text_of_step step ++ behind_first steps
text_of_schedule-cons step [] = sym (append-nil (text_of_step step))
text_of_schedule-cons step (next ∷ steps) = refl

steps_and_blanks-cons : (step : Step) (steps : List Step) (rest : List ℕ) → steps_and_blanks (step ∷ steps) ++ rest ≡ text_of_step step ++ 32 ∷ (steps_and_blanks steps ++ rest)
steps_and_blanks-cons step steps rest =
    append_assoc (text_of_step step ++ 32 ∷ []) (steps_and_blanks steps) rest
    ∙ append_assoc (text_of_step step) (32 ∷ []) (steps_and_blanks steps ++ rest)

steps_and_blanks-push : (steps : List Step) (last : Step) (rest : List ℕ) → steps_and_blanks (steps ++ last ∷ []) ++ rest ≡ steps_and_blanks steps ++ (text_of_step last ++ 32 ∷ rest)
steps_and_blanks-push [] last rest = steps_and_blanks-cons last [] rest
steps_and_blanks-push (step ∷ steps) last rest =
    steps_and_blanks-cons step (steps ++ last ∷ []) rest
    ∙ ap (λ t. text_of_step step ++ 32 ∷ t) (steps_and_blanks-push steps last rest)
    ∙ sym (steps_and_blanks-cons step steps (text_of_step last ++ 32 ∷ rest))

-- the last step has no blank after it
pub text_of_schedule-push : (steps : List Step) (last : Step) → text_of_schedule (steps ++ last ∷ []) ≡ steps_and_blanks steps ++ text_of_step last
text_of_schedule-push [] last = refl
text_of_schedule-push (step ∷ []) last = sym (steps_and_blanks-cons step [] (text_of_step last))
text_of_schedule-push (step ∷ next ∷ steps) last =
    ap (λ t. text_of_step step ++ 32 ∷ t) (text_of_schedule-push (next ∷ steps) last)
    ∙ sym (steps_and_blanks-cons step (next ∷ steps) (text_of_step last))

-- The steps that were read of a text are lawful, each has a blank after it, and the rest follows them.
pub record ReadsSteps (text : List ℕ) (steps : List Step) (rest : List ℕ) : Type 0 where
  pub lawful : AreLawful steps
  pub parts : text ≡ steps_and_blanks steps ++ rest

-- a step and a blank
pub reads_step : (text rest next : List ℕ) (steps : List Step) (step : Step) (b : ℕ) → ReadsSteps text steps rest → IsLawfulStep step → front 32 rest ≡ text_of_step step → behind 32 rest ≡ b ∷ next → ReadsSteps text (steps ++ step ∷ []) next
reads_step text rest next steps step b r h e f =
    let mark : b ≡ 32 = eqb-true b 32 (subst (Begins 32) f (behind_begins 32 rest)) in
    let cut : rest ≡ text_of_step step ++ 32 ∷ next = sym (front-append-behind 32 rest) ∙ ap₂ ◌++◌ e (f ∙ ap (λ c. c ∷ next) mark) in
    record {
      lawful = all-append IsLawfulStep steps (step ∷ []) r.lawful (h, tt);
      parts = r.parts ∙ ap (λ t. steps_and_blanks steps ++ t) cut ∙ sym (steps_and_blanks-push steps step next);
    }

-- a step and nothing more
pub reads_last : (text rest : List ℕ) (steps : List Step) (step : Step) → ReadsSteps text steps rest → IsLawfulStep step → front 32 rest ≡ text_of_step step → length (behind 32 rest) ≡ 0 → AreLawful (steps ++ step ∷ []) × (text ≡ text_of_schedule (steps ++ step ∷ []))
reads_last text rest steps step r h e f =
    let cut : rest ≡ text_of_step step = sym (front-append-behind 32 rest) ∙ ap₂ ◌++◌ e (no_bytes (behind 32 rest) f) ∙ append-nil (text_of_step step) in (
      all-append IsLawfulStep steps (step ∷ []) r.lawful (h, tt),
      r.parts ∙ ap (λ t. steps_and_blanks steps ++ t) cut ∙ sym (text_of_schedule-push steps step),
    )

-- where two lawful schedules that begin with a step have one text, their first steps and what follows them are the same
first_cut : (x y : Step) (a b : List ℕ) → IsLawfulStep x → IsLawfulStep y → Begins 32 a → Begins 32 b → text_of_step x ++ a ≡ text_of_step y ++ b → (x ≡ y) × (a ≡ b)
first_cut x y a b h k s t e =
    let same = one_cut 32 (text_of_step x) a (text_of_step y) b (lacks-step x h) s (lacks-step y k) t e in
    (step_injective x y h k same.0, same.1)

same_rest : (xs ys : List Step) → behind_first xs ≡ behind_first ys → text_of_schedule xs ≡ text_of_schedule ys
same_rest [] [] e = refl
same_rest [] (y ∷ ys) e = cc
same_rest (x ∷ xs) [] e = cc
same_rest (x ∷ xs) (y ∷ ys) e = cc

-- a text is the text of one lawful schedule alone
pub schedule_injective : (xs ys : List Step) → AreLawful xs → AreLawful ys → text_of_schedule xs ≡ text_of_schedule ys → xs ≡ ys
schedule_injective [] [] h k e = refl
schedule_injective [] (y ∷ ys) h k e = absurd (nonempty_step y (behind_first ys) (e ∙ text_of_schedule-cons y ys))
schedule_injective (x ∷ xs) [] h k e = absurd (nonempty_step x (behind_first xs) (sym e ∙ text_of_schedule-cons x xs))
schedule_injective (x ∷ xs) (y ∷ ys) h k e =
    let same = first_cut x y (behind_first xs) (behind_first ys) h.0 k.0 (behind_first_begins xs) (behind_first_begins ys) (sym (text_of_schedule-cons x xs) ∙ e ∙ text_of_schedule-cons y ys) in
    ap₂ ◌∷◌ same.0 (schedule_injective xs ys h.1 k.1 (same_rest xs ys same.1))

-- after some steps of a lawful schedule the word is the text of the next one
next_word : (before : List Step) (rest : List ℕ) (step : Step) (steps : List Step) → AreLawful before → AreLawful (step ∷ steps) → steps_and_blanks before ++ rest ≡ text_of_schedule (step ∷ steps) → (next : Step) × IsLawfulStep next × (front 32 rest ≡ text_of_step next)
next_word [] rest step steps h k e =
    (step, k.0, ap (front 32) (e ∙ text_of_schedule-cons step steps) ∙ front-append 32 (text_of_step step) (behind_first steps) (lacks-step step k.0) (behind_first_begins steps))
next_word (b ∷ before) rest step [] h k e =
    let same = first_cut b step (32 ∷ (steps_and_blanks before ++ rest)) [] h.0 k.0 refl tt (sym (steps_and_blanks-cons b before rest) ∙ e ∙ text_of_schedule-cons step []) in
    let none : 32 ∷ (steps_and_blanks before ++ rest) ≡ [] = same.1 in cc
next_word (b ∷ before) rest step (s ∷ steps) h k e =
    let same = first_cut b step (32 ∷ (steps_and_blanks before ++ rest)) (32 ∷ text_of_schedule (s ∷ steps)) h.0 k.0 refl refl (sym (steps_and_blanks-cons b before rest) ∙ e) in
    let more : 32 ∷ (steps_and_blanks before ++ rest) ≡ 32 ∷ text_of_schedule (s ∷ steps) = same.1 in
    next_word before rest s steps h.1 k.1 cc

-- a text with a bad step is the text of none
pub no_schedule : (text : List ℕ) (at : ℕ) → IsFirstBadStep text at → (steps : List Step) → AreLawful steps → text ≡ text_of_schedule steps → ⊥
no_schedule text at b [] h e = absurd (omega (arith, b.not_empty, ap length e))
no_schedule text at b (step ∷ steps) h e =
    let next = next_word b.before b.rest step steps b.lawful h (sym b.parts ∙ e) in
    b.bad next.0 next.1 next.2

-- What is read is the schedule with this text, and where there is one, no step is bad.
pub reads_only : {V : Type 0} (items : V → List Step) (text : List ℕ) (result : Result V ScheduleFault)
    → IfOk result (λ v. AreLawful (items v) × (text ≡ text_of_schedule (items v)))
    → ((at : ℕ) → IsErrOf result (BadStep at) → IsFirstBadStep text at)
    → (steps : List Step) → AreLawful steps → text ≡ text_of_schedule steps
    → MatchResult result (λ v. items v ≡ steps) (λ fault. fault ≡ Memory)
reads_only items text (Ok v) ok bad steps h e = schedule_injective (items v) steps ok.0 h (sym ok.1 ∙ e)
reads_only items text (Err (BadStep at)) ok bad steps h e = absurd (no_schedule text at (bad at refl) steps h e)
reads_only items text (Err Memory) ok bad steps h e = refl
