-- The texts of steps, and how one is cut at the `>`.
use Rattle.std.proofs.Common.{◌≡◌, ◌==◌, ℕ, false, List, [], ◌∷◌, ◌++◌, length, inl, inr, ap, ap₂, sym, refl, ◌∙◌, subst, arith, append-nil, eqb-true}
use Rattle.term_core.proofs.Pieces.{Lacks, Begins, front, behind, front-append-behind, front-append, behind-append, behind_begins, all-append}
use Rattle.term_core.proofs.PidTexts.{lacks-pid, pid_injective}
use Rattle.term_core.specs.Schedule.{IsLawfulPid, IsLawfulStep}
use Rattle.term_core.specs.Text.{text_of_pid, text_of_step}
use Rattle.term_core.specs.declared.step.Step.{Step}
use Rattle.term_core.specs.declared.step.Step.TheVariants.{Turn, Deliver}

-- the pid of a turn, or the first of a delivery
abbrev pub first_pid : Step → List ℕ
first_pid (Turn pid) = pid
first_pid (Deliver from to) = from

-- what follows it
abbrev pub second_text : Step → List ℕ
second_text (Turn pid) = []
second_text (Deliver from to) = 62 ∷ text_of_pid to

pub first_lawful : (step : Step) → IsLawfulStep step → IsLawfulPid (first_pid step)
first_lawful (Turn pid) h = h
first_lawful (Deliver from to) h = h.0

parts_of_step : (step : Step) → text_of_step step ≡ text_of_pid (first_pid step) ++ second_text step
parts_of_step (Turn pid) = sym (append-nil (text_of_pid pid))
parts_of_step (Deliver from to) = refl

second_begins : (step : Step) → Begins 62 (second_text step)
second_begins (Turn pid) = tt
second_begins (Deliver from to) = refl

lacks_mark : (step : Step) → IsLawfulStep step → Lacks 62 (text_of_pid (first_pid step))
lacks_mark step h = lacks-pid 62 (inr (omega arith)) refl (first_pid step) (first_lawful step h)

pub front-step : (step : Step) → IsLawfulStep step → front 62 (text_of_step step) ≡ text_of_pid (first_pid step)
front-step step h = ap (front 62) (parts_of_step step) ∙ front-append 62 (text_of_pid (first_pid step)) (second_text step) (lacks_mark step h) (second_begins step)

pub behind-step : (step : Step) → IsLawfulStep step → behind 62 (text_of_step step) ≡ second_text step
behind-step step h = ap (behind 62) (parts_of_step step) ∙ behind-append 62 (text_of_pid (first_pid step)) (second_text step) (lacks_mark step h) (second_begins step)

-- no step where no pid comes before the `>`
pub no_first : (word : List ℕ) → ((pid : List ℕ) → IsLawfulPid pid → front 62 word ≡ text_of_pid pid → ⊥) → (step : Step) → IsLawfulStep step → word ≡ text_of_step step → ⊥
no_first word none step h e = none (first_pid step) (first_lawful step h) (ap (front 62) e ∙ front-step step h)

-- nor where none follows it
pub no_second : (word to : List ℕ) (b : ℕ) → behind 62 word ≡ b ∷ to → ((pid : List ℕ) → IsLawfulPid pid → to ≡ text_of_pid pid → ⊥) → (step : Step) → IsLawfulStep step → word ≡ text_of_step step → ⊥
no_second word to b e none (Turn pid) h f = let g : b ∷ to ≡ [] = sym e ∙ ap (behind 62) f ∙ behind-step (Turn pid) h in cc
no_second word to b e none (Deliver p q) h f =
    let g : b ∷ to ≡ 62 ∷ text_of_pid q = sym e ∙ ap (behind 62) f ∙ behind-step (Deliver p q) h in
    none q h.1 (cc)

pub no_bytes : (bytes : List ℕ) → length bytes ≡ 0 → bytes ≡ []
no_bytes [] e = refl
no_bytes (x ∷ xs) e = absurd (omega arith)

-- two pids with a `>` between them are a delivery
pub reads_delivery : (word from to rest : List ℕ) (b : ℕ) → front 62 word ≡ text_of_pid from → behind 62 word ≡ b ∷ rest → rest ≡ text_of_pid to → IsLawfulPid from → IsLawfulPid to → IsLawfulStep (Deliver from to) × (word ≡ text_of_step (Deliver from to))
reads_delivery word from to rest b e f g h k =
    let mark : b ≡ 62 = eqb-true b 62 (subst (Begins 62) f (behind_begins 62 word)) in
    ((h, k), sym (front-append-behind 62 word) ∙ ap₂ ◌++◌ e (f ∙ ap₂ ◌∷◌ mark g))

-- the text of a lawful step has no blank
pub lacks-step : (step : Step) → IsLawfulStep step → Lacks 32 (text_of_step step)
lacks-step (Turn pid) h = lacks-pid 32 (inl (omega arith)) refl pid h
lacks-step (Deliver from to) h = all-append (λ b. (b == 32) ≡ false) (text_of_pid from) (62 ∷ text_of_pid to) (lacks-pid 32 (inl (omega arith)) refl from h.0) (refl, lacks-pid 32 (inl (omega arith)) refl to h.1)

pub nonempty_step : (step : Step) (rest : List ℕ) → [] ≡ text_of_step step ++ rest → ⊥
nonempty_step (Turn pid) rest e = cc
nonempty_step (Deliver from to) rest e = cc

same_steps : (x y : Step) → IsLawfulStep x → IsLawfulStep y → first_pid x ≡ first_pid y → second_text x ≡ second_text y → x ≡ y
same_steps (Turn p) (Turn q) h k e f = ap Turn e
same_steps (Turn p) (Deliver a b) h k e f = cc
same_steps (Deliver a b) (Turn q) h k e f = cc
same_steps (Deliver a b) (Deliver c d) h k e f = ap₂ Deliver e (pid_injective b d h.1 k.1 cc)

-- two lawful steps with one text are one
pub step_injective : (x y : Step) → IsLawfulStep x → IsLawfulStep y → text_of_step x ≡ text_of_step y → x ≡ y
step_injective x y h k e = same_steps x y h k
    (pid_injective (first_pid x) (first_pid y) (first_lawful x h) (first_lawful y k) (sym (front-step x h) ∙ ap (front 62) e ∙ front-step y k))
    (sym (behind-step x h) ∙ ap (behind 62) e ∙ behind-step y k)
