-- The texts of pids, and the numbers that are read of one.
use Rattle.std.proofs.Common.{◌≡◌, ◌==◌, ◌⊎◌, ℕ, ◌≤◌, ◌<◌, false, List, [], ◌∷◌, ◌++◌, inl, inr, ap, sym, refl, ap₂, ◌∙◌, arith, ne_eqb, append_assoc, append-nil}
use Rattle.std.proofs.lemmas.Fmt.{decimal_injective}
use Rattle.std.specs.Fmt.{decimal}
use Rattle.std.specs.List.{flat_map, AllByRecursion}
use Rattle.term_core.proofs.Pieces.{Lacks, Begins, front, behind, front-append-behind, front-append, behind-append, one_cut, all-append, all_weaker}
use Rattle.term_core.proofs.NumberTexts.{IsDigit, all_digits-decimal}
use Rattle.term_core.specs.Schedule.{IsLawfulNumber, IsLawfulPid}
use Rattle.term_core.specs.Text.{text_of_pid}

-- each number after a dot
abbrev pub text_of_numbers : List ℕ → List ℕ
text_of_numbers numbers = flat_map (λ n. 46 ∷ decimal n) numbers

-- bytes of a pid's text after the `P` are dots and digits
abbrev pub IsPidByte : ℕ → Type 0
IsPidByte b = (46 ≤ b) × (b ≤ 57)

pub all_pid_bytes : (ns : List ℕ) → IsLawfulPid ns → AllByRecursion IsPidByte (text_of_numbers ns)
all_pid_bytes [] h = tt
all_pid_bytes (n ∷ ns) h =
    let digits = all_weaker IsDigit IsPidByte (λ b d. (omega arith, omega arith)) (decimal n) (all_digits-decimal n h.0.1) in
    ((omega arith, omega arith), all-append IsPidByte (decimal n) (text_of_numbers ns) digits (all_pid_bytes ns h.1))

-- the text of a lawful pid has no blank and no `>`
pub lacks-pid : (mark : ℕ) → (mark < 46) ⊎ (57 < mark) → (80 == mark) ≡ false → (ns : List ℕ) → IsLawfulPid ns → Lacks mark (text_of_pid ns)
lacks-pid mark other no_P ns h =
    (no_P, all_weaker IsPidByte (λ b. (b == mark) ≡ false) (λ b p. ne_eqb b mark (λ e. elim other [ inl low ↦ absurd (omega arith) | inr high ↦ absurd (omega arith) ])) (text_of_numbers ns) (all_pid_bytes ns h))

-- nor has the text of a lawful number a dot
pub lacks-number : (n : ℕ) → IsLawfulNumber n → Lacks 46 (decimal n)
lacks-number n h = all_weaker IsDigit (λ b. (b == 46) ≡ false) (λ b d. ne_eqb b 46 (λ e. absurd (omega arith))) (decimal n) (all_digits-decimal n h.1)

pub numbers_begin : (ns : List ℕ) → Begins 46 (text_of_numbers ns)
numbers_begin [] = tt
numbers_begin (n ∷ ns) = refl

-- The numbers that were read of a text are lawful, the rest follows them, and where the text is
-- that of a lawful pid, the rest is the text of some of its numbers.
pub record ReadsPid (text numbers rest : List ℕ) : Type 0 where
  pub lawful : IsLawfulPid numbers
  pub parts : text ≡ text_of_pid numbers ++ rest
  pub left : (ns : List ℕ) → IsLawfulPid ns → text ≡ text_of_pid ns → (ms : List ℕ) × IsLawfulPid ms × (rest ≡ text_of_numbers ms)

-- the first of the numbers that this text writes, and the rest of them
record Next (tail : List ℕ) : Type 0 where
  number : ℕ
  others : List ℕ
  lawful : IsLawfulNumber number
  all : IsLawfulPid others
  digits : front 46 tail ≡ decimal number
  rest : behind 46 tail ≡ text_of_numbers others

next_of : (b : ℕ) (tail ms : List ℕ) → IsLawfulPid ms → b ∷ tail ≡ text_of_numbers ms → (b ≡ 46) × Next tail
next_of b tail [] h e = cc
next_of b tail (m ∷ ms) h e =
    let same : tail ≡ decimal m ++ text_of_numbers ms = cc in (
      cc,
      record {
        number = m;
        others = ms;
        lawful = h.0;
        all = h.1;
        digits = ap (front 46) same ∙ front-append 46 (decimal m) (text_of_numbers ms) (lacks-number m h.0) (numbers_begin ms);
        rest = ap (behind 46) same ∙ behind-append 46 (decimal m) (text_of_numbers ms) (lacks-number m h.0) (numbers_begin ms);
      },
    )

next_in : (text numbers tail : List ℕ) (b : ℕ) → ReadsPid text numbers (b ∷ tail) → (ns : List ℕ) → IsLawfulPid ns → text ≡ text_of_pid ns → (b ≡ 46) × Next tail
next_in text numbers tail b r ns h e = let l = r.left ns h e in next_of b tail l.0 l.1 l.2

text_of_numbers-push : (ns : List ℕ) (n : ℕ) (rest : List ℕ) → text_of_numbers (ns ++ n ∷ []) ++ rest ≡ text_of_numbers ns ++ 46 ∷ (decimal n ++ rest)
text_of_numbers-push [] n rest = ap (λ ds. 46 ∷ (ds ++ rest)) (append-nil (decimal n))
text_of_numbers-push (m ∷ ms) n rest =
    append_assoc (46 ∷ decimal m) (text_of_numbers (ms ++ n ∷ [])) rest
    ∙ ap (λ t. (46 ∷ decimal m) ++ t) (text_of_numbers-push ms n rest)
    ∙ sym (append_assoc (46 ∷ decimal m) (text_of_numbers ms) (46 ∷ (decimal n ++ rest)))

-- one more number
pub reads_more : (text numbers tail : List ℕ) (n : ℕ) → ReadsPid text numbers (46 ∷ tail) → IsLawfulNumber n → front 46 tail ≡ decimal n → ReadsPid text (numbers ++ n ∷ []) (behind 46 tail)
reads_more text numbers tail n r h e =
    let cut : tail ≡ decimal n ++ behind 46 tail = sym (front-append-behind 46 tail) ∙ ap (λ ds. ds ++ behind 46 tail) e in
    record {
      lawful = all-append IsLawfulNumber numbers (n ∷ []) r.lawful (h, tt);
      parts = r.parts ∙ ap (λ t. text_of_pid numbers ++ 46 ∷ t) cut ∙ ap (λ t. 80 ∷ t) (sym (text_of_numbers-push numbers n (behind 46 tail)));
      left = λ ns l f. let next = (next_in text numbers tail 46 r ns l f).1 in (next.others, next.all, next.rest);
    }

-- no pid where no dot follows
pub no_dot : (text numbers tail : List ℕ) (b : ℕ) → ReadsPid text numbers (b ∷ tail) → (b ≡ 46 → ⊥) → (ns : List ℕ) → IsLawfulPid ns → text ≡ text_of_pid ns → ⊥
no_dot text numbers tail b r other ns h e = other (next_in text numbers tail b r ns h e).0

-- no pid where no number follows the dot
pub no_digits : (text numbers tail : List ℕ) → ReadsPid text numbers (46 ∷ tail) → ((n : ℕ) → IsLawfulNumber n → front 46 tail ≡ decimal n → ⊥) → (ns : List ℕ) → IsLawfulPid ns → text ≡ text_of_pid ns → ⊥
no_digits text numbers tail r other ns h e = let next = (next_in text numbers tail 46 r ns h e).1 in other next.number next.lawful next.digits

numbers_injective : (xs ys : List ℕ) → IsLawfulPid xs → IsLawfulPid ys → text_of_numbers xs ≡ text_of_numbers ys → xs ≡ ys
numbers_injective [] [] h k e = refl
numbers_injective [] (y ∷ ys) h k e = cc
numbers_injective (x ∷ xs) [] h k e = cc
numbers_injective (x ∷ xs) (y ∷ ys) h k e =
    let same = one_cut 46 (decimal x) (text_of_numbers xs) (decimal y) (text_of_numbers ys) (lacks-number x h.0) (numbers_begin xs) (lacks-number y k.0) (numbers_begin ys) (cc) in
    ap₂ ◌∷◌ (decimal_injective x y h.0.1 k.0.1 same.0) (numbers_injective xs ys h.1 k.1 same.1)

-- two lawful pids with one text are one
pub pid_injective : (xs ys : List ℕ) → IsLawfulPid xs → IsLawfulPid ys → text_of_pid xs ≡ text_of_pid ys → xs ≡ ys
pid_injective xs ys h k e = numbers_injective xs ys h k cc
