-- The texts of numbers after dots, and the numbers that are read of one.
use Rattle.std.proofs.Common.{◌≡◌, ◌==◌, ℕ, ◌<◌, ◌^◌, false, List, [], ◌∷◌, ◌++◌, ap, ap₂, sym, refl, ◌∙◌, arith, ne_eqb, append_assoc, append-nil}
use Rattle.std.proofs.lemmas.Fmt.{decimal_injective, decimal_digit}
use Rattle.std.specs.Fmt.{decimal}
use Rattle.term_core.proofs.Pieces.{Lacks, Begins, front, behind, front-append-behind, front-append, behind-append, one_cut, all-append, all_weaker}
use Rattle.term_core.proofs.NumberTexts.{IsDigit, all_digits-decimal}
use Rattle.term_reader.specs.Lawful.{AreNumbers}
use Rattle.term_reader.specs.inside.Leaves.{text_of_numbers}

-- the text of a number has no dot
lacks_dot : (n : ℕ) → n < 2 ^ 64 → Lacks 46 (decimal n)
lacks_dot n h = all_weaker IsDigit (λ b. (b == 46) ≡ false) (λ b d. ne_eqb b 46 (λ e. absurd (omega arith))) (decimal n) (all_digits-decimal n h)

pub numbers_begin : (ns : List ℕ) → Begins 46 (text_of_numbers ns)
numbers_begin [] = tt
numbers_begin (n ∷ ns) = refl

-- The numbers that were read of a text have 64 bits, the rest follows them, and where the text is
-- that of such numbers, the rest is the text of some of them.
pub record ReadsNumbers (text numbers rest : List ℕ) : Type 0 where
  pub lawful : AreNumbers numbers
  pub parts : text ≡ text_of_numbers numbers ++ rest
  pub left : (ns : List ℕ) → AreNumbers ns → text ≡ text_of_numbers ns → (ms : List ℕ) × AreNumbers ms × (rest ≡ text_of_numbers ms)

pub reads_none : (text : List ℕ) → ReadsNumbers text [] text
reads_none text = record { lawful = tt; parts = refl; left = λ ns h e. (ns, h, e) }

-- the first of the numbers that this text writes, and the rest of them
record Next (tail : List ℕ) : Type 0 where
  number : ℕ
  others : List ℕ
  lawful : number < 2 ^ 64
  all : AreNumbers others
  digits : front 46 tail ≡ decimal number
  rest : behind 46 tail ≡ text_of_numbers others

next_of : (b : ℕ) (tail ms : List ℕ) → AreNumbers ms → b ∷ tail ≡ text_of_numbers ms → (b ≡ 46) × Next tail
next_of b tail [] h e = cc
next_of b tail (m ∷ ms) h e =
    let same : tail ≡ decimal m ++ text_of_numbers ms = cc in (
      cc,
      record {
        number = m;
        others = ms;
        lawful = h.0;
        all = h.1;
        digits = ap (front 46) same ∙ front-append 46 (decimal m) (text_of_numbers ms) (lacks_dot m h.0) (numbers_begin ms);
        rest = ap (behind 46) same ∙ behind-append 46 (decimal m) (text_of_numbers ms) (lacks_dot m h.0) (numbers_begin ms);
      },
    )

next_in : (text numbers tail : List ℕ) (b : ℕ) → ReadsNumbers text numbers (b ∷ tail) → (ns : List ℕ) → AreNumbers ns → text ≡ text_of_numbers ns → (b ≡ 46) × Next tail
next_in text numbers tail b r ns h e = let l = r.left ns h e in next_of b tail l.0 l.1 l.2

pub text_of_numbers-push : (ns : List ℕ) (n : ℕ) (rest : List ℕ) → text_of_numbers (ns ++ n ∷ []) ++ rest ≡ text_of_numbers ns ++ 46 ∷ (decimal n ++ rest)
text_of_numbers-push [] n rest = ap (λ ds. 46 ∷ (ds ++ rest)) (append-nil (decimal n))
text_of_numbers-push (m ∷ ms) n rest =
    append_assoc (46 ∷ decimal m) (text_of_numbers (ms ++ n ∷ [])) rest
    ∙ ap (λ t. (46 ∷ decimal m) ++ t) (text_of_numbers-push ms n rest)
    ∙ sym (append_assoc (46 ∷ decimal m) (text_of_numbers ms) (46 ∷ (decimal n ++ rest)))

-- one more number
pub reads_more : (text numbers tail : List ℕ) (n : ℕ) → ReadsNumbers text numbers (46 ∷ tail) → n < 2 ^ 64 → front 46 tail ≡ decimal n → ReadsNumbers text (numbers ++ n ∷ []) (behind 46 tail)
reads_more text numbers tail n r h e =
    let cut : tail ≡ decimal n ++ behind 46 tail = sym (front-append-behind 46 tail) ∙ ap (λ ds. ds ++ behind 46 tail) e in
    record {
      lawful = all-append (λ k. k < 2 ^ 64) numbers (n ∷ []) r.lawful (h, tt);
      parts = r.parts ∙ ap (λ t. text_of_numbers numbers ++ 46 ∷ t) cut ∙ sym (text_of_numbers-push numbers n (behind 46 tail));
      left = λ ns l f. let next = (next_in text numbers tail 46 r ns l f).1 in (next.others, next.all, next.rest);
    }

-- no numbers where no dot follows
pub no_dot : (text numbers tail : List ℕ) (b : ℕ) → ReadsNumbers text numbers (b ∷ tail) → (b ≡ 46 → ⊥) → (ns : List ℕ) → AreNumbers ns → text ≡ text_of_numbers ns → ⊥
no_dot text numbers tail b r other ns h e = other (next_in text numbers tail b r ns h e).0

-- none where no number follows the dot
pub no_digits : (text numbers tail : List ℕ) → ReadsNumbers text numbers (46 ∷ tail) → ((n : ℕ) → n < 2 ^ 64 → front 46 tail ≡ decimal n → ⊥) → (ns : List ℕ) → AreNumbers ns → text ≡ text_of_numbers ns → ⊥
no_digits text numbers tail r other ns h e = let next = (next_in text numbers tail 46 r ns h e).1 in other next.number next.lawful next.digits

-- numbers with one text are the same
pub numbers_injective : (xs ys : List ℕ) → AreNumbers xs → AreNumbers ys → text_of_numbers xs ≡ text_of_numbers ys → xs ≡ ys
numbers_injective [] [] h k e = refl
numbers_injective [] (y ∷ ys) h k e = cc
numbers_injective (x ∷ xs) [] h k e = cc
numbers_injective (x ∷ xs) (y ∷ ys) h k e =
    let same = one_cut 46 (decimal x) (text_of_numbers xs) (decimal y) (text_of_numbers ys) (lacks_dot x h.0) (numbers_begin xs) (lacks_dot y k.0) (numbers_begin ys) (cc) in
    ap₂ ◌∷◌ (decimal_injective x y h.0 k.0 same.0) (numbers_injective xs ys h.1 k.1 same.1)

pub zero_text : decimal 0 ≡ 48 ∷ []
zero_text = decimal_digit 0 (omega arith)
