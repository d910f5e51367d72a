-- Arithmetic (Erlang reference manual, "Arithmetic Expressions"), on integers of 64 bits: what is no integer is refused before what is out of range.
use Rattle.std.specs.Prelude.{ℤ, pos, ◌+ℤ◌, ◌-ℤ◌, ◌*ℤ◌, neg_ℤ, unsigned_abs, int_div, int_rem, Option, Some, None, codes, if◌then◌else◌}
use Rattle.std.specs.Int.{w64, int_bit_and, int_bit_or, int_bit_xor, int_bit_not}
use Rattle.std.specs.Ordering.{int_eq}
use Rattle.term_core.specs.Meaning.{Meaning, Int}
use Rattle.core_pure_calls.specs.Answers.{Answer, Value, error, whole, wrong_argument, integer_in}

-- the error of a term that is not a number
abbrev pub wrong_number : Answer
wrong_number = error (codes "badarith")

-- what is done with two integers, if both terms are integers
abbrev pub with_integers : (ℤ → ℤ → Answer) → Option ℤ → Option ℤ → Answer
with_integers f (Some a) (Some b) = f a b
with_integers f a b = wrong_number

-- the same with one
abbrev pub with_integer : (ℤ → Answer) → Answer → Option ℤ → Answer
with_integer f otherwise (Some a) = f a
with_integer f otherwise None = otherwise

-- `+/2`
abbrev pub sum : Meaning → Meaning → Answer
sum m n = with_integers (λ a b. whole (a +ℤ b)) (integer_in m) (integer_in n)

-- `-/2`
abbrev pub difference : Meaning → Meaning → Answer
difference m n = with_integers (λ a b. whole (a -ℤ b)) (integer_in m) (integer_in n)

-- `*/2`
abbrev pub product : Meaning → Meaning → Answer
product m n = with_integers (λ a b. whole (a *ℤ b)) (integer_in m) (integer_in n)

-- `+/1`
abbrev pub plus_of : Meaning → Answer
plus_of m = with_integer (λ a. Value (Int a)) wrong_number (integer_in m)

-- `-/1`
abbrev pub negative : Meaning → Answer
negative m = with_integer (λ a. whole (neg_ℤ a)) wrong_number (integer_in m)

-- the quotient of two integers, towards zero; division by 0 has none
abbrev pub quotient_of : ℤ → ℤ → Answer
quotient_of a b = if int_eq b (pos 0) then wrong_number else whole (int_div a b)

-- `div/2`
abbrev pub quotient : Meaning → Meaning → Answer
quotient m n = with_integers quotient_of (integer_in m) (integer_in n)

-- the remainder of that division, with the sign of the dividend; it is never further from 0 than the dividend
abbrev pub remainder_of : ℤ → ℤ → Answer
remainder_of a b = if int_eq b (pos 0) then wrong_number else Value (Int (int_rem a b))

-- `rem/2`
abbrev pub remainder : Meaning → Meaning → Answer
remainder m n = with_integers remainder_of (integer_in m) (integer_in n)

-- `abs/1`; what is no integer is a wrong argument here
abbrev pub absolute : Meaning → Answer
absolute m = with_integer (λ a. whole (pos (unsigned_abs a))) wrong_argument (integer_in m)

-- `band/2`: bits are those of two's complement
abbrev pub bit_and : Meaning → Meaning → Answer
bit_and m n = with_integers (λ a b. Value (Int (int_bit_and w64 a b))) (integer_in m) (integer_in n)

-- `bor/2`
abbrev pub bit_or : Meaning → Meaning → Answer
bit_or m n = with_integers (λ a b. Value (Int (int_bit_or w64 a b))) (integer_in m) (integer_in n)

-- `bxor/2`
abbrev pub bit_xor : Meaning → Meaning → Answer
bit_xor m n = with_integers (λ a b. Value (Int (int_bit_xor w64 a b))) (integer_in m) (integer_in n)

-- `bnot/1`
abbrev pub bit_not : Meaning → Answer
bit_not m = with_integer (λ a. Value (Int (int_bit_not w64 a))) wrong_number (integer_in m)
