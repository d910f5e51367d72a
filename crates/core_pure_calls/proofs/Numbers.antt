-- Absolute values of integers of 64 bits.
use Rattle.std.proofs.Common.{ℕ, zero, suc, ℤ, pos, negsuc, neg_ℤ, arith, Option, Some, None}
use Rattle.std.specs.Prelude.{SomeIff, FitsSigned, unsigned_abs}
use Rattle.std.specs.Int.{w64}

-- the negative of a natural number fits where the number does
negative_fits : (n : ℕ) → FitsSigned w64 (pos n) → FitsSigned w64 (neg_ℤ (pos n))
negative_fits zero h = h
negative_fits (suc n) h = record { sfits = omega (arith, h.sfits) }

of_natural : (n : ℕ) (number : Option ℤ) → FitsSigned w64 (pos n) → SomeIff number (FitsSigned w64 (neg_ℤ (pos n))) (pos n) → SomeIff number (FitsSigned w64 (pos n)) (pos n)
of_natural n None h k = absurd (k (negative_fits n h))
of_natural n (Some x) h k = (h, k.1)

-- what `checked_abs` gives is the absolute value, if that fits
pub absolute_fits : (a : ℤ) (number : Option ℤ) → FitsSigned w64 a → SomeIff number (FitsSigned w64 (neg_ℤ a)) (pos (unsigned_abs a)) → SomeIff number (FitsSigned w64 (pos (unsigned_abs a))) (pos (unsigned_abs a))
absolute_fits (pos n) number h k = of_natural n number h k
absolute_fits (negsuc n) number h k = k
