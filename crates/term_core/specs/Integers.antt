-- The integers of the explored programs.
use Rattle.std.specs.Prelude.{ℤ, pos, negsuc, ◌^◌, nat_lt, Bool}

-- whether an integer has 64 bits with its sign: from -2^63 to 2^63 - 1 (`negsuc n` is -(n + 1))
abbrev pub has_64_bits : ℤ → Bool
has_64_bits (pos n) = nat_lt n (2 ^ 63)
has_64_bits (negsuc n) = nat_lt n (2 ^ 63)
