-- The lines of a text.
use Rattle.std.specs.Prelude.{◌==◌, ℕ, zero, suc, ◌+◌, ◌≤◌, List, [], ◌∷◌, if◌then◌else◌}

-- how many line ends are in a text
abbrev pub ends_in : List ℕ → ℕ
ends_in [] = 0
ends_in (byte ∷ bytes) = (if byte == 10 then 1 else 0) + ends_in bytes

-- a line of a text, counted from 1: one after each line end, and the first
abbrev pub IsLine : List ℕ → ℕ → Type 0
IsLine text line = (1 ≤ line) × (line ≤ ends_in text + 1)

-- its first so many lines, each with its end; the last one may have none
abbrev pub first_lines : List ℕ → ℕ → List ℕ
first_lines [] n = []
first_lines (byte ∷ bytes) zero = []
first_lines (byte ∷ bytes) (suc n) = byte ∷ first_lines bytes (if byte == 10 then n else suc n)
