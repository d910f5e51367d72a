-- Bytes that are cut at marks.
use Rattle.std.specs.List.{AllByRecursion, before_first, position_or_len}
use Rattle.std.specs.Prelude.{◌≡◌, ◌==◌, ℕ, true, false, List, [], ◌∷◌, ◌++◌, drop}

-- no byte is the mark
abbrev pub Lacks : ℕ → List ℕ → Type 0
Lacks mark bytes = AllByRecursion (λ byte. (byte == mark) ≡ false) bytes

-- what comes before the first mark, and what comes after it
pub record IsFirstCut (mark : ℕ) (bytes before behind : List ℕ) : Type 0 where
  pub parts : bytes ≡ before ++ mark ∷ behind
  pub lacks : Lacks mark before

-- what comes before the last mark, and what comes after it
pub record IsLastCut (mark : ℕ) (bytes before behind : List ℕ) : Type 0 where
  pub parts : bytes ≡ before ++ mark ∷ behind
  pub lacks : Lacks mark behind

-- nothing, or the mark and more
abbrev pub Begins : ℕ → List ℕ → Type 0
Begins mark [] = Unit {0}
Begins mark (byte ∷ bytes) = (byte == mark) ≡ true

-- what comes before the first mark
abbrev pub front : ℕ → List ℕ → List ℕ
front mark bytes = before_first (λ byte. byte == mark) bytes

-- the rest
abbrev pub behind : ℕ → List ℕ → List ℕ
behind mark bytes = drop (position_or_len (λ byte. byte == mark) bytes) bytes
