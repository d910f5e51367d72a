-- Covers as bytes: a text as lines, the lines of a cover, and the mark after which a cover comes.
use Rattle.std.specs.List.{flat_map, AllByRecursion}
use Rattle.std.specs.Prelude.{◌≡◌, ◌⊎◌, ℕ, ◌==◌, List, [], ◌∷◌, ◌++◌, map, codes, false, if◌then◌else◌, Option, Some, None}
use Rattle.term_core.specs.Schedule.{AreLawful}
use Rattle.term_core.specs.Text.{text_of_schedule}
use Rattle.world_model.specs.Names.{IsAmong}
use Rattle.tree_coverage.specs.Covers.{Lines}

-- ---- the lines of a text

-- a byte before the first line, which is a line of its own where there is no line
abbrev pub with_byte : ℕ → List (List ℕ) → List (List ℕ)
with_byte byte [] = (byte ∷ []) ∷ []
with_byte byte (line ∷ lines) = (byte ∷ line) ∷ lines

-- the lines of a text: the byte 10 ends a line, and what comes after the last of these bytes is a line where it is not empty
abbrev pub lines_in : List ℕ → List (List ℕ)
lines_in [] = []
lines_in (byte ∷ rest) = if byte == 10 then [] ∷ lines_in rest else with_byte byte (lines_in rest)

-- no byte is a line end
abbrev pub HasNoEnd : List ℕ → Type 0
HasNoEnd bytes = AllByRecursion (λ byte. (byte == 10) ≡ false) bytes

-- the line is the first of the text, with its end or as the last one, and this comes after it
pub record IsFirstLine (text line behind : List ℕ) : Type 0 where
  pub parts : (text ≡ line ++ 10 ∷ behind) ⊎ ((text ≡ line) × (behind ≡ []))
  pub is_one : HasNoEnd line

-- ---- the lines of a cover

-- the steps that are taken at each node, each line with its end
abbrev pub text_of_lines : Lines → List ℕ
text_of_lines lines = flat_map (λ line. text_of_schedule line ++ 10 ∷ []) lines

-- the numbers of all pids are those that a text may have
abbrev pub AreLawfulLines : Lines → Type 0
AreLawfulLines [] = Unit {0}
AreLawfulLines (line ∷ lines) = AreLawful line × AreLawfulLines lines

-- the bytes are the text of these lines
pub record SpellsLines (bytes : List ℕ) (lines : Lines) : Type 0 where
  pub lawful : AreLawfulLines lines
  pub spelt : lines_in bytes ≡ map text_of_schedule lines

-- ---- the mark

-- what is alone on the line before a cover
abbrev pub mark : List ℕ
mark = codes "%%cover"

-- what is written after a clean report
abbrev pub text_of_cover : Lines → List ℕ
text_of_cover lines = codes "%%cover\n" ++ text_of_lines lines

-- nothing is there, or the last line is ended
abbrev pub IsAtLineStart : List ℕ → Type 0
IsAtLineStart text = (text ≡ []) ⊎ ((front : List ℕ) × (text ≡ front ++ 10 ∷ []))

-- the text is what comes before its first line that is the mark, that line, and what comes after it
pub record IsCutAtMark (text before behind : List ℕ) : Type 0 where
  pub parts : (text ≡ before ++ (mark ++ 10 ∷ behind)) ⊎ ((text ≡ before ++ mark) × (behind ≡ []))
  pub begins : IsAtLineStart before
  pub is_first : IsAmong mark (lines_in before) → ⊥

-- how a text is cut: a part comes after the first line that is the mark, or no line is the mark
abbrev pub IsCut : (text before : List ℕ) → Option (List ℕ) → Type 0
IsCut text before (Some behind) = IsCutAtMark text before behind
IsCut text before None = (before ≡ text) × (IsAmong mark (lines_in text) → ⊥)
