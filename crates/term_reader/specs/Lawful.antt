-- The terms whose texts are read, and which of them a reader may refuse.
use Rattle.std.specs.Prelude.{◌≡◌, ◌≢◌, ◌⊎◌, ◌==◌, ◌||◌, if◌then◌else◌, ℕ, ◌+◌, ◌<◌, ◌^◌, Bool, true, List, [], ◌∷◌, ◌++◌, length, slice_index, IsUtf8}
use Rattle.std.specs.List.{AllByRecursion, before_first}
use Rattle.term_core.specs.Integers.{has_64_bits}
use Rattle.term_core.specs.Meaning.{Meaning, Meanings, Int, Atom, Ref, Pid, Tuple, Nil, Cons, NoMore, Also}
use Rattle.term_core.specs.TermText.{text_of_term}
use Rattle.term_reader.specs.Height.{height}
use Rattle.term_reader.specs.declared.fault.TermFault.{TermFault}
use Rattle.term_reader.specs.declared.fault.TermFault.TheVariants.{BadTerm, TooDeep, Memory}

-- each number is below 2^64
abbrev pub AreNumbers : List ℕ → Type 0
AreNumbers numbers = AllByRecursion (λ n. n < 2 ^ 64) numbers

-- a term that a program can hold: its integers have 64 bits, the numbers of its pids and references are below 2^64, and the texts of its atoms are UTF-8
abbrev mutual
  pub IsLawful : Meaning → Type 0
  IsLawful (Int n) = has_64_bits n ≡ true
  IsLawful (Atom text) = IsUtf8 text
  IsLawful (Ref pid number) = AreNumbers pid × (number < 2 ^ 64)
  IsLawful (Pid pid) = AreNumbers pid
  IsLawful (Tuple parts) = AreLawful parts
  IsLawful Nil = Unit {0}
  IsLawful (Cons head tail) = IsLawful head × IsLawful tail

  pub AreLawful : Meanings → Type 0
  AreLawful NoMore = Unit {0}
  AreLawful (Also first others) = IsLawful first × AreLawful others

-- the text of a lawful term is refused only for lack of memory, or where the term is higher than 10,000
abbrev pub MayRefuse : Meaning → TermFault → Type 0
MayRefuse m (BadTerm at) = ⊥
MayRefuse m (TooDeep at) = 10000 < height m
MayRefuse m Memory = Unit {0}

-- the marks that can follow a term: `,`, `]`, `|` and `}`
abbrev pub marks : ℕ → Bool
marks byte = (byte == 44) || ((byte == 93) || ((byte == 124) || (byte == 125)))

-- the item at the beginning of some bytes: such a mark; from a quote on all of them; else those before the next mark
abbrev pub item_of : List ℕ → List ℕ
item_of [] = []
item_of (byte ∷ bytes) = if marks byte then byte ∷ [] else (if byte == 39 then byte ∷ bytes else before_first marks (byte ∷ bytes))

-- some bytes can go on to the text of a lawful term
pub record CanGoOn (bytes : List ℕ) : Type 0 where
  pub rest : List ℕ
  pub term : Meaning
  pub lawful : IsLawful term
  pub text : bytes ++ rest ≡ text_of_term term

-- a place of the text, counted from 1, or one past its end: the bytes before it can go on to the text of a lawful term, and with the item at that place to that of none
pub record IsFault (text : List ℕ) (at : ℕ) : Type 0 where
  pub before : List ℕ
  pub behind : List ℕ
  pub parts : text ≡ before ++ behind
  pub place : length before + 1 ≡ at
  pub goes_on : CanGoOn before
  pub bad : (rest : List ℕ) (term : Meaning) → item_of rest ≡ item_of behind → IsLawful term → before ++ rest ≡ text_of_term term → ⊥

-- the mark that closes a list or a tuple, by the one that opens it
abbrev pub closed_by : ℕ → ℕ
closed_by mark = if mark == 91 then 93 else 125

-- the place of a bracket or a brace that is not closed at once: the bytes to it can go on to the text of a lawful term, and, unless it is closed at once, only to terms higher than 10,000
pub record IsTooDeep (text : List ℕ) (at : ℕ) : Type 0 where
  pub before : List ℕ
  pub mark : ℕ
  pub behind : List ℕ
  pub parts : text ≡ before ++ mark ∷ behind
  pub place : length before + 1 ≡ at
  pub opens : (mark ≡ 91) ⊎ (mark ≡ 123)
  pub stays : slice_index behind 0 ≢ closed_by mark
  pub goes_on : CanGoOn (before ++ mark ∷ [])
  pub deep : (rest : List ℕ) (term : Meaning) → slice_index rest 0 ≢ closed_by mark → IsLawful term → before ++ mark ∷ rest ≡ text_of_term term → 10000 < height term

-- a fault has its place
abbrev pub HasPlace : List ℕ → TermFault → Type 0
HasPlace text (BadTerm at) = IsFault text at
HasPlace text (TooDeep at) = IsTooDeep text at
HasPlace text Memory = Unit {0}
