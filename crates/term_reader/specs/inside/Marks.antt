-- What is open while a term is read, and what the bytes that are left have to be.
use Rattle.std.specs.Prelude.{◌≡◌, ◌≢◌, ◌⊎◌, ℕ, ◌+◌, ◌≤◌, ◌<◌, List, [], ◌∷◌, ◌++◌, map, length, slice_index, Result, MatchResult}
use Rattle.term_core.specs.Meaning.{Meaning, Meanings, Also, Cons}
use Rattle.term_core.specs.Meaning as terms
use Rattle.term_core.specs.Term.{meaning_of, list_onto}
use Rattle.term_core.specs.TermText.{text_of_term, text_of_tail, text_of_others}
use Rattle.term_reader.specs.Height.{height}
use Rattle.term_reader.specs.Lawful.{IsLawful, AreLawful, MayRefuse, closed_by, item_of}
use Rattle.term_reader.specs.inside.Leaves.{IsAlike}
use Rattle.term_reader.specs.declared.brackets.Open.{Open}
use Rattle.term_reader.specs.declared.brackets.Open.TheVariants as opens
use Rattle.term_reader.specs.declared.brackets.State.{State}
use Rattle.term_reader.specs.declared.brackets.State.TheVariants.{Wanted, Found}
use Rattle.term_reader.specs.declared.fault.TermFault.{TermFault}
use Rattle.term_reader.specs.declared.fault.TermFault.TheVariants.{BadTerm, TooDeep, Memory}

-- what is open, with the terms that were read in it
pub data Opened : Type 0 where
  InTuple : (parts : List Meaning) → Opened
  InList : (heads : List Meaning) → Opened
  InTail : (heads : List Meaning) (head : Meaning) → Opened

abbrev pub open_in : Open → Opened
open_in (opens.Tuple parts) = InTuple parts
open_in (opens.List heads) = InList (map meaning_of heads.items)
open_in (opens.Tail heads head) = InTail (map meaning_of heads.items) (meaning_of head)

-- all that is open, the last first
abbrev pub opened_in : List Open → List Opened
opened_in [] = []
opened_in (first ∷ later) = opened_in later ++ open_in first ∷ []

-- some parts, and those that follow
abbrev pub parts_onto : List Meaning → Meanings → Meanings
parts_onto [] others = others
parts_onto (part ∷ parts) others = Also part (parts_onto parts others)

-- the term has its place in what is open, the bytes are left, and the whole is this term
pub data Continues : List Opened → Meaning → List ℕ → Meaning → Type 0 where
  AtEnd : {term : Meaning} {rest : List ℕ} {whole : Meaning} → whole ≡ term → rest ≡ [] → Continues [] term rest whole
  AmongParts : {parts : List Meaning} {outer : List Opened} {term : Meaning} {rest : List ℕ} {whole : Meaning} (others : Meanings) (behind : List ℕ)
      → AreLawful others → rest ≡ text_of_others others ++ behind → Continues outer (terms.Tuple (parts_onto parts (Also term others))) behind whole
      → Continues (InTuple parts ∷ outer) term rest whole
  AmongHeads : {heads : List Meaning} {outer : List Opened} {term : Meaning} {rest : List ℕ} {whole : Meaning} (tail : Meaning) (behind : List ℕ)
      → IsLawful tail → rest ≡ text_of_tail tail ++ behind → Continues outer (list_onto heads (Cons term tail)) behind whole
      → Continues (InList heads ∷ outer) term rest whole
  AsTail : {heads : List Meaning} {head : Meaning} {outer : List Opened} {term : Meaning} {rest : List ℕ} {whole : Meaning} (behind : List ℕ)
      → rest ≡ 93 ∷ behind → Continues outer (list_onto heads (Cons head term)) behind whole
      → Continues (InTail heads head ∷ outer) term rest whole

-- some term begins the bytes that are left, has its place in what is open, and the whole is this term
pub record Begins (outer : List Opened) (rest : List ℕ) (whole : Meaning) : Type 0 where
  pub term : Meaning
  pub behind : List ℕ
  pub lawful : IsLawful term
  pub text : rest ≡ text_of_term term ++ behind
  pub next : Continues outer term behind whole

-- the bytes that are left
abbrev pub rest_of : State → List ℕ
rest_of (Wanted outer rest) = rest.now
rest_of (Found outer term rest) = rest.now

-- the terms that the whole can be, if these bytes were left
abbrev pub MeansAt : State → List ℕ → Meaning → Type 0
MeansAt (Wanted outer rest) = Begins (opened_in outer.items)
MeansAt (Found outer term rest) = Continues (opened_in outer.items) (meaning_of term)

-- the terms that the whole can be
abbrev pub Means : State → Meaning → Type 0
Means state = MeansAt state (rest_of state)

-- the whole can be the same terms
pub record IsSame (P Q : Meaning → Type 0) : Type 0 where
  pub to : (m : Meaning) → P m → Q m
  pub from : (m : Meaning) → Q m → P m

-- other bytes that can replace these: they begin with the same byte, or with no bracket
abbrev pub IsLike : List ℕ → List ℕ → Type 0
IsLike rest other = (slice_index other 0 ≡ slice_index rest 0) ⊎ (slice_index other 0 ≢ 91)

-- what a step results in: the whole can be the same terms as before, also if other bytes were left, and fewer are left
pub record GoesOn (before : List ℕ → Meaning → Type 0) (rest : List ℕ) (state : State) : Type 0 where
  pub read : List ℕ
  pub parts : rest ≡ read ++ rest_of state
  pub less : length (rest_of state) < length rest
  pub same : IsSame (before rest) (Means state)
  pub wider : (left : List ℕ) (m : Meaning) → IsLike (rest_of state) left → MeansAt state left m → before (read ++ left) m
  pub back : (left : List ℕ) (m : Meaning) → IsAlike (rest_of state) left → before (read ++ left) m → MeansAt state left m

-- the mark at which these bytes begin opens too much: with it something goes on, and, unless it is closed at once, only terms higher than 10,000
pub record DeepAt (before : List ℕ → Meaning → Type 0) (rest text : List ℕ) (at : ℕ) : Type 0 where
  pub mark : ℕ
  pub behind : List ℕ
  pub left : List ℕ
  pub term : Meaning
  pub parts : rest ≡ mark ∷ behind
  pub place : at + length behind ≡ length text
  pub opens : (mark ≡ 91) ⊎ (mark ≡ 123)
  pub stays : slice_index behind 0 ≢ closed_by mark
  pub goes_on : before (mark ∷ left) term
  pub deep : (other : List ℕ) (m : Meaning) → slice_index other 0 ≢ closed_by mark → before (mark ∷ other) m → 10000 < height m

-- a fault where these bytes are left of the text: what comes before can go on, and with the item at that place nothing does
pub record BadAt (before : List ℕ → Meaning → Type 0) (rest text : List ℕ) (at : ℕ) : Type 0 where
  pub read : List ℕ
  pub behind : List ℕ
  pub left : List ℕ
  pub term : Meaning
  pub parts : rest ≡ read ++ behind
  pub place : at + length behind ≡ length text + 1
  pub like : IsLike rest (read ++ left)
  pub goes_on : before (read ++ left) term
  pub bad : (other : List ℕ) (m : Meaning) → item_of other ≡ item_of behind → before (read ++ other) m → ⊥

abbrev pub Lies : (List ℕ → Meaning → Type 0) → List ℕ → List ℕ → TermFault → Type 0
Lies before rest text (BadTerm at) = BadAt before rest text at
Lies before rest text (TooDeep at) = DeepAt before rest text at
Lies before rest text Memory = Unit {0}

-- or a fault, which each term that the whole can be may have
pub record Refuses (before : List ℕ → Meaning → Type 0) (rest text : List ℕ) (fault : TermFault) : Type 0 where
  pub place : Lies before rest text fault
  pub refuses : (m : Meaning) → before rest m → MayRefuse m fault

abbrev pub Follows : (List ℕ → Meaning → Type 0) → List ℕ → List ℕ → Result State TermFault → Type 0
Follows before rest text result = MatchResult result (GoesOn before rest) (Refuses before rest text)

-- what more is refused in what is open: all, where it is too much
abbrev pub IsTooMuch : List Opened → TermFault → Type 0
IsTooMuch outer (BadTerm at) = ⊥
IsTooMuch outer (TooDeep at) = 10000 ≤ length outer
IsTooMuch outer Memory = Unit {0}

-- the place of a fault is that of the byte before those that are left
abbrev pub IsBefore : List ℕ → List ℕ → TermFault → Type 0
IsBefore behind text (BadTerm at) = at + length behind ≡ length text
IsBefore behind text (TooDeep at) = at + length behind ≡ length text
IsBefore behind text Memory = Unit {0}

-- one more is open, or that was too much, at the byte before those that are left
abbrev pub GoesIn : List Opened → Opened → List ℕ → List ℕ → Result State TermFault → Type 0
GoesIn outer next behind text result = MatchResult result
    (λ state. ((left : List ℕ) → IsSame (Begins (next ∷ outer) left) (MeansAt state left)) × (rest_of state ≡ behind))
    (λ fault. IsBefore behind text fault × IsTooMuch outer fault)
