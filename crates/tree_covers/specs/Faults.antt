-- What each fault says of the bytes of a cover, and which bytes are a good cover.
use Rattle.std.specs.Prelude.{◌≡◌, ℕ, zero, suc, ◌+◌, Bool, List, [], ◌∷◌, ◌++◌, map, length, Option, Some, None}
use Rattle.term_core.specs.Schedule.{AreLawful}
use Rattle.term_core.specs.Text.{text_of_schedule}
use Rattle.term_core.specs.declared.step.Step.{Step}
use Rattle.world_model.specs.Events.{Event, History}
use Rattle.world_model.specs.Requests.{Program}
use Rattle.world_model.specs.Run.{next_event}
use Rattle.world_model.specs.Shown.{Identity}
use Rattle.tree_coverage.specs.Covers.{Lines, IsGoodCover}
use Rattle.tree_coverage.specs.Jobs.{asleep_below}
use Rattle.tree_covers.specs.CoverText.{lines_in, AreLawfulLines, SpellsLines}
use Rattle.tree_covers.specs.Judging.{Place, judgement_of}
use Rattle.tree_covers.specs.declared.fault.CoverFault.{CoverFault}
use Rattle.tree_covers.specs.declared.fault.CoverFault.TheVariants as faults
use Rattle.tree_covers.specs.declared.judging.Judgement.{Judgement}
use Rattle.tree_covers.specs.declared.judging.Judgement.TheVariants.{Good, Missing, Strange, ErrorFound}

-- ---- the nodes whose lines are to come

-- what sleeps where so many steps may follow: at the depth no step is taken, and none has to sleep
abbrev pub sleeping : ℕ → List Step → List Step
sleeping zero slept = []
sleeping (suc n) slept = slept

-- the node of a step; none where it is not enabled
abbrev pub place_after : ℕ → List Step → History → Option Event → List Place
place_after n slept h None = []
place_after n slept h (Some e) = record { history = e ∷ h; slept = sleeping n slept; left = n } ∷ []

-- the nodes of the steps of a line, in its order; each step sleeps for those after it
abbrev pub places_along : Program → ℕ → History → List Step → List Step → List Place
places_along a n h slept [] = []
places_along a n h slept (s ∷ steps) =
    place_after n (asleep_below a h slept s) h (next_event a h s) ++ places_along a n h (slept ++ s ∷ []) steps

-- the nodes below a node that so many steps may follow
abbrev pub places_under : Program → ℕ → History → List Step → List Step → List Place
places_under a zero h slept line = []
places_under a (suc n) h slept line = places_along a n h slept line

abbrev pub places_below : Program → Place → List Step → List Place
places_below a v line = places_under a v.left v.history v.slept line

-- the node of no step, in a tree of so many steps
abbrev pub root_place : ℕ → Place
root_place n = record { history = []; slept = []; left = n }

-- where a line is good, go on with the nodes below before the others
abbrev pub after_line : (List Place → Option (List Place)) → Judgement → List Place → Option (List Place)
after_line next Good places = next places
after_line next Missing places = None
after_line next Strange places = None
after_line next ErrorFound places = None

-- the nodes whose lines are to come after these lines, the next one first; none where a line is not good, or no node is left for it
abbrev pub places_after : (Identity → Bool) → Program → List Place → Lines → Option (List Place)
places_after counts a places [] = Some places
places_after counts a [] (line ∷ lines) = None
places_after counts a (v ∷ places) (line ∷ lines) =
    after_line (λ next. places_after counts a next lines) (judgement_of counts a v line) (places_below a v line ++ places)

-- ---- good covers

-- the bytes are the text of a good cover
pub record IsCoverText (counts : Identity → Bool) (a : Program) (n : ℕ) (bytes : List ℕ) : Type 0 where
  pub lines : Lines
  pub spells : SpellsLines bytes lines
  pub good : IsGoodCover counts a n lines

-- ---- faults

-- before the line of this number, counted from 1, all lines are good; these nodes and these lines are to come
pub record StandsAt (counts : Identity → Bool) (a : Program) (n : ℕ) (bytes : List ℕ) (number : ℕ) (places : List Place) (rest : List (List ℕ)) : Type 0 where
  pub before : Lines
  pub lawful : AreLawfulLines before
  pub spelt : lines_in bytes ≡ map text_of_schedule before ++ rest
  pub counted : number ≡ length before + 1
  pub good : places_after counts a (root_place n ∷ []) before ≡ Some places

-- a node waits for its line, and no line is left
pub record IsShort (counts : Identity → Bool) (a : Program) (n : ℕ) (bytes : List ℕ) (number : ℕ) : Type 0 where
  pub place : Place
  pub others : List Place
  pub stands : StandsAt counts a n bytes number (place ∷ others) []

-- a line is left, and no node waits for it
pub record IsLong (counts : Identity → Bool) (a : Program) (n : ℕ) (bytes : List ℕ) (number : ℕ) : Type 0 where
  pub line : List ℕ
  pub rest : List (List ℕ)
  pub stands : StandsAt counts a n bytes number [] (line ∷ rest)

-- a node waits for its line, the line is there, and this is true of the two
pub record IsSoAt (counts : Identity → Bool) (a : Program) (n : ℕ) (bytes : List ℕ) (number : ℕ) (IsSo : Place → List ℕ → Type 0) : Type 0 where
  pub place : Place
  pub others : List Place
  pub line : List ℕ
  pub rest : List (List ℕ)
  pub stands : StandsAt counts a n bytes number (place ∷ others) (line ∷ rest)
  pub is_so : IsSo place line

-- the line is the text of no steps
abbrev pub IsNoLine : Place → List ℕ → Type 0
IsNoLine v line = (steps : List Step) → AreLawful steps → line ≡ text_of_schedule steps → ⊥

-- the line is the text of steps that have this judgement at the node
pub record IsJudged (counts : Identity → Bool) (a : Program) (judgement : Judgement) (v : Place) (line : List ℕ) : Type 0 where
  pub steps : List Step
  pub lawful : AreLawful steps
  pub text : line ≡ text_of_schedule steps
  pub is : judgement_of counts a v steps ≡ judgement

-- what a fault says of the bytes
abbrev pub IsFaultOf : (Identity → Bool) → Program → ℕ → List ℕ → CoverFault → Type 0
IsFaultOf counts a n bytes (faults.Missing number) = IsSoAt counts a n bytes number (IsJudged counts a Missing)
IsFaultOf counts a n bytes (faults.Strange number) = IsSoAt counts a n bytes number (IsJudged counts a Strange)
IsFaultOf counts a n bytes (faults.Short number) = IsShort counts a n bytes number
IsFaultOf counts a n bytes (faults.Long number) = IsLong counts a n bytes number
IsFaultOf counts a n bytes (faults.ErrorFound number) = IsSoAt counts a n bytes number (IsJudged counts a ErrorFound)
IsFaultOf counts a n bytes (faults.BadLine number) = IsSoAt counts a n bytes number IsNoLine
IsFaultOf counts a n bytes faults.Memory = Unit {0}
