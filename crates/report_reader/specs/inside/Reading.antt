-- What is at the beginning of the text of a report, piece by piece.
use denote.Ref.{Bor}
use Rattle.std.specs.Fmt.{decimal}
use Rattle.std.specs.List.{AllByRecursion}
use Rattle.std.specs.Prelude.{◌≡◌, ◌⊎◌, ◌==◌, ℕ, ◌+◌, ◌-◌, ◌<◌, ◌^◌, Bool, false, true, List, [], ◌∷◌, ◌++◌, length, take, codes, if◌then◌else◌, Result, MatchResult}
use Rattle.std.specs.declared.cmp.Ordering.TheVariants.{Less}
use Rattle.term_core.specs.Schedule.{AreLawful}
use Rattle.term_core.specs.Text.{text_of_schedule}
use Rattle.term_core.specs.declared.step.Step.{Step}
use Rattle.world_model.specs.Shown.{Identity, Flags, is_refusal}
use Rattle.tree_coverage.specs.Findings.{Finding}
use Rattle.world_identities.specs.Order.{order_of_identities}
use Rattle.tree_excuses.specs.Excuses.{Excuses, are_any, counts, is_normal}
use Rattle.tree_findings.specs.Merging.{merged}
use Rattle.tree_findings.specs.declared.outcome.Outcome.{Outcome}
use Rattle.tree_findings.specs.declared.outcome.Outcome.TheVariants.{Complete, Incomplete}
use Rattle.report_identities.specs.Lawful.{IsLawfulIdentity, height_in}
use Rattle.report_identities.specs.declared.fault.IdentityFault.{IdentityFault}
use Rattle.report_identities.specs.declared.fault.IdentityFault.TheVariants as faults
use Rattle.report_text.specs.IdentityText.{text_of_identity}
use Rattle.report_text.specs.ReportText.{findings_from, text_of_incomplete, text_of_nodes, text_of_report}
use Rattle.report_reader.specs.Lawful.{AreLawfulFindings, HasHigh, IsLawfulOutcome}
use Rattle.report_reader.specs.Lines.{ends_in, first_lines}
use Rattle.report_reader.specs.declared.fault.ReportFault.{ReportFault}
use Rattle.report_reader.specs.declared.fault.ReportFault.TheVariants as answers
use Rattle.report_reader.specs.declared.fault.Stop.{Stop}
use Rattle.report_reader.specs.declared.fault.Stop.TheVariants.{Bad, Deep, Memory}
use Rattle.report_reader.specs.declared.first_line.Reach.{Reach}
use Rattle.report_reader.specs.declared.first_line.Reach.TheVariants.{Whole, Stopped}
use Rattle.report_reader.specs.declared.kinds.Kind.{Kind}
use Rattle.report_reader.specs.declared.kinds.Kind.TheVariants.{Error, Refusal, Normal}
use Rattle.report_reader.specs.declared.reading.Listed.{Listed}

-- ---- pieces

-- the text does not begin so
abbrev pub HasNoFront : List ℕ → List ℕ → Type 0
HasNoFront front text = (rest : List ℕ) → text ≡ front ++ rest → ⊥

-- nor end so
abbrev pub HasNoBack : List ℕ → List ℕ → Type 0
HasNoBack back text = (front : List ℕ) → text ≡ front ++ back → ⊥

-- no byte is the mark
abbrev pub LacksMark : ℕ → List ℕ → Type 0
LacksMark mark bytes = AllByRecursion (λ byte. (byte == mark) ≡ false) bytes

-- what comes before the first mark, and what after it
abbrev pub IsCut : ℕ → List ℕ → List ℕ → List ℕ → Type 0
IsCut mark text front behind = LacksMark mark front × (text ≡ front ++ mark ∷ behind)

abbrev pub HasNoMark : ℕ → List ℕ → Type 0
HasNoMark mark text = (front behind : List ℕ) → LacksMark mark front → text ≡ front ++ mark ∷ behind → ⊥

-- ---- lines

-- their first lines are the same
abbrev pub SameLine : List ℕ → List ℕ → Type 0
SameLine a b = first_lines a 1 ≡ first_lines b 1

-- the text consists of whole lines: what follows it begins a line
abbrev pub AreWhole : List ℕ → Type 0
AreWhole front = (rest : List ℕ) (n : ℕ) → first_lines (front ++ rest) (ends_in front + n) ≡ front ++ first_lines rest n

-- ---- reading

-- what is said at the beginning of a text with this after it, and nothing else is
pub record IsRead {A : Type 0} (Says : A → List ℕ → Type 0) (a : A) (rest : List ℕ) : Type 0 where
  pub says : Says a rest
  pub only : (b : A) (more : List ℕ) → Says b more → (a ≡ b) × (rest ≡ more)

-- where reading stops at what is said: never at something bad, at a term that is nested too deep only where this is true, and for lack of memory
abbrev pub MayStop : Type 0 → Stop → Type 0
MayStop High (Bad left) = ⊥
MayStop High (Deep left) = High
MayStop High Memory = Unit {0}

-- so reading stops at all that is said
abbrev pub Refuses : {A : Type 0} → (A → Type 0) → (A → List ℕ → Type 0) → Stop → Type 0
Refuses {A} High Says stop = (a : A) (rest : List ℕ) → Says a rest → MayStop (High a) stop

-- a place in the first line of a text
pub record IsInLine (text : List ℕ) (left : ℕ) : Type 0 where
  pub line : List ℕ
  pub rest : List ℕ
  pub parts : text ≡ line ++ rest
  pub place : left ≡ length rest
  pub inside : LacksMark 10 line

-- what is read is what is said, as it is seen, with the rest of the text; and where reading stops, it may
abbrev pub Reads : {A B : Type 0} → (B → A) → (A → Type 0) → (A → List ℕ → Type 0) → Result (B × Bor (List ℕ)) Stop → Type 0
Reads seen High Says result = MatchResult result (λ p. IsRead Says (seen p.0) p.1.now) (λ stop. Refuses High Says stop)

-- where reading stops at something bad, that is in the first line
abbrev pub StopsInLine : List ℕ → Stop → Type 0
StopsInLine text (Bad left) = IsInLine text left
StopsInLine text (Deep left) = Unit {0}
StopsInLine text Memory = Unit {0}

-- ---- reading lines

-- what is said by some whole lines at the beginning of a text, where what follows fits; and nothing else is, whatever follows them with the same first line
pub record IsReadOn {A : Type 0} (Fits : List ℕ → Type 0) (Says : List ℕ → A → List ℕ → Type 0) (text : List ℕ) (a : A) (rest : List ℕ) : Type 0 where
  pub piece : List ℕ
  pub parts : text ≡ piece ++ rest
  pub whole : AreWhole piece
  pub says : (other : List ℕ) → Fits other → Says (piece ++ other) a other
  pub only : (other : List ℕ) → SameLine rest other → (b : A) (more : List ℕ) → Says (piece ++ other) b more → (a ≡ b) × (other ≡ more)

-- a text is bad in a line: none with the same lines up to that one says anything, and one with the same lines before it does
pub record IsBad {A : Type 0} (Fits : List ℕ → Type 0) (Says : List ℕ → A → List ℕ → Type 0) (text : List ℕ) (left : ℕ) : Type 0 where
  pub front : List ℕ
  pub behind : List ℕ
  pub parts : text ≡ front ++ behind
  pub whole : AreWhole front
  pub place : IsInLine behind left
  pub none : (other : List ℕ) → SameLine behind other → (a : A) (more : List ℕ) → Says (front ++ other) a more → ⊥
  pub instead : A
  pub tail : List ℕ
  pub can : (after : List ℕ) → Fits after → Says (front ++ (tail ++ after)) instead after

-- where reading stops
abbrev pub RefusesOn : {A : Type 0} → (A → Type 0) → (List ℕ → Type 0) → (List ℕ → A → List ℕ → Type 0) → List ℕ → Stop → Type 0
RefusesOn High Fits Says text (Bad left) = IsBad Fits Says text left
RefusesOn {A} High Fits Says text (Deep left) = (a : A) (rest : List ℕ) → Says text a rest → High a
RefusesOn High Fits Says text Memory = Unit {0}

abbrev pub ReadsOn : {A B : Type 0} → (B → A) → (A → Type 0) → (List ℕ → Type 0) → (List ℕ → A → List ℕ → Type 0) → List ℕ → Result (B × Bor (List ℕ)) Stop → Type 0
ReadsOn seen High Fits Says text result = MatchResult result (λ p. IsReadOn Fits Says text (seen p.0) p.1.now) (λ stop. RefusesOn High Fits Says text stop)

-- whatever follows
abbrev pub Anything : List ℕ → Type 0
Anything rest = Unit {0}

-- where reading stops at an identity
abbrev pub stop_of : IdentityFault → ℕ → Stop
stop_of faults.BadIdentity left = Bad left
stop_of faults.TooDeep left = Deep left
stop_of faults.Memory left = Memory

-- the line that has the first of so many bytes at the end of a text
abbrev pub line_at : List ℕ → ℕ → ℕ
line_at text left = ends_in (take (length text - left) text) + 1

-- what is answered where reading stopped
abbrev pub IsFaultOf : List ℕ → Stop → ReportFault → Type 0
IsFaultOf text (Bad left) (answers.BadLine line) = line ≡ line_at text left
IsFaultOf text (Deep left) (answers.TooDeep line) = line ≡ line_at text left
IsFaultOf text Memory answers.Memory = Unit {0}
IsFaultOf text stop fault = ⊥

-- ---- what is nested too deep

-- the terms of an identity are higher than 10,000
abbrev pub IsHigh : Identity → Type 0
IsHigh i = 10000 < height_in i

-- nothing is
abbrev pub IsNever : {A : Type 0} → A → Type 0
IsNever a = ⊥

-- ---- kinds

abbrev pub word_of : Kind → List ℕ
word_of Error = codes "error"
word_of Refusal = codes "refusal"
word_of Normal = codes "normal"

-- the word and a blank
abbrev pub label_of : Kind → List ℕ
label_of kind = word_of kind ++ codes " "

abbrev pub is_of : Kind → Flags → Excuses → Identity → Bool
is_of Error flags x = counts flags x
is_of Refusal flags x = is_refusal
is_of Normal flags x = is_normal flags x

-- each of these comes before an identity
abbrev pub AllComeBefore : List Finding → Identity → Type 0
AllComeBefore fs i = AllByRecursion (λ f. order_of_identities f.identity i ≡ Less) fs

-- ---- a finding

-- an identity to the end of the line
abbrev pub SaysIdentity : List ℕ → Identity → List ℕ → Type 0
SaysIdentity text i rest = IsLawfulIdentity i × (text ≡ text_of_identity i ++ 10 ∷ rest)

-- a schedule after two blanks to the end of the line
abbrev pub SaysSchedule : List ℕ → List Step → List ℕ → Type 0
SaysSchedule text s rest = AreLawful s × (text ≡ codes "  " ++ (text_of_schedule s ++ 10 ∷ rest))

-- what is shown by the next finding of a kind after these
pub record SaysShown (kind : Kind) (flags : Flags) (x : Excuses) (fs : List Finding) (text : List ℕ) (i : Identity) (rest : List ℕ) : Type 0 where
  pub lawful : IsLawfulIdentity i
  pub parts : text ≡ (decimal (length fs + 1) ++ codes ": ") ++ (text_of_identity i ++ 10 ∷ rest)
  pub is_one : is_of kind flags x i ≡ true
  pub in_order : AllComeBefore fs i

-- ---- the findings of a kind

-- no other of the kind follows
abbrev pub EndsFindings : Kind → List ℕ → Type 0
EndsFindings kind = HasNoFront (label_of kind)

-- all of a kind: no other follows them
pub record SaysFindings (kind : Kind) (flags : Flags) (x : Excuses) (text : List ℕ) (fs : List Finding) (rest : List ℕ) : Type 0 where
  pub lawful : AreLawfulFindings (is_of kind flags x) fs
  pub ends : EndsFindings kind rest
  pub parts : text ≡ findings_from (word_of kind) 1 fs ++ rest

-- ---- the first line

abbrev pub IsLawfulReach : Reach → Type 0
IsLawfulReach (Whole nodes) = nodes < 2 ^ 64
IsLawfulReach (Stopped cause) = Unit {0}

abbrev pub text_of_reach : Reach → List ℕ
text_of_reach (Whole nodes) = text_of_nodes nodes
text_of_reach (Stopped cause) = text_of_incomplete cause

abbrev pub text_of_depth : ℕ → List ℕ
text_of_depth depth = codes "depth " ++ (decimal depth ++ codes ", ")

abbrev pub SaysReach : ℕ → List ℕ → Reach → List ℕ → Type 0
SaysReach depth text reach rest = IsLawfulReach reach × (text ≡ (text_of_depth depth ++ text_of_reach reach) ++ 10 ∷ rest)

-- ---- the three lists

-- the errors that count, the refusals, and the errors that are taken as normal
pub record Lists : Type 0 where
  pub errors : List Finding
  pub refusals : List Finding
  pub normal : List Finding

abbrev pub lists_in : Listed → Lists
lists_in l = record { errors = l.errors; refusals = l.refusals; normal = l.normal }

-- one of these lists has one that is too high
abbrev pub ListsAreHigh : Lists → Type 0
ListsAreHigh l = HasHigh l.errors ⊎ (HasHigh l.refusals ⊎ HasHigh l.normal)

-- the refusals, and then the errors that are taken as normal
pub record SaysOthers (flags : Flags) (x : Excuses) (text : List ℕ) (l : List Finding × List Finding) (rest : List ℕ) : Type 0 where
  pub third : List ℕ
  pub refusals : SaysFindings Refusal flags x text l.0 third
  pub normal : SaysFindings Normal flags x third l.1 rest

-- all three
pub record SaysLists (flags : Flags) (x : Excuses) (text : List ℕ) (l : Lists) (rest : List ℕ) : Type 0 where
  pub second : List ℕ
  pub errors : SaysFindings Error flags x text l.errors second
  pub others : SaysOthers flags x second (l.refusals, l.normal) rest

-- no finding follows
pub record EndsLists (rest : List ℕ) : Type 0 where
  pub errors : EndsFindings Error rest
  pub refusals : EndsFindings Refusal rest
  pub normal : EndsFindings Normal rest

-- ---- the last two lines

abbrev pub normal_told : Excuses → ℕ → List ℕ
normal_told x normal = if are_any x then codes ", taken as normal " ++ decimal normal else []

abbrev pub counts_line : Excuses → ℕ → ℕ → ℕ → List ℕ
counts_line x errors refusals normal =
    (codes "errors " ++ decimal errors) ++ ((codes ", refusals " ++ decimal refusals) ++ (normal_told x normal ++ codes "\n"))

abbrev pub result_told : Reach → ℕ → List ℕ
result_told (Whole nodes) errors = if errors == 0 then codes "clean" else codes "errors"
result_told (Stopped cause) errors = codes "incomplete"

abbrev pub result_line : Reach → ℕ → List ℕ
result_line reach errors = codes "result: " ++ (result_told reach errors ++ codes "\n")

-- both lines
abbrev pub end_of : Excuses → Reach → Lists → List ℕ
end_of x reach l = counts_line x (length l.errors) (length l.refusals) (length l.normal) ++ result_line reach (length l.errors)

abbrev pub EndsAt : Excuses → Reach → Lists → List ℕ → List ℕ → Type 0
EndsAt x reach l text rest = text ≡ end_of x reach l ++ rest

abbrev pub SaysEnd : Excuses → Reach → Lists → List ℕ → Unit {0} → List ℕ → Type 0
SaysEnd x reach l text nothing rest = EndsAt x reach l text rest

abbrev pub ReadsEnd : Excuses → Reach → Lists → List ℕ → Result (Bor (List ℕ)) Stop → Type 0
ReadsEnd x reach l text result = MatchResult result (λ rest. IsReadOn Anything (SaysEnd x reach l) text tt rest.now) (λ stop. RefusesOn IsNever Anything (SaysEnd x reach l) text stop)

-- the lists, and then these lines
pub record SaysRest (flags : Flags) (x : Excuses) (reach : Reach) (text : List ℕ) (l : Lists) (rest : List ℕ) : Type 0 where
  pub second : List ℕ
  pub lists : SaysLists flags x text l second
  pub ends : EndsAt x reach l second rest

-- ---- a report

-- the outcome that came so far, with these lists
abbrev pub outcome_of : Reach → Lists → Outcome
outcome_of (Whole nodes) l = Complete (record { errors = merged l.errors l.normal; refusals = l.refusals }) (record { nodes = nodes; cut = 0 })
outcome_of (Stopped cause) l = Incomplete cause (record { errors = merged l.errors l.normal; refusals = l.refusals })

-- a report of this depth, these flags and these excuses
abbrev pub SaysReport : ℕ → Flags → Excuses → List ℕ → Outcome → List ℕ → Type 0
SaysReport depth flags x text o rest = IsLawfulOutcome flags o × (text ≡ text_of_report depth x o ++ rest)
