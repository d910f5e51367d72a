-- What the program reads of what its parser found.
use Rattle.std.specs.Prelude.{◌≡◌, ◌⊎◌, ℕ, ◌<◌, ◌≤◌, ◌^◌, ◌&&◌, ◌||◌, Bool, true, false, not, List, [], length, map, codes, Option, Some, None, if◌then◌else◌, MatchBool, string_bytes, unwrap_or}
use Rattle.std.specs.List.{AllByRecursion}
use Rattle.std.specs.Str.{bytes_eq}
use Rattle.std.specs.Str.Parse.{IsNumeral, digits_value, without_leading_plus}
use Rattle.clap.specs.Words.{Row, Text, all_of, first_of, one_of}
use Rattle.term_core.specs.Meaning.{Meaning}
use Rattle.term_core.specs.TermText.{text_of_term}
use Rattle.term_reader.specs.Lawful.{IsLawful}
use Rattle.tree_excuses.specs.Excuses.{Excuses, excuses_in}
use Rattle.tree_excuses.specs.declared.excuses.Excuses as declared
use Rattle.program_words.specs.Words.{AreExcusesInRange, AreSmall, delivers_at_once, is_by_states, is_format, report_alone}
use Rattle.world_identities.specs.declared.flags.Flags.{Flags}
use Rattle.tree_findings.specs.declared.options.Options.{Options}
use Rattle.tree_findings.specs.declared.options.Search.{Search}
use Rattle.tree_findings.specs.declared.options.Search.TheVariants.{ByTree, ByStates}
use Rattle.tree_schedules.specs.declared.delivery.Delivery.TheVariants.{AnyTime, AtOnce}
use Rattle.search_samples.specs.declared.sample.Samples.{Samples}
use Rattle.program_words.specs.declared.command_line.Split.{Split}
use Rattle.program_words.specs.declared.words.Printed.{Printed}
use Rattle.program_words.specs.declared.words.Words.{Words}
use Rattle.program_words.specs.declared.words.Words.TheVariants.{Replay, Explore, ExploreJob, Check, Jobs, Merge, Sample}

-- the word of the schedule, where `replay` was found
abbrev pub schedule_in : Option (Text × List Row) → Option Text
schedule_in None = None
schedule_in (Some p) = if bytes_eq p.0 (codes "replay") then first_of (codes "SCHEDULE") p.1 else None

-- the text is a number that 64 bits hold
abbrev pub IsNumber : Text → Type 0
IsNumber text = IsNumeral 10 (without_leading_plus text) × (digits_value 10 (without_leading_plus text) < 2 ^ 64)

-- the number of a text is read, and only a text that is a number
abbrev pub ReadsNumber : Option Text → Option ℕ → Type 0
ReadsNumber None None = Unit {0}
ReadsNumber None (Some n) = ⊥
ReadsNumber (Some text) None = IsNumber text → ⊥
ReadsNumber (Some text) (Some n) = IsNumber text × (n ≡ digits_value 10 (without_leading_plus text))

-- a flag is read
pub record ReadsFlag (text : Option Text) (flag : Bool) : Type 0 where
  pub set : text ≡ Some (codes "true") → flag ≡ true
  pub unset : text ≡ Some (codes "false") → flag ≡ false

-- the flags are those of the rows
pub record AreFlagsOf (rows : List Row) (flags : Flags) : Type 0 where
  pub allow_deadlock : ReadsFlag (one_of (codes "allow-deadlock") rows) flags.allow_deadlock
  pub strict_access : ReadsFlag (one_of (codes "strict-access") rows) flags.strict_access
  pub idle_servers : ReadsFlag (one_of (codes "idle-servers") rows) flags.idle_servers

-- the text of `--format`, where it is given
abbrev pub format_in : List Row → Option Text
format_in rows = first_of (codes "format") rows

-- a format is given, and it is that of terms
abbrev pub asks_terms : Option Text → Bool
asks_terms None = false
asks_terms (Some text) = bytes_eq text (codes "terms")

-- a format is given that there is not
abbrev pub is_unknown : Option Text → Bool
is_unknown None = false
is_unknown (Some text) = not (is_format text)

-- what is printed is what the rows ask for
pub record IsPrintedOf (rows : List Row) (printed : Printed) : Type 0 where
  pub explained : ReadsFlag (one_of (codes "explain") rows) printed.explained
  pub cover : ReadsFlag (one_of (codes "cover") rows) printed.cover
  pub terms : printed.terms ≡ asks_terms (format_in rows)

-- whether signals are delivered at once in a search
abbrev pub is_prompt : Search → Bool
is_prompt ByTree = false
is_prompt (ByStates AnyTime) = false
is_prompt (ByStates AtOnce) = true

-- the search is the one that the rows ask for: `--states` is read where `--at-once` is not given
pub record IsSearchOf (rows : List Row) (search : Search) : Type 0 where
  pub at_once : ReadsFlag (one_of (codes "at-once") rows) (is_prompt search)
  pub states : is_prompt search ≡ false → ReadsFlag (one_of (codes "states") rows) (is_by_states search)

-- the options are those of the rows, and what is printed
pub record AreRead (rows : List Row) (options : Options) (printed : Printed) : Type 0 where
  pub depth : ReadsNumber (one_of (codes "depth") rows) (Some options.depth)
  pub nodes : ReadsNumber (one_of (codes "nodes") rows) (Some options.nodes)
  pub budget : options.budget ≡ 64
  pub workers : ReadsNumber (one_of (codes "workers") rows) (Some options.workers)
  pub search : IsSearchOf rows options.search
  pub flags : AreFlagsOf rows options.flags
  pub prints : IsPrintedOf rows printed

-- options are read where all numbers are there
abbrev pub AreOptionsIn : List Row → Option (Options × Printed) → Type 0
AreOptionsIn rows None = ReadsNumber (one_of (codes "depth") rows) None ⊎ (ReadsNumber (one_of (codes "nodes") rows) None ⊎ ReadsNumber (one_of (codes "workers") rows) None)
AreOptionsIn rows (Some read) = AreRead rows read.0 read.1

-- and where `explore` was found
abbrev pub AreOptionsOf : Option (Text × List Row) → Option (Options × Printed) → Type 0
AreOptionsOf None read = read ≡ None
AreOptionsOf (Some p) read = MatchBool (bytes_eq p.0 (codes "explore")) (AreOptionsIn p.1 read) (read ≡ None)

-- a check is read where its depth is there
abbrev pub IsCheckIn : List Row → Option (ℕ × Flags) → Type 0
IsCheckIn rows None = ReadsNumber (one_of (codes "depth") rows) None
IsCheckIn rows (Some read) = ReadsNumber (one_of (codes "depth") rows) (Some read.0) × AreFlagsOf rows read.1

-- and where `check` was found
abbrev pub IsCheckOf : Option (Text × List Row) → Option (ℕ × Flags) → Type 0
IsCheckOf None read = read ≡ None
IsCheckOf (Some p) read = MatchBool (bytes_eq p.0 (codes "check")) (IsCheckIn p.1 read) (read ≡ None)

-- a split of the tree is read where both depths are there
abbrev pub IsSplitIn : List Row → Option Split → Type 0
IsSplitIn rows None = ReadsNumber (one_of (codes "depth") rows) None ⊎ ReadsNumber (one_of (codes "at") rows) None
IsSplitIn rows (Some read) = ReadsNumber (one_of (codes "depth") rows) (Some read.depth) × (ReadsNumber (one_of (codes "at") rows) (Some read.at) × AreFlagsOf rows read.flags)

-- and where this command was found
abbrev pub IsSplitOf : Text → Option (Text × List Row) → Option Split → Type 0
IsSplitOf command None read = read ≡ None
IsSplitOf command (Some p) read = MatchBool (bytes_eq p.0 command) (IsSplitIn p.1 read) (read ≡ None)

-- random schedules are those of the rows, and so is what is printed, which is no cover
pub record AreSamplesRead (rows : List Row) (samples : Samples) (printed : Printed) : Type 0 where
  pub depth : ReadsNumber (one_of (codes "depth") rows) (Some samples.depth)
  pub runs : ReadsNumber (one_of (codes "runs") rows) (Some samples.runs)
  pub seed : ReadsNumber (one_of (codes "seed") rows) (Some samples.seed)
  pub at_once : ReadsFlag (one_of (codes "at-once") rows) (delivers_at_once samples.delivery)
  pub flags : AreFlagsOf rows samples.flags
  pub explained : ReadsFlag (one_of (codes "explain") rows) printed.explained
  pub no_cover : printed.cover ≡ false
  pub terms : printed.terms ≡ asks_terms (format_in rows)

-- they are read where all numbers are there
abbrev pub AreSamplesIn : List Row → Option (Samples × Printed) → Type 0
AreSamplesIn rows None = ReadsNumber (one_of (codes "depth") rows) None ⊎ (ReadsNumber (one_of (codes "runs") rows) None ⊎ ReadsNumber (one_of (codes "seed") rows) None)
AreSamplesIn rows (Some read) = AreSamplesRead rows read.0 read.1

-- and where `sample` was found
abbrev pub AreSamplesOf : Option (Text × List Row) → Option (Samples × Printed) → Type 0
AreSamplesOf None read = read ≡ None
AreSamplesOf (Some p) read = MatchBool (bytes_eq p.0 (codes "sample")) (AreSamplesIn p.1 read) (read ≡ None)

-- the line of the job, where `explore` was found
abbrev pub job_in : Option (Text × List Row) → Option Text
job_in None = None
job_in (Some p) = if bytes_eq p.0 (codes "explore") then first_of (codes "job") p.1 else None

-- the rows of the command that was found
abbrev pub rows_in : Option (Text × List Row) → List Row
rows_in None = []
rows_in (Some p) = p.1

-- the texts of `--normal`
abbrev pub texts_in : List Row → List Text
texts_in rows = unwrap_or (all_of (codes "normal") rows) []

-- the texts are those of these terms, which are at most 16 and which a program can hold
pub record AreTextsOf (terms : List Meaning) (texts : List Text) : Type 0 where
  pub texts_are : texts ≡ map text_of_term terms
  pub few : length terms ≤ 16
  pub lawful : AllByRecursion IsLawful terms

-- what is excused is that of the rows, together with these flags: deadlocks by one of two flags, or by neither
pub record AreExcusesIn (flags : Flags) (rows : List Row) (read : declared.Excuses) : Type 0 where
  pub main : Bool
  pub idle : Bool
  pub main_is : ReadsFlag (one_of (codes "main-deadlock") rows) main
  pub idle_is : ReadsFlag (one_of (codes "idle-servers") rows) idle
  pub one : (main && idle) ≡ false
  pub main_deadlock : read.main_deadlock ≡ (main || idle)
  pub normal : texts_in rows ≡ map text_of_term (excuses_in read).normal
  pub in_range : AreExcusesInRange flags (excuses_in read)

-- the rows ask for this, together with these flags
pub record AskExcuses (flags : Flags) (rows : List Row) (excuses : Excuses) : Type 0 where
  pub main : Bool
  pub idle : Bool
  pub main_is : one_of (codes "main-deadlock") rows ≡ Some (if main then codes "true" else codes "false")
  pub idle_is : one_of (codes "idle-servers") rows ≡ Some (if idle then codes "true" else codes "false")
  pub one : (main && idle) ≡ false
  pub main_deadlock : excuses.main_deadlock ≡ (main || idle)
  pub normal : texts_in rows ≡ map text_of_term excuses.normal
  pub in_range : AreExcusesInRange flags excuses
  pub small : AreSmall excuses.normal

-- a split of the tree is read of this command, with what it excuses, and its jobs are no deeper than the tree
pub record IsSplitRead (command : Text) (entered : Option (Text × List Row)) (split : Split) (excuses : declared.Excuses) : Type 0 where
  pub found : IsSplitOf command entered (Some split)
  pub excused : AreExcusesIn split.flags (rows_in entered) excuses
  pub within : split.at ≤ split.depth

-- or this command was not found
abbrev pub IsSplitReadOf : Text → Option (Text × List Row) → Option (Split × declared.Excuses) → Type 0
IsSplitReadOf command entered None = IsSplitOf command entered None
IsSplitReadOf command entered (Some read) = IsSplitRead command entered read.0 read.1

-- the depth of jobs is that of a split, whatever it excuses
pub record AreJobsRead (entered : Option (Text × List Row)) (place : ℕ) : Type 0 where
  pub split : Split
  pub excuses : declared.Excuses
  pub read : IsSplitRead (codes "jobs") entered split excuses
  pub place_is : place ≡ split.at

-- the format, if one is given of the command that was found, is one that there is
abbrev pub HasKnownFormat : Option (Text × List Row) → Type 0
HasKnownFormat entered = is_unknown (format_in (rows_in entered)) ≡ false

-- the search and what is printed go together
abbrev pub GoTogether : Search → Printed → Type 0
GoTogether search printed = ((is_by_states search && printed.cover) ≡ false) × ((printed.terms && printed.cover) ≡ false)

-- the words are read of the command that was found
abbrev pub IsReadOf : Option (Text × List Row) → Words → Type 0
IsReadOf entered (Replay word) = schedule_in entered ≡ Some (string_bytes word)
IsReadOf entered (Explore options excuses printed) = AreOptionsOf entered (Some (options, printed)) × (AreExcusesIn options.flags (rows_in entered) excuses × (HasKnownFormat entered × ((job_in entered ≡ None) × GoTogether options.search printed)))
IsReadOf entered (ExploreJob options excuses line) = AreOptionsOf entered (Some (options, report_alone)) × (AreExcusesIn options.flags (rows_in entered) excuses × (HasKnownFormat entered × ((job_in entered ≡ Some (string_bytes line)) × (is_by_states options.search ≡ false))))
IsReadOf entered (Check steps flags excuses) = IsCheckOf entered (Some (steps, flags)) × AreExcusesIn flags (rows_in entered) excuses
IsReadOf entered (Jobs place) = AreJobsRead entered place
IsReadOf entered (Merge steps place flags excuses) = IsSplitRead (codes "merge") entered (record { depth = steps; at = place; flags = flags }) excuses
IsReadOf entered (Sample samples excuses printed) = AreSamplesOf entered (Some (samples, printed)) × (AreExcusesIn samples.flags (rows_in entered) excuses × HasKnownFormat entered)

-- words are read where this command was found, or it was not found
abbrev pub IsReplayReadOf : Option (Text × List Row) → Option Words → Type 0
IsReplayReadOf entered None = schedule_in entered ≡ None
IsReplayReadOf entered (Some words) = IsReadOf entered words

abbrev pub IsExploreReadOf : Option (Text × List Row) → Option Words → Type 0
IsExploreReadOf entered None = AreOptionsOf entered None
IsExploreReadOf entered (Some words) = IsReadOf entered words

abbrev pub IsCheckReadOf : Option (Text × List Row) → Option Words → Type 0
IsCheckReadOf entered None = IsCheckOf entered None
IsCheckReadOf entered (Some words) = IsReadOf entered words

abbrev pub AreJobsReadOf : Option (Text × List Row) → Option Words → Type 0
AreJobsReadOf entered None = IsSplitOf (codes "jobs") entered None
AreJobsReadOf entered (Some words) = IsReadOf entered words

abbrev pub IsMergeReadOf : Option (Text × List Row) → Option Words → Type 0
IsMergeReadOf entered None = IsSplitOf (codes "merge") entered None
IsMergeReadOf entered (Some words) = IsReadOf entered words

abbrev pub IsSampleReadOf : Option (Text × List Row) → Option Words → Type 0
IsSampleReadOf entered None = AreSamplesOf entered None
IsSampleReadOf entered (Some words) = IsReadOf entered words

-- the rows ask for something to be excused, or for nothing
pub record CanExcuse (flags : Flags) (rows : List Row) : Type 0 where
  pub excuses : Excuses
  pub asks : AskExcuses flags rows excuses

-- whatever this command is found to split can be excused, and its jobs are no deeper than the tree
pub record AsksForSplit (command : Text) (entered : Option (Text × List Row)) : Type 0 where
  pub excused : (found : Split) → IsSplitOf command entered (Some found) → CanExcuse found.flags (rows_in entered)
  pub within : (found : Split) → IsSplitOf command entered (Some found) → found.at ≤ found.depth

-- the command that was found asks for something: whatever is found of it can be excused, has a format that there is, has nothing that is printed of no job alone, asks for nothing of the tree where the search is by states and for no cover beside terms, and looks for jobs no deeper than its tree
pub record AsksForOne (entered : Option (Text × List Row)) : Type 0 where
  pub explore : (found : Options × Printed) → AreOptionsOf entered (Some found) → CanExcuse found.0.flags (rows_in entered)
  pub format : (found : Options × Printed) → AreOptionsOf entered (Some found) → HasKnownFormat entered
  pub job : (found : Options × Printed) → AreOptionsOf entered (Some found) → (line : Text) → job_in entered ≡ Some line → (found.1.explained || (found.1.cover || found.1.terms)) ≡ false
  pub states : (found : Options × Printed) → AreOptionsOf entered (Some found) → is_by_states found.0.search ≡ true → (found.1.cover ≡ false) × (job_in entered ≡ None)
  pub terms : (found : Options × Printed) → AreOptionsOf entered (Some found) → (found.1.terms && found.1.cover) ≡ false
  pub check : (found : ℕ × Flags) → IsCheckOf entered (Some found) → CanExcuse found.1 (rows_in entered)
  pub jobs : AsksForSplit (codes "jobs") entered
  pub merge : AsksForSplit (codes "merge") entered
  pub sample : (found : Samples × Printed) → AreSamplesOf entered (Some found) → CanExcuse found.0.flags (rows_in entered)
  pub sample_format : (found : Samples × Printed) → AreSamplesOf entered (Some found) → HasKnownFormat entered
  pub some : schedule_in entered ≡ None → AreOptionsOf entered None → IsCheckOf entered None → IsSplitOf (codes "jobs") entered None → IsSplitOf (codes "merge") entered None → AreSamplesOf entered None → ⊥
