-- What the words of a command line ask for.
use Rattle.std.specs.Prelude.{◌≡◌, ◌⊎◌, ℕ, ◌+◌, ◌==◌, ◌<◌, ◌≤◌, ◌&&◌, ◌||◌, Bool, true, false, List, [], ◌∷◌, ◌++◌, length, map, codes, count_by, if◌then◌else◌, Result, MatchResult, string_bytes}
use Rattle.std.specs.Fmt.{decimal}
use Rattle.std.specs.List.{AllByRecursion}
use Rattle.std.specs.Str.{bytes_eq}
use Rattle.clap.specs.Values.{kind_of}
use Rattle.clap.specs.declared.error.Error.{Error}
use Rattle.clap.specs.declared.error.kind.ErrorKind.TheVariants.{OutOfMemory}
use Rattle.term_core.specs.Meaning.{Meaning, node_count}
use Rattle.term_core.specs.TermText.{text_of_term}
use Rattle.term_reader.specs.Lawful.{IsLawful}
use Rattle.tree_excuses.specs.Excuses.{Excuses, excuses_in}
use Rattle.world_identities.specs.declared.flags.Flags.{Flags}
use Rattle.tree_findings.specs.declared.options.Options.{Options}
use Rattle.tree_findings.specs.declared.options.Search.{Search}
use Rattle.tree_findings.specs.declared.options.Search.TheVariants.{ByTree, ByStates}
use Rattle.tree_schedules.specs.declared.delivery.Delivery.{Delivery}
use Rattle.tree_schedules.specs.declared.delivery.Delivery.TheVariants.{AnyTime, AtOnce}
use Rattle.search_samples.specs.declared.sample.Samples.{Samples}
use Rattle.program_words.specs.declared.words.Printed.{Printed}
use Rattle.program_words.specs.declared.words.Words.{Words}
use Rattle.program_words.specs.declared.words.Words.TheVariants.{Replay, Explore, ExploreJob, Check, Jobs, Merge, Sample}

-- a word that begins with a hyphen, which the parser may take for an option
abbrev pub begins_with_hyphen : List ℕ → Bool
begins_with_hyphen [] = false
begins_with_hyphen (byte ∷ rest) = byte == 45

-- the words are the name of the program, `replay` and this schedule, which begins with no hyphen
pub record IsReplay (words : List (List ℕ)) (schedule : List ℕ) : Type 0 where
  pub name : List ℕ
  pub words_are : words ≡ name ∷ codes "replay" ∷ schedule ∷ []
  pub plain : begins_with_hyphen schedule ≡ false

-- an option of `explore`, of `check`, of `jobs`, of `merge` or of `sample`, as it may be given
pub data Given : Type 0 where
  depth : ℕ → Given
  nodes : ℕ → Given
  workers : ℕ → Given
  allow_deadlock : Given
  main_deadlock : Given
  idle_servers : Given
  normal : (text : List ℕ) → Given
  strict_access : Given
  explain : Given
  cover : Given
  at : ℕ → Given
  job : (line : List ℕ) → Given
  states : Given
  at_once : Given
  runs : ℕ → Given
  seed : ℕ → Given
  format : (text : List ℕ) → Given

-- its words: a number is given by its decimal digits, a term and a format by its text, and a job by its line
abbrev pub words_of : Given → List (List ℕ)
words_of (depth n) = codes "--depth" ∷ decimal n ∷ []
words_of (nodes n) = codes "--nodes" ∷ decimal n ∷ []
words_of (workers n) = codes "--workers" ∷ decimal n ∷ []
words_of allow_deadlock = codes "--allow-deadlock" ∷ []
words_of main_deadlock = codes "--main-deadlock" ∷ []
words_of idle_servers = codes "--idle-servers" ∷ []
words_of (normal text) = codes "--normal" ∷ text ∷ []
words_of strict_access = codes "--strict-access" ∷ []
words_of explain = codes "--explain" ∷ []
words_of cover = codes "--cover" ∷ []
words_of (at n) = codes "--at" ∷ decimal n ∷ []
words_of (job line) = codes "--job" ∷ line ∷ []
words_of states = codes "--states" ∷ []
words_of at_once = codes "--at-once" ∷ []
words_of (runs n) = codes "--runs" ∷ decimal n ∷ []
words_of (seed n) = codes "--seed" ∷ decimal n ∷ []
words_of (format text) = codes "--format" ∷ text ∷ []

-- the words of one option after another
abbrev pub words_of_all : List Given → List (List ℕ)
words_of_all [] = []
words_of_all (option ∷ rest) = words_of option ++ words_of_all rest

-- the numbers that are given by `--depth`
abbrev pub depths_of : List Given → List ℕ
depths_of [] = []
depths_of (depth n ∷ rest) = n ∷ depths_of rest
depths_of (_ ∷ rest) = depths_of rest

-- the numbers that are given by `--nodes`
abbrev pub nodes_of : List Given → List ℕ
nodes_of [] = []
nodes_of (nodes n ∷ rest) = n ∷ nodes_of rest
nodes_of (_ ∷ rest) = nodes_of rest

-- the numbers that are given by `--workers`
abbrev pub workers_of : List Given → List ℕ
workers_of [] = []
workers_of (workers n ∷ rest) = n ∷ workers_of rest
workers_of (_ ∷ rest) = workers_of rest

-- the texts that are given by `--normal`, in order
abbrev pub texts_of : List Given → List (List ℕ)
texts_of [] = []
texts_of (normal text ∷ rest) = text ∷ texts_of rest
texts_of (_ ∷ rest) = texts_of rest

-- the numbers that are given by `--at`
abbrev pub ats_of : List Given → List ℕ
ats_of [] = []
ats_of (at n ∷ rest) = n ∷ ats_of rest
ats_of (_ ∷ rest) = ats_of rest

-- the lines that are given by `--job`
abbrev pub jobs_of : List Given → List (List ℕ)
jobs_of [] = []
jobs_of (job line ∷ rest) = line ∷ jobs_of rest
jobs_of (_ ∷ rest) = jobs_of rest

-- the numbers that are given by `--runs`
abbrev pub runs_of : List Given → List ℕ
runs_of [] = []
runs_of (runs n ∷ rest) = n ∷ runs_of rest
runs_of (_ ∷ rest) = runs_of rest

-- the numbers that are given by `--seed`
abbrev pub seeds_of : List Given → List ℕ
seeds_of [] = []
seeds_of (seed n ∷ rest) = n ∷ seeds_of rest
seeds_of (_ ∷ rest) = seeds_of rest

-- the texts that are given by `--format`
abbrev pub formats_of : List Given → List (List ℕ)
formats_of [] = []
formats_of (format text ∷ rest) = text ∷ formats_of rest
formats_of (_ ∷ rest) = formats_of rest

-- whether it is the option that counts a deadlock as no error
abbrev pub is_allow_deadlock : Given → Bool
is_allow_deadlock allow_deadlock = true
is_allow_deadlock _ = false

-- whether it is the option that counts a deadlock as an error only where the first process waits
abbrev pub is_main_deadlock : Given → Bool
is_main_deadlock main_deadlock = true
is_main_deadlock _ = false

-- whether it is the option that counts as an error, where the first process has ended, only what is unread
abbrev pub is_idle_servers : Given → Bool
is_idle_servers idle_servers = true
is_idle_servers _ = false

-- whether it is the option that counts as an error a call that is refused because of who makes it
abbrev pub is_strict_access : Given → Bool
is_strict_access strict_access = true
is_strict_access _ = false

-- whether it is the option that asks for the transcript of each finding
abbrev pub is_explain : Given → Bool
is_explain explain = true
is_explain _ = false

-- whether it is the option that asks for the cover
abbrev pub is_cover : Given → Bool
is_cover cover = true
is_cover _ = false

-- whether it is the option that asks for a search by states
abbrev pub is_states : Given → Bool
is_states states = true
is_states _ = false

-- whether it is the option that asks for signals to be delivered at once
abbrev pub is_at_once : Given → Bool
is_at_once at_once = true
is_at_once _ = false

-- whether the schedules are searched by states, in place of the tree
abbrev pub is_by_states : Search → Bool
is_by_states ByTree = false
is_by_states (ByStates delivery) = true

-- the search is asked for where `--states` and `--at-once` are given so many times: each once or not at all, and with `--at-once` the search is by states, whether `--states` is given or not
abbrev pub AsksSearch : (by_states prompt : ℕ) → Search → Type 0
AsksSearch by_states prompt ByTree = (by_states ≡ 0) × (prompt ≡ 0)
AsksSearch by_states prompt (ByStates AnyTime) = (by_states ≡ 1) × (prompt ≡ 0)
AsksSearch by_states prompt (ByStates AtOnce) = (by_states ≤ 1) × (prompt ≡ 1)

-- whether signals are delivered at once
abbrev pub delivers_at_once : Delivery → Bool
delivers_at_once AnyTime = false
delivers_at_once AtOnce = true

-- a number that may be given once, or else is the default
abbrev pub IsGivenOr : ℕ → List ℕ → ℕ → Type 0
IsGivenOr default [] n = n ≡ default
IsGivenOr default (given ∷ []) n = n ≡ given
IsGivenOr default _ n = ⊥

-- the text is that of one of the formats that there are
abbrev pub is_format : List ℕ → Bool
is_format text = bytes_eq text (codes "text") || bytes_eq text (codes "terms")

-- whether the report is written as Erlang terms, by the texts that are given by `--format`: none, or one, which begins with no hyphen; only `terms` asks for them
abbrev pub IsFormat : List (List ℕ) → Bool → Type 0
IsFormat [] terms = terms ≡ false
IsFormat (text ∷ []) terms = (begins_with_hyphen text ≡ false) × (terms ≡ bytes_eq text (codes "terms"))
IsFormat _ terms = ⊥

-- each text is that of a format that there is
abbrev pub AreFormats : List (List ℕ) → Type 0
AreFormats = AllByRecursion (λ text. is_format text ≡ true)

-- the ranges of a command line: the budget is always the same
pub record AreInRange (options : Options) : Type 0 where
  pub depth : options.depth ≤ 400
  pub least_nodes : 1 ≤ options.nodes
  pub most_nodes : options.nodes ≤ 10000000
  pub budget : options.budget ≡ 64
  pub some_workers : 1 ≤ options.workers
  pub most_workers : options.workers ≤ 16

-- the ranges of random schedules
pub record AreSamplesInRange (samples : Samples) : Type 0 where
  pub depth : samples.depth ≤ 400
  pub some_runs : 1 ≤ samples.runs
  pub most_runs : samples.runs ≤ 1000000
  pub seed : samples.seed ≤ 4294967295

-- what is excused is in its range: at most 16 terms that a program can hold, and no deadlock where none is an error
pub record AreExcusesInRange (flags : Flags) (excuses : Excuses) : Type 0 where
  pub few : length excuses.normal ≤ 16
  pub lawful : AllByRecursion IsLawful excuses.normal
  pub apart : (flags.allow_deadlock && excuses.main_deadlock) ≡ false

-- the terms have at most 10,000 nodes each, so that none is refused for its depth
abbrev pub AreSmall : List Meaning → Type 0
AreSmall = AllByRecursion (λ term. node_count term ≤ 10000)

-- what the options excuse, together with these flags: deadlocks by one of two flags that is given once, or by neither, and the terms with the texts that are given
pub record AreExcusesOf (given : List Given) (flags : Flags) (excuses : Excuses) : Type 0 where
  pub main_deadlock : count_by is_main_deadlock given + count_by is_idle_servers given ≡ (if excuses.main_deadlock then 1 else 0)
  pub normal : texts_of given ≡ map text_of_term excuses.normal
  pub in_range : AreExcusesInRange flags excuses
  pub small : AreSmall excuses.normal

-- no text begins with a hyphen
abbrev pub ArePlain : List (List ℕ) → Type 0
ArePlain = AllByRecursion (λ text. begins_with_hyphen text ≡ false)

-- the words are the name of the program, `explore` and these options in any order: `--depth` once, `--normal` any number of times, each other one once or not at all, and no `--at`, `--runs` or `--seed`
pub record AreWordsOfExplore (words : List (List ℕ)) (given : List Given) (options : Options) (printed : Printed) : Type 0 where
  pub name : List ℕ
  pub words_are : words ≡ name ∷ codes "explore" ∷ words_of_all given
  pub depth : depths_of given ≡ options.depth ∷ []
  pub nodes : IsGivenOr 1000000 (nodes_of given) options.nodes
  pub workers : IsGivenOr 1 (workers_of given) options.workers
  pub allow_deadlock : count_by is_allow_deadlock given ≡ (if options.flags.allow_deadlock then 1 else 0)
  pub main_deadlock : count_by is_main_deadlock given ≤ 1
  pub normal : ArePlain (texts_of given)
  pub strict_access : count_by is_strict_access given ≡ (if options.flags.strict_access then 1 else 0)
  pub idle_servers : count_by is_idle_servers given ≡ (if options.flags.idle_servers then 1 else 0)
  pub explain : count_by is_explain given ≡ (if printed.explained then 1 else 0)
  pub cover : count_by is_cover given ≡ (if printed.cover then 1 else 0)
  pub format : IsFormat (formats_of given) printed.terms
  pub job : length (jobs_of given) ≤ 1
  pub line : ArePlain (jobs_of given)
  pub search : AsksSearch (count_by is_states given) (count_by is_at_once given) options.search
  pub no_at : ats_of given ≡ []
  pub no_runs : runs_of given ≡ []
  pub no_seed : seeds_of given ≡ []
  pub in_range : AreInRange options

-- the words are the name of the program, `check` and these options in any order: `--depth` once, `--normal` any number of times, each of its flags once or not at all, and no option that is of other commands alone
pub record AreWordsOfCheck (words : List (List ℕ)) (given : List Given) (steps : ℕ) (flags : Flags) : Type 0 where
  pub name : List ℕ
  pub words_are : words ≡ name ∷ codes "check" ∷ words_of_all given
  pub depth : depths_of given ≡ steps ∷ []
  pub allow_deadlock : count_by is_allow_deadlock given ≡ (if flags.allow_deadlock then 1 else 0)
  pub main_deadlock : count_by is_main_deadlock given ≤ 1
  pub normal : ArePlain (texts_of given)
  pub strict_access : count_by is_strict_access given ≡ (if flags.strict_access then 1 else 0)
  pub idle_servers : count_by is_idle_servers given ≡ (if flags.idle_servers then 1 else 0)
  pub no_nodes : nodes_of given ≡ []
  pub no_workers : workers_of given ≡ []
  pub no_explain : count_by is_explain given ≡ 0
  pub no_cover : count_by is_cover given ≡ 0
  pub no_at : ats_of given ≡ []
  pub no_job : jobs_of given ≡ []
  pub no_states : count_by is_states given ≡ 0
  pub no_at_once : count_by is_at_once given ≡ 0
  pub no_runs : runs_of given ≡ []
  pub no_seed : seeds_of given ≡ []
  pub no_format : formats_of given ≡ []
  pub in_range : steps ≤ 400

-- the words are the name of the program, this command, which names one level of the tree, and these options in any order: `--depth` and `--at` once each, `--normal` any number of times, each of its flags once or not at all, and no option that is of other commands alone
pub record AreWordsOfLevel (words : List (List ℕ)) (command : List ℕ) (given : List Given) (steps place : ℕ) (flags : Flags) : Type 0 where
  pub name : List ℕ
  pub words_are : words ≡ name ∷ command ∷ words_of_all given
  pub depth : depths_of given ≡ steps ∷ []
  pub at : ats_of given ≡ place ∷ []
  pub allow_deadlock : count_by is_allow_deadlock given ≡ (if flags.allow_deadlock then 1 else 0)
  pub main_deadlock : count_by is_main_deadlock given ≤ 1
  pub normal : ArePlain (texts_of given)
  pub strict_access : count_by is_strict_access given ≡ (if flags.strict_access then 1 else 0)
  pub idle_servers : count_by is_idle_servers given ≡ (if flags.idle_servers then 1 else 0)
  pub no_nodes : nodes_of given ≡ []
  pub no_workers : workers_of given ≡ []
  pub no_explain : count_by is_explain given ≡ 0
  pub no_cover : count_by is_cover given ≡ 0
  pub no_job : jobs_of given ≡ []
  pub no_states : count_by is_states given ≡ 0
  pub no_at_once : count_by is_at_once given ≡ 0
  pub no_runs : runs_of given ≡ []
  pub no_seed : seeds_of given ≡ []
  pub no_format : formats_of given ≡ []
  pub in_range : steps ≤ 400
  pub at_in_range : place ≤ 400

-- the words are the name of the program, `sample` and these options in any order: `--depth` once, `--normal` any number of times, each other one of its options once or not at all, and no option that is of other commands alone; no cover is printed
pub record AreWordsOfSample (words : List (List ℕ)) (given : List Given) (samples : Samples) (printed : Printed) : Type 0 where
  pub name : List ℕ
  pub words_are : words ≡ name ∷ codes "sample" ∷ words_of_all given
  pub depth : depths_of given ≡ samples.depth ∷ []
  pub runs : IsGivenOr 1000 (runs_of given) samples.runs
  pub seed : IsGivenOr 1 (seeds_of given) samples.seed
  pub at_once : count_by is_at_once given ≡ (if delivers_at_once samples.delivery then 1 else 0)
  pub explain : count_by is_explain given ≡ (if printed.explained then 1 else 0)
  pub format : IsFormat (formats_of given) printed.terms
  pub allow_deadlock : count_by is_allow_deadlock given ≡ (if samples.flags.allow_deadlock then 1 else 0)
  pub main_deadlock : count_by is_main_deadlock given ≤ 1
  pub normal : ArePlain (texts_of given)
  pub strict_access : count_by is_strict_access given ≡ (if samples.flags.strict_access then 1 else 0)
  pub idle_servers : count_by is_idle_servers given ≡ (if samples.flags.idle_servers then 1 else 0)
  pub no_nodes : nodes_of given ≡ []
  pub no_workers : workers_of given ≡ []
  pub no_cover : count_by is_cover given ≡ 0
  pub no_cover_printed : printed.cover ≡ false
  pub no_at : ats_of given ≡ []
  pub no_job : jobs_of given ≡ []
  pub no_states : count_by is_states given ≡ 0
  pub in_range : AreSamplesInRange samples

-- what is printed where no option asks for more: the report alone, as text
abbrev pub report_alone : Printed
report_alone = record { explained = false; cover = false; terms = false }

-- the words are those of `explore` with these options, in a format that there is and without a job, ask for no cover where the search is by states or the report is written as terms, and excuse this
pub record IsExplore (words : List (List ℕ)) (options : Options) (excuses : Excuses) (printed : Printed) : Type 0 where
  pub given : List Given
  pub says : AreWordsOfExplore words given options printed
  pub excused : AreExcusesOf given options.flags excuses
  pub known : AreFormats (formats_of given)
  pub no_job : jobs_of given ≡ []
  pub no_cover_of_states : (is_by_states options.search && printed.cover) ≡ false
  pub no_cover_of_terms : (printed.terms && printed.cover) ≡ false

-- the words are those of `explore` with these options, in a format that there is, and the job of this line, the search is by the tree, only its report is printed, as text, and they excuse this
pub record IsExploreJob (words : List (List ℕ)) (options : Options) (excuses : Excuses) (line : List ℕ) : Type 0 where
  pub given : List Given
  pub says : AreWordsOfExplore words given options report_alone
  pub excused : AreExcusesOf given options.flags excuses
  pub known : AreFormats (formats_of given)
  pub job : jobs_of given ≡ line ∷ []
  pub by_tree : options.search ≡ ByTree

-- the words are those of `check` with these options, and excuse this
pub record IsCheck (words : List (List ℕ)) (steps : ℕ) (flags : Flags) (excuses : Excuses) : Type 0 where
  pub given : List Given
  pub says : AreWordsOfCheck words given steps flags
  pub excused : AreExcusesOf given flags excuses

-- the words are those of `jobs` for this depth, which is at most that of the tree, and excuse something or nothing
pub record IsJobs (words : List (List ℕ)) (place : ℕ) : Type 0 where
  pub given : List Given
  pub steps : ℕ
  pub flags : Flags
  pub excuses : Excuses
  pub says : AreWordsOfLevel words (codes "jobs") given steps place flags
  pub excused : AreExcusesOf given flags excuses
  pub within : place ≤ steps

-- the words are those of `merge` for a tree of this depth and its jobs at this one, which is at most that of the tree, with these flags, and excuse this
pub record IsMerge (words : List (List ℕ)) (steps place : ℕ) (flags : Flags) (excuses : Excuses) : Type 0 where
  pub given : List Given
  pub says : AreWordsOfLevel words (codes "merge") given steps place flags
  pub excused : AreExcusesOf given flags excuses
  pub within : place ≤ steps

-- the words are those of `sample` with these options, in a format that there is, print this, and excuse this
pub record IsSample (words : List (List ℕ)) (samples : Samples) (excuses : Excuses) (printed : Printed) : Type 0 where
  pub given : List Given
  pub says : AreWordsOfSample words given samples printed
  pub excused : AreExcusesOf given samples.flags excuses
  pub known : AreFormats (formats_of given)

-- one of the texts is that of no term that a program can hold
abbrev pub HasNoTerm : List (List ℕ) → Type 0
HasNoTerm [] = ⊥
HasNoTerm (text ∷ rest) = ((term : Meaning) → IsLawful term → text ≡ text_of_term term → ⊥) ⊎ HasNoTerm rest

-- how many of the three flags of deadlocks are given
abbrev pub flags_of_deadlocks : List Given → ℕ
flags_of_deadlocks given = count_by is_allow_deadlock given + (count_by is_main_deadlock given + count_by is_idle_servers given)

-- the options can excuse nothing: a text is that of no term, there are more than 16, or more than one flag of deadlocks is given
abbrev pub ExcuseNothing : List Given → Type 0
ExcuseNothing given = HasNoTerm (texts_of given) ⊎ ((16 < length (texts_of given)) ⊎ (1 < flags_of_deadlocks given))

-- a text is given that is that of no format
abbrev pub HasNoFormat : List (List ℕ) → Type 0
HasNoFormat [] = ⊥
HasNoFormat (text ∷ rest) = (is_format text ≡ false) ⊎ HasNoFormat rest

-- a job is given, and with it what is printed of no job alone
abbrev pub AskMoreOfJob : List Given → Printed → Type 0
AskMoreOfJob given printed = (length (jobs_of given) ≡ 1) × ((printed.explained || (printed.cover || printed.terms)) ≡ true)

-- a search by states is asked for, and with it what is of the tree: its cover, or a job of it
abbrev pub AskTreeOfStates : List Given → Options → Printed → Type 0
AskTreeOfStates given options printed = (is_by_states options.search ≡ true) × ((printed.cover ≡ true) ⊎ (length (jobs_of given) ≡ 1))

-- the report is asked for as terms, and with it its cover, which is text
abbrev pub AskCoverOfTerms : Printed → Type 0
AskCoverOfTerms printed = (printed.terms && printed.cover) ≡ true

-- what is asked for is not to be had together
abbrev pub AskTooMuch : List Given → Options → Printed → Type 0
AskTooMuch given options printed = AskMoreOfJob given printed ⊎ (AskTreeOfStates given options printed ⊎ AskCoverOfTerms printed)

-- the words are those of `explore` except for what they excuse, for their format, or for what they ask for together
pub record IsNoExplore (words : List (List ℕ)) : Type 0 where
  pub given : List Given
  pub options : Options
  pub printed : Printed
  pub says : AreWordsOfExplore words given options printed
  pub bad : ExcuseNothing given ⊎ (HasNoFormat (formats_of given) ⊎ AskTooMuch given options printed)

-- the words are those of `check` except for what they excuse
pub record IsNoCheck (words : List (List ℕ)) : Type 0 where
  pub given : List Given
  pub steps : ℕ
  pub flags : Flags
  pub says : AreWordsOfCheck words given steps flags
  pub bad : ExcuseNothing given

-- the words are those of this command, which names one level of the tree, except for what they excuse, or for a depth past that of the tree
pub record IsNoLevel (words : List (List ℕ)) (command : List ℕ) : Type 0 where
  pub given : List Given
  pub steps : ℕ
  pub place : ℕ
  pub flags : Flags
  pub says : AreWordsOfLevel words command given steps place flags
  pub bad : ExcuseNothing given ⊎ (steps < place)

-- the words are those of `jobs` except for that
abbrev pub IsNoJobs : List (List ℕ) → Type 0
IsNoJobs words = IsNoLevel words (codes "jobs")

-- the words are those of `merge` except for that
abbrev pub IsNoMerge : List (List ℕ) → Type 0
IsNoMerge words = IsNoLevel words (codes "merge")

-- the words are those of `sample` except for what they excuse, or for their format
pub record IsNoSample (words : List (List ℕ)) : Type 0 where
  pub given : List Given
  pub samples : Samples
  pub printed : Printed
  pub says : AreWordsOfSample words given samples printed
  pub bad : ExcuseNothing given ⊎ HasNoFormat (formats_of given)

-- the words are those of a command except for what they excuse, for their format, for what they ask for together, or where they look for jobs
abbrev pub AreUnreadable : List (List ℕ) → Type 0
AreUnreadable words = IsNoExplore words ⊎ (IsNoCheck words ⊎ (IsNoJobs words ⊎ (IsNoMerge words ⊎ IsNoSample words)))

-- the words are the name of the program, this name of a command, and others
pub record IsNamed (words : List (List ℕ)) (command : List ℕ) : Type 0 where
  pub name : List ℕ
  pub rest : List (List ℕ)
  pub words_are : words ≡ name ∷ command ∷ rest

-- the name of the command that was read
abbrev pub command_of : Words → List ℕ
command_of (Replay word) = codes "replay"
command_of (Explore options excuses printed) = codes "explore"
command_of (ExploreJob options excuses line) = codes "explore"
command_of (Check steps flags excuses) = codes "check"
command_of (Jobs place) = codes "jobs"
command_of (Merge steps place flags excuses) = codes "merge"
command_of (Sample samples excuses printed) = codes "sample"

-- what was read is the replay of this schedule
abbrev pub AsksReplay : List ℕ → Words → Type 0
AsksReplay schedule (Replay word) = string_bytes word ≡ schedule
AsksReplay schedule _ = ⊥

-- what was read is an exploration with these options, that excuses this and prints this
abbrev pub AsksExplore : Options → Excuses → Printed → Words → Type 0
AsksExplore options excuses printed (Explore found excused prints) = (found ≡ options) × ((excuses_in excused ≡ excuses) × (prints ≡ printed))
AsksExplore options excuses printed _ = ⊥

-- what was read is an exploration of the job of this line with these options, that excuses this
abbrev pub AsksExploreJob : Options → Excuses → List ℕ → Words → Type 0
AsksExploreJob options excuses line (ExploreJob found excused text) = (found ≡ options) × ((excuses_in excused ≡ excuses) × (string_bytes text ≡ line))
AsksExploreJob options excuses line _ = ⊥

-- what was read is the check of a cover up to this number of steps, with these flags, that excuses this
abbrev pub AsksCheck : ℕ → Flags → Excuses → Words → Type 0
AsksCheck steps flags excuses (Check found counts excused) = (found ≡ steps) × ((counts ≡ flags) × (excuses_in excused ≡ excuses))
AsksCheck steps flags excuses _ = ⊥

-- what was read asks for the jobs at this depth
abbrev pub AsksJobs : ℕ → Words → Type 0
AsksJobs place (Jobs found) = found ≡ place
AsksJobs place _ = ⊥

-- what was read is the merge of the reports of a tree of this depth and of its jobs at this one, with these flags, that excuses this
abbrev pub AsksMerge : ℕ → ℕ → Flags → Excuses → Words → Type 0
AsksMerge steps place flags excuses (Merge found level counts excused) = (found ≡ steps) × ((level ≡ place) × ((counts ≡ flags) × (excuses_in excused ≡ excuses)))
AsksMerge steps place flags excuses _ = ⊥

-- what was read asks for random schedules with these options, that excuses this and prints this
abbrev pub AsksSample : Samples → Excuses → Printed → Words → Type 0
AsksSample samples excuses printed (Sample found excused prints) = (found ≡ samples) × ((excuses_in excused ≡ excuses) × (prints ≡ printed))
AsksSample samples excuses printed _ = ⊥

-- the numbers of a command are in their ranges, and so is what it excuses
abbrev pub IsInRange : Words → Type 0
IsInRange (Replay word) = Unit {0}
IsInRange (Explore options excuses printed) = AreInRange options × AreExcusesInRange options.flags (excuses_in excuses)
IsInRange (ExploreJob options excuses line) = AreInRange options × AreExcusesInRange options.flags (excuses_in excuses)
IsInRange (Check steps flags excuses) = (steps ≤ 400) × AreExcusesInRange flags (excuses_in excuses)
IsInRange (Jobs place) = place ≤ 400
IsInRange (Merge steps place flags excuses) = (steps ≤ 400) × (place ≤ steps) × AreExcusesInRange flags (excuses_in excuses)
IsInRange (Sample samples excuses printed) = AreSamplesInRange samples × AreExcusesInRange samples.flags (excuses_in excuses)

-- the words were read as what they ask for, or there was no memory for them
abbrev pub AreReadAs : (Words → Type 0) → Result Words Error → Type 0
AreReadAs Asks r = MatchResult r Asks (λ e. kind_of e ≡ OutOfMemory)
