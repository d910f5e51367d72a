-- What the parser makes of the words of a command that has options: its depth and its flags.
use Rattle.std.proofs.Common.{◌≡◌, ◌∙◌, ◌||◌, ℕ, ◌+◌, ◌<◌, ◌≤◌, ◌^◌, Bool, true, false, List, [], ◌∷◌, length, Option, Some, None, cond, codes, option_map, refl, sym, ap, subst, arith}
use Rattle.std.specs.Fmt.{decimal, digits}
use Rattle.std.specs.List.{count_by, list_any}
use Rattle.std.specs.Prelude.{option_and_then, slice_get}
use Rattle.std.proofs.lemmas.List.Sums.{sum_by-cons}
use Rattle.clap.specs.Words.{Row, Text, fault_of, one_of, subcommand_of}
use Rattle.clap.specs.declared.parser.matches.ValueSource.TheVariants.{CommandLine, DefaultValue}
use Rattle.world_identities.specs.declared.flags.Flags.{Flags}
use Rattle.program_words.specs.Words.{Given, IsGivenOr, depths_of, format, formats_of, is_allow_deadlock, is_idle_servers, is_strict_access, words_of_all}
use Rattle.program_words.specs.inside.CommandLine.{Level, checking, command_line, exploring, listing, merging, name_of, sampling, splitting}
use Rattle.program_words.specs.inside.Found.{AreFlagsOf, ReadsFlag, ReadsNumber, format_in, schedule_in}
use Rattle.program_words.proofs.Levels.{HasPlace, level_passes, line_enters, line_passes, rows_left}
use Rattle.program_words.proofs.Numbers.{decimal_is_number, decimal_value}
use Rattle.program_words.proofs.Once.{AreOnce, Each, once_are_new}
use Rattle.program_words.proofs.Options.{AreLawful}
use Rattle.program_words.proofs.Rows.{allow_deadlock_left, allow_deadlock_row, depth_left, depth_row, format_row, given_row, idle_servers_left, idle_servers_row, put_all, row_at, row_of, row_or, row_with, strict_access_left, strict_access_row, text_of_row, with_defaults}

-- the words of a command with its options, each once, except for `--normal`, and in its range
pub record IsAsked (level : Level) (words : List Text) (given : List Given) (steps : ℕ) (flags : Flags) : Type 0 where
  pub name : Text
  pub words_are : words ≡ name ∷ name_of level ∷ words_of_all given
  pub depth : depths_of given ≡ steps ∷ []
  pub allow_deadlock : count_by is_allow_deadlock given ≡ cond flags.allow_deadlock 1 0
  pub strict_access : count_by is_strict_access given ≡ cond flags.strict_access 1 0
  pub idle_servers : count_by is_idle_servers given ≡ cond flags.idle_servers 1 0
  pub once : AreOnce given
  pub lawful : AreLawful given level
  pub place : ℕ
  pub has_place : HasPlace level given place
  pub in_range : steps ≤ 400

-- the rows of what is given, with the defaults
abbrev pub rows_of_given : Level → List Given → List Row
rows_of_given level given = with_defaults level (put_all [] given)

module _ (level : Level) (words : List Text) (given : List Given) (steps : ℕ) (flags : Flags) (asks : IsAsked level words given steps flags) where
  -- such words have no fault
  pub asked_passes : fault_of command_line words ≡ []
  asked_passes =
      ap (fault_of command_line) asks.words_are
      ∙ line_passes level asks.name (words_of_all given) (level_passes level given steps asks.place (once_are_new given asks.once) asks.lawful asks.depth asks.has_place)

  pub asked_enters : subcommand_of command_line words ≡ Some (name_of level, rows_of_given level given)
  asked_enters =
      ap (subcommand_of command_line) asks.words_are ∙ line_enters level asks.name (words_of_all given)
      ∙ ap (λ (rows : List Row). Some (name_of level, rows)) (rows_left level given steps asks.place (once_are_new given asks.once) asks.lawful asks.depth asks.has_place)

-- no schedule is found of them
pub asked_has_no_schedule : (level : Level) (words : List Text) (given : List Given) (steps : ℕ) (flags : Flags) → IsAsked level words given steps flags
    → schedule_in (subcommand_of command_line words) ≡ None
asked_has_no_schedule exploring words given steps flags asks = ap schedule_in (asked_enters exploring words given steps flags asks)
asked_has_no_schedule checking words given steps flags asks = ap schedule_in (asked_enters checking words given steps flags asks)
asked_has_no_schedule sampling words given steps flags asks = ap schedule_in (asked_enters sampling words given steps flags asks)
asked_has_no_schedule (splitting listing) words given steps flags asks = ap schedule_in (asked_enters (splitting listing) words given steps flags asks)
asked_has_no_schedule (splitting merging) words given steps flags asks = ap schedule_in (asked_enters (splitting merging) words given steps flags asks)

-- ---- the text of a number, as it is read

pub number_read : (o : Option Text) (n found : ℕ) → n < 2 ^ 64 → o ≡ Some (decimal n) → ReadsNumber o (Some found) → found ≡ n
number_read o n found small text reads =
    let of : ReadsNumber (Some (decimal n)) (Some found) = subst (λ o. ReadsNumber o (Some found)) text reads in
    of.1 ∙ decimal_value n small

pub number_not_read : (o : Option Text) (n : ℕ) → n < 2 ^ 64 → o ≡ Some (decimal n) → ReadsNumber o None → ⊥
number_not_read o n small text reads =
    let of : ReadsNumber (Some (decimal n)) None = subst (λ o. ReadsNumber o None) text reads in
    of (decimal_is_number n small)

depth_text : (level : Level) (given : List Given) (steps : ℕ) → depths_of given ≡ steps ∷ [] → one_of (codes "depth") (rows_of_given level given) ≡ Some (decimal steps)
depth_text level given steps is =
    text_of_row (codes "depth") (decimal steps) CommandLine (rows_of_given level given)
    (depth_left level (put_all [] given) ∙ given_row (codes "depth") given refl ∙ depth_row given ∙ ap (λ l. option_map (λ n. row_with CommandLine (codes "depth") (decimal n)) (slice_get l 0)) is)

pub depth_read : (level : Level) (words : List Text) (given : List Given) (steps : ℕ) (flags : Flags) (asks : IsAsked level words given steps flags) (found : ℕ)
    → ReadsNumber (one_of (codes "depth") (rows_of_given level given)) (Some found) → found ≡ steps
depth_read level words given steps flags asks found read = number_read _ steps found (omega (arith, asks.in_range)) (depth_text level given steps asks.depth) read

pub depth_is_read : (level : Level) (words : List Text) (given : List Given) (steps : ℕ) (flags : Flags) (asks : IsAsked level words given steps flags)
    → ReadsNumber (one_of (codes "depth") (rows_of_given level given)) None → ⊥
depth_is_read level words given steps flags asks none = number_not_read _ steps (omega (arith, asks.in_range)) (depth_text level given steps asks.depth) none

-- ---- the text of a flag

none_counted : (p : Given → Bool) (given : List Given) → count_by p given ≡ 0 → list_any p given ≡ false
none_counted p [] none = refl
none_counted p (first ∷ rest) none = by (p first) (sym (sum_by-cons (λ x. cond (p x) 1 0) first rest) ∙ none) (none_counted p rest)
  where
    by : (b : Bool) → cond b 1 0 + count_by p rest ≡ 0 → (count_by p rest ≡ 0 → list_any p rest ≡ false) → (b || list_any p rest) ≡ false
    by true none later = absurd (omega arith)
    by false none later = later (omega arith)

some_counted : (p : Given → Bool) (given : List Given) → count_by p given ≡ 1 → list_any p given ≡ true
some_counted p [] some = absurd (omega arith)
some_counted p (first ∷ rest) some = by (p first) (sym (sum_by-cons (λ x. cond (p x) 1 0) first rest) ∙ some) (some_counted p rest)
  where
    by : (b : Bool) → cond b 1 0 + count_by p rest ≡ 1 → (count_by p rest ≡ 1 → list_any p rest ≡ true) → (b || list_any p rest) ≡ true
    by true some later = refl
    by false some later = later (omega arith)

pub flag_text : (level : Level) (id : Text) (p : Given → Bool) (given : List Given) (flag : Bool) → count_by p given ≡ cond flag 1 0
    → row_at id (rows_of_given level given) ≡ row_or id (codes "false") (row_at id (put_all [] given))
    → row_at id (put_all [] given) ≡ cond (list_any p given) (Some (row_with CommandLine id (codes "true"))) None → one_of id (rows_of_given level given) ≡ Some (cond flag (codes "true") (codes "false"))
flag_text level id p given true counted left row =
    text_of_row id (codes "true") CommandLine (rows_of_given level given)
    (left ∙ ap (row_or id (codes "false")) (row ∙ ap (λ b. cond b (Some (row_with CommandLine id (codes "true"))) None) (some_counted p given counted)))
flag_text level id p given false counted left row =
    text_of_row id (codes "false") DefaultValue (rows_of_given level given)
    (left ∙ ap (row_or id (codes "false")) (row ∙ ap (λ b. cond b (Some (row_with CommandLine id (codes "true"))) None) (none_counted p given counted)))

pub flag_is : (o : Option Text) (flag found : Bool) → o ≡ Some (cond flag (codes "true") (codes "false")) → ReadsFlag o found → found ≡ flag
flag_is o true found text reads = reads.set text
flag_is o false found text reads = reads.unset text

-- a flag is read as it is given
pub flag_read : (level : Level) (id : Text) (p : Given → Bool) (given : List Given) (flag found : Bool) → count_by p given ≡ cond flag 1 0
    → row_at id (rows_of_given level given) ≡ row_or id (codes "false") (row_at id (put_all [] given))
    → row_at id (put_all [] given) ≡ cond (list_any p given) (Some (row_with CommandLine id (codes "true"))) None → ReadsFlag (one_of id (rows_of_given level given)) found → found ≡ flag
flag_read level id p given flag found counted left row reads = flag_is _ flag found (flag_text level id p given flag counted left row) reads

pub flags_read : (level : Level) (words : List Text) (given : List Given) (steps : ℕ) (flags : Flags) (asks : IsAsked level words given steps flags) (found : Flags)
    → AreFlagsOf (rows_of_given level given) found → found ≡ flags
flags_read level words given steps flags asks found read =
    let rows = put_all [] given in
    let deadlock : found.allow_deadlock ≡ flags.allow_deadlock = flag_read level (codes "allow-deadlock") is_allow_deadlock given flags.allow_deadlock found.allow_deadlock asks.allow_deadlock
    (allow_deadlock_left level rows) (given_row (codes "allow-deadlock") given refl ∙ allow_deadlock_row given) read.allow_deadlock in
    let access : found.strict_access ≡ flags.strict_access = flag_read level (codes "strict-access") is_strict_access given flags.strict_access found.strict_access asks.strict_access
    (strict_access_left level rows) (given_row (codes "strict-access") given refl ∙ strict_access_row given) read.strict_access in
    let idle : found.idle_servers ≡ flags.idle_servers = flag_read level (codes "idle-servers") is_idle_servers given flags.idle_servers found.idle_servers asks.idle_servers
    (idle_servers_left level rows) (given_row (codes "idle-servers") given refl ∙ idle_servers_row given) read.idle_servers in
    (λ i. record { allow_deadlock = deadlock i; strict_access = access i; idle_servers = idle i })

-- ---- options that are given once or not at all

pub given_once : (default n : ℕ) (counts : List ℕ) → IsGivenOr default counts n → length counts ≤ 1
given_once default n [] is = omega arith
given_once default n (m ∷ []) is = omega arith
given_once default n (m ∷ (k ∷ rest)) is = absurd is

-- what holds of the number holds of each one that is given
pub given_each : (P : ℕ → Type 0) (default n : ℕ) (counts : List ℕ) → IsGivenOr default counts n → P n → Each P counts
given_each P default n [] is holds = tt
given_each P default n (m ∷ []) is holds = (subst P is holds, tt)
given_each P default n (m ∷ (k ∷ rest)) is holds = absurd is

pub one_digit : codes "1" ≡ decimal 1
unfolding digits
one_digit = refl

-- a number that is given, or its default
pub number_text : (id text : Text) (default n : ℕ) (rows : List Row) (counts : List ℕ) → text ≡ decimal default → IsGivenOr default counts n
    → row_at id rows ≡ row_or id text (option_map (λ n. row_with CommandLine id (decimal n)) (slice_get counts 0)) → one_of id rows ≡ Some (decimal n)
number_text id text default n rows [] spelled is row = text_of_row id text DefaultValue rows row ∙ ap Some (spelled ∙ ap decimal (sym is))
number_text id text default n rows (m ∷ []) spelled is row = text_of_row id (decimal m) CommandLine rows row ∙ ap (λ k. Some (decimal k)) (sym is)
number_text id text default n rows (m ∷ (k ∷ rest)) spelled is row = absurd is

-- a format that is given; it has no default
pub format_given : (level : Level) (given : List Given) → row_at (codes "format") (rows_of_given level given) ≡ row_at (codes "format") (put_all [] given)
    → format_in (rows_of_given level given) ≡ slice_get (formats_of given) 0
format_given level given left = ap (option_and_then (λ (r : Row). slice_get r.values 0)) (left ∙ given_row (codes "format") given refl ∙ format_row given) ∙ by (slice_get (formats_of given) 0)
  where
    by : (o : Option Text) → option_and_then (λ (r : Row). slice_get r.values 0) (option_map (λ text. row_of (format text)) o) ≡ o
    by None = refl
    by (Some text) = refl

pub at_most_once : (n : ℕ) (flag : Bool) → n ≡ cond flag 1 0 → n ≤ 1
at_most_once n true is = omega arith
at_most_once n false is = omega arith
