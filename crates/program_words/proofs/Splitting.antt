-- What the program makes of the words of a command that splits the tree at a level.
use Rattle.std.proofs.Common.{◌≡◌, ◌∙◌, ◌⊎◌, ℕ, ◌≤◌, Bool, true, false, List, [], ◌∷◌, length, Option, Some, None, codes, option_map, refl, sym, ap, subst, inl, inr, arith}
use Rattle.std.specs.Fmt.{decimal}
use Rattle.std.specs.Prelude.{MatchBool, slice_get}
use Rattle.std.specs.Str.{bytes_eq}
use Rattle.std.proofs.lemmas.Slice.Eq.{bytes_eq-Decides}
use Rattle.clap.specs.Words.{Row, Text, fault_of, one_of, subcommand_of}
use Rattle.clap.specs.declared.parser.matches.ValueSource.TheVariants.{CommandLine}
use Rattle.world_identities.specs.declared.flags.Flags.{Flags}
use Rattle.tree_findings.specs.declared.options.Options.{Options}
use Rattle.program_words.specs.declared.command_line.Split.{Split}
use Rattle.program_words.specs.declared.words.Printed.{Printed}
use Rattle.program_words.specs.Words.{AreWordsOfLevel, Given, ats_of}
use Rattle.program_words.specs.inside.CommandLine.{Splitter, command_line, listing, merging, split_name, splitting}
use Rattle.program_words.specs.inside.Found.{AreOptionsOf, AsksForSplit, IsCheckOf, IsSplitIn, IsSplitOf, ReadsNumber, schedule_in}
use Rattle.program_words.proofs.Asked.{IsAsked, asked_enters, asked_has_no_schedule, asked_passes, at_most_once, depth_is_read, depth_read, flags_read, number_not_read, number_read, rows_of_given}
use Rattle.program_words.proofs.Entered.{entered_rows, number_fits}
use Rattle.program_words.proofs.Once.{AreOfNoExploration, Each, split_lawful_by}
use Rattle.program_words.proofs.Ranges.{depth_fits}
use Rattle.program_words.proofs.Rows.{at_left, at_option_row, given_row, put_all, row_with, text_of_row}

-- ---- what is found of a command

-- a split is found of the rows of its own command alone
record IsSplitAt (command : Text) (p : Text × List Row) (read : Split) : Type 0 where
  pub name : p.0 ≡ command
  pub rows : IsSplitIn p.1 (Some read)

split_at : (command : Text) (p : Text × List Row) (read : Split) → IsSplitOf command (Some p) (Some read) → IsSplitAt command p read
split_at command p read found = by (bytes_eq p.0 command) refl found
  where
    by : (b : Bool) → bytes_eq p.0 command ≡ b → MatchBool b (IsSplitIn p.1 (Some read)) (Some read ≡ None) → IsSplitAt command p read
    by false is found = cc
    by true is found = record { name = (bytes_eq-Decides p.0 command).0 is; rows = found }

own_split : (command : Text) (rows : List Row) (read : Option Split) → IsSplitOf command (Some (command, rows)) read → IsSplitIn rows read
own_split command rows read found = subst (λ (b : Bool). MatchBool b (IsSplitIn rows read) (read ≡ None)) ((bytes_eq-Decides command command).1 refl) found

-- where another command was found, there is no split
pub no_split : (command name : Text) (rows : List Row) (o : Option (Text × List Row)) (read : Split) → o ≡ Some (name, rows) → bytes_eq name command ≡ false → IsSplitOf command o (Some read) → ⊥
no_split command name rows o read enters differs found =
    let at : MatchBool (bytes_eq name command) (IsSplitIn rows (Some read)) (Some read ≡ None) = subst (λ o. IsSplitOf command o (Some read)) enters found in
    let none : Some read ≡ None = subst (λ (b : Bool). MatchBool b (IsSplitIn rows (Some read)) (Some read ≡ None)) differs at in
    cc

-- so nothing has to hold of what it splits
pub asks_for_no_split : (command name : Text) (rows : List Row) (o : Option (Text × List Row)) → o ≡ Some (name, rows) → bytes_eq name command ≡ false → AsksForSplit command o
asks_for_no_split command name rows o enters differs = record {
  excused = λ found of. absurd (no_split command name rows o found enters differs of);
  within = λ found of. absurd (no_split command name rows o found enters differs of);
}

-- ---- the words of such a command

-- the text of `--at`
at_text : (which : Splitter) (given : List Given) (place : ℕ) → ats_of given ≡ place ∷ [] → one_of (codes "at") (rows_of_given (splitting which) given) ≡ Some (decimal place)
at_text which given place is =
    text_of_row (codes "at") (decimal place) CommandLine (rows_of_given (splitting which) given)
    (at_left which (put_all [] given) ∙ given_row (codes "at") given refl ∙ at_option_row given ∙ ap (λ l. option_map (λ n. row_with CommandLine (codes "at") (decimal n)) (slice_get l 0)) is)

-- they are no exploration and no check
enters_no_options : (which : Splitter) (rows : List Row) (o : Option (Text × List Row)) (read : Options × Printed) → o ≡ Some (split_name which, rows) → AreOptionsOf o (Some read) → ⊥
enters_no_options listing rows o read enters found =
    let none : Some read ≡ None = subst (λ o. AreOptionsOf o (Some read)) enters found in
    cc
enters_no_options merging rows o read enters found =
    let none : Some read ≡ None = subst (λ o. AreOptionsOf o (Some read)) enters found in
    cc

enters_no_check : (which : Splitter) (rows : List Row) (o : Option (Text × List Row)) (read : ℕ × Flags) → o ≡ Some (split_name which, rows) → IsCheckOf o (Some read) → ⊥
enters_no_check listing rows o read enters found =
    let none : Some read ≡ None = subst (λ o. IsCheckOf o (Some read)) enters found in
    cc
enters_no_check merging rows o read enters found =
    let none : Some read ≡ None = subst (λ o. IsCheckOf o (Some read)) enters found in
    cc

module _ (which : Splitter) (words : List Text) (given : List Given) (steps place : ℕ) (flags : Flags) (says : AreWordsOfLevel words (split_name which) given steps place flags) where
  none : AreOfNoExploration given
  none = record {
    nodes = omega (arith, ap length says.no_nodes);
    workers = omega (arith, ap length says.no_workers);
    explain = omega (arith, says.no_explain);
    cover = omega (arith, says.no_cover);
    jobs = omega (arith, ap length says.no_job);
    states = omega (arith, says.no_states);
    at_once = omega (arith, says.no_at_once);
    runs = omega (arith, ap length says.no_runs);
    seeds = omega (arith, ap length says.no_seed);
    formats = omega (arith, ap length says.no_format);
  }

  -- the options of such a command, each once, except for `--normal`, and in its range
  asked : IsAsked (splitting which) words given steps flags
  asked = record {
    name = says.name;
    words_are = says.words_are;
    depth = says.depth;
    allow_deadlock = says.allow_deadlock;
    strict_access = says.strict_access;
    idle_servers = says.idle_servers;
    once = record {
      depths = omega (arith, ap length says.depth);
      nodes = omega (arith, ap length says.no_nodes);
      workers = omega (arith, ap length says.no_workers);
      allow_deadlock = at_most_once _ flags.allow_deadlock says.allow_deadlock;
      main_deadlock = says.main_deadlock;
      idle_servers = at_most_once _ flags.idle_servers says.idle_servers;
      strict_access = at_most_once _ flags.strict_access says.strict_access;
      explain = omega (arith, says.no_explain);
      cover = omega (arith, says.no_cover);
      ats = omega (arith, ap length says.at);
      jobs = omega (arith, ap length says.no_job);
      states = omega (arith, says.no_states);
      at_once = omega (arith, says.no_at_once);
      runs = omega (arith, ap length says.no_runs);
      seeds = omega (arith, ap length says.no_seed);
      formats = omega (arith, ap length says.no_format);
    };
    lawful = split_lawful_by which given (subst (Each (λ n. n ≤ 400)) (sym says.depth) (says.in_range, tt)) (subst (Each (λ n. n ≤ 400)) (sym says.at) (says.at_in_range, tt)) none says.normal;
    place = place;
    has_place = says.at;
    in_range = says.in_range;
  }

  -- they have no fault
  pub split_passes : fault_of command_line words ≡ []
  split_passes = asked_passes (splitting which) words given steps flags asked

  pub split_enters : subcommand_of command_line words ≡ Some (split_name which, rows_of_given (splitting which) given)
  split_enters = asked_enters (splitting which) words given steps flags asked

  -- no schedule is found of them
  pub split_has_no_schedule : schedule_in (subcommand_of command_line words) ≡ None
  split_has_no_schedule = asked_has_no_schedule (splitting which) words given steps flags asked

  -- no exploration
  pub split_has_no_options : (read : Options × Printed) → AreOptionsOf (subcommand_of command_line words) (Some read) → ⊥
  split_has_no_options read found = enters_no_options which _ _ read split_enters found

  -- and no check
  pub split_has_no_check : (read : ℕ × Flags) → IsCheckOf (subcommand_of command_line words) (Some read) → ⊥
  split_has_no_check read found = enters_no_check which _ _ read split_enters found

  -- what is found of a command that splits the tree is of this one
  own_rows : (command : Text) (read : Split) → IsSplitOf command (subcommand_of command_line words) (Some read) → IsSplitAt command (split_name which, rows_of_given (splitting which) given) read
  own_rows command read found = split_at command _ read (subst (λ o. IsSplitOf command o (Some read)) split_enters found)

  -- the depths and the flags that are found are those that the words ask for
  pub split_read : (command : Text) (read : Split) → IsSplitOf command (subcommand_of command_line words) (Some read) → (read.depth ≡ steps) × ((read.at ≡ place) × (read.flags ≡ flags))
  split_read command read found =
      let rows = (own_rows command read found).rows in (
        depth_read (splitting which) words given steps flags asked read.depth rows.0,
        (
          number_read _ place read.at (omega (arith, says.at_in_range)) (at_text which given place says.at) rows.1.0,
          flags_read (splitting which) words given steps flags asked read.flags rows.1.1,
        ),
      )

  -- and there are some
  pub split_is_found : IsSplitOf (split_name which) (subcommand_of command_line words) None → ⊥
  split_is_found read = by (own_split (split_name which) (rows_of_given (splitting which) given) None (subst (λ o. IsSplitOf (split_name which) o None) split_enters read))
    where
      by : ReadsNumber (one_of (codes "depth") (rows_of_given (splitting which) given)) None ⊎ ReadsNumber (one_of (codes "at") (rows_of_given (splitting which) given)) None → ⊥
      by (inl depth) = depth_is_read (splitting which) words given steps flags asked depth
      by (inr at) = number_not_read _ place (omega (arith, says.at_in_range)) (at_text which given place says.at) at

-- the depth of the tree that is found of words that are not at fault is in its range
pub split_in_range : (which : Splitter) (words : List Text) (found : Split) → fault_of command_line words ≡ [] → IsSplitOf (split_name which) (subcommand_of command_line words) (Some found) → found.depth ≤ 400
split_in_range which words found none read = by (subcommand_of command_line words) refl read
  where
    in_rows : (rows : List Row) → subcommand_of command_line words ≡ Some (split_name which, rows) → IsSplitIn rows (Some found) → found.depth ≤ 400
    in_rows rows entered read =
        let walk = entered_rows (splitting which) words rows none entered in
        (number_fits 0 400 found.depth (one_of (codes "depth") rows) read.0 (λ text is. depth_fits (splitting which) walk.words text walk.passes (ap (one_of (codes "depth")) (sym walk.rows_are) ∙ is))).1

    by : (o : Option (Text × List Row)) → subcommand_of command_line words ≡ o → IsSplitOf (split_name which) o (Some found) → found.depth ≤ 400
    by None entered read = cc
    by (Some p) entered read =
        let own = split_at (split_name which) p found read in
        in_rows p.1 (entered ∙ ap (λ (n : Text). Some (n, p.1)) own.name) own.rows
