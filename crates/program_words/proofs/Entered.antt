-- What a whole command line that enters a command with options results in.
use Rattle.std.proofs.Common.{◌≡◌, ◌∙◌, ℕ, ◌≤◌, Bool, true, false, List, [], Option, Some, None, cond, codes, option_map, refl, sym, ap, subst, true≢false}
use Rattle.std.specs.Option.{option_map_or}
use Rattle.std.specs.Str.{bytes_eq}
use Rattle.clap.specs.Faults.{entered_fault, fault_of, level_fault, walk_fault}
use Rattle.clap.specs.Simple.{argument_words, built, built_leaf, entered, help_shape, inherited, label_of, names_of, rows_at, subcommand_of}
use Rattle.clap.specs.ValueTests.{is_unsigned_in}
use Rattle.clap.specs.Walk.{Row, Text, answers_to, nothing_held, rows_after, stop_after, walk_from}
use Rattle.clap.specs.Simple.{Shape}
use Rattle.clap.specs.declared.builder.value_parser.ValueParser.TheVariants.{Unsigned}
use Rattle.clap.proofs.ValueTestLemmas.{accepts-Accepts}
use Rattle.program_words.specs.inside.CommandLine.{Level, built_of, check_built, checking, command_line, explore_built, exploring, listing, merging, name_of, program_built, replay_command, sample_built, sampling, split_built, splitting}
use Rattle.program_words.specs.inside.Found.{ReadsNumber}
use Rattle.program_words.proofs.Kept.{both_pass}

abbrev replay_built : Shape
replay_built = built_leaf (inherited program_built replay_command.top)

abbrev jobs_built : Shape
jobs_built = split_built (codes "jobs")

abbrev merge_built : Shape
merge_built = split_built (codes "merge")

abbrev help_built : Shape
help_built = built_leaf help_shape

-- the rows of the command are those of a walk over some words that is not at fault
pub record IsEntered (level : Level) (rows : List Row) : Type 0 where
  pub words : List Text
  pub rows_are : rows ≡ rows_after (built_of level).rules [] words
  pub passes : level_fault (built_of level) [] nothing_held words false [] ≡ []

apart : (name : Text) (rows : List Row) (p : Text × List Row) → bytes_eq p.0 name ≡ false → bytes_eq name name ≡ true → Some p ≡ Some (name, rows) → ⊥
apart name rows p differs own same =
    let names : p.0 ≡ name = cc in
    true≢false (sym own ∙ sym (ap (λ t. bytes_eq t name) names) ∙ differs)

-- the subcommand that a word names
abbrev named : Bool → Bool → Bool → Bool → Bool → Bool → Bool → Option Shape
named replay explore check jobs merge sample help =
    cond replay (Some replay_built) (cond explore (Some explore_built) (cond check (Some check_built) (cond jobs (Some jobs_built) (cond merge (Some merge_built) (cond sample (Some sample_built) (cond help (Some help_built) None))))))

entered_by : (level : Level) (stop : Option (Text × List Text)) (rows : List Row) → entered (built command_line) stop ≡ Some (name_of level, rows) → entered_fault (built command_line) stop ≡ []
    → IsEntered level rows
entered_by level None rows is passes = cc
entered_by level (Some p) rows is passes =
    by level (answers_to p.0 (label_of replay_built)) (answers_to p.0 (label_of explore_built)) (answers_to p.0 (label_of check_built)) (answers_to p.0 (label_of jobs_built))
    (answers_to p.0 (label_of merge_built)) (answers_to p.0 (label_of sample_built)) (answers_to p.0 (label_of help_built)) is passes
  where
    by : (level : Level) (replay explore check jobs merge sample help : Bool) → option_map (λ s. rows_at s p.1) (named replay explore check jobs merge sample help) ≡ Some (name_of level, rows)
        → option_map_or (λ s. level_fault s [] nothing_held p.1 false []) (named replay explore check jobs merge sample help) [] ≡ [] → IsEntered level rows
    by exploring true explore check jobs merge sample help is passes = absurd (apart (codes "explore") rows (rows_at replay_built p.1) refl refl is)
    by exploring false true check jobs merge sample help is passes =
        let same : Some (rows_after explore_built.rules [] p.1) ≡ Some rows = ap (option_map (λ (q : Text × List Row). q.1)) is in
        record { words = p.1; rows_are = cc; passes = passes }
    by exploring false false true jobs merge sample help is passes = absurd (apart (codes "explore") rows (rows_at check_built p.1) refl refl is)
    by exploring false false false true merge sample help is passes = absurd (apart (codes "explore") rows (rows_at jobs_built p.1) refl refl is)
    by exploring false false false false true sample help is passes = absurd (apart (codes "explore") rows (rows_at merge_built p.1) refl refl is)
    by exploring false false false false false true help is passes = absurd (apart (codes "explore") rows (rows_at sample_built p.1) refl refl is)
    by exploring false false false false false false true is passes = absurd (apart (codes "explore") rows (rows_at help_built p.1) refl refl is)
    by exploring false false false false false false false is passes = cc
    by checking true explore check jobs merge sample help is passes = absurd (apart (codes "check") rows (rows_at replay_built p.1) refl refl is)
    by checking false true check jobs merge sample help is passes = absurd (apart (codes "check") rows (rows_at explore_built p.1) refl refl is)
    by checking false false true jobs merge sample help is passes =
        let same : Some (rows_after check_built.rules [] p.1) ≡ Some rows = ap (option_map (λ (q : Text × List Row). q.1)) is in
        record { words = p.1; rows_are = cc; passes = passes }
    by checking false false false true merge sample help is passes = absurd (apart (codes "check") rows (rows_at jobs_built p.1) refl refl is)
    by checking false false false false true sample help is passes = absurd (apart (codes "check") rows (rows_at merge_built p.1) refl refl is)
    by checking false false false false false true help is passes = absurd (apart (codes "check") rows (rows_at sample_built p.1) refl refl is)
    by checking false false false false false false true is passes = absurd (apart (codes "check") rows (rows_at help_built p.1) refl refl is)
    by checking false false false false false false false is passes = cc
    by (splitting listing) true explore check jobs merge sample help is passes = absurd (apart (codes "jobs") rows (rows_at replay_built p.1) refl refl is)
    by (splitting listing) false true check jobs merge sample help is passes = absurd (apart (codes "jobs") rows (rows_at explore_built p.1) refl refl is)
    by (splitting listing) false false true jobs merge sample help is passes = absurd (apart (codes "jobs") rows (rows_at check_built p.1) refl refl is)
    by (splitting listing) false false false true merge sample help is passes =
        let same : Some (rows_after jobs_built.rules [] p.1) ≡ Some rows = ap (option_map (λ (q : Text × List Row). q.1)) is in
        record { words = p.1; rows_are = cc; passes = passes }
    by (splitting listing) false false false false true sample help is passes = absurd (apart (codes "jobs") rows (rows_at merge_built p.1) refl refl is)
    by (splitting listing) false false false false false true help is passes = absurd (apart (codes "jobs") rows (rows_at sample_built p.1) refl refl is)
    by (splitting listing) false false false false false false true is passes = absurd (apart (codes "jobs") rows (rows_at help_built p.1) refl refl is)
    by (splitting listing) false false false false false false false is passes = cc
    by (splitting merging) true explore check jobs merge sample help is passes = absurd (apart (codes "merge") rows (rows_at replay_built p.1) refl refl is)
    by (splitting merging) false true check jobs merge sample help is passes = absurd (apart (codes "merge") rows (rows_at explore_built p.1) refl refl is)
    by (splitting merging) false false true jobs merge sample help is passes = absurd (apart (codes "merge") rows (rows_at check_built p.1) refl refl is)
    by (splitting merging) false false false true merge sample help is passes = absurd (apart (codes "merge") rows (rows_at jobs_built p.1) refl refl is)
    by (splitting merging) false false false false true sample help is passes =
        let same : Some (rows_after merge_built.rules [] p.1) ≡ Some rows = ap (option_map (λ (q : Text × List Row). q.1)) is in
        record { words = p.1; rows_are = cc; passes = passes }
    by (splitting merging) false false false false false true help is passes = absurd (apart (codes "merge") rows (rows_at sample_built p.1) refl refl is)
    by (splitting merging) false false false false false false true is passes = absurd (apart (codes "merge") rows (rows_at help_built p.1) refl refl is)
    by (splitting merging) false false false false false false false is passes = cc
    by sampling true explore check jobs merge sample help is passes = absurd (apart (codes "sample") rows (rows_at replay_built p.1) refl refl is)
    by sampling false true check jobs merge sample help is passes = absurd (apart (codes "sample") rows (rows_at explore_built p.1) refl refl is)
    by sampling false false true jobs merge sample help is passes = absurd (apart (codes "sample") rows (rows_at check_built p.1) refl refl is)
    by sampling false false false true merge sample help is passes = absurd (apart (codes "sample") rows (rows_at jobs_built p.1) refl refl is)
    by sampling false false false false true sample help is passes = absurd (apart (codes "sample") rows (rows_at merge_built p.1) refl refl is)
    by sampling false false false false false true help is passes =
        let same : Some (rows_after sample_built.rules [] p.1) ≡ Some rows = ap (option_map (λ (q : Text × List Row). q.1)) is in
        record { words = p.1; rows_are = cc; passes = passes }
    by sampling false false false false false false true is passes = absurd (apart (codes "sample") rows (rows_at help_built p.1) refl refl is)
    by sampling false false false false false false false is passes = cc

-- where the command line is not at fault
pub entered_rows : (level : Level) (words : List Text) (rows : List Row) → fault_of command_line words ≡ [] → subcommand_of command_line words ≡ Some (name_of level, rows) → IsEntered level rows
entered_rows level words rows none is =
    let given = argument_words command_line words in
    let stop = stop_after (built command_line).top.rules (names_of (built command_line)) given in
    let first = both_pass (walk_fault (built command_line).top (names_of (built command_line)) (walk_from nothing_held) given) _ none in
    entered_by level stop rows is (both_pass (entered_fault (built command_line) stop) _ first.1).0

-- a number that is read is in its range, where its text is
pub number_fits : (low high n : ℕ) (o : Option Text) → ReadsNumber o (Some n) → ((text : Text) → o ≡ Some text → is_unsigned_in low high text ≡ true) → (low ≤ n) × (n ≤ high)
number_fits low high n None reads fits = absurd reads
number_fits low high n (Some text) reads fits =
    let within = accepts-Accepts false (Unsigned low high) text (fits text refl) in
    (subst (λ m. low ≤ m) (sym reads.1) within.2, subst (λ m. m ≤ high) (sym reads.1) within.3)
