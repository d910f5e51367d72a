-- A command line without a fault names its command by the word after the program's name.
use Rattle.std.proofs.Common.{◌≡◌, ◌∙◌, ◌||◌, ℕ, Bool, true, false, zero, suc, List, [], ◌∷◌, length, Option, Some, None, cond, codes, option_map, refl, sym, ap, subst}
use Rattle.std.specs.List.{fold}
use Rattle.std.specs.Option.{option_map_or}
use Rattle.std.specs.Prelude.{MatchBool, slice_get}
use Rattle.std.specs.Str.{bytes_eq, chars}
use Rattle.std.proofs.lemmas.Slice.Eq.{bytes_eq-Decides}
use Rattle.clap.specs.Faults.{bundle_fault, bundle_step_fault, fault_of, flag_word_fault, flags_fault, long_fault, other_fault, short_fault, step_fault, turn_fault, walk_fault}
use Rattle.clap.specs.Kinds.{Kinds, or_else}
use Rattle.clap.specs.Lexer.{long_of, short_of}
use Rattle.clap.specs.Simple.{Shape, built, entered, filled, help_rule, names_of, subcommand_of}
use Rattle.clap.specs.Walk.{Held, Names, Row, Step, Text, Walk, after_flag, after_step, bundle_met, bundle_step, first_of, idle, long_or_other, nothing_held, plain, short_or_plain, subcommand_or_other, trailing, walk, walk_from, walked}
use Rattle.clap.specs.declared.error.kind.ErrorKind.TheVariants.{InvalidSubcommand, UnknownArgument}
use Rattle.world_identities.specs.declared.flags.Flags.{Flags}
use Rattle.tree_findings.specs.declared.options.Options.{Options}
use Rattle.search_samples.specs.declared.sample.Samples.{Samples}
use Rattle.program_words.specs.declared.command_line.Split.{Split}
use Rattle.program_words.specs.declared.words.Printed.{Printed}
use Rattle.program_words.specs.Words.{IsNamed}
use Rattle.program_words.specs.inside.CommandLine.{command_line}
use Rattle.program_words.specs.inside.Found.{AreOptionsIn, AreOptionsOf, AreSamplesIn, AreSamplesOf, IsCheckIn, IsCheckOf, IsSplitIn, IsSplitOf, schedule_in}
use Rattle.program_words.proofs.Levels.{stopped_walk}
use Rattle.program_words.proofs.Kept.{both_pass}

-- the program's own level, and the names of its commands
abbrev top : Shape
top = (built command_line).top

abbrev commands : Names
commands = names_of (built command_line)

-- ---- a word that names no command is at fault

long_fails : (b : Bool) (value : Option Text) → long_fault top.rules false (cond b (Some (filled help_rule)) None) value nothing_held ≡ [] → ⊥
long_fails true None none = cc
long_fails true (Some value) none = cc
long_fails false value none = cc

short_fails : (b : Bool) (rest : Text) (next : Held → Kinds) → short_fault top.rules false (cond b (Some (filled help_rule)) None) rest nothing_held next ≡ [] → ⊥
short_fails true rest next none = cc
short_fails false rest next none = cc

bundle_fails : (k : ℕ) (flags word : Text)
    → or_else (flags_fault top.rules false k flags 0 nothing_held)
    (step_fault top 1 (after_flag top.rules idle word (bundle_met top.rules k flags 0 plain nothing_held).0 (bundle_met top.rules k flags 0 plain nothing_held).1).0
    (after_flag top.rules idle word (bundle_met top.rules k flags 0 plain nothing_held).0 (bundle_met top.rules k flags 0 plain nothing_held).1).1) ≡ [] → ⊥
unfolding flags_fault bundle_met
bundle_fails zero flags word none = cc
bundle_fails (suc k) flags word none = by (slice_get (chars flags) 0) none
  where
    by : (o : Option ℕ)
        → or_else (bundle_step_fault top.rules false o flags 0 nothing_held (flags_fault top.rules false k))
        (step_fault top 1 (after_flag top.rules idle word (bundle_step top.rules o flags 0 plain nothing_held (bundle_met top.rules k)).0 (bundle_step top.rules o flags 0 plain nothing_held (bundle_met top.rules k)).1).0
        (after_flag top.rules idle word (bundle_step top.rules o flags 0 plain nothing_held (bundle_met top.rules k)).0 (bundle_step top.rules o flags 0 plain nothing_held (bundle_met top.rules k)).1).1) ≡ [] → ⊥
    by None none = cc
    by (Some x) none = short_fails _ _ _ (both_pass (bundle_step_fault top.rules false (Some x) flags 0 nothing_held (flags_fault top.rules false k)) _ none).0

short_word_fails : (o : Option Text) (word : Text)
    → or_else (option_map_or (λ flags. bundle_fault top.rules false flags nothing_held) o [])
    (step_fault top 1 (short_or_plain top.rules idle word o nothing_held).0 (short_or_plain top.rules idle word o nothing_held).1) ≡ [] → ⊥
short_word_fails None word none = cc
short_word_fails (Some flags) word none = bundle_fails (length flags) flags word none

other_word_fails : (o : Option (Text × Option Text)) (word : Text)
    → or_else (flag_word_fault top.rules false o word nothing_held)
    (step_fault top 1 (long_or_other top.rules idle word o nothing_held).0 (long_or_other top.rules idle word o nothing_held).1) ≡ [] → ⊥
other_word_fails None word none = short_word_fails (short_of word) word none
other_word_fails (Some p) word none = long_fails _ p.1 (both_pass (flag_word_fault top.rules false (Some p) word nothing_held) _ none).0

-- ---- the word after the program's name

same_word : (name w : Text) → (bytes_eq name w || false) ≡ true → name ≡ w
same_word name w is = (bytes_eq-Decides name w).0 (by (bytes_eq name w) is)
  where
    by : (b : Bool) → (b || false) ≡ true → b ≡ true
    by true is = refl
    by false is = is

module _ (w : Text) (p : Text × List Row) where
  -- where the walk is after the word, which names no command, by whether it is `--`
  abbrev unnamed_met : Bool → Held × Step
  unnamed_met dashes = cond dashes (nothing_held, trailing 1) (long_or_other top.rules idle w (long_of w) nothing_held)

  abbrev unnamed : Bool → Walk
  unnamed dashes = after_step top.rules w (walk_from nothing_held) (unnamed_met dashes).0 (unnamed_met dashes).1

  no_command : (dashes : Bool) (rest : List Text)
      → or_else (cond dashes [] (flag_word_fault top.rules false (long_of w) w nothing_held)) (step_fault top 1 (unnamed_met dashes).0 (unnamed_met dashes).1) ≡ []
      → walk_fault top commands (unnamed dashes) rest ≡ [] → entered (built command_line) (fold (walked top.rules commands) (unnamed dashes) rest).stopped ≡ Some p → ⊥
  unfolding walk_fault
  no_command true [] none later is = cc
  no_command true (x ∷ xs) none later is =
      let stray : UnknownArgument ∷ InvalidSubcommand ∷ [] ≡ [] = (both_pass (turn_fault top commands (unnamed true) x) (walk_fault top commands (walked top.rules commands (unnamed true) x) xs) later).0 in
      cc
  no_command false rest none later is = other_word_fails (long_of w) w none

  abbrev met : Option Text → Held × Step
  met o = subcommand_or_other top.rules o idle 1 w nothing_held

  abbrev first_step : Option Text → Walk
  first_step o = after_step top.rules w (walk_from nothing_held) (met o).0 (met o).1

  -- the subcommand that is entered has the name at which the walk stopped
  entered_name : (name : Text) (rest : List Text) (rows : Text × List Row) → rows.0 ≡ name → entered (built command_line) (Some (name, rest)) ≡ Some rows
      → entered (built command_line) (fold (walked top.rules commands) (record (walk_from nothing_held) { stopped = Some (name, []) }) rest).stopped ≡ Some p → p.0 ≡ name
  entered_name name rest rows of enters is =
      let stopped = ap (λ (v : Walk). entered (built command_line) v.stopped) (stopped_walk top.rules commands (walk_from nothing_held) name [] rest) in
      let same : Some p.0 ≡ Some rows.0 = ap (option_map (λ (q : Text × List Row). q.0)) (sym is ∙ stopped ∙ enters) in
      let names : p.0 ≡ rows.0 = cc in
      names ∙ of

  named_replay : (rest : List Text) → (bytes_eq (codes "replay") w || false) ≡ true
      → entered (built command_line) (fold (walked top.rules commands) (first_step (Some (codes "replay"))) rest).stopped ≡ Some p → w ≡ p.0
  named_replay rest is enters = sym (same_word (codes "replay") w is) ∙ sym (entered_name (codes "replay") rest _ refl refl enters)

  named_explore : (rest : List Text) → (bytes_eq (codes "explore") w || false) ≡ true
      → entered (built command_line) (fold (walked top.rules commands) (first_step (Some (codes "explore"))) rest).stopped ≡ Some p → w ≡ p.0
  named_explore rest is enters = sym (same_word (codes "explore") w is) ∙ sym (entered_name (codes "explore") rest _ refl refl enters)

  named_check : (rest : List Text) → (bytes_eq (codes "check") w || false) ≡ true
      → entered (built command_line) (fold (walked top.rules commands) (first_step (Some (codes "check"))) rest).stopped ≡ Some p → w ≡ p.0
  named_check rest is enters = sym (same_word (codes "check") w is) ∙ sym (entered_name (codes "check") rest _ refl refl enters)

  named_jobs : (rest : List Text) → (bytes_eq (codes "jobs") w || false) ≡ true
      → entered (built command_line) (fold (walked top.rules commands) (first_step (Some (codes "jobs"))) rest).stopped ≡ Some p → w ≡ p.0
  named_jobs rest is enters = sym (same_word (codes "jobs") w is) ∙ sym (entered_name (codes "jobs") rest _ refl refl enters)

  named_merge : (rest : List Text) → (bytes_eq (codes "merge") w || false) ≡ true
      → entered (built command_line) (fold (walked top.rules commands) (first_step (Some (codes "merge"))) rest).stopped ≡ Some p → w ≡ p.0
  named_merge rest is enters = sym (same_word (codes "merge") w is) ∙ sym (entered_name (codes "merge") rest _ refl refl enters)

  named_sample : (rest : List Text) → (bytes_eq (codes "sample") w || false) ≡ true
      → entered (built command_line) (fold (walked top.rules commands) (first_step (Some (codes "sample"))) rest).stopped ≡ Some p → w ≡ p.0
  named_sample rest is enters = sym (same_word (codes "sample") w is) ∙ sym (entered_name (codes "sample") rest _ refl refl enters)

  abbrev among : Bool → Bool → Bool → Bool → Bool → Bool → Bool → Option Text
  among replay explore check jobs merge sample help =
      option_map (λ (s : Text × List Text). s.0)
      (cond replay (Some (codes "replay", [])) (cond explore (Some (codes "explore", [])) (cond check (Some (codes "check", []))
      (cond jobs (Some (codes "jobs", [])) (cond merge (Some (codes "merge", [])) (cond sample (Some (codes "sample", [])) (cond help (Some (codes "help", [])) None)))))))

  word_by : (replay explore check jobs merge sample help : Bool) (rest : List Text) → (bytes_eq (codes "replay") w || false) ≡ replay → (bytes_eq (codes "explore") w || false) ≡ explore
      → (bytes_eq (codes "check") w || false) ≡ check → (bytes_eq (codes "jobs") w || false) ≡ jobs → (bytes_eq (codes "merge") w || false) ≡ merge → (bytes_eq (codes "sample") w || false) ≡ sample
      → or_else (other_fault top (among replay explore check jobs merge sample help) w nothing_held)
      (step_fault top 1 (met (among replay explore check jobs merge sample help)).0 (met (among replay explore check jobs merge sample help)).1) ≡ []
      → walk_fault top commands (first_step (among replay explore check jobs merge sample help)) rest ≡ []
      → entered (built command_line) (fold (walked top.rules commands) (first_step (among replay explore check jobs merge sample help)) rest).stopped ≡ Some p → w ≡ p.0
  word_by true explore check jobs merge sample help rest r e c j m s none later enters = named_replay rest r enters
  word_by false true check jobs merge sample help rest r e c j m s none later enters = named_explore rest e enters
  word_by false false true jobs merge sample help rest r e c j m s none later enters = named_check rest c enters
  word_by false false false true merge sample help rest r e c j m s none later enters = named_jobs rest j enters
  word_by false false false false true sample help rest r e c j m s none later enters = named_merge rest m enters
  word_by false false false false false true help rest r e c j m s none later enters = named_sample rest s enters
  word_by false false false false false false true rest r e c j m s none later enters = cc
  word_by false false false false false false false rest r e c j m s none later enters = absurd (no_command (bytes_eq w (45 ∷ 45 ∷ [])) rest none later enters)

  word_is : (rest : List Text) → walk_fault top commands (walk_from nothing_held) (w ∷ rest) ≡ []
      → entered (built command_line) (walk top.rules commands nothing_held (w ∷ rest)).stopped ≡ Some p → w ≡ p.0
  unfolding walk_fault walked
  word_is rest none enters =
      let parts = both_pass (turn_fault top commands (walk_from nothing_held) w) _ none in
      word_by _ _ _ _ _ _ (bytes_eq (codes "help") w || false) rest refl refl refl refl refl refl parts.0 parts.1 enters

-- a subcommand is entered by its name, which is the first word
pub named_first : (words : List Text) (p : Text × List Row) → fault_of command_line words ≡ [] → subcommand_of command_line words ≡ Some p → IsNamed words p.0
named_first [] p none enters = cc
named_first (name ∷ []) p none enters = cc
named_first (name ∷ (w ∷ rest)) p none enters =
    let first = (both_pass (walk_fault top commands (walk_from nothing_held) (w ∷ rest)) _ none).0 in
    record { name = name; rest = rest; words_are = ap (λ x. name ∷ (x ∷ rest)) (word_is w p rest first enters) }

-- a schedule is found of the words of `replay` alone, options of those of `explore`, a check of those of `check`, a split of those of its command, and random schedules of those of `sample`
pub replay_named : (words : List Text) (schedule : Text) → fault_of command_line words ≡ [] → schedule_in (subcommand_of command_line words) ≡ Some schedule → IsNamed words (codes "replay")
replay_named words schedule none found = by (subcommand_of command_line words) refl found
  where
    by : (o : Option (Text × List Row)) → subcommand_of command_line words ≡ o → schedule_in o ≡ Some schedule → IsNamed words (codes "replay")
    by None entered found = cc
    by (Some p) entered found = at (bytes_eq p.0 (codes "replay")) refl found
      where
        at : (b : Bool) → bytes_eq p.0 (codes "replay") ≡ b → cond b (first_of (codes "SCHEDULE") p.1) None ≡ Some schedule → IsNamed words (codes "replay")
        at false is found = cc
        at true is found = subst (IsNamed words) ((bytes_eq-Decides p.0 (codes "replay")).0 is) (named_first words p none entered)

pub explore_named : (words : List Text) (read : Options × Printed) → fault_of command_line words ≡ [] → AreOptionsOf (subcommand_of command_line words) (Some read) → IsNamed words (codes "explore")
explore_named words read none found = by (subcommand_of command_line words) refl found
  where
    by : (o : Option (Text × List Row)) → subcommand_of command_line words ≡ o → AreOptionsOf o (Some read) → IsNamed words (codes "explore")
    by None entered found = cc
    by (Some p) entered found = at (bytes_eq p.0 (codes "explore")) refl found
      where
        at : (b : Bool) → bytes_eq p.0 (codes "explore") ≡ b → MatchBool b (AreOptionsIn p.1 (Some read)) (Some read ≡ None) → IsNamed words (codes "explore")
        at false is found = cc
        at true is found = subst (IsNamed words) ((bytes_eq-Decides p.0 (codes "explore")).0 is) (named_first words p none entered)

pub check_named : (words : List Text) (read : ℕ × Flags) → fault_of command_line words ≡ [] → IsCheckOf (subcommand_of command_line words) (Some read) → IsNamed words (codes "check")
check_named words read none found = by (subcommand_of command_line words) refl found
  where
    by : (o : Option (Text × List Row)) → subcommand_of command_line words ≡ o → IsCheckOf o (Some read) → IsNamed words (codes "check")
    by None entered found = cc
    by (Some p) entered found = at (bytes_eq p.0 (codes "check")) refl found
      where
        at : (b : Bool) → bytes_eq p.0 (codes "check") ≡ b → MatchBool b (IsCheckIn p.1 (Some read)) (Some read ≡ None) → IsNamed words (codes "check")
        at false is found = cc
        at true is found = subst (IsNamed words) ((bytes_eq-Decides p.0 (codes "check")).0 is) (named_first words p none entered)

pub split_named : (command : Text) (words : List Text) (read : Split) → fault_of command_line words ≡ [] → IsSplitOf command (subcommand_of command_line words) (Some read) → IsNamed words command
split_named command words read none found = by (subcommand_of command_line words) refl found
  where
    by : (o : Option (Text × List Row)) → subcommand_of command_line words ≡ o → IsSplitOf command o (Some read) → IsNamed words command
    by None entered found = cc
    by (Some p) entered found = at (bytes_eq p.0 command) refl found
      where
        at : (b : Bool) → bytes_eq p.0 command ≡ b → MatchBool b (IsSplitIn p.1 (Some read)) (Some read ≡ None) → IsNamed words command
        at false is found = cc
        at true is found = subst (IsNamed words) ((bytes_eq-Decides p.0 command).0 is) (named_first words p none entered)

pub sample_named : (words : List Text) (read : Samples × Printed) → fault_of command_line words ≡ [] → AreSamplesOf (subcommand_of command_line words) (Some read) → IsNamed words (codes "sample")
sample_named words read none found = by (subcommand_of command_line words) refl found
  where
    by : (o : Option (Text × List Row)) → subcommand_of command_line words ≡ o → AreSamplesOf o (Some read) → IsNamed words (codes "sample")
    by None entered found = cc
    by (Some p) entered found = at (bytes_eq p.0 (codes "sample")) refl found
      where
        at : (b : Bool) → bytes_eq p.0 (codes "sample") ≡ b → MatchBool b (AreSamplesIn p.1 (Some read)) (Some read ≡ None) → IsNamed words (codes "sample")
        at false is found = cc
        at true is found = subst (IsNamed words) ((bytes_eq-Decides p.0 (codes "sample")).0 is) (named_first words p none entered)
