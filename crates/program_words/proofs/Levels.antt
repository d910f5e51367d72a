-- What the parser makes of the words of a command whose options come in any order.
use Rattle.std.proofs.Common.{◌≡◌, ◌∙◌, ◌||◌, ℕ, Bool, true, false, not, List, [], ◌∷◌, ◌++◌, Some, cond, codes, option_map, refl, sym, ap, ap₂, subst}
use Rattle.std.specs.List.{fold}
use Rattle.std.specs.Option.{is_some, option_map_or}
use Rattle.std.specs.Prelude.{slice_get}
use Rattle.std.proofs.lemmas.List.{append-nil, append_assoc}
use Rattle.clap.specs.Facts.{explicit_source}
use Rattle.clap.specs.Faults.{check_fault, defaults_fault, entered_fault, fault_of, level_fault, settle_fault, walk_fault}
use Rattle.clap.specs.Kinds.{Kinds, or_else}
use Rattle.clap.specs.Simple.{built, entered, filled, names_of, subcommand_of}
use Rattle.clap.specs.Takes.{is_given}
use Rattle.clap.specs.Walk.{Names, Row, Rule, Text, Walk, finished, has_row, nothing_held, rows_after, settled, walk, walk_from, walked, with_default}
use Rattle.clap.specs.declared.error.kind.ErrorKind.TheVariants.{DisplayHelp, MissingRequiredArgument}
use Rattle.clap.proofs.FaultLemmas.{stopped_fault}
use Rattle.clap.proofs.OnLiterals.{clap_on_literals}
use Rattle.program_words.specs.Words.{Given, at, ats_of, depth, depths_of, words_of_all}
use Rattle.program_words.specs.inside.CommandLine.{Level, at_rule, built_of, checking, command_line, depth_rule, exploring, flag_rule, format_rule, job_rule, listing, merging, name_of, nodes_rule, normal_rule, runs_rule, sampling, seed_rule, splitting, workers_rule}
use Rattle.program_words.proofs.Options.{AreLawful, AreNew, IsReady, both_none, options_pass, options_ready}
use Rattle.program_words.proofs.Rows.{at_left, at_option_row, depth_left, depth_row, given_row, put_all, row_of, with_defaults}

-- ---- the defaults

no_fault : (b : Bool) → cond {A = Kinds} b [] [] ≡ []
no_fault true = refl
no_fault false = refl

no_default_fault : (b : Bool) (kinds : Kinds) → cond (b || true) [] kinds ≡ []
no_default_fault true kinds = refl
no_default_fault false kinds = refl

defaults_pass : (level : Level) (rows : List Row) → defaults_fault rows (built_of level).rules ≡ []
unfolding defaults_fault
defaults_pass exploring rows =
    let one = with_default rows (filled depth_rule) in
    let two = with_default one (filled nodes_rule) in
    let three = with_default two (filled workers_rule) in
    let four = with_default three (filled (flag_rule (codes "allow-deadlock"))) in
    let five = with_default four (filled (flag_rule (codes "main-deadlock"))) in
    let six = with_default five (filled (flag_rule (codes "idle-servers"))) in
    let seven = with_default six (filled normal_rule) in
    let eight = with_default seven (filled (flag_rule (codes "strict-access"))) in
    let nine = with_default eight (filled (flag_rule (codes "explain"))) in
    let ten = with_default nine (filled (flag_rule (codes "cover"))) in
    let eleven = with_default ten (filled job_rule) in
    let twelve = with_default eleven (filled (flag_rule (codes "states"))) in
    let thirteen = with_default twelve (filled (flag_rule (codes "at-once"))) in
    let fourteen = with_default thirteen (filled format_rule) in
    both_none _ _ (no_default_fault (has_row (codes "depth") rows) [])
    (both_none _ _ (no_fault (has_row (codes "nodes") one || false))
    (both_none _ _ (no_fault (has_row (codes "workers") two || false))
    (both_none _ _ (no_fault (has_row (codes "allow-deadlock") three || false))
    (both_none _ _ (no_fault (has_row (codes "main-deadlock") four || false))
    (both_none _ _ (no_fault (has_row (codes "idle-servers") five || false))
    (both_none _ _ (no_default_fault (has_row (codes "normal") six) [])
    (both_none _ _ (no_fault (has_row (codes "strict-access") seven || false))
    (both_none _ _ (no_fault (has_row (codes "explain") eight || false))
    (both_none _ _ (no_fault (has_row (codes "cover") nine || false))
    (both_none _ _ (no_default_fault (has_row (codes "job") ten) [])
    (both_none _ _ (no_fault (has_row (codes "states") eleven || false))
    (both_none _ _ (no_fault (has_row (codes "at-once") twelve || false))
    (both_none _ _ (no_default_fault (has_row (codes "format") thirteen) [])
    (both_none _ _ (no_default_fault (has_row (codes "help") fourteen) (DisplayHelp ∷ [])) refl))))))))))))))
defaults_pass checking rows =
    let one = with_default rows (filled depth_rule) in
    let two = with_default one (filled (flag_rule (codes "allow-deadlock"))) in
    let three = with_default two (filled (flag_rule (codes "main-deadlock"))) in
    let four = with_default three (filled (flag_rule (codes "idle-servers"))) in
    let five = with_default four (filled normal_rule) in
    let six = with_default five (filled (flag_rule (codes "strict-access"))) in
    both_none _ _ (no_default_fault (has_row (codes "depth") rows) [])
    (both_none _ _ (no_fault (has_row (codes "allow-deadlock") one || false))
    (both_none _ _ (no_fault (has_row (codes "main-deadlock") two || false))
    (both_none _ _ (no_fault (has_row (codes "idle-servers") three || false))
    (both_none _ _ (no_default_fault (has_row (codes "normal") four) [])
    (both_none _ _ (no_fault (has_row (codes "strict-access") five || false))
    (both_none _ _ (no_default_fault (has_row (codes "help") six) (DisplayHelp ∷ [])) refl))))))
defaults_pass sampling rows =
    let one = with_default rows (filled depth_rule) in
    let two = with_default one (filled runs_rule) in
    let three = with_default two (filled seed_rule) in
    let four = with_default three (filled (flag_rule (codes "allow-deadlock"))) in
    let five = with_default four (filled (flag_rule (codes "main-deadlock"))) in
    let six = with_default five (filled (flag_rule (codes "idle-servers"))) in
    let seven = with_default six (filled normal_rule) in
    let eight = with_default seven (filled (flag_rule (codes "strict-access"))) in
    let nine = with_default eight (filled (flag_rule (codes "explain"))) in
    let ten = with_default nine (filled (flag_rule (codes "at-once"))) in
    let eleven = with_default ten (filled format_rule) in
    both_none _ _ (no_default_fault (has_row (codes "depth") rows) [])
    (both_none _ _ (no_fault (has_row (codes "runs") one || false))
    (both_none _ _ (no_fault (has_row (codes "seed") two || false))
    (both_none _ _ (no_fault (has_row (codes "allow-deadlock") three || false))
    (both_none _ _ (no_fault (has_row (codes "main-deadlock") four || false))
    (both_none _ _ (no_fault (has_row (codes "idle-servers") five || false))
    (both_none _ _ (no_default_fault (has_row (codes "normal") six) [])
    (both_none _ _ (no_fault (has_row (codes "strict-access") seven || false))
    (both_none _ _ (no_fault (has_row (codes "explain") eight || false))
    (both_none _ _ (no_fault (has_row (codes "at-once") nine || false))
    (both_none _ _ (no_default_fault (has_row (codes "format") ten) [])
    (both_none _ _ (no_default_fault (has_row (codes "help") eleven) (DisplayHelp ∷ [])) refl)))))))))))
defaults_pass (splitting which) rows =
    let one = with_default rows (filled depth_rule) in
    let two = with_default one (filled at_rule) in
    let three = with_default two (filled (flag_rule (codes "allow-deadlock"))) in
    let four = with_default three (filled (flag_rule (codes "main-deadlock"))) in
    let five = with_default four (filled (flag_rule (codes "idle-servers"))) in
    let six = with_default five (filled normal_rule) in
    let seven = with_default six (filled (flag_rule (codes "strict-access"))) in
    both_none _ _ (no_default_fault (has_row (codes "depth") rows) [])
    (both_none _ _ (no_default_fault (has_row (codes "at") one) [])
    (both_none _ _ (no_fault (has_row (codes "allow-deadlock") two || false))
    (both_none _ _ (no_fault (has_row (codes "main-deadlock") three || false))
    (both_none _ _ (no_fault (has_row (codes "idle-servers") four || false))
    (both_none _ _ (no_default_fault (has_row (codes "normal") five) [])
    (both_none _ _ (no_fault (has_row (codes "strict-access") six || false))
    (both_none _ _ (no_default_fault (has_row (codes "help") seven) (DisplayHelp ∷ [])) refl)))))))

-- ---- the level of the command

-- where `--at` has to be there, it is given
abbrev IsThere : Level → List Row → Type 0
IsThere (splitting which) rows = is_given (codes "at") rows ≡ true
IsThere level rows = Unit {0}

checks : (level : Level) (rows : List Row) → is_given (codes "depth") rows ≡ true → IsThere level rows → check_fault (built_of level) rows false ≡ []
checks exploring rows is there = ap (λ b. cond (not b || false) (MissingRequiredArgument ∷ []) []) is
checks checking rows is there = ap (λ b. cond (not b || false) (MissingRequiredArgument ∷ []) []) is
checks sampling rows is there = ap (λ b. cond (not b || false) (MissingRequiredArgument ∷ []) []) is
checks (splitting which) rows is there = ap₂ (λ b c. cond (not b || (not c || false)) (MissingRequiredArgument ∷ []) []) is there

-- the words of a level have no fault where none of its four steps has one
all_pass : (level : Level) (words : List Text) → walk_fault (built_of level) [] (walk_from nothing_held) words ≡ []
    → settle_fault (built_of level).rules false (walk (built_of level).rules [] nothing_held words).held ≡ [] → is_given (codes "depth") (rows_after (built_of level).rules [] words) ≡ true
    → IsThere level (rows_after (built_of level).rules [] words) → level_fault (built_of level) [] nothing_held words false [] ≡ []
all_pass exploring words walks settles is there =
    both_none _ _ walks (both_none _ _ settles (both_none _ _ (defaults_pass exploring (settled (built_of exploring).rules (walk (built_of exploring).rules [] nothing_held words).held).rows)
    (checks exploring (rows_after (built_of exploring).rules [] words) is there)))
all_pass checking words walks settles is there =
    both_none _ _ walks (both_none _ _ settles (both_none _ _ (defaults_pass checking (settled (built_of checking).rules (walk (built_of checking).rules [] nothing_held words).held).rows)
    (checks checking (rows_after (built_of checking).rules [] words) is there)))
all_pass sampling words walks settles is there =
    both_none _ _ walks (both_none _ _ settles (both_none _ _ (defaults_pass sampling (settled (built_of sampling).rules (walk (built_of sampling).rules [] nothing_held words).held).rows)
    (checks sampling (rows_after (built_of sampling).rules [] words) is there)))
all_pass (splitting which) words walks settles is there =
    both_none _ _ walks (both_none _ _ settles (both_none _ _ (defaults_pass (splitting which) (settled (built_of (splitting which)).rules (walk (built_of (splitting which)).rules [] nothing_held words).held).rows)
    (checks (splitting which) (rows_after (built_of (splitting which)).rules [] words) is there)))

-- nothing is held at first
ready_at_first : (level : Level) → IsReady level [] nothing_held
ready_at_first level = record { settles = refl; rows_are = refl }

-- `--at` is given once where it has to be there
abbrev pub HasPlace : Level → List Given → ℕ → Type 0
HasPlace (splitting which) given place = ats_of given ≡ place ∷ []
HasPlace level given place = Unit {0}

is_there : (level : Level) (given : List Given) (place : ℕ) → HasPlace level given place → IsThere level (with_defaults level (put_all [] given))
is_there exploring given place has = tt
is_there checking given place has = tt
is_there sampling given place has = tt
is_there (splitting which) given place has =
    ap (λ o. option_map_or (λ r. explicit_source r.source) o false)
    (at_left which (put_all [] given) ∙ given_row (codes "at") given refl ∙ at_option_row given ∙ ap (λ l. option_map (λ n. row_of (at n)) (slice_get l 0)) has)

module _ (level : Level) (given : List Given) (number place : ℕ) (new : AreNew [] given) (lawful : AreLawful given level) (depth_is : depths_of given ≡ number ∷ []) (has : HasPlace level given place) where
  ready : IsReady level (put_all [] given) (walk (built_of level).rules [] nothing_held (words_of_all given)).held
  ready = options_ready given level [] nothing_held (ready_at_first level) new lawful

  -- the rows are those of the options, with the defaults
  pub rows_left : rows_after (built_of level).rules [] (words_of_all given) ≡ with_defaults level (put_all [] given)
  rows_left = ap (with_defaults level) ready.rows_are

  depth_given : is_given (codes "depth") (with_defaults level (put_all [] given)) ≡ true
  depth_given =
      ap (λ o. option_map_or (λ r. explicit_source r.source) o false)
      (depth_left level (put_all [] given) ∙ given_row (codes "depth") given refl ∙ depth_row given ∙ ap (λ l. option_map (λ n. row_of (depth n)) (slice_get l 0)) depth_is)

  pub level_passes : level_fault (built_of level) [] nothing_held (words_of_all given) false [] ≡ []
  level_passes =
      all_pass level (words_of_all given) (options_pass given level [] nothing_held (ready_at_first level) new lawful) ready.settles (ap (is_given (codes "depth")) rows_left ∙ depth_given)
      (subst (IsThere level) (sym rows_left) (is_there level given place has))

-- ---- the whole command line

-- a walk that stopped at a subcommand keeps the words after it
pub stopped_walk : (rules : List Rule) (names : Names) (w : Walk) (name : Text) (before words : List Text)
    → fold (walked rules names) (record w { stopped = Some (name, before) }) words ≡ record w { stopped = Some (name, before ++ words) }
unfolding walked
stopped_walk rules names w name before [] = ap (λ l. record w { stopped = Some (name, l) }) (sym (append-nil before))
stopped_walk rules names w name before (word ∷ rest) =
    stopped_walk rules names w name (before ++ word ∷ []) rest ∙ ap (λ l. record w { stopped = Some (name, l) }) (append_assoc before (word ∷ []) rest)

-- where the walk over the whole line ends
abbrev ended : Level → List Text → Walk
ended level words = record (walk_from nothing_held) { stopped = Some (name_of level, words) }

line_walk : (level : Level) (words : List Text) → walk (built command_line).top.rules (names_of (built command_line)) nothing_held (name_of level ∷ words) ≡ ended level words
unfolding clap_on_literals
line_walk exploring words = stopped_walk (built command_line).top.rules (names_of (built command_line)) (walk_from nothing_held) (codes "explore") [] words
line_walk checking words = stopped_walk (built command_line).top.rules (names_of (built command_line)) (walk_from nothing_held) (codes "check") [] words
line_walk sampling words = stopped_walk (built command_line).top.rules (names_of (built command_line)) (walk_from nothing_held) (codes "sample") [] words
line_walk (splitting listing) words = stopped_walk (built command_line).top.rules (names_of (built command_line)) (walk_from nothing_held) (codes "jobs") [] words
line_walk (splitting merging) words = stopped_walk (built command_line).top.rules (names_of (built command_line)) (walk_from nothing_held) (codes "merge") [] words

-- the rows of the command are what its words leave
pub line_enters : (level : Level) (name : Text) (words : List Text) → subcommand_of command_line (name ∷ name_of level ∷ words) ≡ Some (name_of level, rows_after (built_of level).rules [] words)
line_enters exploring name words = ap (λ (w : Walk). entered (built command_line) w.stopped) (line_walk exploring words)
line_enters checking name words = ap (λ (w : Walk). entered (built command_line) w.stopped) (line_walk checking words)
line_enters sampling name words = ap (λ (w : Walk). entered (built command_line) w.stopped) (line_walk sampling words)
line_enters (splitting listing) name words = ap (λ (w : Walk). entered (built command_line) w.stopped) (line_walk (splitting listing) words)
line_enters (splitting merging) name words = ap (λ (w : Walk). entered (built command_line) w.stopped) (line_walk (splitting merging) words)

word_passes : (level : Level) (words : List Text) → walk_fault (built command_line).top (names_of (built command_line)) (walk_from nothing_held) (name_of level ∷ words) ≡ []
unfolding clap_on_literals
word_passes exploring words = stopped_fault (built command_line).top (names_of (built command_line)) (walk_from nothing_held) (codes "explore", []) words
word_passes checking words = stopped_fault (built command_line).top (names_of (built command_line)) (walk_from nothing_held) (codes "check", []) words
word_passes sampling words = stopped_fault (built command_line).top (names_of (built command_line)) (walk_from nothing_held) (codes "sample", []) words
word_passes (splitting listing) words = stopped_fault (built command_line).top (names_of (built command_line)) (walk_from nothing_held) (codes "jobs", []) words
word_passes (splitting merging) words = stopped_fault (built command_line).top (names_of (built command_line)) (walk_from nothing_held) (codes "merge", []) words

-- the line is at fault where the level of the command is
abbrev fault_at : Level → List Text → Walk → Kinds
fault_at level words w =
    let top = (built command_line).top in
    or_else (walk_fault top (names_of (built command_line)) (walk_from nothing_held) (name_of level ∷ words))
    (or_else (entered_fault (built command_line) w.stopped) (or_else (settle_fault top.rules false w.held)
    (or_else (defaults_fault (settled top.rules w.held).rows top.rules) (check_fault top (finished top.rules w.held) (is_some (entered (built command_line) w.stopped))))))

pub line_passes : (level : Level) (name : Text) (words : List Text) → level_fault (built_of level) [] nothing_held words false [] ≡ [] → fault_of command_line (name ∷ name_of level ∷ words) ≡ []
unfolding clap_on_literals
line_passes exploring name words none =
    let whole : fault_of command_line (name ∷ codes "explore" ∷ words) ≡ fault_at exploring words (ended exploring words) = ap (fault_at exploring words) (line_walk exploring words) in
    whole ∙ both_none (walk_fault (built command_line).top (names_of (built command_line)) (walk_from nothing_held) (codes "explore" ∷ words)) _ (word_passes exploring words) (both_none _ [] none refl)
line_passes checking name words none =
    let whole : fault_of command_line (name ∷ codes "check" ∷ words) ≡ fault_at checking words (ended checking words) = ap (fault_at checking words) (line_walk checking words) in
    whole ∙ both_none (walk_fault (built command_line).top (names_of (built command_line)) (walk_from nothing_held) (codes "check" ∷ words)) _ (word_passes checking words) (both_none _ [] none refl)
line_passes sampling name words none =
    let whole : fault_of command_line (name ∷ codes "sample" ∷ words) ≡ fault_at sampling words (ended sampling words) = ap (fault_at sampling words) (line_walk sampling words) in
    whole ∙ both_none (walk_fault (built command_line).top (names_of (built command_line)) (walk_from nothing_held) (codes "sample" ∷ words)) _ (word_passes sampling words) (both_none _ [] none refl)
line_passes (splitting listing) name words none =
    let whole : fault_of command_line (name ∷ codes "jobs" ∷ words) ≡ fault_at (splitting listing) words (ended (splitting listing) words) = ap (fault_at (splitting listing) words) (line_walk (splitting listing) words) in
    whole ∙ both_none (walk_fault (built command_line).top (names_of (built command_line)) (walk_from nothing_held) (codes "jobs" ∷ words)) _ (word_passes (splitting listing) words) (both_none _ [] none refl)
line_passes (splitting merging) name words none =
    let whole : fault_of command_line (name ∷ codes "merge" ∷ words) ≡ fault_at (splitting merging) words (ended (splitting merging) words) = ap (fault_at (splitting merging) words) (line_walk (splitting merging) words) in
    whole ∙ both_none (walk_fault (built command_line).top (names_of (built command_line)) (walk_from nothing_held) (codes "merge" ∷ words)) _ (word_passes (splitting merging) words) (both_none _ [] none refl)
