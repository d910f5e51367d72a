-- The walk over the options of a command, one after the other.
use Rattle.std.proofs.Common.{◌≡◌, ◌∙◌, ◌&&◌, ℕ, ◌≤◌, true, false, List, [], ◌∷◌, ◌++◌, Some, None, cond, codes, refl, sym, ap, subst, arith}
use Rattle.std.specs.Fmt.{decimal}
use Rattle.std.specs.List.{fold}
use Rattle.clap.specs.Faults.{react_fault, repeat_fault, settle_fault, turn_fault, use_fault, walk_fault}
use Rattle.clap.specs.Kinds.{Kinds, or_else, value_kinds}
use Rattle.clap.specs.Values.{refused_kind}
use Rattle.clap.specs.declared.builder.value_parser.ValueParser.TheVariants.{Unsigned}
use Rattle.clap.specs.declared.error.kind.ErrorKind.TheVariants.{ArgumentConflict}
use Rattle.clap.specs.Simple.{filled}
use Rattle.clap.specs.Walk.{Held, Row, Text, Walk, has_row, option, reacted, settled, walk, walk_from, walked, with_values, without}
use Rattle.clap.specs.declared.builder.value_parser.Reading.TheVariants.{AsWritten}
use Rattle.clap.specs.declared.parser.matches.ValueSource.TheVariants.{CommandLine}
use Rattle.clap.specs.ValueTests.{is_unsigned_in}
use Rattle.program_words.proofs.Numbers.{decimal_fits, decimal_is_plain}
use Rattle.clap.proofs.OnLiterals.{clap_on_literals}
use Rattle.program_words.specs.Words.{Given, begins_with_hyphen, depth, nodes, workers, allow_deadlock, strict_access, explain, cover, main_deadlock, idle_servers, normal, at, job, states, at_once, runs, seed, format, words_of, words_of_all}
use Rattle.program_words.specs.inside.CommandLine.{Level, Splitter, at_rule, built_of, checking, depth_rule, exploring, flag_rule, format_rule, job_rule, nodes_rule, normal_rule, runs_rule, sampling, seed_rule, splitting, workers_rule}
use Rattle.program_words.proofs.Rows.{id_of, put, put_all, row_with, used_once}

-- two steps pass where each does
pub both_none : (a b : Kinds) → a ≡ [] → b ≡ [] → or_else a b ≡ []
both_none a b first second = ap (λ x. or_else x b) first ∙ second

-- what is held, once what waits is settled, has these rows
pub record IsReady (level : Level) (rows : List Row) (h : Held) : Type 0 where
  pub settles : settle_fault (built_of level).rules false h ≡ []
  pub rows_are : (settled (built_of level).rules h).rows ≡ rows

-- the option is one of the command, and its number is in its range, or its text, its line or its format begins with no hyphen
abbrev pub IsLawful : Given → Level → Type 0
IsLawful (depth n) level = n ≤ 400
IsLawful (nodes n) exploring = (1 ≤ n) × (n ≤ 10000000)
IsLawful (nodes n) checking = ⊥
IsLawful (nodes n) sampling = ⊥
IsLawful (nodes n) (splitting which) = ⊥
IsLawful (workers n) exploring = (1 ≤ n) × (n ≤ 16)
IsLawful (workers n) checking = ⊥
IsLawful (workers n) sampling = ⊥
IsLawful (workers n) (splitting which) = ⊥
IsLawful allow_deadlock level = Unit {0}
IsLawful main_deadlock level = Unit {0}
IsLawful idle_servers level = Unit {0}
IsLawful (normal text) level = begins_with_hyphen text ≡ false
IsLawful strict_access level = Unit {0}
IsLawful explain exploring = Unit {0}
IsLawful explain checking = ⊥
IsLawful explain sampling = Unit {0}
IsLawful explain (splitting which) = ⊥
IsLawful cover exploring = Unit {0}
IsLawful cover checking = ⊥
IsLawful cover sampling = ⊥
IsLawful cover (splitting which) = ⊥
IsLawful (at n) exploring = ⊥
IsLawful (at n) checking = ⊥
IsLawful (at n) sampling = ⊥
IsLawful (at n) (splitting which) = n ≤ 400
IsLawful (job line) exploring = begins_with_hyphen line ≡ false
IsLawful (job line) checking = ⊥
IsLawful (job line) sampling = ⊥
IsLawful (job line) (splitting which) = ⊥
IsLawful states exploring = Unit {0}
IsLawful states checking = ⊥
IsLawful states sampling = ⊥
IsLawful states (splitting which) = ⊥
IsLawful at_once exploring = Unit {0}
IsLawful at_once checking = ⊥
IsLawful at_once sampling = Unit {0}
IsLawful at_once (splitting which) = ⊥
IsLawful (runs n) exploring = ⊥
IsLawful (runs n) checking = ⊥
IsLawful (runs n) sampling = (1 ≤ n) × (n ≤ 1000000)
IsLawful (runs n) (splitting which) = ⊥
IsLawful (seed n) exploring = ⊥
IsLawful (seed n) checking = ⊥
IsLawful (seed n) sampling = n ≤ 4294967295
IsLawful (seed n) (splitting which) = ⊥
IsLawful (format text) exploring = begins_with_hyphen text ≡ false
IsLawful (format text) checking = ⊥
IsLawful (format text) sampling = begins_with_hyphen text ≡ false
IsLawful (format text) (splitting which) = ⊥

-- ---- one use of an option

first_use : (id : Text) (rows : List Row) → has_row id rows ≡ false → repeat_fault false id rows ≡ []
first_use id rows none = ap (λ b. cond (b && true) (ArgumentConflict ∷ []) []) none

flag_passes : (name : Text) (rows : List Row) → has_row name rows ≡ false → use_fault false (filled (flag_rule name)) [] rows ≡ []
flag_passes name rows none = both_none (repeat_fault false name rows) [] (first_use name rows none) refl

value_passes : (low high : ℕ) (value : Text) → is_unsigned_in low high value ≡ true → value_kinds false (Unsigned low high) value ≡ []
value_passes low high value fits = ap (λ b. cond b [] (refused_kind (Unsigned low high) ∷ [])) fits

depth_passes : (value : Text) (rows : List Row) → has_row (codes "depth") rows ≡ false → is_unsigned_in 0 400 value ≡ true → use_fault false (filled depth_rule) (value ∷ []) rows ≡ []
depth_passes value rows none fits =
    both_none (repeat_fault false (codes "depth") rows) _ (first_use (codes "depth") rows none) (both_none (value_kinds false (Unsigned 0 400) value) [] (value_passes 0 400 value fits) refl)

nodes_passes : (value : Text) (rows : List Row) → has_row (codes "nodes") rows ≡ false → is_unsigned_in 1 10000000 value ≡ true
    → use_fault false (filled nodes_rule) (value ∷ []) rows ≡ []
nodes_passes value rows none fits =
    both_none (repeat_fault false (codes "nodes") rows) _ (first_use (codes "nodes") rows none)
    (both_none (value_kinds false (Unsigned 1 10000000) value) [] (value_passes 1 10000000 value fits) refl)

workers_passes : (value : Text) (rows : List Row) → has_row (codes "workers") rows ≡ false → is_unsigned_in 1 16 value ≡ true
    → use_fault false (filled workers_rule) (value ∷ []) rows ≡ []
workers_passes value rows none fits =
    both_none (repeat_fault false (codes "workers") rows) _ (first_use (codes "workers") rows none)
    (both_none (value_kinds false (Unsigned 1 16) value) [] (value_passes 1 16 value fits) refl)

runs_passes : (value : Text) (rows : List Row) → has_row (codes "runs") rows ≡ false → is_unsigned_in 1 1000000 value ≡ true
    → use_fault false (filled runs_rule) (value ∷ []) rows ≡ []
runs_passes value rows none fits =
    both_none (repeat_fault false (codes "runs") rows) _ (first_use (codes "runs") rows none)
    (both_none (value_kinds false (Unsigned 1 1000000) value) [] (value_passes 1 1000000 value fits) refl)

seed_passes : (value : Text) (rows : List Row) → has_row (codes "seed") rows ≡ false → is_unsigned_in 0 4294967295 value ≡ true
    → use_fault false (filled seed_rule) (value ∷ []) rows ≡ []
seed_passes value rows none fits =
    both_none (repeat_fault false (codes "seed") rows) _ (first_use (codes "seed") rows none)
    (both_none (value_kinds false (Unsigned 0 4294967295) value) [] (value_passes 0 4294967295 value fits) refl)

at_passes : (value : Text) (rows : List Row) → has_row (codes "at") rows ≡ false → is_unsigned_in 0 400 value ≡ true → use_fault false (filled at_rule) (value ∷ []) rows ≡ []
at_passes value rows none fits =
    both_none (repeat_fault false (codes "at") rows) _ (first_use (codes "at") rows none) (both_none (value_kinds false (Unsigned 0 400) value) [] (value_passes 0 400 value fits) refl)

job_passes : (line : Text) (rows : List Row) → has_row (codes "job") rows ≡ false → use_fault false (filled job_rule) (line ∷ []) rows ≡ []
job_passes line rows none = both_none (repeat_fault false (codes "job") rows) _ (first_use (codes "job") rows none) refl

format_passes : (text : Text) (rows : List Row) → has_row (codes "format") rows ≡ false → use_fault false (filled format_rule) (text ∷ []) rows ≡ []
format_passes text rows none = both_none (repeat_fault false (codes "format") rows) _ (first_use (codes "format") rows none) refl

normal_passes : (text : Text) (rows : List Row) → use_fault false (filled normal_rule) (text ∷ []) rows ≡ []
normal_passes text rows = refl

-- ---- the words of one option

-- what is held after an option that has a value, and after a flag
abbrev with_number : Level → Text → Text → Held → Held
with_number level id value h = record (settled (built_of level).rules h) { pending = Some (id, value ∷ []) }

abbrev with_flag : Level → Text → Held → Held
with_flag level id h = reacted (built_of level).rules (filled (flag_rule id)) [] h

abbrev after : Given → Level → Held → Held
after (depth n) level h = with_number level (codes "depth") (decimal n) h
after (nodes n) level h = with_number level (codes "nodes") (decimal n) h
after (workers n) level h = with_number level (codes "workers") (decimal n) h
after allow_deadlock level h = with_flag level (codes "allow-deadlock") h
after main_deadlock level h = with_flag level (codes "main-deadlock") h
after idle_servers level h = with_flag level (codes "idle-servers") h
after (normal text) level h = with_number level (codes "normal") text h
after strict_access level h = with_flag level (codes "strict-access") h
after explain level h = with_flag level (codes "explain") h
after cover level h = with_flag level (codes "cover") h
after (at n) level h = with_number level (codes "at") (decimal n) h
after (job line) level h = with_number level (codes "job") line h
after states level h = with_flag level (codes "states") h
after at_once level h = with_flag level (codes "at-once") h
after (runs n) level h = with_number level (codes "runs") (decimal n) h
after (seed n) level h = with_number level (codes "seed") (decimal n) h
after (format text) level h = with_number level (codes "format") text h

-- between the word of an option and its value
abbrev waiting_for : Level → Text → Held → Walk
waiting_for level id h = record { held = record (settled (built_of level).rules h) { pending = Some (id, []) }; waiting = option id; position = 1; is_trailing = false; stopped = None }

-- a walk goes on with one word
abbrev met : Level → Walk → Text → Walk
met level w word = walked (built_of level).rules [] w word

depth_word : (level : Level) (h : Held) → met level (walk_from h) (codes "--depth") ≡ waiting_for level (codes "depth") h
unfolding clap_on_literals
depth_word exploring h = refl
depth_word checking h = refl
depth_word sampling h = refl
depth_word (splitting which) h = refl

normal_word : (level : Level) (h : Held) → met level (walk_from h) (codes "--normal") ≡ waiting_for level (codes "normal") h
unfolding clap_on_literals
normal_word exploring h = refl
normal_word checking h = refl
normal_word sampling h = refl
normal_word (splitting which) h = refl

nodes_word : (h : Held) → met exploring (walk_from h) (codes "--nodes") ≡ waiting_for exploring (codes "nodes") h
unfolding clap_on_literals
nodes_word h = refl

workers_word : (h : Held) → met exploring (walk_from h) (codes "--workers") ≡ waiting_for exploring (codes "workers") h
unfolding clap_on_literals
workers_word h = refl

runs_word : (h : Held) → met sampling (walk_from h) (codes "--runs") ≡ waiting_for sampling (codes "runs") h
unfolding clap_on_literals
runs_word h = refl

seed_word : (h : Held) → met sampling (walk_from h) (codes "--seed") ≡ waiting_for sampling (codes "seed") h
unfolding clap_on_literals
seed_word h = refl

at_word : (which : Splitter) (h : Held) → met (splitting which) (walk_from h) (codes "--at") ≡ waiting_for (splitting which) (codes "at") h
unfolding clap_on_literals
at_word which h = refl

job_word : (h : Held) → met exploring (walk_from h) (codes "--job") ≡ waiting_for exploring (codes "job") h
unfolding clap_on_literals
job_word h = refl

format_word : (h : Held) → met exploring (walk_from h) (codes "--format") ≡ waiting_for exploring (codes "format") h
unfolding clap_on_literals
format_word h = refl

sample_format_word : (h : Held) → met sampling (walk_from h) (codes "--format") ≡ waiting_for sampling (codes "format") h
unfolding clap_on_literals
sample_format_word h = refl

allow_deadlock_word : (level : Level) (h : Held) → met level (walk_from h) (codes "--allow-deadlock") ≡ walk_from (with_flag level (codes "allow-deadlock") h)
unfolding clap_on_literals
allow_deadlock_word exploring h = refl
allow_deadlock_word checking h = refl
allow_deadlock_word sampling h = refl
allow_deadlock_word (splitting which) h = refl

main_deadlock_word : (level : Level) (h : Held) → met level (walk_from h) (codes "--main-deadlock") ≡ walk_from (with_flag level (codes "main-deadlock") h)
unfolding clap_on_literals
main_deadlock_word exploring h = refl
main_deadlock_word checking h = refl
main_deadlock_word sampling h = refl
main_deadlock_word (splitting which) h = refl

idle_servers_word : (level : Level) (h : Held) → met level (walk_from h) (codes "--idle-servers") ≡ walk_from (with_flag level (codes "idle-servers") h)
unfolding clap_on_literals
idle_servers_word exploring h = refl
idle_servers_word checking h = refl
idle_servers_word sampling h = refl
idle_servers_word (splitting which) h = refl

strict_access_word : (level : Level) (h : Held) → met level (walk_from h) (codes "--strict-access") ≡ walk_from (with_flag level (codes "strict-access") h)
unfolding clap_on_literals
strict_access_word exploring h = refl
strict_access_word checking h = refl
strict_access_word sampling h = refl
strict_access_word (splitting which) h = refl

explain_word : (level : Level) (h : Held) → IsLawful explain level → met level (walk_from h) (codes "--explain") ≡ walk_from (with_flag level (codes "explain") h)
unfolding clap_on_literals
explain_word exploring h lawful = refl
explain_word checking h lawful = absurd lawful
explain_word sampling h lawful = refl
explain_word (splitting which) h lawful = absurd lawful

cover_word : (h : Held) → met exploring (walk_from h) (codes "--cover") ≡ walk_from (with_flag exploring (codes "cover") h)
unfolding clap_on_literals
cover_word h = refl

states_word : (h : Held) → met exploring (walk_from h) (codes "--states") ≡ walk_from (with_flag exploring (codes "states") h)
unfolding clap_on_literals
states_word h = refl

at_once_word : (level : Level) (h : Held) → IsLawful at_once level → met level (walk_from h) (codes "--at-once") ≡ walk_from (with_flag level (codes "at-once") h)
unfolding clap_on_literals
at_once_word exploring h lawful = refl
at_once_word checking h lawful = absurd lawful
at_once_word sampling h lawful = refl
at_once_word (splitting which) h lawful = absurd lawful

depth_number : (level : Level) (h : Held) (value : Text) → begins_with_hyphen value ≡ false
    → met level (waiting_for level (codes "depth") h) value ≡ walk_from (with_number level (codes "depth") value h)
unfolding clap_on_literals
depth_number exploring h [] plain = refl
depth_number exploring h (byte ∷ rest) plain = simp plain refl
depth_number checking h [] plain = refl
depth_number checking h (byte ∷ rest) plain = simp plain refl
depth_number sampling h [] plain = refl
depth_number sampling h (byte ∷ rest) plain = simp plain refl
depth_number (splitting which) h [] plain = refl
depth_number (splitting which) h (byte ∷ rest) plain = simp plain refl

normal_text : (level : Level) (h : Held) (value : Text) → begins_with_hyphen value ≡ false
    → met level (waiting_for level (codes "normal") h) value ≡ walk_from (with_number level (codes "normal") value h)
unfolding clap_on_literals
normal_text exploring h [] plain = refl
normal_text exploring h (byte ∷ rest) plain = simp plain refl
normal_text checking h [] plain = refl
normal_text checking h (byte ∷ rest) plain = simp plain refl
normal_text sampling h [] plain = refl
normal_text sampling h (byte ∷ rest) plain = simp plain refl
normal_text (splitting which) h [] plain = refl
normal_text (splitting which) h (byte ∷ rest) plain = simp plain refl

nodes_number : (h : Held) (value : Text) → begins_with_hyphen value ≡ false → met exploring (waiting_for exploring (codes "nodes") h) value ≡ walk_from (with_number exploring (codes "nodes") value h)
unfolding clap_on_literals
nodes_number h [] plain = refl
nodes_number h (byte ∷ rest) plain = simp plain refl

workers_number : (h : Held) (value : Text) → begins_with_hyphen value ≡ false → met exploring (waiting_for exploring (codes "workers") h) value ≡ walk_from (with_number exploring (codes "workers") value h)
unfolding clap_on_literals
workers_number h [] plain = refl
workers_number h (byte ∷ rest) plain = simp plain refl

runs_number : (h : Held) (value : Text) → begins_with_hyphen value ≡ false → met sampling (waiting_for sampling (codes "runs") h) value ≡ walk_from (with_number sampling (codes "runs") value h)
unfolding clap_on_literals
runs_number h [] plain = refl
runs_number h (byte ∷ rest) plain = simp plain refl

seed_number : (h : Held) (value : Text) → begins_with_hyphen value ≡ false → met sampling (waiting_for sampling (codes "seed") h) value ≡ walk_from (with_number sampling (codes "seed") value h)
unfolding clap_on_literals
seed_number h [] plain = refl
seed_number h (byte ∷ rest) plain = simp plain refl

at_number : (which : Splitter) (h : Held) (value : Text) → begins_with_hyphen value ≡ false → met (splitting which) (waiting_for (splitting which) (codes "at") h) value ≡ walk_from (with_number (splitting which) (codes "at") value h)
unfolding clap_on_literals
at_number which h [] plain = refl
at_number which h (byte ∷ rest) plain = simp plain refl

job_line : (h : Held) (value : Text) → begins_with_hyphen value ≡ false → met exploring (waiting_for exploring (codes "job") h) value ≡ walk_from (with_number exploring (codes "job") value h)
unfolding clap_on_literals
job_line h [] plain = refl
job_line h (byte ∷ rest) plain = simp plain refl

format_text : (h : Held) (value : Text) → begins_with_hyphen value ≡ false → met exploring (waiting_for exploring (codes "format") h) value ≡ walk_from (with_number exploring (codes "format") value h)
unfolding clap_on_literals
format_text h [] plain = refl
format_text h (byte ∷ rest) plain = simp plain refl

sample_format_text : (h : Held) (value : Text) → begins_with_hyphen value ≡ false → met sampling (waiting_for sampling (codes "format") h) value ≡ walk_from (with_number sampling (codes "format") value h)
unfolding clap_on_literals
sample_format_text h [] plain = refl
sample_format_text h (byte ∷ rest) plain = simp plain refl

depth_word_passes : (level : Level) (h : Held) → settle_fault (built_of level).rules false h ≡ [] → turn_fault (built_of level) [] (walk_from h) (codes "--depth") ≡ []
unfolding clap_on_literals
depth_word_passes exploring h settles = both_none (settle_fault (built_of exploring).rules false h) [] settles refl
depth_word_passes checking h settles = both_none (settle_fault (built_of checking).rules false h) [] settles refl
depth_word_passes sampling h settles = both_none (settle_fault (built_of sampling).rules false h) [] settles refl
depth_word_passes (splitting which) h settles = both_none (settle_fault (built_of (splitting which)).rules false h) [] settles refl

normal_word_passes : (level : Level) (h : Held) → settle_fault (built_of level).rules false h ≡ [] → turn_fault (built_of level) [] (walk_from h) (codes "--normal") ≡ []
unfolding clap_on_literals
normal_word_passes exploring h settles = both_none (settle_fault (built_of exploring).rules false h) [] settles refl
normal_word_passes checking h settles = both_none (settle_fault (built_of checking).rules false h) [] settles refl
normal_word_passes sampling h settles = both_none (settle_fault (built_of sampling).rules false h) [] settles refl
normal_word_passes (splitting which) h settles = both_none (settle_fault (built_of (splitting which)).rules false h) [] settles refl

nodes_word_passes : (h : Held) → settle_fault (built_of exploring).rules false h ≡ [] → turn_fault (built_of exploring) [] (walk_from h) (codes "--nodes") ≡ []
unfolding clap_on_literals
nodes_word_passes h settles = both_none (settle_fault (built_of exploring).rules false h) [] settles refl

workers_word_passes : (h : Held) → settle_fault (built_of exploring).rules false h ≡ [] → turn_fault (built_of exploring) [] (walk_from h) (codes "--workers") ≡ []
unfolding clap_on_literals
workers_word_passes h settles = both_none (settle_fault (built_of exploring).rules false h) [] settles refl

runs_word_passes : (h : Held) → settle_fault (built_of sampling).rules false h ≡ [] → turn_fault (built_of sampling) [] (walk_from h) (codes "--runs") ≡ []
unfolding clap_on_literals
runs_word_passes h settles = both_none (settle_fault (built_of sampling).rules false h) [] settles refl

seed_word_passes : (h : Held) → settle_fault (built_of sampling).rules false h ≡ [] → turn_fault (built_of sampling) [] (walk_from h) (codes "--seed") ≡ []
unfolding clap_on_literals
seed_word_passes h settles = both_none (settle_fault (built_of sampling).rules false h) [] settles refl

at_word_passes : (which : Splitter) (h : Held) → settle_fault (built_of (splitting which)).rules false h ≡ [] → turn_fault (built_of (splitting which)) [] (walk_from h) (codes "--at") ≡ []
unfolding clap_on_literals
at_word_passes which h settles = both_none (settle_fault (built_of (splitting which)).rules false h) [] settles refl

job_word_passes : (h : Held) → settle_fault (built_of exploring).rules false h ≡ [] → turn_fault (built_of exploring) [] (walk_from h) (codes "--job") ≡ []
unfolding clap_on_literals
job_word_passes h settles = both_none (settle_fault (built_of exploring).rules false h) [] settles refl

format_word_passes : (h : Held) → settle_fault (built_of exploring).rules false h ≡ [] → turn_fault (built_of exploring) [] (walk_from h) (codes "--format") ≡ []
unfolding clap_on_literals
format_word_passes h settles = both_none (settle_fault (built_of exploring).rules false h) [] settles refl

sample_format_word_passes : (h : Held) → settle_fault (built_of sampling).rules false h ≡ [] → turn_fault (built_of sampling) [] (walk_from h) (codes "--format") ≡ []
unfolding clap_on_literals
sample_format_word_passes h settles = both_none (settle_fault (built_of sampling).rules false h) [] settles refl

number_passes : (level : Level) (id : Text) (h : Held) (value : Text) → begins_with_hyphen value ≡ false → turn_fault (built_of level) [] (waiting_for level id h) value ≡ []
unfolding clap_on_literals
number_passes exploring id h [] plain = refl
number_passes exploring id h (byte ∷ rest) plain = simp plain refl
number_passes checking id h [] plain = refl
number_passes checking id h (byte ∷ rest) plain = simp plain refl
number_passes sampling id h [] plain = refl
number_passes sampling id h (byte ∷ rest) plain = simp plain refl
number_passes (splitting which) id h [] plain = refl
number_passes (splitting which) id h (byte ∷ rest) plain = simp plain refl

-- the use of a flag at what is held
reacts : (level : Level) (name : Text) (rows : List Row) (h : Held) → IsReady level rows h → has_row name rows ≡ false → react_fault (built_of level).rules false (filled (flag_rule name)) [] h ≡ []
reacts level name rows h ready none =
    let here : has_row name (settled (built_of level).rules h).rows ≡ false = ap (has_row name) ready.rows_are ∙ none in
    both_none (settle_fault (built_of level).rules false h) _ ready.settles (flag_passes name (settled (built_of level).rules h).rows here)

allow_deadlock_passes : (level : Level) (rows : List Row) (h : Held) → IsReady level rows h → has_row (codes "allow-deadlock") rows ≡ false
    → turn_fault (built_of level) [] (walk_from h) (codes "--allow-deadlock") ≡ []
unfolding clap_on_literals
allow_deadlock_passes exploring rows h ready none =
    both_none (react_fault (built_of exploring).rules false (filled (flag_rule (codes "allow-deadlock"))) [] h) [] (reacts exploring (codes "allow-deadlock") rows h ready none) refl
allow_deadlock_passes checking rows h ready none =
    both_none (react_fault (built_of checking).rules false (filled (flag_rule (codes "allow-deadlock"))) [] h) [] (reacts checking (codes "allow-deadlock") rows h ready none) refl
allow_deadlock_passes sampling rows h ready none =
    both_none (react_fault (built_of sampling).rules false (filled (flag_rule (codes "allow-deadlock"))) [] h) [] (reacts sampling (codes "allow-deadlock") rows h ready none) refl
allow_deadlock_passes (splitting which) rows h ready none =
    both_none (react_fault (built_of (splitting which)).rules false (filled (flag_rule (codes "allow-deadlock"))) [] h) [] (reacts (splitting which) (codes "allow-deadlock") rows h ready none) refl

main_deadlock_passes : (level : Level) (rows : List Row) (h : Held) → IsReady level rows h → has_row (codes "main-deadlock") rows ≡ false
    → turn_fault (built_of level) [] (walk_from h) (codes "--main-deadlock") ≡ []
unfolding clap_on_literals
main_deadlock_passes exploring rows h ready none =
    both_none (react_fault (built_of exploring).rules false (filled (flag_rule (codes "main-deadlock"))) [] h) [] (reacts exploring (codes "main-deadlock") rows h ready none) refl
main_deadlock_passes checking rows h ready none =
    both_none (react_fault (built_of checking).rules false (filled (flag_rule (codes "main-deadlock"))) [] h) [] (reacts checking (codes "main-deadlock") rows h ready none) refl
main_deadlock_passes sampling rows h ready none =
    both_none (react_fault (built_of sampling).rules false (filled (flag_rule (codes "main-deadlock"))) [] h) [] (reacts sampling (codes "main-deadlock") rows h ready none) refl
main_deadlock_passes (splitting which) rows h ready none =
    both_none (react_fault (built_of (splitting which)).rules false (filled (flag_rule (codes "main-deadlock"))) [] h) [] (reacts (splitting which) (codes "main-deadlock") rows h ready none) refl

idle_servers_passes : (level : Level) (rows : List Row) (h : Held) → IsReady level rows h → has_row (codes "idle-servers") rows ≡ false
    → turn_fault (built_of level) [] (walk_from h) (codes "--idle-servers") ≡ []
unfolding clap_on_literals
idle_servers_passes exploring rows h ready none =
    both_none (react_fault (built_of exploring).rules false (filled (flag_rule (codes "idle-servers"))) [] h) [] (reacts exploring (codes "idle-servers") rows h ready none) refl
idle_servers_passes checking rows h ready none =
    both_none (react_fault (built_of checking).rules false (filled (flag_rule (codes "idle-servers"))) [] h) [] (reacts checking (codes "idle-servers") rows h ready none) refl
idle_servers_passes sampling rows h ready none =
    both_none (react_fault (built_of sampling).rules false (filled (flag_rule (codes "idle-servers"))) [] h) [] (reacts sampling (codes "idle-servers") rows h ready none) refl
idle_servers_passes (splitting which) rows h ready none =
    both_none (react_fault (built_of (splitting which)).rules false (filled (flag_rule (codes "idle-servers"))) [] h) [] (reacts (splitting which) (codes "idle-servers") rows h ready none) refl

strict_access_passes : (level : Level) (rows : List Row) (h : Held) → IsReady level rows h → has_row (codes "strict-access") rows ≡ false
    → turn_fault (built_of level) [] (walk_from h) (codes "--strict-access") ≡ []
unfolding clap_on_literals
strict_access_passes exploring rows h ready none =
    both_none (react_fault (built_of exploring).rules false (filled (flag_rule (codes "strict-access"))) [] h) [] (reacts exploring (codes "strict-access") rows h ready none) refl
strict_access_passes checking rows h ready none =
    both_none (react_fault (built_of checking).rules false (filled (flag_rule (codes "strict-access"))) [] h) [] (reacts checking (codes "strict-access") rows h ready none) refl
strict_access_passes sampling rows h ready none =
    both_none (react_fault (built_of sampling).rules false (filled (flag_rule (codes "strict-access"))) [] h) [] (reacts sampling (codes "strict-access") rows h ready none) refl
strict_access_passes (splitting which) rows h ready none =
    both_none (react_fault (built_of (splitting which)).rules false (filled (flag_rule (codes "strict-access"))) [] h) [] (reacts (splitting which) (codes "strict-access") rows h ready none) refl

explain_passes : (level : Level) (rows : List Row) (h : Held) → IsReady level rows h → has_row (codes "explain") rows ≡ false → IsLawful explain level
    → turn_fault (built_of level) [] (walk_from h) (codes "--explain") ≡ []
unfolding clap_on_literals
explain_passes exploring rows h ready none lawful =
    both_none (react_fault (built_of exploring).rules false (filled (flag_rule (codes "explain"))) [] h) [] (reacts exploring (codes "explain") rows h ready none) refl
explain_passes checking rows h ready none lawful = absurd lawful
explain_passes sampling rows h ready none lawful =
    both_none (react_fault (built_of sampling).rules false (filled (flag_rule (codes "explain"))) [] h) [] (reacts sampling (codes "explain") rows h ready none) refl
explain_passes (splitting which) rows h ready none lawful = absurd lawful

cover_passes : (rows : List Row) (h : Held) → IsReady exploring rows h → has_row (codes "cover") rows ≡ false → turn_fault (built_of exploring) [] (walk_from h) (codes "--cover") ≡ []
unfolding clap_on_literals
cover_passes rows h ready none =
    both_none (react_fault (built_of exploring).rules false (filled (flag_rule (codes "cover"))) [] h) [] (reacts exploring (codes "cover") rows h ready none) refl

states_passes : (rows : List Row) (h : Held) → IsReady exploring rows h → has_row (codes "states") rows ≡ false → turn_fault (built_of exploring) [] (walk_from h) (codes "--states") ≡ []
unfolding clap_on_literals
states_passes rows h ready none =
    both_none (react_fault (built_of exploring).rules false (filled (flag_rule (codes "states"))) [] h) [] (reacts exploring (codes "states") rows h ready none) refl

at_once_passes : (level : Level) (rows : List Row) (h : Held) → IsReady level rows h → has_row (codes "at-once") rows ≡ false → IsLawful at_once level
    → turn_fault (built_of level) [] (walk_from h) (codes "--at-once") ≡ []
unfolding clap_on_literals
at_once_passes exploring rows h ready none lawful =
    both_none (react_fault (built_of exploring).rules false (filled (flag_rule (codes "at-once"))) [] h) [] (reacts exploring (codes "at-once") rows h ready none) refl
at_once_passes checking rows h ready none lawful = absurd lawful
at_once_passes sampling rows h ready none lawful =
    both_none (react_fault (built_of sampling).rules false (filled (flag_rule (codes "at-once"))) [] h) [] (reacts sampling (codes "at-once") rows h ready none) refl
at_once_passes (splitting which) rows h ready none lawful = absurd lawful

-- the walk over an option
option_walks : (given : Given) (level : Level) (h : Held) (rest : List Text) → IsLawful given level
    → fold (walked (built_of level).rules []) (walk_from h) (words_of given ++ rest) ≡ fold (walked (built_of level).rules []) (walk_from (after given level h)) rest
option_walks (depth n) level h rest lawful =
    let plain : begins_with_hyphen (decimal n) ≡ false = decimal_is_plain n (omega arith) in
    ap (λ w. fold (walked (built_of level).rules []) w rest) (ap (λ w. met level w (decimal n)) (depth_word level h) ∙ depth_number level h (decimal n) plain)
option_walks (nodes n) exploring h rest lawful =
    let plain : begins_with_hyphen (decimal n) ≡ false = decimal_is_plain n (omega arith) in
    ap (λ w. fold (walked (built_of exploring).rules []) w rest) (ap (λ w. met exploring w (decimal n)) (nodes_word h) ∙ nodes_number h (decimal n) plain)
option_walks (nodes n) checking h rest lawful = absurd lawful
option_walks (nodes n) sampling h rest lawful = absurd lawful
option_walks (nodes n) (splitting which) h rest lawful = absurd lawful
option_walks (workers n) exploring h rest lawful =
    let plain : begins_with_hyphen (decimal n) ≡ false = decimal_is_plain n (omega arith) in
    ap (λ w. fold (walked (built_of exploring).rules []) w rest) (ap (λ w. met exploring w (decimal n)) (workers_word h) ∙ workers_number h (decimal n) plain)
option_walks (workers n) checking h rest lawful = absurd lawful
option_walks (workers n) sampling h rest lawful = absurd lawful
option_walks (workers n) (splitting which) h rest lawful = absurd lawful
option_walks allow_deadlock level h rest lawful = ap (λ w. fold (walked (built_of level).rules []) w rest) (allow_deadlock_word level h)
option_walks main_deadlock level h rest lawful = ap (λ w. fold (walked (built_of level).rules []) w rest) (main_deadlock_word level h)
option_walks idle_servers level h rest lawful = ap (λ w. fold (walked (built_of level).rules []) w rest) (idle_servers_word level h)
option_walks (normal text) level h rest lawful =
    ap (λ w. fold (walked (built_of level).rules []) w rest) (ap (λ w. met level w text) (normal_word level h) ∙ normal_text level h text lawful)
option_walks strict_access level h rest lawful = ap (λ w. fold (walked (built_of level).rules []) w rest) (strict_access_word level h)
option_walks explain level h rest lawful = ap (λ w. fold (walked (built_of level).rules []) w rest) (explain_word level h lawful)
option_walks cover exploring h rest lawful = ap (λ w. fold (walked (built_of exploring).rules []) w rest) (cover_word h)
option_walks cover checking h rest lawful = absurd lawful
option_walks cover sampling h rest lawful = absurd lawful
option_walks cover (splitting which) h rest lawful = absurd lawful
option_walks (at n) exploring h rest lawful = absurd lawful
option_walks (at n) checking h rest lawful = absurd lawful
option_walks (at n) sampling h rest lawful = absurd lawful
option_walks (at n) (splitting which) h rest lawful =
    let plain : begins_with_hyphen (decimal n) ≡ false = decimal_is_plain n (omega arith) in
    ap (λ w. fold (walked (built_of (splitting which)).rules []) w rest) (ap (λ w. met (splitting which) w (decimal n)) (at_word which h) ∙ at_number which h (decimal n) plain)
option_walks (job line) exploring h rest lawful =
    ap (λ w. fold (walked (built_of exploring).rules []) w rest) (ap (λ w. met exploring w line) (job_word h) ∙ job_line h line lawful)
option_walks (job line) checking h rest lawful = absurd lawful
option_walks (job line) sampling h rest lawful = absurd lawful
option_walks (job line) (splitting which) h rest lawful = absurd lawful
option_walks states exploring h rest lawful = ap (λ w. fold (walked (built_of exploring).rules []) w rest) (states_word h)
option_walks states checking h rest lawful = absurd lawful
option_walks states sampling h rest lawful = absurd lawful
option_walks states (splitting which) h rest lawful = absurd lawful
option_walks at_once level h rest lawful = ap (λ w. fold (walked (built_of level).rules []) w rest) (at_once_word level h lawful)
option_walks (runs n) exploring h rest lawful = absurd lawful
option_walks (runs n) checking h rest lawful = absurd lawful
option_walks (runs n) sampling h rest lawful =
    let plain : begins_with_hyphen (decimal n) ≡ false = decimal_is_plain n (omega arith) in
    ap (λ w. fold (walked (built_of sampling).rules []) w rest) (ap (λ w. met sampling w (decimal n)) (runs_word h) ∙ runs_number h (decimal n) plain)
option_walks (runs n) (splitting which) h rest lawful = absurd lawful
option_walks (seed n) exploring h rest lawful = absurd lawful
option_walks (seed n) checking h rest lawful = absurd lawful
option_walks (seed n) sampling h rest lawful =
    let plain : begins_with_hyphen (decimal n) ≡ false = decimal_is_plain n (omega arith) in
    ap (λ w. fold (walked (built_of sampling).rules []) w rest) (ap (λ w. met sampling w (decimal n)) (seed_word h) ∙ seed_number h (decimal n) plain)
option_walks (seed n) (splitting which) h rest lawful = absurd lawful
option_walks (format text) exploring h rest lawful =
    ap (λ w. fold (walked (built_of exploring).rules []) w rest) (ap (λ w. met exploring w text) (format_word h) ∙ format_text h text lawful)
option_walks (format text) checking h rest lawful = absurd lawful
option_walks (format text) sampling h rest lawful =
    ap (λ w. fold (walked (built_of sampling).rules []) w rest) (ap (λ w. met sampling w text) (sample_format_word h) ∙ sample_format_text h text lawful)
option_walks (format text) (splitting which) h rest lawful = absurd lawful

-- a word that passes
passes_on : (level : Level) (w after : Walk) (word : Text) (rest : List Text) → turn_fault (built_of level) [] w word ≡ [] → met level w word ≡ after
    → walk_fault (built_of level) [] w (word ∷ rest) ≡ walk_fault (built_of level) [] after rest
unfolding walk_fault
passes_on level w after word rest none next =
    ap (λ x. or_else x (walk_fault (built_of level) [] (met level w word) rest)) none ∙ ap (λ v. walk_fault (built_of level) [] v rest) next

-- no row is there yet of an option that is given once
abbrev pub IsNew : Given → List Row → Type 0
IsNew (normal text) rows = Unit {0}
IsNew given rows = has_row (id_of given) rows ≡ false

-- an option that passes
option_passes : (given : Given) (level : Level) (rows : List Row) (h : Held) (rest : List Text) → IsReady level rows h → IsNew given rows → IsLawful given level
    → walk_fault (built_of level) [] (walk_from h) (words_of given ++ rest) ≡ walk_fault (built_of level) [] (walk_from (after given level h)) rest
option_passes (depth n) level rows h rest ready none lawful =
    let plain : begins_with_hyphen (decimal n) ≡ false = decimal_is_plain n (omega arith) in
    passes_on level (walk_from h) (waiting_for level (codes "depth") h) (codes "--depth") (decimal n ∷ rest) (depth_word_passes level h ready.settles) (depth_word level h)
    ∙ passes_on level (waiting_for level (codes "depth") h) (walk_from (after (depth n) level h)) (decimal n) rest (number_passes level (codes "depth") h (decimal n) plain) (depth_number level h (decimal n) plain)
option_passes (nodes n) exploring rows h rest ready none lawful =
    let plain : begins_with_hyphen (decimal n) ≡ false = decimal_is_plain n (omega arith) in
    passes_on exploring (walk_from h) (waiting_for exploring (codes "nodes") h) (codes "--nodes") (decimal n ∷ rest) (nodes_word_passes h ready.settles) (nodes_word h)
    ∙ passes_on exploring (waiting_for exploring (codes "nodes") h) (walk_from (after (nodes n) exploring h)) (decimal n) rest (number_passes exploring (codes "nodes") h (decimal n) plain) (nodes_number h (decimal n) plain)
option_passes (nodes n) checking rows h rest ready none lawful = absurd lawful
option_passes (nodes n) sampling rows h rest ready none lawful = absurd lawful
option_passes (nodes n) (splitting which) rows h rest ready none lawful = absurd lawful
option_passes (workers n) exploring rows h rest ready none lawful =
    let plain : begins_with_hyphen (decimal n) ≡ false = decimal_is_plain n (omega arith) in
    passes_on exploring (walk_from h) (waiting_for exploring (codes "workers") h) (codes "--workers") (decimal n ∷ rest) (workers_word_passes h ready.settles) (workers_word h)
    ∙ passes_on exploring (waiting_for exploring (codes "workers") h) (walk_from (after (workers n) exploring h)) (decimal n) rest (number_passes exploring (codes "workers") h (decimal n) plain) (workers_number h (decimal n) plain)
option_passes (workers n) checking rows h rest ready none lawful = absurd lawful
option_passes (workers n) sampling rows h rest ready none lawful = absurd lawful
option_passes (workers n) (splitting which) rows h rest ready none lawful = absurd lawful
option_passes allow_deadlock level rows h rest ready none lawful =
    passes_on level (walk_from h) (walk_from (after allow_deadlock level h)) (codes "--allow-deadlock") rest (allow_deadlock_passes level rows h ready none) (allow_deadlock_word level h)
option_passes main_deadlock level rows h rest ready none lawful =
    passes_on level (walk_from h) (walk_from (after main_deadlock level h)) (codes "--main-deadlock") rest (main_deadlock_passes level rows h ready none) (main_deadlock_word level h)
option_passes idle_servers level rows h rest ready none lawful =
    passes_on level (walk_from h) (walk_from (after idle_servers level h)) (codes "--idle-servers") rest (idle_servers_passes level rows h ready none) (idle_servers_word level h)
option_passes (normal text) level rows h rest ready none lawful =
    passes_on level (walk_from h) (waiting_for level (codes "normal") h) (codes "--normal") (text ∷ rest) (normal_word_passes level h ready.settles) (normal_word level h)
    ∙ passes_on level (waiting_for level (codes "normal") h) (walk_from (after (normal text) level h)) text rest (number_passes level (codes "normal") h text lawful) (normal_text level h text lawful)
option_passes strict_access level rows h rest ready none lawful =
    passes_on level (walk_from h) (walk_from (after strict_access level h)) (codes "--strict-access") rest (strict_access_passes level rows h ready none) (strict_access_word level h)
option_passes explain level rows h rest ready none lawful =
    passes_on level (walk_from h) (walk_from (after explain level h)) (codes "--explain") rest (explain_passes level rows h ready none lawful) (explain_word level h lawful)
option_passes cover exploring rows h rest ready none lawful =
    passes_on exploring (walk_from h) (walk_from (after cover exploring h)) (codes "--cover") rest (cover_passes rows h ready none) (cover_word h)
option_passes cover checking rows h rest ready none lawful = absurd lawful
option_passes cover sampling rows h rest ready none lawful = absurd lawful
option_passes cover (splitting which) rows h rest ready none lawful = absurd lawful
option_passes (at n) exploring rows h rest ready none lawful = absurd lawful
option_passes (at n) checking rows h rest ready none lawful = absurd lawful
option_passes (at n) sampling rows h rest ready none lawful = absurd lawful
option_passes (at n) (splitting which) rows h rest ready none lawful =
    let plain : begins_with_hyphen (decimal n) ≡ false = decimal_is_plain n (omega arith) in
    passes_on (splitting which) (walk_from h) (waiting_for (splitting which) (codes "at") h) (codes "--at") (decimal n ∷ rest) (at_word_passes which h ready.settles) (at_word which h)
    ∙ passes_on (splitting which) (waiting_for (splitting which) (codes "at") h) (walk_from (after (at n) (splitting which) h)) (decimal n) rest (number_passes (splitting which) (codes "at") h (decimal n) plain) (at_number which h (decimal n) plain)
option_passes (job line) exploring rows h rest ready none lawful =
    passes_on exploring (walk_from h) (waiting_for exploring (codes "job") h) (codes "--job") (line ∷ rest) (job_word_passes h ready.settles) (job_word h)
    ∙ passes_on exploring (waiting_for exploring (codes "job") h) (walk_from (after (job line) exploring h)) line rest (number_passes exploring (codes "job") h line lawful) (job_line h line lawful)
option_passes (job line) checking rows h rest ready none lawful = absurd lawful
option_passes (job line) sampling rows h rest ready none lawful = absurd lawful
option_passes (job line) (splitting which) rows h rest ready none lawful = absurd lawful
option_passes states exploring rows h rest ready none lawful =
    passes_on exploring (walk_from h) (walk_from (after states exploring h)) (codes "--states") rest (states_passes rows h ready none) (states_word h)
option_passes states checking rows h rest ready none lawful = absurd lawful
option_passes states sampling rows h rest ready none lawful = absurd lawful
option_passes states (splitting which) rows h rest ready none lawful = absurd lawful
option_passes at_once level rows h rest ready none lawful =
    passes_on level (walk_from h) (walk_from (after at_once level h)) (codes "--at-once") rest (at_once_passes level rows h ready none lawful) (at_once_word level h lawful)
option_passes (runs n) exploring rows h rest ready none lawful = absurd lawful
option_passes (runs n) checking rows h rest ready none lawful = absurd lawful
option_passes (runs n) sampling rows h rest ready none lawful =
    let plain : begins_with_hyphen (decimal n) ≡ false = decimal_is_plain n (omega arith) in
    passes_on sampling (walk_from h) (waiting_for sampling (codes "runs") h) (codes "--runs") (decimal n ∷ rest) (runs_word_passes h ready.settles) (runs_word h)
    ∙ passes_on sampling (waiting_for sampling (codes "runs") h) (walk_from (after (runs n) sampling h)) (decimal n) rest (number_passes sampling (codes "runs") h (decimal n) plain) (runs_number h (decimal n) plain)
option_passes (runs n) (splitting which) rows h rest ready none lawful = absurd lawful
option_passes (seed n) exploring rows h rest ready none lawful = absurd lawful
option_passes (seed n) checking rows h rest ready none lawful = absurd lawful
option_passes (seed n) sampling rows h rest ready none lawful =
    let plain : begins_with_hyphen (decimal n) ≡ false = decimal_is_plain n (omega arith) in
    passes_on sampling (walk_from h) (waiting_for sampling (codes "seed") h) (codes "--seed") (decimal n ∷ rest) (seed_word_passes h ready.settles) (seed_word h)
    ∙ passes_on sampling (waiting_for sampling (codes "seed") h) (walk_from (after (seed n) sampling h)) (decimal n) rest (number_passes sampling (codes "seed") h (decimal n) plain) (seed_number h (decimal n) plain)
option_passes (seed n) (splitting which) rows h rest ready none lawful = absurd lawful
option_passes (format text) exploring rows h rest ready none lawful =
    passes_on exploring (walk_from h) (waiting_for exploring (codes "format") h) (codes "--format") (text ∷ rest) (format_word_passes h ready.settles) (format_word h)
    ∙ passes_on exploring (waiting_for exploring (codes "format") h) (walk_from (after (format text) exploring h)) text rest (number_passes exploring (codes "format") h text lawful) (format_text h text lawful)
option_passes (format text) checking rows h rest ready none lawful = absurd lawful
option_passes (format text) sampling rows h rest ready none lawful =
    passes_on sampling (walk_from h) (waiting_for sampling (codes "format") h) (codes "--format") (text ∷ rest) (sample_format_word_passes h ready.settles) (sample_format_word h)
    ∙ passes_on sampling (waiting_for sampling (codes "format") h) (walk_from (after (format text) sampling h)) text rest (number_passes sampling (codes "format") h text lawful) (sample_format_text h text lawful)
option_passes (format text) (splitting which) rows h rest ready none lawful = absurd lawful

-- what is held after an option, with its row
number_ready : (level : Level) (id value : Text) (rows : List Row) (h : Held) → IsReady level rows h → has_row id rows ≡ false
    → settle_fault (built_of level).rules false (with_number level id value h) ≡ []
    → (settled (built_of level).rules (with_number level id value h)).rows ≡ with_values id AsWritten CommandLine (value ∷ []) (without id (settled (built_of level).rules h).rows)
    → IsReady level (rows ++ row_with CommandLine id value ∷ []) (with_number level id value h)
number_ready level id value rows h ready none settles rows_are = record {
  settles = settles;
  rows_are = rows_are ∙ ap (λ l. with_values id AsWritten CommandLine (value ∷ []) (without id l)) ready.rows_are ∙ used_once id value rows none;
}

flag_ready : (level : Level) (id : Text) (rows : List Row) (h : Held) → IsReady level rows h → has_row id rows ≡ false
    → IsReady level (rows ++ row_with CommandLine id (codes "true") ∷ []) (with_flag level id h)
flag_ready level id rows h ready none = record {
  settles = refl;
  rows_are = ap (λ l. with_values id AsWritten CommandLine (codes "true" ∷ []) (without id l)) ready.rows_are ∙ used_once id (codes "true") rows none;
}

normal_ready : (level : Level) (text : Text) (rows : List Row) (h : Held) → IsReady level rows h → IsReady level (put rows (normal text)) (after (normal text) level h)
normal_ready exploring text rows h ready = record {
  settles = normal_passes text (settled (built_of exploring).rules h).rows;
  rows_are = ap (λ l. put l (normal text)) ready.rows_are;
}
normal_ready checking text rows h ready = record {
  settles = normal_passes text (settled (built_of checking).rules h).rows;
  rows_are = ap (λ l. put l (normal text)) ready.rows_are;
}
normal_ready sampling text rows h ready = record {
  settles = normal_passes text (settled (built_of sampling).rules h).rows;
  rows_are = ap (λ l. put l (normal text)) ready.rows_are;
}
normal_ready (splitting which) text rows h ready = record {
  settles = normal_passes text (settled (built_of (splitting which)).rules h).rows;
  rows_are = ap (λ l. put l (normal text)) ready.rows_are;
}

-- no row among what is held is one of an option that is not there yet
still_new : (level : Level) (id : Text) (rows : List Row) (h : Held) → IsReady level rows h → has_row id rows ≡ false → has_row id (settled (built_of level).rules h).rows ≡ false
still_new level id rows h ready none = ap (has_row id) ready.rows_are ∙ none

option_ready : (given : Given) (level : Level) (rows : List Row) (h : Held) → IsReady level rows h → IsNew given rows → IsLawful given level → IsReady level (put rows given) (after given level h)
option_ready (depth n) exploring rows h ready none lawful =
    number_ready exploring (codes "depth") (decimal n) rows h ready none
    (depth_passes (decimal n) (settled (built_of exploring).rules h).rows (still_new exploring (codes "depth") rows h ready none) (decimal_fits 0 400 n (omega arith) lawful (omega arith))) refl
option_ready (depth n) checking rows h ready none lawful =
    number_ready checking (codes "depth") (decimal n) rows h ready none
    (depth_passes (decimal n) (settled (built_of checking).rules h).rows (still_new checking (codes "depth") rows h ready none) (decimal_fits 0 400 n (omega arith) lawful (omega arith))) refl
option_ready (depth n) sampling rows h ready none lawful =
    number_ready sampling (codes "depth") (decimal n) rows h ready none
    (depth_passes (decimal n) (settled (built_of sampling).rules h).rows (still_new sampling (codes "depth") rows h ready none) (decimal_fits 0 400 n (omega arith) lawful (omega arith))) refl
option_ready (depth n) (splitting which) rows h ready none lawful =
    number_ready (splitting which) (codes "depth") (decimal n) rows h ready none
    (depth_passes (decimal n) (settled (built_of (splitting which)).rules h).rows (still_new (splitting which) (codes "depth") rows h ready none) (decimal_fits 0 400 n (omega arith) lawful (omega arith))) refl
option_ready (nodes n) exploring rows h ready none lawful =
    number_ready exploring (codes "nodes") (decimal n) rows h ready none
    (nodes_passes (decimal n) (settled (built_of exploring).rules h).rows (still_new exploring (codes "nodes") rows h ready none) (decimal_fits 1 10000000 n lawful.0 lawful.1 (omega arith))) refl
option_ready (nodes n) checking rows h ready none lawful = absurd lawful
option_ready (nodes n) sampling rows h ready none lawful = absurd lawful
option_ready (nodes n) (splitting which) rows h ready none lawful = absurd lawful
option_ready (workers n) exploring rows h ready none lawful =
    number_ready exploring (codes "workers") (decimal n) rows h ready none
    (workers_passes (decimal n) (settled (built_of exploring).rules h).rows (still_new exploring (codes "workers") rows h ready none) (decimal_fits 1 16 n lawful.0 lawful.1 (omega arith))) refl
option_ready (workers n) checking rows h ready none lawful = absurd lawful
option_ready (workers n) sampling rows h ready none lawful = absurd lawful
option_ready (workers n) (splitting which) rows h ready none lawful = absurd lawful
option_ready allow_deadlock level rows h ready none lawful = flag_ready level (codes "allow-deadlock") rows h ready none
option_ready main_deadlock level rows h ready none lawful = flag_ready level (codes "main-deadlock") rows h ready none
option_ready idle_servers level rows h ready none lawful = flag_ready level (codes "idle-servers") rows h ready none
option_ready (normal text) level rows h ready none lawful = normal_ready level text rows h ready
option_ready strict_access level rows h ready none lawful = flag_ready level (codes "strict-access") rows h ready none
option_ready explain level rows h ready none lawful = flag_ready level (codes "explain") rows h ready none
option_ready cover exploring rows h ready none lawful = flag_ready exploring (codes "cover") rows h ready none
option_ready cover checking rows h ready none lawful = absurd lawful
option_ready cover sampling rows h ready none lawful = absurd lawful
option_ready cover (splitting which) rows h ready none lawful = absurd lawful
option_ready (at n) exploring rows h ready none lawful = absurd lawful
option_ready (at n) checking rows h ready none lawful = absurd lawful
option_ready (at n) sampling rows h ready none lawful = absurd lawful
option_ready (at n) (splitting which) rows h ready none lawful =
    number_ready (splitting which) (codes "at") (decimal n) rows h ready none
    (at_passes (decimal n) (settled (built_of (splitting which)).rules h).rows (still_new (splitting which) (codes "at") rows h ready none) (decimal_fits 0 400 n (omega arith) lawful (omega arith))) refl
option_ready (job line) exploring rows h ready none lawful =
    number_ready exploring (codes "job") line rows h ready none (job_passes line (settled (built_of exploring).rules h).rows (still_new exploring (codes "job") rows h ready none)) refl
option_ready (job line) checking rows h ready none lawful = absurd lawful
option_ready (job line) sampling rows h ready none lawful = absurd lawful
option_ready (job line) (splitting which) rows h ready none lawful = absurd lawful
option_ready states exploring rows h ready none lawful = flag_ready exploring (codes "states") rows h ready none
option_ready states checking rows h ready none lawful = absurd lawful
option_ready states sampling rows h ready none lawful = absurd lawful
option_ready states (splitting which) rows h ready none lawful = absurd lawful
option_ready at_once level rows h ready none lawful = flag_ready level (codes "at-once") rows h ready none
option_ready (runs n) exploring rows h ready none lawful = absurd lawful
option_ready (runs n) checking rows h ready none lawful = absurd lawful
option_ready (runs n) sampling rows h ready none lawful =
    number_ready sampling (codes "runs") (decimal n) rows h ready none
    (runs_passes (decimal n) (settled (built_of sampling).rules h).rows (still_new sampling (codes "runs") rows h ready none) (decimal_fits 1 1000000 n lawful.0 lawful.1 (omega arith))) refl
option_ready (runs n) (splitting which) rows h ready none lawful = absurd lawful
option_ready (seed n) exploring rows h ready none lawful = absurd lawful
option_ready (seed n) checking rows h ready none lawful = absurd lawful
option_ready (seed n) sampling rows h ready none lawful =
    number_ready sampling (codes "seed") (decimal n) rows h ready none
    (seed_passes (decimal n) (settled (built_of sampling).rules h).rows (still_new sampling (codes "seed") rows h ready none) (decimal_fits 0 4294967295 n (omega arith) lawful (omega arith))) refl
option_ready (seed n) (splitting which) rows h ready none lawful = absurd lawful
option_ready (format text) exploring rows h ready none lawful =
    number_ready exploring (codes "format") text rows h ready none (format_passes text (settled (built_of exploring).rules h).rows (still_new exploring (codes "format") rows h ready none)) refl
option_ready (format text) checking rows h ready none lawful = absurd lawful
option_ready (format text) sampling rows h ready none lawful =
    number_ready sampling (codes "format") text rows h ready none (format_passes text (settled (built_of sampling).rules h).rows (still_new sampling (codes "format") rows h ready none)) refl
option_ready (format text) (splitting which) rows h ready none lawful = absurd lawful

-- ---- all options

-- each is an option of the command, and in its range
abbrev pub AreLawful : List Given → Level → Type 0
AreLawful [] level = Unit {0}
AreLawful (given ∷ rest) level = IsLawful given level × AreLawful rest level

-- no option has a row among these, nor among those of the options before it, where it is given once
abbrev pub AreNew : List Row → List Given → Type 0
AreNew rows [] = Unit {0}
AreNew rows (given ∷ rest) = IsNew given rows × AreNew (put rows given) rest

pub options_pass : (given : List Given) (level : Level) (rows : List Row) (h : Held) → IsReady level rows h → AreNew rows given → AreLawful given level
    → walk_fault (built_of level) [] (walk_from h) (words_of_all given) ≡ []
unfolding walk_fault
options_pass [] level rows h ready new lawful = refl
options_pass (given ∷ rest) level rows h ready new lawful =
    option_passes given level rows h (words_of_all rest) ready new.0 lawful.0
    ∙ options_pass rest level (put rows given) (after given level h) (option_ready given level rows h ready new.0 lawful.0) new.1 lawful.1

pub options_ready : (given : List Given) (level : Level) (rows : List Row) (h : Held) → IsReady level rows h → AreNew rows given → AreLawful given level
    → IsReady level (put_all rows given) (walk (built_of level).rules [] h (words_of_all given)).held
options_ready [] level rows h ready new lawful = ready
options_ready (given ∷ rest) level rows h ready new lawful =
    let later = options_ready rest level (put rows given) (after given level h) (option_ready given level rows h ready new.0 lawful.0) new.1 lawful.1 in
    let held : walk (built_of level).rules [] h (words_of_all (given ∷ rest)) ≡ walk (built_of level).rules [] (after given level h) (words_of_all rest) = option_walks given level h (words_of_all rest) lawful.0 in
    subst (λ w. IsReady level (put_all rows (given ∷ rest)) w.held) (sym held) later
