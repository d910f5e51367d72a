-- The rows of the options of a command: one for each option, with the texts of `--normal` in one row, and then the defaults.
use Rattle.std.proofs.Common.{◌≡◌, ◌∙◌, ◌||◌, Bool, true, false, List, [], ◌∷◌, ◌++◌, map, Option, Some, None, cond, codes, option_map, refl, sym, ap, subst}
use Rattle.std.specs.Fmt.{decimal}
use Rattle.std.specs.List.{find, fold, list_any}
use Rattle.std.specs.Option.{is_some, unwrap_or}
use Rattle.std.specs.Prelude.{option_and_then, slice_get}
use Rattle.std.specs.Str.{bytes_eq}
use Rattle.std.proofs.lemmas.List.{append-nil, append_assoc}
use Rattle.std.proofs.lemmas.Slice.Eq.{bytes_eq-Decides}
use Rattle.clap.specs.Walk.{Row, Rule, Text, at_row, default_rows, has_row, more_values, one_of, reading_by, row_text, stronger, with_default, with_values, without}
use Rattle.clap.specs.declared.builder.value_parser.Reading.{Reading}
use Rattle.clap.specs.declared.builder.value_parser.Reading.TheVariants.{AsWritten}
use Rattle.clap.specs.declared.parser.matches.ValueSource.{ValueSource}
use Rattle.clap.specs.declared.parser.matches.ValueSource.TheVariants.{CommandLine, DefaultValue}
use Rattle.program_words.specs.Words.{Given, depth, nodes, workers, allow_deadlock, strict_access, explain, cover, main_deadlock, idle_servers, normal, at, job, states, at_once, runs, seed, format, depths_of, nodes_of, workers_of, texts_of, ats_of, jobs_of, runs_of, seeds_of, formats_of, is_allow_deadlock, is_main_deadlock, is_idle_servers, is_strict_access, is_explain, is_cover, is_states, is_at_once}
use Rattle.program_words.specs.inside.CommandLine.{Level, Splitter, built_of, checking, exploring, sampling, splitting}
use Rattle.program_words.specs.inside.Found.{texts_in}

-- the row of one value
abbrev pub row_with : ValueSource → Text → Text → Row
row_with source id value = record { id = id; values = value ∷ []; count = None; source = Some source; reading = AsWritten }

-- the row of some values, and a row with more of them
abbrev row_having : ValueSource → Text → Reading → List Text → Row
row_having source id how values = record { id = id; values = values; count = None; source = Some source; reading = how }

abbrev row_more : ValueSource → List Text → Row → Row
row_more source values r = record r { values = r.values ++ values; source = Some (stronger r.source source) }

-- the name of an option, and its value
abbrev pub id_of : Given → Text
id_of (depth n) = codes "depth"
id_of (nodes n) = codes "nodes"
id_of (workers n) = codes "workers"
id_of allow_deadlock = codes "allow-deadlock"
id_of main_deadlock = codes "main-deadlock"
id_of idle_servers = codes "idle-servers"
id_of (normal text) = codes "normal"
id_of strict_access = codes "strict-access"
id_of explain = codes "explain"
id_of cover = codes "cover"
id_of (at n) = codes "at"
id_of (job line) = codes "job"
id_of states = codes "states"
id_of at_once = codes "at-once"
id_of (runs n) = codes "runs"
id_of (seed n) = codes "seed"
id_of (format text) = codes "format"

abbrev pub value_of : Given → Text
value_of (depth n) = decimal n
value_of (nodes n) = decimal n
value_of (workers n) = decimal n
value_of allow_deadlock = codes "true"
value_of main_deadlock = codes "true"
value_of idle_servers = codes "true"
value_of (normal text) = text
value_of strict_access = codes "true"
value_of explain = codes "true"
value_of cover = codes "true"
value_of (at n) = decimal n
value_of (job line) = line
value_of states = codes "true"
value_of at_once = codes "true"
value_of (runs n) = decimal n
value_of (seed n) = decimal n
value_of (format text) = text

-- the row of an option that is given
abbrev pub row_of : Given → Row
row_of option = row_with CommandLine (id_of option) (value_of option)

-- the rows after an option: a text of `--normal` goes into the row of those before it
abbrev pub put : List Row → Given → List Row
put rows (normal text) = with_values (codes "normal") AsWritten CommandLine (text ∷ []) rows
put rows option = rows ++ row_of option ∷ []

abbrev pub put_all : List Row → List Given → List Row
put_all rows [] = rows
put_all rows (option ∷ rest) = put_all (put rows option) rest

-- ---- a row more

pub neither : (a b : Bool) → (a || b) ≡ false → (a ≡ false) × (b ≡ false)
neither true b none = cc
neither false b none = (refl, none)

-- where there is no row of the id, a change of it puts a new one at the end
at_end : (id : Text) (change : Row → List Row) (missing rows : List Row) → has_row id rows ≡ false → at_row id change missing rows ≡ rows ++ missing
at_end id change missing [] none = refl
at_end id change missing (r ∷ rs) none =
    let parts = neither (bytes_eq r.id id) (has_row id rs) none in
    by (bytes_eq r.id id) parts.0 (at_end id change missing rs parts.1)
  where
    by : (b : Bool) → b ≡ false → at_row id change missing rs ≡ rs ++ missing → cond b (change r ++ rs) (r ∷ at_row id change missing rs) ≡ r ∷ (rs ++ missing)
    by true e rest = cc
    by false e rest = ap (λ l. r ∷ l) rest

-- the first values of an argument
pub used_once : (id value : Text) (rows : List Row) → has_row id rows ≡ false → with_values id AsWritten CommandLine (value ∷ []) (without id rows) ≡ rows ++ row_with CommandLine id value ∷ []
used_once id value rows none =
    let same : without id rows ≡ rows = at_end id (λ r. []) [] rows none ∙ append-nil rows in
    ap (with_values id AsWritten CommandLine (value ∷ [])) same ∙ at_end id (more_values CommandLine (value ∷ [])) (row_with CommandLine id value ∷ []) rows none

-- the row of an id
abbrev pub row_at : Text → List Row → Option Row
row_at id rows = find (λ r. bytes_eq r.id id) rows

pub has_row-at : (id : Text) (rows : List Row) → has_row id rows ≡ is_some (row_at id rows)
has_row-at id [] = refl
has_row-at id (r ∷ rs) = by (bytes_eq r.id id) (has_row-at id rs)
  where
    by : (b : Bool) → has_row id rs ≡ is_some (row_at id rs) → (b || has_row id rs) ≡ is_some (cond b (Some r) (row_at id rs))
    by true rest = refl
    by false rest = rest

row_at-more : (id : Text) (rows : List Row) (r : Row) → bytes_eq r.id id ≡ false → row_at id (rows ++ r ∷ []) ≡ row_at id rows
row_at-more id [] r differs = ap (λ b. cond b (Some r) None) differs
row_at-more id (x ∷ xs) r differs = ap (λ o. cond (bytes_eq x.id id) (Some x) o) (row_at-more id xs r differs)

row_at-new : (id : Text) (rows : List Row) (r : Row) → bytes_eq r.id id ≡ true → row_at id rows ≡ None → row_at id (rows ++ r ∷ []) ≡ Some r
row_at-new id [] r same none = ap (λ b. cond b (Some r) None) same
row_at-new id (x ∷ xs) r same none = by (bytes_eq x.id id) none (row_at-new id xs r same)
  where
    by : (b : Bool) → cond b (Some x) (row_at id xs) ≡ None → (row_at id xs ≡ None → row_at id (xs ++ r ∷ []) ≡ Some r) → cond b (Some x) (row_at id (xs ++ r ∷ [])) ≡ Some r
    by true none rest = cc
    by false none rest = rest none

-- ---- the rows of the options that are given

-- where no row has an id, the rows after it are looked at
abbrev or_behind : Option Row → Option Row → Option Row
or_behind (Some r) behind = Some r
or_behind None behind = behind

row_at-append : (id : Text) (xs ys : List Row) → row_at id (xs ++ ys) ≡ or_behind (row_at id xs) (row_at id ys)
row_at-append id [] ys = refl
row_at-append id (x ∷ xs) ys = by (bytes_eq x.id id) (row_at-append id xs ys)
  where
    by : (b : Bool) → row_at id (xs ++ ys) ≡ or_behind (row_at id xs) (row_at id ys) → cond b (Some x) (row_at id (xs ++ ys)) ≡ or_behind (cond b (Some x) (row_at id xs)) (row_at id ys)
    by true rest = refl
    by false rest = rest

-- values of another argument leave the row of an id as it is
other_values : (id other : Text) (how : Reading) (source : ValueSource) (values : List Text) (rows : List Row) → bytes_eq other id ≡ false
    → row_at id (with_values other how source values rows) ≡ row_at id rows
other_values id other how source values [] differs = ap (λ b. cond b (Some (row_having source other how values)) None) differs
other_values id other how source values (r ∷ rs) differs = by (bytes_eq r.id other) refl (other_values id other how source values rs differs)
  where
    apart : bytes_eq r.id other ≡ true → bytes_eq r.id id ≡ false
    apart is = ap (λ t. bytes_eq t id) ((bytes_eq-Decides r.id other).0 is) ∙ differs

    by : (b : Bool) → bytes_eq r.id other ≡ b → row_at id (with_values other how source values rs) ≡ row_at id rs
        → row_at id (cond b (more_values source values r ++ rs) (r ∷ with_values other how source values rs)) ≡ row_at id (r ∷ rs)
    by true is rest = ap (λ c. cond c (Some (row_more source values r)) (row_at id rs)) (apart is) ∙ sym (ap (λ c. cond c (Some r) (row_at id rs)) (apart is))
    by false is rest = ap (λ o. cond (bytes_eq r.id id) (Some r) o) rest

-- one option more leaves the rows of the others as they are
pub put_apart : (id : Text) (rows : List Row) (option : Given) → bytes_eq (id_of option) id ≡ false → row_at id (put rows option) ≡ row_at id rows
put_apart id rows (normal text) differs = other_values id (codes "normal") AsWritten CommandLine (text ∷ []) rows differs
put_apart id rows (depth n) differs = row_at-more id rows (row_of (depth n)) differs
put_apart id rows (nodes n) differs = row_at-more id rows (row_of (nodes n)) differs
put_apart id rows (workers n) differs = row_at-more id rows (row_of (workers n)) differs
put_apart id rows allow_deadlock differs = row_at-more id rows (row_of allow_deadlock) differs
put_apart id rows main_deadlock differs = row_at-more id rows (row_of main_deadlock) differs
put_apart id rows idle_servers differs = row_at-more id rows (row_of idle_servers) differs
put_apart id rows strict_access differs = row_at-more id rows (row_of strict_access) differs
put_apart id rows explain differs = row_at-more id rows (row_of explain) differs
put_apart id rows cover differs = row_at-more id rows (row_of cover) differs
put_apart id rows (at n) differs = row_at-more id rows (row_of (at n)) differs
put_apart id rows (job line) differs = row_at-more id rows (row_of (job line)) differs
put_apart id rows states differs = row_at-more id rows (row_of states) differs
put_apart id rows at_once differs = row_at-more id rows (row_of at_once) differs
put_apart id rows (runs n) differs = row_at-more id rows (row_of (runs n)) differs
put_apart id rows (seed n) differs = row_at-more id rows (row_of (seed n)) differs
put_apart id rows (format text) differs = row_at-more id rows (row_of (format text)) differs

put_row : (id : Text) (rows : List Row) (option : Given) → bytes_eq (codes "normal") id ≡ false → row_at id (put rows option) ≡ row_at id (rows ++ row_of option ∷ [])
put_row id rows (normal text) differs =
    other_values id (codes "normal") AsWritten CommandLine (text ∷ []) rows differs ∙ sym (row_at-more id rows (row_of (normal text)) differs)
put_row id rows (depth n) differs = refl
put_row id rows (nodes n) differs = refl
put_row id rows (workers n) differs = refl
put_row id rows allow_deadlock differs = refl
put_row id rows main_deadlock differs = refl
put_row id rows idle_servers differs = refl
put_row id rows strict_access differs = refl
put_row id rows explain differs = refl
put_row id rows cover differs = refl
put_row id rows (at n) differs = refl
put_row id rows (job line) differs = refl
put_row id rows states differs = refl
put_row id rows at_once differs = refl
put_row id rows (runs n) differs = refl
put_row id rows (seed n) differs = refl
put_row id rows (format text) differs = refl

-- the row of an option that is not `--normal` is that of the first one
put_rows : (id : Text) (rows : List Row) (given : List Given) → bytes_eq (codes "normal") id ≡ false → row_at id (put_all rows given) ≡ row_at id (rows ++ map row_of given)
put_rows id rows [] differs = ap (row_at id) (sym (append-nil rows))
put_rows id rows (option ∷ rest) differs =
    put_rows id (put rows option) rest differs ∙ row_at-append id (put rows option) (map row_of rest)
    ∙ ap (λ o. or_behind o (row_at id (map row_of rest))) (put_row id rows option differs)
    ∙ sym (row_at-append id (rows ++ row_of option ∷ []) (map row_of rest)) ∙ ap (row_at id) (append_assoc rows (row_of option ∷ []) (map row_of rest))

pub given_row : (id : Text) (given : List Given) → bytes_eq (codes "normal") id ≡ false → row_at id (put_all [] given) ≡ row_at id (map row_of given)
given_row id given differs = put_rows id [] given differs

-- ---- the texts of `--normal`

abbrev texts_of_row : Option Row → List Text
texts_of_row row = unwrap_or (option_map (λ r. r.values) row) []

more_texts : (id : Text) (how : Reading) (source : ValueSource) (values : List Text) (rows : List Row) → bytes_eq id id ≡ true
    → texts_of_row (row_at id (with_values id how source values rows)) ≡ texts_of_row (row_at id rows) ++ values
more_texts id how source values [] same = ap (λ b. texts_of_row (cond b (Some (row_having source id how values)) None)) same
more_texts id how source values (r ∷ rs) same = by (bytes_eq r.id id) refl (more_texts id how source values rs same)
  where
    by : (b : Bool) → bytes_eq r.id id ≡ b → texts_of_row (row_at id (with_values id how source values rs)) ≡ texts_of_row (row_at id rs) ++ values
        → texts_of_row (row_at id (cond b (more_values source values r ++ rs) (r ∷ with_values id how source values rs))) ≡ texts_of_row (row_at id (r ∷ rs)) ++ values
    by true is rest =
        ap (λ c. texts_of_row (cond c (Some (row_more source values r)) (row_at id rs))) is ∙ sym (ap (λ c. texts_of_row (cond c (Some r) (row_at id rs)) ++ values) is)
    by false is rest =
        ap (λ c. texts_of_row (cond c (Some r) (row_at id (with_values id how source values rs)))) is ∙ rest ∙ sym (ap (λ c. texts_of_row (cond c (Some r) (row_at id rs)) ++ values) is)

other_put : (rows : List Row) (option : Given) (rest : List Given) → bytes_eq (id_of option) (codes "normal") ≡ false → texts_in (put_all (put rows option) rest) ≡ texts_in (put rows option) ++ texts_of rest
    → texts_in (put_all (put rows option) rest) ≡ texts_in rows ++ texts_of rest
other_put rows option rest differs is = is ∙ ap (λ o. texts_of_row o ++ texts_of rest) (put_apart (codes "normal") rows option differs)

put_texts : (rows : List Row) (given : List Given) → texts_in (put_all rows given) ≡ texts_in rows ++ texts_of given
put_texts rows [] = sym (append-nil (texts_in rows))
put_texts rows (normal text ∷ rest) =
    put_texts (put rows (normal text)) rest ∙ ap (λ l. l ++ texts_of rest) (more_texts (codes "normal") AsWritten CommandLine (text ∷ []) rows refl)
    ∙ append_assoc (texts_in rows) (text ∷ []) (texts_of rest)
put_texts rows (depth n ∷ rest) = other_put rows (depth n) rest refl (put_texts (put rows (depth n)) rest)
put_texts rows (nodes n ∷ rest) = other_put rows (nodes n) rest refl (put_texts (put rows (nodes n)) rest)
put_texts rows (workers n ∷ rest) = other_put rows (workers n) rest refl (put_texts (put rows (workers n)) rest)
put_texts rows (allow_deadlock ∷ rest) = other_put rows allow_deadlock rest refl (put_texts (put rows allow_deadlock) rest)
put_texts rows (main_deadlock ∷ rest) = other_put rows main_deadlock rest refl (put_texts (put rows main_deadlock) rest)
put_texts rows (idle_servers ∷ rest) = other_put rows idle_servers rest refl (put_texts (put rows idle_servers) rest)
put_texts rows (strict_access ∷ rest) = other_put rows strict_access rest refl (put_texts (put rows strict_access) rest)
put_texts rows (explain ∷ rest) = other_put rows explain rest refl (put_texts (put rows explain) rest)
put_texts rows (cover ∷ rest) = other_put rows cover rest refl (put_texts (put rows cover) rest)
put_texts rows (at n ∷ rest) = other_put rows (at n) rest refl (put_texts (put rows (at n)) rest)
put_texts rows (job line ∷ rest) = other_put rows (job line) rest refl (put_texts (put rows (job line)) rest)
put_texts rows (states ∷ rest) = other_put rows states rest refl (put_texts (put rows states) rest)
put_texts rows (at_once ∷ rest) = other_put rows at_once rest refl (put_texts (put rows at_once) rest)
put_texts rows (runs n ∷ rest) = other_put rows (runs n) rest refl (put_texts (put rows (runs n)) rest)
put_texts rows (seed n ∷ rest) = other_put rows (seed n) rest refl (put_texts (put rows (seed n)) rest)
put_texts rows (format text ∷ rest) = other_put rows (format text) rest refl (put_texts (put rows (format text)) rest)

-- all texts that are given are in the rows, in their order
pub given_texts : (given : List Given) → texts_in (put_all [] given) ≡ texts_of given
given_texts given = put_texts [] given

pub depth_row : (given : List Given) → row_at (codes "depth") (map row_of given) ≡ option_map (λ n. row_of (depth n)) (slice_get (depths_of given) 0)
depth_row [] = refl
depth_row (depth n ∷ rest) = refl
depth_row (nodes n ∷ rest) = depth_row rest
depth_row (workers n ∷ rest) = depth_row rest
depth_row (allow_deadlock ∷ rest) = depth_row rest
depth_row (strict_access ∷ rest) = depth_row rest
depth_row (explain ∷ rest) = depth_row rest
depth_row (cover ∷ rest) = depth_row rest
depth_row (main_deadlock ∷ rest) = depth_row rest
depth_row (idle_servers ∷ rest) = depth_row rest
depth_row (normal text ∷ rest) = depth_row rest
depth_row (at n ∷ rest) = depth_row rest
depth_row (job line ∷ rest) = depth_row rest
depth_row (states ∷ rest) = depth_row rest
depth_row (at_once ∷ rest) = depth_row rest
depth_row (runs n ∷ rest) = depth_row rest
depth_row (seed n ∷ rest) = depth_row rest
depth_row (format text ∷ rest) = depth_row rest

pub nodes_row : (given : List Given) → row_at (codes "nodes") (map row_of given) ≡ option_map (λ n. row_of (nodes n)) (slice_get (nodes_of given) 0)
nodes_row [] = refl
nodes_row (nodes n ∷ rest) = refl
nodes_row (depth n ∷ rest) = nodes_row rest
nodes_row (workers n ∷ rest) = nodes_row rest
nodes_row (allow_deadlock ∷ rest) = nodes_row rest
nodes_row (strict_access ∷ rest) = nodes_row rest
nodes_row (explain ∷ rest) = nodes_row rest
nodes_row (cover ∷ rest) = nodes_row rest
nodes_row (main_deadlock ∷ rest) = nodes_row rest
nodes_row (idle_servers ∷ rest) = nodes_row rest
nodes_row (normal text ∷ rest) = nodes_row rest
nodes_row (at n ∷ rest) = nodes_row rest
nodes_row (job line ∷ rest) = nodes_row rest
nodes_row (states ∷ rest) = nodes_row rest
nodes_row (at_once ∷ rest) = nodes_row rest
nodes_row (runs n ∷ rest) = nodes_row rest
nodes_row (seed n ∷ rest) = nodes_row rest
nodes_row (format text ∷ rest) = nodes_row rest

pub workers_row : (given : List Given) → row_at (codes "workers") (map row_of given) ≡ option_map (λ n. row_of (workers n)) (slice_get (workers_of given) 0)
workers_row [] = refl
workers_row (workers n ∷ rest) = refl
workers_row (depth n ∷ rest) = workers_row rest
workers_row (nodes n ∷ rest) = workers_row rest
workers_row (allow_deadlock ∷ rest) = workers_row rest
workers_row (strict_access ∷ rest) = workers_row rest
workers_row (explain ∷ rest) = workers_row rest
workers_row (cover ∷ rest) = workers_row rest
workers_row (main_deadlock ∷ rest) = workers_row rest
workers_row (idle_servers ∷ rest) = workers_row rest
workers_row (normal text ∷ rest) = workers_row rest
workers_row (at n ∷ rest) = workers_row rest
workers_row (job line ∷ rest) = workers_row rest
workers_row (states ∷ rest) = workers_row rest
workers_row (at_once ∷ rest) = workers_row rest
workers_row (runs n ∷ rest) = workers_row rest
workers_row (seed n ∷ rest) = workers_row rest
workers_row (format text ∷ rest) = workers_row rest

pub allow_deadlock_row : (given : List Given) → row_at (codes "allow-deadlock") (map row_of given) ≡ cond (list_any is_allow_deadlock given) (Some (row_of allow_deadlock)) None
allow_deadlock_row [] = refl
allow_deadlock_row (allow_deadlock ∷ rest) = refl
allow_deadlock_row (depth n ∷ rest) = allow_deadlock_row rest
allow_deadlock_row (nodes n ∷ rest) = allow_deadlock_row rest
allow_deadlock_row (workers n ∷ rest) = allow_deadlock_row rest
allow_deadlock_row (strict_access ∷ rest) = allow_deadlock_row rest
allow_deadlock_row (explain ∷ rest) = allow_deadlock_row rest
allow_deadlock_row (cover ∷ rest) = allow_deadlock_row rest
allow_deadlock_row (main_deadlock ∷ rest) = allow_deadlock_row rest
allow_deadlock_row (idle_servers ∷ rest) = allow_deadlock_row rest
allow_deadlock_row (normal text ∷ rest) = allow_deadlock_row rest
allow_deadlock_row (at n ∷ rest) = allow_deadlock_row rest
allow_deadlock_row (job line ∷ rest) = allow_deadlock_row rest
allow_deadlock_row (states ∷ rest) = allow_deadlock_row rest
allow_deadlock_row (at_once ∷ rest) = allow_deadlock_row rest
allow_deadlock_row (runs n ∷ rest) = allow_deadlock_row rest
allow_deadlock_row (seed n ∷ rest) = allow_deadlock_row rest
allow_deadlock_row (format text ∷ rest) = allow_deadlock_row rest

pub main_deadlock_row : (given : List Given) → row_at (codes "main-deadlock") (map row_of given) ≡ cond (list_any is_main_deadlock given) (Some (row_of main_deadlock)) None
main_deadlock_row [] = refl
main_deadlock_row (main_deadlock ∷ rest) = refl
main_deadlock_row (depth n ∷ rest) = main_deadlock_row rest
main_deadlock_row (nodes n ∷ rest) = main_deadlock_row rest
main_deadlock_row (workers n ∷ rest) = main_deadlock_row rest
main_deadlock_row (strict_access ∷ rest) = main_deadlock_row rest
main_deadlock_row (explain ∷ rest) = main_deadlock_row rest
main_deadlock_row (cover ∷ rest) = main_deadlock_row rest
main_deadlock_row (allow_deadlock ∷ rest) = main_deadlock_row rest
main_deadlock_row (idle_servers ∷ rest) = main_deadlock_row rest
main_deadlock_row (normal text ∷ rest) = main_deadlock_row rest
main_deadlock_row (at n ∷ rest) = main_deadlock_row rest
main_deadlock_row (job line ∷ rest) = main_deadlock_row rest
main_deadlock_row (states ∷ rest) = main_deadlock_row rest
main_deadlock_row (at_once ∷ rest) = main_deadlock_row rest
main_deadlock_row (runs n ∷ rest) = main_deadlock_row rest
main_deadlock_row (seed n ∷ rest) = main_deadlock_row rest
main_deadlock_row (format text ∷ rest) = main_deadlock_row rest

pub idle_servers_row : (given : List Given) → row_at (codes "idle-servers") (map row_of given) ≡ cond (list_any is_idle_servers given) (Some (row_of idle_servers)) None
idle_servers_row [] = refl
idle_servers_row (idle_servers ∷ rest) = refl
idle_servers_row (depth n ∷ rest) = idle_servers_row rest
idle_servers_row (nodes n ∷ rest) = idle_servers_row rest
idle_servers_row (workers n ∷ rest) = idle_servers_row rest
idle_servers_row (strict_access ∷ rest) = idle_servers_row rest
idle_servers_row (explain ∷ rest) = idle_servers_row rest
idle_servers_row (cover ∷ rest) = idle_servers_row rest
idle_servers_row (allow_deadlock ∷ rest) = idle_servers_row rest
idle_servers_row (main_deadlock ∷ rest) = idle_servers_row rest
idle_servers_row (normal text ∷ rest) = idle_servers_row rest
idle_servers_row (at n ∷ rest) = idle_servers_row rest
idle_servers_row (job line ∷ rest) = idle_servers_row rest
idle_servers_row (states ∷ rest) = idle_servers_row rest
idle_servers_row (at_once ∷ rest) = idle_servers_row rest
idle_servers_row (runs n ∷ rest) = idle_servers_row rest
idle_servers_row (seed n ∷ rest) = idle_servers_row rest
idle_servers_row (format text ∷ rest) = idle_servers_row rest

pub strict_access_row : (given : List Given) → row_at (codes "strict-access") (map row_of given) ≡ cond (list_any is_strict_access given) (Some (row_of strict_access)) None
strict_access_row [] = refl
strict_access_row (strict_access ∷ rest) = refl
strict_access_row (depth n ∷ rest) = strict_access_row rest
strict_access_row (nodes n ∷ rest) = strict_access_row rest
strict_access_row (workers n ∷ rest) = strict_access_row rest
strict_access_row (allow_deadlock ∷ rest) = strict_access_row rest
strict_access_row (explain ∷ rest) = strict_access_row rest
strict_access_row (cover ∷ rest) = strict_access_row rest
strict_access_row (main_deadlock ∷ rest) = strict_access_row rest
strict_access_row (idle_servers ∷ rest) = strict_access_row rest
strict_access_row (normal text ∷ rest) = strict_access_row rest
strict_access_row (at n ∷ rest) = strict_access_row rest
strict_access_row (job line ∷ rest) = strict_access_row rest
strict_access_row (states ∷ rest) = strict_access_row rest
strict_access_row (at_once ∷ rest) = strict_access_row rest
strict_access_row (runs n ∷ rest) = strict_access_row rest
strict_access_row (seed n ∷ rest) = strict_access_row rest
strict_access_row (format text ∷ rest) = strict_access_row rest

pub explain_row : (given : List Given) → row_at (codes "explain") (map row_of given) ≡ cond (list_any is_explain given) (Some (row_of explain)) None
explain_row [] = refl
explain_row (explain ∷ rest) = refl
explain_row (depth n ∷ rest) = explain_row rest
explain_row (nodes n ∷ rest) = explain_row rest
explain_row (workers n ∷ rest) = explain_row rest
explain_row (allow_deadlock ∷ rest) = explain_row rest
explain_row (strict_access ∷ rest) = explain_row rest
explain_row (cover ∷ rest) = explain_row rest
explain_row (main_deadlock ∷ rest) = explain_row rest
explain_row (idle_servers ∷ rest) = explain_row rest
explain_row (normal text ∷ rest) = explain_row rest
explain_row (at n ∷ rest) = explain_row rest
explain_row (job line ∷ rest) = explain_row rest
explain_row (states ∷ rest) = explain_row rest
explain_row (at_once ∷ rest) = explain_row rest
explain_row (runs n ∷ rest) = explain_row rest
explain_row (seed n ∷ rest) = explain_row rest
explain_row (format text ∷ rest) = explain_row rest

pub cover_row : (given : List Given) → row_at (codes "cover") (map row_of given) ≡ cond (list_any is_cover given) (Some (row_of cover)) None
cover_row [] = refl
cover_row (cover ∷ rest) = refl
cover_row (depth n ∷ rest) = cover_row rest
cover_row (nodes n ∷ rest) = cover_row rest
cover_row (workers n ∷ rest) = cover_row rest
cover_row (allow_deadlock ∷ rest) = cover_row rest
cover_row (strict_access ∷ rest) = cover_row rest
cover_row (explain ∷ rest) = cover_row rest
cover_row (main_deadlock ∷ rest) = cover_row rest
cover_row (idle_servers ∷ rest) = cover_row rest
cover_row (normal text ∷ rest) = cover_row rest
cover_row (at n ∷ rest) = cover_row rest
cover_row (job line ∷ rest) = cover_row rest
cover_row (states ∷ rest) = cover_row rest
cover_row (at_once ∷ rest) = cover_row rest
cover_row (runs n ∷ rest) = cover_row rest
cover_row (seed n ∷ rest) = cover_row rest
cover_row (format text ∷ rest) = cover_row rest

pub states_row : (given : List Given) → row_at (codes "states") (map row_of given) ≡ cond (list_any is_states given) (Some (row_of states)) None
states_row [] = refl
states_row (states ∷ rest) = refl
states_row (depth n ∷ rest) = states_row rest
states_row (nodes n ∷ rest) = states_row rest
states_row (workers n ∷ rest) = states_row rest
states_row (allow_deadlock ∷ rest) = states_row rest
states_row (strict_access ∷ rest) = states_row rest
states_row (explain ∷ rest) = states_row rest
states_row (main_deadlock ∷ rest) = states_row rest
states_row (idle_servers ∷ rest) = states_row rest
states_row (normal text ∷ rest) = states_row rest
states_row (at n ∷ rest) = states_row rest
states_row (job line ∷ rest) = states_row rest
states_row (cover ∷ rest) = states_row rest
states_row (at_once ∷ rest) = states_row rest
states_row (runs n ∷ rest) = states_row rest
states_row (seed n ∷ rest) = states_row rest
states_row (format text ∷ rest) = states_row rest

pub at_once_row : (given : List Given) → row_at (codes "at-once") (map row_of given) ≡ cond (list_any is_at_once given) (Some (row_of at_once)) None
at_once_row [] = refl
at_once_row (at_once ∷ rest) = refl
at_once_row (depth n ∷ rest) = at_once_row rest
at_once_row (nodes n ∷ rest) = at_once_row rest
at_once_row (workers n ∷ rest) = at_once_row rest
at_once_row (allow_deadlock ∷ rest) = at_once_row rest
at_once_row (strict_access ∷ rest) = at_once_row rest
at_once_row (explain ∷ rest) = at_once_row rest
at_once_row (main_deadlock ∷ rest) = at_once_row rest
at_once_row (idle_servers ∷ rest) = at_once_row rest
at_once_row (normal text ∷ rest) = at_once_row rest
at_once_row (at n ∷ rest) = at_once_row rest
at_once_row (job line ∷ rest) = at_once_row rest
at_once_row (cover ∷ rest) = at_once_row rest
at_once_row (states ∷ rest) = at_once_row rest
at_once_row (runs n ∷ rest) = at_once_row rest
at_once_row (seed n ∷ rest) = at_once_row rest
at_once_row (format text ∷ rest) = at_once_row rest

pub at_option_row : (given : List Given) → row_at (codes "at") (map row_of given) ≡ option_map (λ n. row_of (at n)) (slice_get (ats_of given) 0)
at_option_row [] = refl
at_option_row (at n ∷ rest) = refl
at_option_row (depth n ∷ rest) = at_option_row rest
at_option_row (nodes n ∷ rest) = at_option_row rest
at_option_row (workers n ∷ rest) = at_option_row rest
at_option_row (allow_deadlock ∷ rest) = at_option_row rest
at_option_row (strict_access ∷ rest) = at_option_row rest
at_option_row (explain ∷ rest) = at_option_row rest
at_option_row (cover ∷ rest) = at_option_row rest
at_option_row (main_deadlock ∷ rest) = at_option_row rest
at_option_row (idle_servers ∷ rest) = at_option_row rest
at_option_row (normal text ∷ rest) = at_option_row rest
at_option_row (job line ∷ rest) = at_option_row rest
at_option_row (states ∷ rest) = at_option_row rest
at_option_row (at_once ∷ rest) = at_option_row rest
at_option_row (runs n ∷ rest) = at_option_row rest
at_option_row (seed n ∷ rest) = at_option_row rest
at_option_row (format text ∷ rest) = at_option_row rest

pub job_row : (given : List Given) → row_at (codes "job") (map row_of given) ≡ option_map (λ line. row_of (job line)) (slice_get (jobs_of given) 0)
job_row [] = refl
job_row (job line ∷ rest) = refl
job_row (depth n ∷ rest) = job_row rest
job_row (nodes n ∷ rest) = job_row rest
job_row (workers n ∷ rest) = job_row rest
job_row (allow_deadlock ∷ rest) = job_row rest
job_row (strict_access ∷ rest) = job_row rest
job_row (explain ∷ rest) = job_row rest
job_row (cover ∷ rest) = job_row rest
job_row (main_deadlock ∷ rest) = job_row rest
job_row (idle_servers ∷ rest) = job_row rest
job_row (normal text ∷ rest) = job_row rest
job_row (at n ∷ rest) = job_row rest
job_row (states ∷ rest) = job_row rest
job_row (at_once ∷ rest) = job_row rest
job_row (runs n ∷ rest) = job_row rest
job_row (seed n ∷ rest) = job_row rest
job_row (format text ∷ rest) = job_row rest

pub runs_row : (given : List Given) → row_at (codes "runs") (map row_of given) ≡ option_map (λ n. row_of (runs n)) (slice_get (runs_of given) 0)
runs_row [] = refl
runs_row (runs n ∷ rest) = refl
runs_row (depth n ∷ rest) = runs_row rest
runs_row (nodes n ∷ rest) = runs_row rest
runs_row (workers n ∷ rest) = runs_row rest
runs_row (allow_deadlock ∷ rest) = runs_row rest
runs_row (strict_access ∷ rest) = runs_row rest
runs_row (explain ∷ rest) = runs_row rest
runs_row (cover ∷ rest) = runs_row rest
runs_row (main_deadlock ∷ rest) = runs_row rest
runs_row (idle_servers ∷ rest) = runs_row rest
runs_row (normal text ∷ rest) = runs_row rest
runs_row (at n ∷ rest) = runs_row rest
runs_row (job line ∷ rest) = runs_row rest
runs_row (states ∷ rest) = runs_row rest
runs_row (at_once ∷ rest) = runs_row rest
runs_row (seed n ∷ rest) = runs_row rest
runs_row (format text ∷ rest) = runs_row rest

pub seed_row : (given : List Given) → row_at (codes "seed") (map row_of given) ≡ option_map (λ n. row_of (seed n)) (slice_get (seeds_of given) 0)
seed_row [] = refl
seed_row (seed n ∷ rest) = refl
seed_row (depth n ∷ rest) = seed_row rest
seed_row (nodes n ∷ rest) = seed_row rest
seed_row (workers n ∷ rest) = seed_row rest
seed_row (allow_deadlock ∷ rest) = seed_row rest
seed_row (strict_access ∷ rest) = seed_row rest
seed_row (explain ∷ rest) = seed_row rest
seed_row (cover ∷ rest) = seed_row rest
seed_row (main_deadlock ∷ rest) = seed_row rest
seed_row (idle_servers ∷ rest) = seed_row rest
seed_row (normal text ∷ rest) = seed_row rest
seed_row (at n ∷ rest) = seed_row rest
seed_row (job line ∷ rest) = seed_row rest
seed_row (states ∷ rest) = seed_row rest
seed_row (at_once ∷ rest) = seed_row rest
seed_row (runs n ∷ rest) = seed_row rest
seed_row (format text ∷ rest) = seed_row rest

pub format_row : (given : List Given) → row_at (codes "format") (map row_of given) ≡ option_map (λ text. row_of (format text)) (slice_get (formats_of given) 0)
format_row [] = refl
format_row (format text ∷ rest) = refl
format_row (depth n ∷ rest) = format_row rest
format_row (nodes n ∷ rest) = format_row rest
format_row (workers n ∷ rest) = format_row rest
format_row (allow_deadlock ∷ rest) = format_row rest
format_row (strict_access ∷ rest) = format_row rest
format_row (explain ∷ rest) = format_row rest
format_row (cover ∷ rest) = format_row rest
format_row (main_deadlock ∷ rest) = format_row rest
format_row (idle_servers ∷ rest) = format_row rest
format_row (normal text ∷ rest) = format_row rest
format_row (at n ∷ rest) = format_row rest
format_row (job line ∷ rest) = format_row rest
format_row (states ∷ rest) = format_row rest
format_row (at_once ∷ rest) = format_row rest
format_row (runs n ∷ rest) = format_row rest
format_row (seed n ∷ rest) = format_row rest

-- ---- the defaults

-- the row of an argument with these defaults, where it had this one
abbrev defaulted : Text → Reading → List Text → Option Row → Option Row
defaulted id how [] row = row
defaulted id how (v ∷ vs) row = Some (unwrap_or row (row_having DefaultValue id how (v ∷ vs)))

abbrev with_them : Text → Reading → List Text → List Row → List Row
with_them id how values rows = cond (has_row id rows) rows (default_rows id how values rows)

own_default : (id : Text) (how : Reading) (values : List Text) (rows : List Row) → bytes_eq id id ≡ true → row_at id (with_them id how values rows) ≡ defaulted id how values (row_at id rows)
own_default id how values rows same = by (row_at id rows) refl
  where
    kept : (values : List Text) (r : Row) → Some r ≡ defaulted id how values (Some r)
    kept [] r = refl
    kept (v ∷ vs) r = refl

    new : (values : List Text) → has_row id rows ≡ false → row_at id rows ≡ None → row_at id (default_rows id how values rows) ≡ defaulted id how values None
    new [] none found = found
    new (v ∷ vs) none found = ap (row_at id) (at_end id (more_values DefaultValue (v ∷ vs)) (row_having DefaultValue id how (v ∷ vs) ∷ []) rows none) ∙ row_at-new id rows (row_having DefaultValue id how (v ∷ vs)) same found

    by : (o : Option Row) → row_at id rows ≡ o → row_at id (with_them id how values rows) ≡ defaulted id how values o
    by (Some r) found = ap (λ c. row_at id (cond c rows (default_rows id how values rows))) (has_row-at id rows ∙ ap is_some found) ∙ found ∙ kept values r
    by None found =
        let none : has_row id rows ≡ false = has_row-at id rows ∙ ap is_some found in
        ap (λ c. row_at id (cond c rows (default_rows id how values rows))) none ∙ new values none found

other_default : (id other : Text) (how : Reading) (values : List Text) (rows : List Row) → bytes_eq other id ≡ false → row_at id (with_them other how values rows) ≡ row_at id rows
other_default id other how values rows differs = by (has_row other rows) values
  where
    by : (b : Bool) (values : List Text) → row_at id (cond b rows (default_rows other how values rows)) ≡ row_at id rows
    by true values = refl
    by false [] = refl
    by false (v ∷ vs) = other_values id other how DefaultValue (v ∷ vs) rows differs

-- the row of an id after the defaults of these arguments, where it had this one
abbrev left : Text → List Rule → Option Row → Option Row
left id [] row = row
left id (a ∷ rest) row = left id rest (cond (bytes_eq a.id id) (defaulted a.id (reading_by a) a.defaults row) row)

default_left : (id : Text) (a : Rule) (rows : List Row) → row_at id (with_default rows a) ≡ cond (bytes_eq a.id id) (defaulted a.id (reading_by a) a.defaults (row_at id rows)) (row_at id rows)
default_left id a rows = by (bytes_eq a.id id) refl
  where
    by : (b : Bool) → bytes_eq a.id id ≡ b → row_at id (with_default rows a) ≡ cond b (defaulted a.id (reading_by a) a.defaults (row_at id rows)) (row_at id rows)
    by true is =
        subst (λ t. row_at t (with_default rows a) ≡ defaulted a.id (reading_by a) a.defaults (row_at t rows)) ((bytes_eq-Decides a.id id).0 is)
        (own_default a.id (reading_by a) a.defaults rows ((bytes_eq-Decides a.id a.id).1 refl))
    by false is = other_default id a.id (reading_by a) a.defaults rows is

all_left : (id : Text) (rules : List Rule) (rows : List Row) → row_at id (fold with_default rows rules) ≡ left id rules (row_at id rows)
all_left id [] rows = refl
all_left id (a ∷ rest) rows = all_left id rest (with_default rows a) ∙ ap (left id rest) (default_left id a rows)

-- the rows with all defaults
abbrev pub with_defaults : Level → List Row → List Row
with_defaults level rows = fold with_default rows (built_of level).rules

-- the row of an option, or of its default
abbrev pub row_or : Text → Text → Option Row → Option Row
row_or id value row = Some (unwrap_or row (row_with DefaultValue id value))

pub depth_left : (level : Level) (rows : List Row) → row_at (codes "depth") (with_defaults level rows) ≡ row_at (codes "depth") rows
depth_left exploring rows = all_left (codes "depth") (built_of exploring).rules rows
depth_left checking rows = all_left (codes "depth") (built_of checking).rules rows
depth_left sampling rows = all_left (codes "depth") (built_of sampling).rules rows
depth_left (splitting which) rows = all_left (codes "depth") (built_of (splitting which)).rules rows

pub at_left : (which : Splitter) (rows : List Row) → row_at (codes "at") (with_defaults (splitting which) rows) ≡ row_at (codes "at") rows
at_left which rows = all_left (codes "at") (built_of (splitting which)).rules rows

pub job_left : (rows : List Row) → row_at (codes "job") (with_defaults exploring rows) ≡ row_at (codes "job") rows
job_left rows = all_left (codes "job") (built_of exploring).rules rows

pub format_left : (rows : List Row) → row_at (codes "format") (with_defaults exploring rows) ≡ row_at (codes "format") rows
format_left rows = all_left (codes "format") (built_of exploring).rules rows

pub sample_format_left : (rows : List Row) → row_at (codes "format") (with_defaults sampling rows) ≡ row_at (codes "format") rows
sample_format_left rows = all_left (codes "format") (built_of sampling).rules rows

pub nodes_left : (rows : List Row) → row_at (codes "nodes") (with_defaults exploring rows) ≡ row_or (codes "nodes") (codes "1000000") (row_at (codes "nodes") rows)
nodes_left rows = all_left (codes "nodes") (built_of exploring).rules rows

pub workers_left : (rows : List Row) → row_at (codes "workers") (with_defaults exploring rows) ≡ row_or (codes "workers") (codes "1") (row_at (codes "workers") rows)
workers_left rows = all_left (codes "workers") (built_of exploring).rules rows

pub runs_left : (rows : List Row) → row_at (codes "runs") (with_defaults sampling rows) ≡ row_or (codes "runs") (codes "1000") (row_at (codes "runs") rows)
runs_left rows = all_left (codes "runs") (built_of sampling).rules rows

pub seed_left : (rows : List Row) → row_at (codes "seed") (with_defaults sampling rows) ≡ row_or (codes "seed") (codes "1") (row_at (codes "seed") rows)
seed_left rows = all_left (codes "seed") (built_of sampling).rules rows

pub allow_deadlock_left : (level : Level) (rows : List Row)
    → row_at (codes "allow-deadlock") (with_defaults level rows) ≡ row_or (codes "allow-deadlock") (codes "false") (row_at (codes "allow-deadlock") rows)
allow_deadlock_left exploring rows = all_left (codes "allow-deadlock") (built_of exploring).rules rows
allow_deadlock_left checking rows = all_left (codes "allow-deadlock") (built_of checking).rules rows
allow_deadlock_left sampling rows = all_left (codes "allow-deadlock") (built_of sampling).rules rows
allow_deadlock_left (splitting which) rows = all_left (codes "allow-deadlock") (built_of (splitting which)).rules rows

pub main_deadlock_left : (level : Level) (rows : List Row)
    → row_at (codes "main-deadlock") (with_defaults level rows) ≡ row_or (codes "main-deadlock") (codes "false") (row_at (codes "main-deadlock") rows)
main_deadlock_left exploring rows = all_left (codes "main-deadlock") (built_of exploring).rules rows
main_deadlock_left checking rows = all_left (codes "main-deadlock") (built_of checking).rules rows
main_deadlock_left sampling rows = all_left (codes "main-deadlock") (built_of sampling).rules rows
main_deadlock_left (splitting which) rows = all_left (codes "main-deadlock") (built_of (splitting which)).rules rows

pub idle_servers_left : (level : Level) (rows : List Row)
    → row_at (codes "idle-servers") (with_defaults level rows) ≡ row_or (codes "idle-servers") (codes "false") (row_at (codes "idle-servers") rows)
idle_servers_left exploring rows = all_left (codes "idle-servers") (built_of exploring).rules rows
idle_servers_left checking rows = all_left (codes "idle-servers") (built_of checking).rules rows
idle_servers_left sampling rows = all_left (codes "idle-servers") (built_of sampling).rules rows
idle_servers_left (splitting which) rows = all_left (codes "idle-servers") (built_of (splitting which)).rules rows

pub strict_access_left : (level : Level) (rows : List Row)
    → row_at (codes "strict-access") (with_defaults level rows) ≡ row_or (codes "strict-access") (codes "false") (row_at (codes "strict-access") rows)
strict_access_left exploring rows = all_left (codes "strict-access") (built_of exploring).rules rows
strict_access_left checking rows = all_left (codes "strict-access") (built_of checking).rules rows
strict_access_left sampling rows = all_left (codes "strict-access") (built_of sampling).rules rows
strict_access_left (splitting which) rows = all_left (codes "strict-access") (built_of (splitting which)).rules rows

pub explain_left : (rows : List Row) → row_at (codes "explain") (with_defaults exploring rows) ≡ row_or (codes "explain") (codes "false") (row_at (codes "explain") rows)
explain_left rows = all_left (codes "explain") (built_of exploring).rules rows

pub sample_explain_left : (rows : List Row) → row_at (codes "explain") (with_defaults sampling rows) ≡ row_or (codes "explain") (codes "false") (row_at (codes "explain") rows)
sample_explain_left rows = all_left (codes "explain") (built_of sampling).rules rows

pub cover_left : (rows : List Row) → row_at (codes "cover") (with_defaults exploring rows) ≡ row_or (codes "cover") (codes "false") (row_at (codes "cover") rows)
cover_left rows = all_left (codes "cover") (built_of exploring).rules rows

pub states_left : (rows : List Row) → row_at (codes "states") (with_defaults exploring rows) ≡ row_or (codes "states") (codes "false") (row_at (codes "states") rows)
states_left rows = all_left (codes "states") (built_of exploring).rules rows

pub at_once_left : (rows : List Row) → row_at (codes "at-once") (with_defaults exploring rows) ≡ row_or (codes "at-once") (codes "false") (row_at (codes "at-once") rows)
at_once_left rows = all_left (codes "at-once") (built_of exploring).rules rows

pub sample_at_once_left : (rows : List Row) → row_at (codes "at-once") (with_defaults sampling rows) ≡ row_or (codes "at-once") (codes "false") (row_at (codes "at-once") rows)
sample_at_once_left rows = all_left (codes "at-once") (built_of sampling).rules rows

-- the texts of `--normal` have no default
pub normal_left : (level : Level) (rows : List Row) → texts_in (with_defaults level rows) ≡ texts_in rows
normal_left exploring rows = ap texts_of_row (all_left (codes "normal") (built_of exploring).rules rows)
normal_left checking rows = ap texts_of_row (all_left (codes "normal") (built_of checking).rules rows)
normal_left sampling rows = ap texts_of_row (all_left (codes "normal") (built_of sampling).rules rows)
normal_left (splitting which) rows = ap texts_of_row (all_left (codes "normal") (built_of (splitting which)).rules rows)

-- the text that is read of a row
pub text_of_row : (id value : Text) (source : ValueSource) (rows : List Row) → row_at id rows ≡ Some (row_with source id value) → one_of id rows ≡ Some value
text_of_row id value source rows is = ap (option_and_then row_text) is
