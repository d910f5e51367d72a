-- Options that are given once each are new, one after the other, and in their ranges.
use Rattle.std.proofs.Common.{◌≡◌, ◌∙◌, ℕ, ◌≤◌, ◌+◌, Bool, false, List, [], ◌∷◌, length, cond, codes, refl, sym, ap, arith}
use Rattle.std.specs.List.{count_by}
use Rattle.std.specs.Option.{is_some}
use Rattle.std.specs.Str.{bytes_eq}
use Rattle.std.proofs.lemmas.List.Sums.{sum_by-cons}
use Rattle.clap.specs.Walk.{Row, Text, has_row}
use Rattle.program_words.specs.Words.{Given, depth, nodes, workers, allow_deadlock, strict_access, explain, cover, main_deadlock, idle_servers, normal, at, job, states, at_once, runs, seed, format, depths_of, nodes_of, workers_of, texts_of, ats_of, jobs_of, runs_of, seeds_of, formats_of, is_allow_deadlock, is_main_deadlock, is_idle_servers, is_strict_access, is_explain, is_cover, is_states, is_at_once, ArePlain}
use Rattle.program_words.specs.inside.CommandLine.{Splitter, checking, exploring, sampling, splitting}
use Rattle.program_words.proofs.Options.{AreLawful, AreNew, IsNew}
use Rattle.program_words.proofs.Rows.{has_row-at, id_of, put, put_apart}

-- the option has not this name, or may come after any other
abbrev IsOther : Text → Given → Type 0
IsOther id (normal text) = Unit {0}
IsOther id given = bytes_eq id (id_of given) ≡ false

-- no option of the list has this name, except for those that may come after any other
abbrev IsNoneOf : Text → List Given → Type 0
IsNoneOf id [] = Unit {0}
IsNoneOf id (given ∷ rest) = IsOther id given × IsNoneOf id rest

no_depth : (given : List Given) → length (depths_of given) ≤ 0 → IsNoneOf (codes "depth") given
no_depth [] few = tt
no_depth (depth n ∷ rest) few = absurd (omega arith)
no_depth (nodes n ∷ rest) few = (refl, no_depth rest few)
no_depth (workers n ∷ rest) few = (refl, no_depth rest few)
no_depth (allow_deadlock ∷ rest) few = (refl, no_depth rest few)
no_depth (strict_access ∷ rest) few = (refl, no_depth rest few)
no_depth (explain ∷ rest) few = (refl, no_depth rest few)
no_depth (cover ∷ rest) few = (refl, no_depth rest few)
no_depth (main_deadlock ∷ rest) few = (refl, no_depth rest few)
no_depth (idle_servers ∷ rest) few = (refl, no_depth rest few)
no_depth (normal text ∷ rest) few = (tt, no_depth rest few)
no_depth (at n ∷ rest) few = (refl, no_depth rest few)
no_depth (job line ∷ rest) few = (refl, no_depth rest few)
no_depth (states ∷ rest) few = (refl, no_depth rest few)
no_depth (at_once ∷ rest) few = (refl, no_depth rest few)
no_depth (runs n ∷ rest) few = (refl, no_depth rest few)
no_depth (seed n ∷ rest) few = (refl, no_depth rest few)
no_depth (format text ∷ rest) few = (refl, no_depth rest few)

no_nodes : (given : List Given) → length (nodes_of given) ≤ 0 → IsNoneOf (codes "nodes") given
no_nodes [] few = tt
no_nodes (nodes n ∷ rest) few = absurd (omega arith)
no_nodes (depth n ∷ rest) few = (refl, no_nodes rest few)
no_nodes (workers n ∷ rest) few = (refl, no_nodes rest few)
no_nodes (allow_deadlock ∷ rest) few = (refl, no_nodes rest few)
no_nodes (strict_access ∷ rest) few = (refl, no_nodes rest few)
no_nodes (explain ∷ rest) few = (refl, no_nodes rest few)
no_nodes (cover ∷ rest) few = (refl, no_nodes rest few)
no_nodes (main_deadlock ∷ rest) few = (refl, no_nodes rest few)
no_nodes (idle_servers ∷ rest) few = (refl, no_nodes rest few)
no_nodes (normal text ∷ rest) few = (tt, no_nodes rest few)
no_nodes (at n ∷ rest) few = (refl, no_nodes rest few)
no_nodes (job line ∷ rest) few = (refl, no_nodes rest few)
no_nodes (states ∷ rest) few = (refl, no_nodes rest few)
no_nodes (at_once ∷ rest) few = (refl, no_nodes rest few)
no_nodes (runs n ∷ rest) few = (refl, no_nodes rest few)
no_nodes (seed n ∷ rest) few = (refl, no_nodes rest few)
no_nodes (format text ∷ rest) few = (refl, no_nodes rest few)

no_workers : (given : List Given) → length (workers_of given) ≤ 0 → IsNoneOf (codes "workers") given
no_workers [] few = tt
no_workers (workers n ∷ rest) few = absurd (omega arith)
no_workers (depth n ∷ rest) few = (refl, no_workers rest few)
no_workers (nodes n ∷ rest) few = (refl, no_workers rest few)
no_workers (allow_deadlock ∷ rest) few = (refl, no_workers rest few)
no_workers (strict_access ∷ rest) few = (refl, no_workers rest few)
no_workers (explain ∷ rest) few = (refl, no_workers rest few)
no_workers (cover ∷ rest) few = (refl, no_workers rest few)
no_workers (main_deadlock ∷ rest) few = (refl, no_workers rest few)
no_workers (idle_servers ∷ rest) few = (refl, no_workers rest few)
no_workers (normal text ∷ rest) few = (tt, no_workers rest few)
no_workers (at n ∷ rest) few = (refl, no_workers rest few)
no_workers (job line ∷ rest) few = (refl, no_workers rest few)
no_workers (states ∷ rest) few = (refl, no_workers rest few)
no_workers (at_once ∷ rest) few = (refl, no_workers rest few)
no_workers (runs n ∷ rest) few = (refl, no_workers rest few)
no_workers (seed n ∷ rest) few = (refl, no_workers rest few)
no_workers (format text ∷ rest) few = (refl, no_workers rest few)

counted : (p : Given → Bool) (given : Given) (rest : List Given) → count_by p (given ∷ rest) ≡ cond (p given) 1 0 + count_by p rest
counted p given rest = sum_by-cons (λ x. cond (p x) 1 0) given rest

no_allow_deadlock : (given : List Given) → count_by is_allow_deadlock given ≤ 0 → IsNoneOf (codes "allow-deadlock") given
no_allow_deadlock [] few = tt
no_allow_deadlock (allow_deadlock ∷ rest) few = absurd (omega (arith, counted is_allow_deadlock allow_deadlock rest))
no_allow_deadlock (depth n ∷ rest) few = (refl, no_allow_deadlock rest (omega (arith, counted is_allow_deadlock (depth n) rest)))
no_allow_deadlock (nodes n ∷ rest) few = (refl, no_allow_deadlock rest (omega (arith, counted is_allow_deadlock (nodes n) rest)))
no_allow_deadlock (workers n ∷ rest) few = (refl, no_allow_deadlock rest (omega (arith, counted is_allow_deadlock (workers n) rest)))
no_allow_deadlock (strict_access ∷ rest) few = (refl, no_allow_deadlock rest (omega (arith, counted is_allow_deadlock strict_access rest)))
no_allow_deadlock (explain ∷ rest) few = (refl, no_allow_deadlock rest (omega (arith, counted is_allow_deadlock explain rest)))
no_allow_deadlock (cover ∷ rest) few = (refl, no_allow_deadlock rest (omega (arith, counted is_allow_deadlock cover rest)))
no_allow_deadlock (main_deadlock ∷ rest) few = (refl, no_allow_deadlock rest (omega (arith, counted is_allow_deadlock main_deadlock rest)))
no_allow_deadlock (idle_servers ∷ rest) few = (refl, no_allow_deadlock rest (omega (arith, counted is_allow_deadlock idle_servers rest)))
no_allow_deadlock (normal text ∷ rest) few = (tt, no_allow_deadlock rest (omega (arith, counted is_allow_deadlock (normal text) rest)))
no_allow_deadlock (at n ∷ rest) few = (refl, no_allow_deadlock rest (omega (arith, counted is_allow_deadlock (at n) rest)))
no_allow_deadlock (job line ∷ rest) few = (refl, no_allow_deadlock rest (omega (arith, counted is_allow_deadlock (job line) rest)))
no_allow_deadlock (states ∷ rest) few = (refl, no_allow_deadlock rest (omega (arith, counted is_allow_deadlock states rest)))
no_allow_deadlock (at_once ∷ rest) few = (refl, no_allow_deadlock rest (omega (arith, counted is_allow_deadlock at_once rest)))
no_allow_deadlock (runs n ∷ rest) few = (refl, no_allow_deadlock rest (omega (arith, counted is_allow_deadlock (runs n) rest)))
no_allow_deadlock (seed n ∷ rest) few = (refl, no_allow_deadlock rest (omega (arith, counted is_allow_deadlock (seed n) rest)))
no_allow_deadlock (format text ∷ rest) few = (refl, no_allow_deadlock rest (omega (arith, counted is_allow_deadlock (format text) rest)))

no_main_deadlock : (given : List Given) → count_by is_main_deadlock given ≤ 0 → IsNoneOf (codes "main-deadlock") given
no_main_deadlock [] few = tt
no_main_deadlock (main_deadlock ∷ rest) few = absurd (omega (arith, counted is_main_deadlock main_deadlock rest))
no_main_deadlock (depth n ∷ rest) few = (refl, no_main_deadlock rest (omega (arith, counted is_main_deadlock (depth n) rest)))
no_main_deadlock (nodes n ∷ rest) few = (refl, no_main_deadlock rest (omega (arith, counted is_main_deadlock (nodes n) rest)))
no_main_deadlock (workers n ∷ rest) few = (refl, no_main_deadlock rest (omega (arith, counted is_main_deadlock (workers n) rest)))
no_main_deadlock (strict_access ∷ rest) few = (refl, no_main_deadlock rest (omega (arith, counted is_main_deadlock strict_access rest)))
no_main_deadlock (explain ∷ rest) few = (refl, no_main_deadlock rest (omega (arith, counted is_main_deadlock explain rest)))
no_main_deadlock (cover ∷ rest) few = (refl, no_main_deadlock rest (omega (arith, counted is_main_deadlock cover rest)))
no_main_deadlock (allow_deadlock ∷ rest) few = (refl, no_main_deadlock rest (omega (arith, counted is_main_deadlock allow_deadlock rest)))
no_main_deadlock (idle_servers ∷ rest) few = (refl, no_main_deadlock rest (omega (arith, counted is_main_deadlock idle_servers rest)))
no_main_deadlock (normal text ∷ rest) few = (tt, no_main_deadlock rest (omega (arith, counted is_main_deadlock (normal text) rest)))
no_main_deadlock (at n ∷ rest) few = (refl, no_main_deadlock rest (omega (arith, counted is_main_deadlock (at n) rest)))
no_main_deadlock (job line ∷ rest) few = (refl, no_main_deadlock rest (omega (arith, counted is_main_deadlock (job line) rest)))
no_main_deadlock (states ∷ rest) few = (refl, no_main_deadlock rest (omega (arith, counted is_main_deadlock states rest)))
no_main_deadlock (at_once ∷ rest) few = (refl, no_main_deadlock rest (omega (arith, counted is_main_deadlock at_once rest)))
no_main_deadlock (runs n ∷ rest) few = (refl, no_main_deadlock rest (omega (arith, counted is_main_deadlock (runs n) rest)))
no_main_deadlock (seed n ∷ rest) few = (refl, no_main_deadlock rest (omega (arith, counted is_main_deadlock (seed n) rest)))
no_main_deadlock (format text ∷ rest) few = (refl, no_main_deadlock rest (omega (arith, counted is_main_deadlock (format text) rest)))

no_idle_servers : (given : List Given) → count_by is_idle_servers given ≤ 0 → IsNoneOf (codes "idle-servers") given
no_idle_servers [] few = tt
no_idle_servers (idle_servers ∷ rest) few = absurd (omega (arith, counted is_idle_servers idle_servers rest))
no_idle_servers (depth n ∷ rest) few = (refl, no_idle_servers rest (omega (arith, counted is_idle_servers (depth n) rest)))
no_idle_servers (nodes n ∷ rest) few = (refl, no_idle_servers rest (omega (arith, counted is_idle_servers (nodes n) rest)))
no_idle_servers (workers n ∷ rest) few = (refl, no_idle_servers rest (omega (arith, counted is_idle_servers (workers n) rest)))
no_idle_servers (strict_access ∷ rest) few = (refl, no_idle_servers rest (omega (arith, counted is_idle_servers strict_access rest)))
no_idle_servers (explain ∷ rest) few = (refl, no_idle_servers rest (omega (arith, counted is_idle_servers explain rest)))
no_idle_servers (cover ∷ rest) few = (refl, no_idle_servers rest (omega (arith, counted is_idle_servers cover rest)))
no_idle_servers (allow_deadlock ∷ rest) few = (refl, no_idle_servers rest (omega (arith, counted is_idle_servers allow_deadlock rest)))
no_idle_servers (main_deadlock ∷ rest) few = (refl, no_idle_servers rest (omega (arith, counted is_idle_servers main_deadlock rest)))
no_idle_servers (normal text ∷ rest) few = (tt, no_idle_servers rest (omega (arith, counted is_idle_servers (normal text) rest)))
no_idle_servers (at n ∷ rest) few = (refl, no_idle_servers rest (omega (arith, counted is_idle_servers (at n) rest)))
no_idle_servers (job line ∷ rest) few = (refl, no_idle_servers rest (omega (arith, counted is_idle_servers (job line) rest)))
no_idle_servers (states ∷ rest) few = (refl, no_idle_servers rest (omega (arith, counted is_idle_servers states rest)))
no_idle_servers (at_once ∷ rest) few = (refl, no_idle_servers rest (omega (arith, counted is_idle_servers at_once rest)))
no_idle_servers (runs n ∷ rest) few = (refl, no_idle_servers rest (omega (arith, counted is_idle_servers (runs n) rest)))
no_idle_servers (seed n ∷ rest) few = (refl, no_idle_servers rest (omega (arith, counted is_idle_servers (seed n) rest)))
no_idle_servers (format text ∷ rest) few = (refl, no_idle_servers rest (omega (arith, counted is_idle_servers (format text) rest)))

no_strict_access : (given : List Given) → count_by is_strict_access given ≤ 0 → IsNoneOf (codes "strict-access") given
no_strict_access [] few = tt
no_strict_access (strict_access ∷ rest) few = absurd (omega (arith, counted is_strict_access strict_access rest))
no_strict_access (depth n ∷ rest) few = (refl, no_strict_access rest (omega (arith, counted is_strict_access (depth n) rest)))
no_strict_access (nodes n ∷ rest) few = (refl, no_strict_access rest (omega (arith, counted is_strict_access (nodes n) rest)))
no_strict_access (workers n ∷ rest) few = (refl, no_strict_access rest (omega (arith, counted is_strict_access (workers n) rest)))
no_strict_access (allow_deadlock ∷ rest) few = (refl, no_strict_access rest (omega (arith, counted is_strict_access allow_deadlock rest)))
no_strict_access (explain ∷ rest) few = (refl, no_strict_access rest (omega (arith, counted is_strict_access explain rest)))
no_strict_access (cover ∷ rest) few = (refl, no_strict_access rest (omega (arith, counted is_strict_access cover rest)))
no_strict_access (main_deadlock ∷ rest) few = (refl, no_strict_access rest (omega (arith, counted is_strict_access main_deadlock rest)))
no_strict_access (idle_servers ∷ rest) few = (refl, no_strict_access rest (omega (arith, counted is_strict_access idle_servers rest)))
no_strict_access (normal text ∷ rest) few = (tt, no_strict_access rest (omega (arith, counted is_strict_access (normal text) rest)))
no_strict_access (at n ∷ rest) few = (refl, no_strict_access rest (omega (arith, counted is_strict_access (at n) rest)))
no_strict_access (job line ∷ rest) few = (refl, no_strict_access rest (omega (arith, counted is_strict_access (job line) rest)))
no_strict_access (states ∷ rest) few = (refl, no_strict_access rest (omega (arith, counted is_strict_access states rest)))
no_strict_access (at_once ∷ rest) few = (refl, no_strict_access rest (omega (arith, counted is_strict_access at_once rest)))
no_strict_access (runs n ∷ rest) few = (refl, no_strict_access rest (omega (arith, counted is_strict_access (runs n) rest)))
no_strict_access (seed n ∷ rest) few = (refl, no_strict_access rest (omega (arith, counted is_strict_access (seed n) rest)))
no_strict_access (format text ∷ rest) few = (refl, no_strict_access rest (omega (arith, counted is_strict_access (format text) rest)))

no_explain : (given : List Given) → count_by is_explain given ≤ 0 → IsNoneOf (codes "explain") given
no_explain [] few = tt
no_explain (explain ∷ rest) few = absurd (omega (arith, counted is_explain explain rest))
no_explain (depth n ∷ rest) few = (refl, no_explain rest (omega (arith, counted is_explain (depth n) rest)))
no_explain (nodes n ∷ rest) few = (refl, no_explain rest (omega (arith, counted is_explain (nodes n) rest)))
no_explain (workers n ∷ rest) few = (refl, no_explain rest (omega (arith, counted is_explain (workers n) rest)))
no_explain (allow_deadlock ∷ rest) few = (refl, no_explain rest (omega (arith, counted is_explain allow_deadlock rest)))
no_explain (strict_access ∷ rest) few = (refl, no_explain rest (omega (arith, counted is_explain strict_access rest)))
no_explain (cover ∷ rest) few = (refl, no_explain rest (omega (arith, counted is_explain cover rest)))
no_explain (main_deadlock ∷ rest) few = (refl, no_explain rest (omega (arith, counted is_explain main_deadlock rest)))
no_explain (idle_servers ∷ rest) few = (refl, no_explain rest (omega (arith, counted is_explain idle_servers rest)))
no_explain (normal text ∷ rest) few = (tt, no_explain rest (omega (arith, counted is_explain (normal text) rest)))
no_explain (at n ∷ rest) few = (refl, no_explain rest (omega (arith, counted is_explain (at n) rest)))
no_explain (job line ∷ rest) few = (refl, no_explain rest (omega (arith, counted is_explain (job line) rest)))
no_explain (states ∷ rest) few = (refl, no_explain rest (omega (arith, counted is_explain states rest)))
no_explain (at_once ∷ rest) few = (refl, no_explain rest (omega (arith, counted is_explain at_once rest)))
no_explain (runs n ∷ rest) few = (refl, no_explain rest (omega (arith, counted is_explain (runs n) rest)))
no_explain (seed n ∷ rest) few = (refl, no_explain rest (omega (arith, counted is_explain (seed n) rest)))
no_explain (format text ∷ rest) few = (refl, no_explain rest (omega (arith, counted is_explain (format text) rest)))

no_cover : (given : List Given) → count_by is_cover given ≤ 0 → IsNoneOf (codes "cover") given
no_cover [] few = tt
no_cover (cover ∷ rest) few = absurd (omega (arith, counted is_cover cover rest))
no_cover (depth n ∷ rest) few = (refl, no_cover rest (omega (arith, counted is_cover (depth n) rest)))
no_cover (nodes n ∷ rest) few = (refl, no_cover rest (omega (arith, counted is_cover (nodes n) rest)))
no_cover (workers n ∷ rest) few = (refl, no_cover rest (omega (arith, counted is_cover (workers n) rest)))
no_cover (allow_deadlock ∷ rest) few = (refl, no_cover rest (omega (arith, counted is_cover allow_deadlock rest)))
no_cover (strict_access ∷ rest) few = (refl, no_cover rest (omega (arith, counted is_cover strict_access rest)))
no_cover (explain ∷ rest) few = (refl, no_cover rest (omega (arith, counted is_cover explain rest)))
no_cover (main_deadlock ∷ rest) few = (refl, no_cover rest (omega (arith, counted is_cover main_deadlock rest)))
no_cover (idle_servers ∷ rest) few = (refl, no_cover rest (omega (arith, counted is_cover idle_servers rest)))
no_cover (normal text ∷ rest) few = (tt, no_cover rest (omega (arith, counted is_cover (normal text) rest)))
no_cover (at n ∷ rest) few = (refl, no_cover rest (omega (arith, counted is_cover (at n) rest)))
no_cover (job line ∷ rest) few = (refl, no_cover rest (omega (arith, counted is_cover (job line) rest)))
no_cover (states ∷ rest) few = (refl, no_cover rest (omega (arith, counted is_cover states rest)))
no_cover (at_once ∷ rest) few = (refl, no_cover rest (omega (arith, counted is_cover at_once rest)))
no_cover (runs n ∷ rest) few = (refl, no_cover rest (omega (arith, counted is_cover (runs n) rest)))
no_cover (seed n ∷ rest) few = (refl, no_cover rest (omega (arith, counted is_cover (seed n) rest)))
no_cover (format text ∷ rest) few = (refl, no_cover rest (omega (arith, counted is_cover (format text) rest)))

no_states : (given : List Given) → count_by is_states given ≤ 0 → IsNoneOf (codes "states") given
no_states [] few = tt
no_states (states ∷ rest) few = absurd (omega (arith, counted is_states states rest))
no_states (depth n ∷ rest) few = (refl, no_states rest (omega (arith, counted is_states (depth n) rest)))
no_states (nodes n ∷ rest) few = (refl, no_states rest (omega (arith, counted is_states (nodes n) rest)))
no_states (workers n ∷ rest) few = (refl, no_states rest (omega (arith, counted is_states (workers n) rest)))
no_states (allow_deadlock ∷ rest) few = (refl, no_states rest (omega (arith, counted is_states allow_deadlock rest)))
no_states (strict_access ∷ rest) few = (refl, no_states rest (omega (arith, counted is_states strict_access rest)))
no_states (explain ∷ rest) few = (refl, no_states rest (omega (arith, counted is_states explain rest)))
no_states (main_deadlock ∷ rest) few = (refl, no_states rest (omega (arith, counted is_states main_deadlock rest)))
no_states (idle_servers ∷ rest) few = (refl, no_states rest (omega (arith, counted is_states idle_servers rest)))
no_states (normal text ∷ rest) few = (tt, no_states rest (omega (arith, counted is_states (normal text) rest)))
no_states (at n ∷ rest) few = (refl, no_states rest (omega (arith, counted is_states (at n) rest)))
no_states (job line ∷ rest) few = (refl, no_states rest (omega (arith, counted is_states (job line) rest)))
no_states (cover ∷ rest) few = (refl, no_states rest (omega (arith, counted is_states cover rest)))
no_states (at_once ∷ rest) few = (refl, no_states rest (omega (arith, counted is_states at_once rest)))
no_states (runs n ∷ rest) few = (refl, no_states rest (omega (arith, counted is_states (runs n) rest)))
no_states (seed n ∷ rest) few = (refl, no_states rest (omega (arith, counted is_states (seed n) rest)))
no_states (format text ∷ rest) few = (refl, no_states rest (omega (arith, counted is_states (format text) rest)))

no_at_once : (given : List Given) → count_by is_at_once given ≤ 0 → IsNoneOf (codes "at-once") given
no_at_once [] few = tt
no_at_once (at_once ∷ rest) few = absurd (omega (arith, counted is_at_once at_once rest))
no_at_once (depth n ∷ rest) few = (refl, no_at_once rest (omega (arith, counted is_at_once (depth n) rest)))
no_at_once (nodes n ∷ rest) few = (refl, no_at_once rest (omega (arith, counted is_at_once (nodes n) rest)))
no_at_once (workers n ∷ rest) few = (refl, no_at_once rest (omega (arith, counted is_at_once (workers n) rest)))
no_at_once (allow_deadlock ∷ rest) few = (refl, no_at_once rest (omega (arith, counted is_at_once allow_deadlock rest)))
no_at_once (strict_access ∷ rest) few = (refl, no_at_once rest (omega (arith, counted is_at_once strict_access rest)))
no_at_once (explain ∷ rest) few = (refl, no_at_once rest (omega (arith, counted is_at_once explain rest)))
no_at_once (main_deadlock ∷ rest) few = (refl, no_at_once rest (omega (arith, counted is_at_once main_deadlock rest)))
no_at_once (idle_servers ∷ rest) few = (refl, no_at_once rest (omega (arith, counted is_at_once idle_servers rest)))
no_at_once (normal text ∷ rest) few = (tt, no_at_once rest (omega (arith, counted is_at_once (normal text) rest)))
no_at_once (at n ∷ rest) few = (refl, no_at_once rest (omega (arith, counted is_at_once (at n) rest)))
no_at_once (job line ∷ rest) few = (refl, no_at_once rest (omega (arith, counted is_at_once (job line) rest)))
no_at_once (cover ∷ rest) few = (refl, no_at_once rest (omega (arith, counted is_at_once cover rest)))
no_at_once (states ∷ rest) few = (refl, no_at_once rest (omega (arith, counted is_at_once states rest)))
no_at_once (runs n ∷ rest) few = (refl, no_at_once rest (omega (arith, counted is_at_once (runs n) rest)))
no_at_once (seed n ∷ rest) few = (refl, no_at_once rest (omega (arith, counted is_at_once (seed n) rest)))
no_at_once (format text ∷ rest) few = (refl, no_at_once rest (omega (arith, counted is_at_once (format text) rest)))

no_at : (given : List Given) → length (ats_of given) ≤ 0 → IsNoneOf (codes "at") given
no_at [] few = tt
no_at (at n ∷ rest) few = absurd (omega arith)
no_at (depth n ∷ rest) few = (refl, no_at rest few)
no_at (nodes n ∷ rest) few = (refl, no_at rest few)
no_at (workers n ∷ rest) few = (refl, no_at rest few)
no_at (allow_deadlock ∷ rest) few = (refl, no_at rest few)
no_at (strict_access ∷ rest) few = (refl, no_at rest few)
no_at (explain ∷ rest) few = (refl, no_at rest few)
no_at (cover ∷ rest) few = (refl, no_at rest few)
no_at (main_deadlock ∷ rest) few = (refl, no_at rest few)
no_at (idle_servers ∷ rest) few = (refl, no_at rest few)
no_at (normal text ∷ rest) few = (tt, no_at rest few)
no_at (job line ∷ rest) few = (refl, no_at rest few)
no_at (states ∷ rest) few = (refl, no_at rest few)
no_at (at_once ∷ rest) few = (refl, no_at rest few)
no_at (runs n ∷ rest) few = (refl, no_at rest few)
no_at (seed n ∷ rest) few = (refl, no_at rest few)
no_at (format text ∷ rest) few = (refl, no_at rest few)

no_job : (given : List Given) → length (jobs_of given) ≤ 0 → IsNoneOf (codes "job") given
no_job [] few = tt
no_job (job line ∷ rest) few = absurd (omega arith)
no_job (depth n ∷ rest) few = (refl, no_job rest few)
no_job (nodes n ∷ rest) few = (refl, no_job rest few)
no_job (workers n ∷ rest) few = (refl, no_job rest few)
no_job (allow_deadlock ∷ rest) few = (refl, no_job rest few)
no_job (strict_access ∷ rest) few = (refl, no_job rest few)
no_job (explain ∷ rest) few = (refl, no_job rest few)
no_job (cover ∷ rest) few = (refl, no_job rest few)
no_job (main_deadlock ∷ rest) few = (refl, no_job rest few)
no_job (idle_servers ∷ rest) few = (refl, no_job rest few)
no_job (normal text ∷ rest) few = (tt, no_job rest few)
no_job (at n ∷ rest) few = (refl, no_job rest few)
no_job (states ∷ rest) few = (refl, no_job rest few)
no_job (at_once ∷ rest) few = (refl, no_job rest few)
no_job (runs n ∷ rest) few = (refl, no_job rest few)
no_job (seed n ∷ rest) few = (refl, no_job rest few)
no_job (format text ∷ rest) few = (refl, no_job rest few)

no_runs : (given : List Given) → length (runs_of given) ≤ 0 → IsNoneOf (codes "runs") given
no_runs [] few = tt
no_runs (runs n ∷ rest) few = absurd (omega arith)
no_runs (depth n ∷ rest) few = (refl, no_runs rest few)
no_runs (nodes n ∷ rest) few = (refl, no_runs rest few)
no_runs (workers n ∷ rest) few = (refl, no_runs rest few)
no_runs (allow_deadlock ∷ rest) few = (refl, no_runs rest few)
no_runs (strict_access ∷ rest) few = (refl, no_runs rest few)
no_runs (explain ∷ rest) few = (refl, no_runs rest few)
no_runs (cover ∷ rest) few = (refl, no_runs rest few)
no_runs (main_deadlock ∷ rest) few = (refl, no_runs rest few)
no_runs (idle_servers ∷ rest) few = (refl, no_runs rest few)
no_runs (normal text ∷ rest) few = (tt, no_runs rest few)
no_runs (at n ∷ rest) few = (refl, no_runs rest few)
no_runs (job line ∷ rest) few = (refl, no_runs rest few)
no_runs (states ∷ rest) few = (refl, no_runs rest few)
no_runs (at_once ∷ rest) few = (refl, no_runs rest few)
no_runs (seed n ∷ rest) few = (refl, no_runs rest few)
no_runs (format text ∷ rest) few = (refl, no_runs rest few)

no_seed : (given : List Given) → length (seeds_of given) ≤ 0 → IsNoneOf (codes "seed") given
no_seed [] few = tt
no_seed (seed n ∷ rest) few = absurd (omega arith)
no_seed (depth n ∷ rest) few = (refl, no_seed rest few)
no_seed (nodes n ∷ rest) few = (refl, no_seed rest few)
no_seed (workers n ∷ rest) few = (refl, no_seed rest few)
no_seed (allow_deadlock ∷ rest) few = (refl, no_seed rest few)
no_seed (strict_access ∷ rest) few = (refl, no_seed rest few)
no_seed (explain ∷ rest) few = (refl, no_seed rest few)
no_seed (cover ∷ rest) few = (refl, no_seed rest few)
no_seed (main_deadlock ∷ rest) few = (refl, no_seed rest few)
no_seed (idle_servers ∷ rest) few = (refl, no_seed rest few)
no_seed (normal text ∷ rest) few = (tt, no_seed rest few)
no_seed (at n ∷ rest) few = (refl, no_seed rest few)
no_seed (job line ∷ rest) few = (refl, no_seed rest few)
no_seed (states ∷ rest) few = (refl, no_seed rest few)
no_seed (at_once ∷ rest) few = (refl, no_seed rest few)
no_seed (runs n ∷ rest) few = (refl, no_seed rest few)
no_seed (format text ∷ rest) few = (refl, no_seed rest few)

no_format : (given : List Given) → length (formats_of given) ≤ 0 → IsNoneOf (codes "format") given
no_format [] few = tt
no_format (format text ∷ rest) few = absurd (omega arith)
no_format (depth n ∷ rest) few = (refl, no_format rest few)
no_format (nodes n ∷ rest) few = (refl, no_format rest few)
no_format (workers n ∷ rest) few = (refl, no_format rest few)
no_format (allow_deadlock ∷ rest) few = (refl, no_format rest few)
no_format (strict_access ∷ rest) few = (refl, no_format rest few)
no_format (explain ∷ rest) few = (refl, no_format rest few)
no_format (cover ∷ rest) few = (refl, no_format rest few)
no_format (main_deadlock ∷ rest) few = (refl, no_format rest few)
no_format (idle_servers ∷ rest) few = (refl, no_format rest few)
no_format (normal text ∷ rest) few = (tt, no_format rest few)
no_format (at n ∷ rest) few = (refl, no_format rest few)
no_format (job line ∷ rest) few = (refl, no_format rest few)
no_format (states ∷ rest) few = (refl, no_format rest few)
no_format (at_once ∷ rest) few = (refl, no_format rest few)
no_format (runs n ∷ rest) few = (refl, no_format rest few)
no_format (seed n ∷ rest) few = (refl, no_format rest few)

no_normal : (given : List Given) → IsNoneOf (codes "normal") given
no_normal [] = tt
no_normal (depth n ∷ rest) = (refl, no_normal rest)
no_normal (nodes n ∷ rest) = (refl, no_normal rest)
no_normal (workers n ∷ rest) = (refl, no_normal rest)
no_normal (allow_deadlock ∷ rest) = (refl, no_normal rest)
no_normal (main_deadlock ∷ rest) = (refl, no_normal rest)
no_normal (idle_servers ∷ rest) = (refl, no_normal rest)
no_normal (normal text ∷ rest) = (tt, no_normal rest)
no_normal (strict_access ∷ rest) = (refl, no_normal rest)
no_normal (explain ∷ rest) = (refl, no_normal rest)
no_normal (cover ∷ rest) = (refl, no_normal rest)
no_normal (at n ∷ rest) = (refl, no_normal rest)
no_normal (job line ∷ rest) = (refl, no_normal rest)
no_normal (states ∷ rest) = (refl, no_normal rest)
no_normal (at_once ∷ rest) = (refl, no_normal rest)
no_normal (runs n ∷ rest) = (refl, no_normal rest)
no_normal (seed n ∷ rest) = (refl, no_normal rest)
no_normal (format text ∷ rest) = (refl, no_normal rest)

-- no name comes twice
abbrev AreApart : List Given → Type 0
AreApart [] = Unit {0}
AreApart (given ∷ rest) = IsNoneOf (id_of given) rest × AreApart rest

-- each option is given at most once, except for `--normal`
pub record AreOnce (given : List Given) : Type 0 where
  pub depths : length (depths_of given) ≤ 1
  pub nodes : length (nodes_of given) ≤ 1
  pub workers : length (workers_of given) ≤ 1
  pub allow_deadlock : count_by is_allow_deadlock given ≤ 1
  pub main_deadlock : count_by is_main_deadlock given ≤ 1
  pub idle_servers : count_by is_idle_servers given ≤ 1
  pub strict_access : count_by is_strict_access given ≤ 1
  pub explain : count_by is_explain given ≤ 1
  pub cover : count_by is_cover given ≤ 1
  pub ats : length (ats_of given) ≤ 1
  pub jobs : length (jobs_of given) ≤ 1
  pub states : count_by is_states given ≤ 1
  pub at_once : count_by is_at_once given ≤ 1
  pub runs : length (runs_of given) ≤ 1
  pub seeds : length (seeds_of given) ≤ 1
  pub formats : length (formats_of given) ≤ 1

-- the options after the first are given no more often
fewer_depths : (first : Given) (rest : List Given) → length (depths_of rest) ≤ length (depths_of (first ∷ rest))
fewer_depths (depth n) rest = omega arith
fewer_depths (nodes n) rest = omega arith
fewer_depths (workers n) rest = omega arith
fewer_depths allow_deadlock rest = omega arith
fewer_depths strict_access rest = omega arith
fewer_depths explain rest = omega arith
fewer_depths cover rest = omega arith
fewer_depths main_deadlock rest = omega arith
fewer_depths idle_servers rest = omega arith
fewer_depths (normal text) rest = omega arith
fewer_depths (at n) rest = omega arith
fewer_depths (job line) rest = omega arith
fewer_depths states rest = omega arith
fewer_depths at_once rest = omega arith
fewer_depths (runs n) rest = omega arith
fewer_depths (seed n) rest = omega arith
fewer_depths (format text) rest = omega arith

fewer_nodes : (first : Given) (rest : List Given) → length (nodes_of rest) ≤ length (nodes_of (first ∷ rest))
fewer_nodes (depth n) rest = omega arith
fewer_nodes (nodes n) rest = omega arith
fewer_nodes (workers n) rest = omega arith
fewer_nodes allow_deadlock rest = omega arith
fewer_nodes strict_access rest = omega arith
fewer_nodes explain rest = omega arith
fewer_nodes cover rest = omega arith
fewer_nodes main_deadlock rest = omega arith
fewer_nodes idle_servers rest = omega arith
fewer_nodes (normal text) rest = omega arith
fewer_nodes (at n) rest = omega arith
fewer_nodes (job line) rest = omega arith
fewer_nodes states rest = omega arith
fewer_nodes at_once rest = omega arith
fewer_nodes (runs n) rest = omega arith
fewer_nodes (seed n) rest = omega arith
fewer_nodes (format text) rest = omega arith

fewer_workers : (first : Given) (rest : List Given) → length (workers_of rest) ≤ length (workers_of (first ∷ rest))
fewer_workers (depth n) rest = omega arith
fewer_workers (nodes n) rest = omega arith
fewer_workers (workers n) rest = omega arith
fewer_workers allow_deadlock rest = omega arith
fewer_workers strict_access rest = omega arith
fewer_workers explain rest = omega arith
fewer_workers cover rest = omega arith
fewer_workers main_deadlock rest = omega arith
fewer_workers idle_servers rest = omega arith
fewer_workers (normal text) rest = omega arith
fewer_workers (at n) rest = omega arith
fewer_workers (job line) rest = omega arith
fewer_workers states rest = omega arith
fewer_workers at_once rest = omega arith
fewer_workers (runs n) rest = omega arith
fewer_workers (seed n) rest = omega arith
fewer_workers (format text) rest = omega arith

fewer_ats : (first : Given) (rest : List Given) → length (ats_of rest) ≤ length (ats_of (first ∷ rest))
fewer_ats (depth n) rest = omega arith
fewer_ats (nodes n) rest = omega arith
fewer_ats (workers n) rest = omega arith
fewer_ats allow_deadlock rest = omega arith
fewer_ats strict_access rest = omega arith
fewer_ats explain rest = omega arith
fewer_ats cover rest = omega arith
fewer_ats main_deadlock rest = omega arith
fewer_ats idle_servers rest = omega arith
fewer_ats (normal text) rest = omega arith
fewer_ats (at n) rest = omega arith
fewer_ats (job line) rest = omega arith
fewer_ats states rest = omega arith
fewer_ats at_once rest = omega arith
fewer_ats (runs n) rest = omega arith
fewer_ats (seed n) rest = omega arith
fewer_ats (format text) rest = omega arith

fewer_jobs : (first : Given) (rest : List Given) → length (jobs_of rest) ≤ length (jobs_of (first ∷ rest))
fewer_jobs (depth n) rest = omega arith
fewer_jobs (nodes n) rest = omega arith
fewer_jobs (workers n) rest = omega arith
fewer_jobs allow_deadlock rest = omega arith
fewer_jobs strict_access rest = omega arith
fewer_jobs explain rest = omega arith
fewer_jobs cover rest = omega arith
fewer_jobs main_deadlock rest = omega arith
fewer_jobs idle_servers rest = omega arith
fewer_jobs (normal text) rest = omega arith
fewer_jobs (at n) rest = omega arith
fewer_jobs (job line) rest = omega arith
fewer_jobs states rest = omega arith
fewer_jobs at_once rest = omega arith
fewer_jobs (runs n) rest = omega arith
fewer_jobs (seed n) rest = omega arith
fewer_jobs (format text) rest = omega arith

fewer_runs : (first : Given) (rest : List Given) → length (runs_of rest) ≤ length (runs_of (first ∷ rest))
fewer_runs (depth n) rest = omega arith
fewer_runs (nodes n) rest = omega arith
fewer_runs (workers n) rest = omega arith
fewer_runs allow_deadlock rest = omega arith
fewer_runs strict_access rest = omega arith
fewer_runs explain rest = omega arith
fewer_runs cover rest = omega arith
fewer_runs main_deadlock rest = omega arith
fewer_runs idle_servers rest = omega arith
fewer_runs (normal text) rest = omega arith
fewer_runs (at n) rest = omega arith
fewer_runs (job line) rest = omega arith
fewer_runs states rest = omega arith
fewer_runs at_once rest = omega arith
fewer_runs (runs n) rest = omega arith
fewer_runs (seed n) rest = omega arith
fewer_runs (format text) rest = omega arith

fewer_seeds : (first : Given) (rest : List Given) → length (seeds_of rest) ≤ length (seeds_of (first ∷ rest))
fewer_seeds (depth n) rest = omega arith
fewer_seeds (nodes n) rest = omega arith
fewer_seeds (workers n) rest = omega arith
fewer_seeds allow_deadlock rest = omega arith
fewer_seeds strict_access rest = omega arith
fewer_seeds explain rest = omega arith
fewer_seeds cover rest = omega arith
fewer_seeds main_deadlock rest = omega arith
fewer_seeds idle_servers rest = omega arith
fewer_seeds (normal text) rest = omega arith
fewer_seeds (at n) rest = omega arith
fewer_seeds (job line) rest = omega arith
fewer_seeds states rest = omega arith
fewer_seeds at_once rest = omega arith
fewer_seeds (runs n) rest = omega arith
fewer_seeds (seed n) rest = omega arith
fewer_seeds (format text) rest = omega arith

fewer_formats : (first : Given) (rest : List Given) → length (formats_of rest) ≤ length (formats_of (first ∷ rest))
fewer_formats (depth n) rest = omega arith
fewer_formats (nodes n) rest = omega arith
fewer_formats (workers n) rest = omega arith
fewer_formats allow_deadlock rest = omega arith
fewer_formats strict_access rest = omega arith
fewer_formats explain rest = omega arith
fewer_formats cover rest = omega arith
fewer_formats main_deadlock rest = omega arith
fewer_formats idle_servers rest = omega arith
fewer_formats (normal text) rest = omega arith
fewer_formats (at n) rest = omega arith
fewer_formats (job line) rest = omega arith
fewer_formats states rest = omega arith
fewer_formats at_once rest = omega arith
fewer_formats (runs n) rest = omega arith
fewer_formats (seed n) rest = omega arith
fewer_formats (format text) rest = omega arith

rest_once : (first : Given) (rest : List Given) → AreOnce (first ∷ rest) → AreOnce rest
rest_once first rest once = record {
  depths = omega (arith, once.depths, fewer_depths first rest);
  nodes = omega (arith, once.nodes, fewer_nodes first rest);
  workers = omega (arith, once.workers, fewer_workers first rest);
  allow_deadlock = omega (arith, once.allow_deadlock, counted is_allow_deadlock first rest);
  main_deadlock = omega (arith, once.main_deadlock, counted is_main_deadlock first rest);
  idle_servers = omega (arith, once.idle_servers, counted is_idle_servers first rest);
  strict_access = omega (arith, once.strict_access, counted is_strict_access first rest);
  explain = omega (arith, once.explain, counted is_explain first rest);
  cover = omega (arith, once.cover, counted is_cover first rest);
  ats = omega (arith, once.ats, fewer_ats first rest);
  jobs = omega (arith, once.jobs, fewer_jobs first rest);
  states = omega (arith, once.states, counted is_states first rest);
  at_once = omega (arith, once.at_once, counted is_at_once first rest);
  runs = omega (arith, once.runs, fewer_runs first rest);
  seeds = omega (arith, once.seeds, fewer_seeds first rest);
  formats = omega (arith, once.formats, fewer_formats first rest);
}

first_apart : (first : Given) (rest : List Given) → AreOnce (first ∷ rest) → IsNoneOf (id_of first) rest
first_apart (depth n) rest once = no_depth rest (omega (arith, once.depths))
first_apart (nodes n) rest once = no_nodes rest (omega (arith, once.nodes))
first_apart (workers n) rest once = no_workers rest (omega (arith, once.workers))
first_apart allow_deadlock rest once = no_allow_deadlock rest (omega (arith, once.allow_deadlock, counted is_allow_deadlock allow_deadlock rest))
first_apart main_deadlock rest once = no_main_deadlock rest (omega (arith, once.main_deadlock, counted is_main_deadlock main_deadlock rest))
first_apart idle_servers rest once = no_idle_servers rest (omega (arith, once.idle_servers, counted is_idle_servers idle_servers rest))
first_apart (normal text) rest once = no_normal rest
first_apart strict_access rest once = no_strict_access rest (omega (arith, once.strict_access, counted is_strict_access strict_access rest))
first_apart explain rest once = no_explain rest (omega (arith, once.explain, counted is_explain explain rest))
first_apart cover rest once = no_cover rest (omega (arith, once.cover, counted is_cover cover rest))
first_apart (at n) rest once = no_at rest (omega (arith, once.ats))
first_apart (job line) rest once = no_job rest (omega (arith, once.jobs))
first_apart states rest once = no_states rest (omega (arith, once.states, counted is_states states rest))
first_apart at_once rest once = no_at_once rest (omega (arith, once.at_once, counted is_at_once at_once rest))
first_apart (runs n) rest once = no_runs rest (omega (arith, once.runs))
first_apart (seed n) rest once = no_seed rest (omega (arith, once.seeds))
first_apart (format text) rest once = no_format rest (omega (arith, once.formats))

apart : (given : List Given) → AreOnce given → AreApart given
apart [] once = tt
apart (first ∷ rest) once = (first_apart first rest once, apart rest (rest_once first rest once))

-- no option has a row among these
abbrev AreUnseen : List Row → List Given → Type 0
AreUnseen rows [] = Unit {0}
AreUnseen rows (given ∷ rest) = IsNew given rows × AreUnseen rows rest

still_new : (id : Text) (first : Given) (rows : List Row) → bytes_eq (id_of first) id ≡ false → has_row id rows ≡ false → has_row id (put rows first) ≡ false
still_new id first rows differs new = has_row-at id (put rows first) ∙ ap is_some (put_apart id rows first differs) ∙ sym (has_row-at id rows) ∙ new

new_after : (first given : Given) (rows : List Row) → IsOther (id_of first) given → IsNew given rows → IsNew given (put rows first)
new_after first (normal text) rows differs new = tt
new_after first (depth n) rows differs new = still_new (codes "depth") first rows differs new
new_after first (nodes n) rows differs new = still_new (codes "nodes") first rows differs new
new_after first (workers n) rows differs new = still_new (codes "workers") first rows differs new
new_after first allow_deadlock rows differs new = still_new (codes "allow-deadlock") first rows differs new
new_after first main_deadlock rows differs new = still_new (codes "main-deadlock") first rows differs new
new_after first idle_servers rows differs new = still_new (codes "idle-servers") first rows differs new
new_after first strict_access rows differs new = still_new (codes "strict-access") first rows differs new
new_after first explain rows differs new = still_new (codes "explain") first rows differs new
new_after first cover rows differs new = still_new (codes "cover") first rows differs new
new_after first (at n) rows differs new = still_new (codes "at") first rows differs new
new_after first (job line) rows differs new = still_new (codes "job") first rows differs new
new_after first states rows differs new = still_new (codes "states") first rows differs new
new_after first at_once rows differs new = still_new (codes "at-once") first rows differs new
new_after first (runs n) rows differs new = still_new (codes "runs") first rows differs new
new_after first (seed n) rows differs new = still_new (codes "seed") first rows differs new
new_after first (format text) rows differs new = still_new (codes "format") first rows differs new

unseen_after : (rows : List Row) (first : Given) (given : List Given) → IsNoneOf (id_of first) given → AreUnseen rows given → AreUnseen (put rows first) given
unseen_after rows first [] none unseen = tt
unseen_after rows first (given ∷ rest) none unseen = (new_after first given rows none.0 unseen.0, unseen_after rows first rest none.1 unseen.1)

new_by : (rows : List Row) (given : List Given) → AreUnseen rows given → AreApart given → AreNew rows given
new_by rows [] unseen differ = tt
new_by rows (first ∷ rest) unseen differ = (unseen.0, new_by (put rows first) rest (unseen_after rows first rest differ.0 unseen.1) differ.1)

new_at_first : (given : Given) → IsNew given []
new_at_first (normal text) = tt
new_at_first (depth n) = refl
new_at_first (nodes n) = refl
new_at_first (workers n) = refl
new_at_first allow_deadlock = refl
new_at_first main_deadlock = refl
new_at_first idle_servers = refl
new_at_first strict_access = refl
new_at_first explain = refl
new_at_first cover = refl
new_at_first (at n) = refl
new_at_first (job line) = refl
new_at_first states = refl
new_at_first at_once = refl
new_at_first (runs n) = refl
new_at_first (seed n) = refl
new_at_first (format text) = refl

unseen_at_first : (given : List Given) → AreUnseen [] given
unseen_at_first [] = tt
unseen_at_first (given ∷ rest) = (new_at_first given, unseen_at_first rest)

pub once_are_new : (given : List Given) → AreOnce given → AreNew [] given
once_are_new given once = new_by [] given (unseen_at_first given) (apart given once)

-- each number of a list
abbrev pub Each : (ℕ → Type 0) → List ℕ → Type 0
Each P [] = Unit {0}
Each P (n ∷ rest) = P n × Each P rest

-- no option that is of other commands alone is given to `explore`
abbrev pub AreOfExplore : List Given → Type 0
AreOfExplore given = (length (ats_of given) ≤ 0) × (length (runs_of given) ≤ 0) × (length (seeds_of given) ≤ 0)

-- options of `explore`
pub lawful_by : (given : List Given) → Each (λ n. n ≤ 400) (depths_of given) → Each (λ n. (1 ≤ n) × (n ≤ 10000000)) (nodes_of given) → Each (λ n. (1 ≤ n) × (n ≤ 16)) (workers_of given)
    → AreOfExplore given → ArePlain (texts_of given) → ArePlain (jobs_of given) → ArePlain (formats_of given) → AreLawful given exploring
lawful_by [] depths numbers crews own plain lines forms = tt
lawful_by (depth n ∷ rest) depths numbers crews own plain lines forms = (depths.0, lawful_by rest depths.1 numbers crews own plain lines forms)
lawful_by (nodes n ∷ rest) depths numbers crews own plain lines forms = (numbers.0, lawful_by rest depths numbers.1 crews own plain lines forms)
lawful_by (workers n ∷ rest) depths numbers crews own plain lines forms = (crews.0, lawful_by rest depths numbers crews.1 own plain lines forms)
lawful_by (allow_deadlock ∷ rest) depths numbers crews own plain lines forms = (tt, lawful_by rest depths numbers crews own plain lines forms)
lawful_by (main_deadlock ∷ rest) depths numbers crews own plain lines forms = (tt, lawful_by rest depths numbers crews own plain lines forms)
lawful_by (idle_servers ∷ rest) depths numbers crews own plain lines forms = (tt, lawful_by rest depths numbers crews own plain lines forms)
lawful_by (normal text ∷ rest) depths numbers crews own plain lines forms = (plain.0, lawful_by rest depths numbers crews own plain.1 lines forms)
lawful_by (strict_access ∷ rest) depths numbers crews own plain lines forms = (tt, lawful_by rest depths numbers crews own plain lines forms)
lawful_by (explain ∷ rest) depths numbers crews own plain lines forms = (tt, lawful_by rest depths numbers crews own plain lines forms)
lawful_by (cover ∷ rest) depths numbers crews own plain lines forms = (tt, lawful_by rest depths numbers crews own plain lines forms)
lawful_by (at n ∷ rest) depths numbers crews own plain lines forms = absurd (omega (arith, own.0))
lawful_by (job line ∷ rest) depths numbers crews own plain lines forms = (lines.0, lawful_by rest depths numbers crews own plain lines.1 forms)
lawful_by (states ∷ rest) depths numbers crews own plain lines forms = (tt, lawful_by rest depths numbers crews own plain lines forms)
lawful_by (at_once ∷ rest) depths numbers crews own plain lines forms = (tt, lawful_by rest depths numbers crews own plain lines forms)
lawful_by (runs n ∷ rest) depths numbers crews own plain lines forms = absurd (omega (arith, own.1))
lawful_by (seed n ∷ rest) depths numbers crews own plain lines forms = absurd (omega (arith, own.2))
lawful_by (format text ∷ rest) depths numbers crews own plain lines forms = (forms.0, lawful_by rest depths numbers crews own plain lines forms.1)

-- no option that only `explore` or `sample` has is given
pub record AreOfNoExploration (given : List Given) : Type 0 where
  pub nodes : length (nodes_of given) ≤ 0
  pub workers : length (workers_of given) ≤ 0
  pub explain : count_by is_explain given ≤ 0
  pub cover : count_by is_cover given ≤ 0
  pub jobs : length (jobs_of given) ≤ 0
  pub states : count_by is_states given ≤ 0
  pub at_once : count_by is_at_once given ≤ 0
  pub runs : length (runs_of given) ≤ 0
  pub seeds : length (seeds_of given) ≤ 0
  pub formats : length (formats_of given) ≤ 0

rest_of_none : (first : Given) (rest : List Given) → AreOfNoExploration (first ∷ rest) → AreOfNoExploration rest
rest_of_none first rest none = record {
  nodes = omega (arith, none.nodes, fewer_nodes first rest);
  workers = omega (arith, none.workers, fewer_workers first rest);
  explain = omega (arith, none.explain, counted is_explain first rest);
  cover = omega (arith, none.cover, counted is_cover first rest);
  jobs = omega (arith, none.jobs, fewer_jobs first rest);
  states = omega (arith, none.states, counted is_states first rest);
  at_once = omega (arith, none.at_once, counted is_at_once first rest);
  runs = omega (arith, none.runs, fewer_runs first rest);
  seeds = omega (arith, none.seeds, fewer_seeds first rest);
  formats = omega (arith, none.formats, fewer_formats first rest);
}

-- options of `check`
pub check_lawful_by : (given : List Given) → Each (λ n. n ≤ 400) (depths_of given) → length (ats_of given) ≤ 0 → AreOfNoExploration given → ArePlain (texts_of given) → AreLawful given checking
check_lawful_by [] depths ats none plain = tt
check_lawful_by (depth n ∷ rest) depths ats none plain = (depths.0, check_lawful_by rest depths.1 ats (rest_of_none (depth n) rest none) plain)
check_lawful_by (nodes n ∷ rest) depths ats none plain = absurd (omega (arith, none.nodes))
check_lawful_by (workers n ∷ rest) depths ats none plain = absurd (omega (arith, none.workers))
check_lawful_by (allow_deadlock ∷ rest) depths ats none plain = (tt, check_lawful_by rest depths ats (rest_of_none allow_deadlock rest none) plain)
check_lawful_by (main_deadlock ∷ rest) depths ats none plain = (tt, check_lawful_by rest depths ats (rest_of_none main_deadlock rest none) plain)
check_lawful_by (idle_servers ∷ rest) depths ats none plain = (tt, check_lawful_by rest depths ats (rest_of_none idle_servers rest none) plain)
check_lawful_by (normal text ∷ rest) depths ats none plain = (plain.0, check_lawful_by rest depths ats (rest_of_none (normal text) rest none) plain.1)
check_lawful_by (strict_access ∷ rest) depths ats none plain = (tt, check_lawful_by rest depths ats (rest_of_none strict_access rest none) plain)
check_lawful_by (explain ∷ rest) depths ats none plain = absurd (omega (arith, none.explain, counted is_explain explain rest))
check_lawful_by (cover ∷ rest) depths ats none plain = absurd (omega (arith, none.cover, counted is_cover cover rest))
check_lawful_by (at n ∷ rest) depths ats none plain = absurd (omega arith)
check_lawful_by (job line ∷ rest) depths ats none plain = absurd (omega (arith, none.jobs))
check_lawful_by (states ∷ rest) depths ats none plain = absurd (omega (arith, none.states, counted is_states states rest))
check_lawful_by (at_once ∷ rest) depths ats none plain = absurd (omega (arith, none.at_once, counted is_at_once at_once rest))
check_lawful_by (runs n ∷ rest) depths ats none plain = absurd (omega (arith, none.runs))
check_lawful_by (seed n ∷ rest) depths ats none plain = absurd (omega (arith, none.seeds))
check_lawful_by (format text ∷ rest) depths ats none plain = absurd (omega (arith, none.formats))

-- options of a command that splits the tree
pub split_lawful_by : (which : Splitter) (given : List Given) → Each (λ n. n ≤ 400) (depths_of given) → Each (λ n. n ≤ 400) (ats_of given) → AreOfNoExploration given → ArePlain (texts_of given) → AreLawful given (splitting which)
split_lawful_by which [] depths ats none plain = tt
split_lawful_by which (depth n ∷ rest) depths ats none plain = (depths.0, split_lawful_by which rest depths.1 ats (rest_of_none (depth n) rest none) plain)
split_lawful_by which (nodes n ∷ rest) depths ats none plain = absurd (omega (arith, none.nodes))
split_lawful_by which (workers n ∷ rest) depths ats none plain = absurd (omega (arith, none.workers))
split_lawful_by which (allow_deadlock ∷ rest) depths ats none plain = (tt, split_lawful_by which rest depths ats (rest_of_none allow_deadlock rest none) plain)
split_lawful_by which (main_deadlock ∷ rest) depths ats none plain = (tt, split_lawful_by which rest depths ats (rest_of_none main_deadlock rest none) plain)
split_lawful_by which (idle_servers ∷ rest) depths ats none plain = (tt, split_lawful_by which rest depths ats (rest_of_none idle_servers rest none) plain)
split_lawful_by which (normal text ∷ rest) depths ats none plain = (plain.0, split_lawful_by which rest depths ats (rest_of_none (normal text) rest none) plain.1)
split_lawful_by which (strict_access ∷ rest) depths ats none plain = (tt, split_lawful_by which rest depths ats (rest_of_none strict_access rest none) plain)
split_lawful_by which (explain ∷ rest) depths ats none plain = absurd (omega (arith, none.explain, counted is_explain explain rest))
split_lawful_by which (cover ∷ rest) depths ats none plain = absurd (omega (arith, none.cover, counted is_cover cover rest))
split_lawful_by which (at n ∷ rest) depths ats none plain = (ats.0, split_lawful_by which rest depths ats.1 (rest_of_none (at n) rest none) plain)
split_lawful_by which (job line ∷ rest) depths ats none plain = absurd (omega (arith, none.jobs))
split_lawful_by which (states ∷ rest) depths ats none plain = absurd (omega (arith, none.states, counted is_states states rest))
split_lawful_by which (at_once ∷ rest) depths ats none plain = absurd (omega (arith, none.at_once, counted is_at_once at_once rest))
split_lawful_by which (runs n ∷ rest) depths ats none plain = absurd (omega (arith, none.runs))
split_lawful_by which (seed n ∷ rest) depths ats none plain = absurd (omega (arith, none.seeds))
split_lawful_by which (format text ∷ rest) depths ats none plain = absurd (omega (arith, none.formats))

-- no option that `sample` has not is given
pub record AreOfSample (given : List Given) : Type 0 where
  pub nodes : length (nodes_of given) ≤ 0
  pub workers : length (workers_of given) ≤ 0
  pub cover : count_by is_cover given ≤ 0
  pub ats : length (ats_of given) ≤ 0
  pub jobs : length (jobs_of given) ≤ 0
  pub states : count_by is_states given ≤ 0

rest_of_sample : (first : Given) (rest : List Given) → AreOfSample (first ∷ rest) → AreOfSample rest
rest_of_sample first rest own = record {
  nodes = omega (arith, own.nodes, fewer_nodes first rest);
  workers = omega (arith, own.workers, fewer_workers first rest);
  cover = omega (arith, own.cover, counted is_cover first rest);
  ats = omega (arith, own.ats, fewer_ats first rest);
  jobs = omega (arith, own.jobs, fewer_jobs first rest);
  states = omega (arith, own.states, counted is_states first rest);
}

-- options of `sample`
pub sample_lawful_by : (given : List Given) → Each (λ n. n ≤ 400) (depths_of given) → Each (λ n. (1 ≤ n) × (n ≤ 1000000)) (runs_of given) → Each (λ n. n ≤ 4294967295) (seeds_of given)
    → AreOfSample given → ArePlain (texts_of given) → ArePlain (formats_of given) → AreLawful given sampling
sample_lawful_by [] depths numbers seeds own plain forms = tt
sample_lawful_by (depth n ∷ rest) depths numbers seeds own plain forms = (depths.0, sample_lawful_by rest depths.1 numbers seeds (rest_of_sample (depth n) rest own) plain forms)
sample_lawful_by (nodes n ∷ rest) depths numbers seeds own plain forms = absurd (omega (arith, own.nodes))
sample_lawful_by (workers n ∷ rest) depths numbers seeds own plain forms = absurd (omega (arith, own.workers))
sample_lawful_by (allow_deadlock ∷ rest) depths numbers seeds own plain forms = (tt, sample_lawful_by rest depths numbers seeds (rest_of_sample allow_deadlock rest own) plain forms)
sample_lawful_by (main_deadlock ∷ rest) depths numbers seeds own plain forms = (tt, sample_lawful_by rest depths numbers seeds (rest_of_sample main_deadlock rest own) plain forms)
sample_lawful_by (idle_servers ∷ rest) depths numbers seeds own plain forms = (tt, sample_lawful_by rest depths numbers seeds (rest_of_sample idle_servers rest own) plain forms)
sample_lawful_by (normal text ∷ rest) depths numbers seeds own plain forms = (plain.0, sample_lawful_by rest depths numbers seeds (rest_of_sample (normal text) rest own) plain.1 forms)
sample_lawful_by (strict_access ∷ rest) depths numbers seeds own plain forms = (tt, sample_lawful_by rest depths numbers seeds (rest_of_sample strict_access rest own) plain forms)
sample_lawful_by (explain ∷ rest) depths numbers seeds own plain forms = (tt, sample_lawful_by rest depths numbers seeds (rest_of_sample explain rest own) plain forms)
sample_lawful_by (cover ∷ rest) depths numbers seeds own plain forms = absurd (omega (arith, own.cover, counted is_cover cover rest))
sample_lawful_by (at n ∷ rest) depths numbers seeds own plain forms = absurd (omega (arith, own.ats))
sample_lawful_by (job line ∷ rest) depths numbers seeds own plain forms = absurd (omega (arith, own.jobs))
sample_lawful_by (states ∷ rest) depths numbers seeds own plain forms = absurd (omega (arith, own.states, counted is_states states rest))
sample_lawful_by (at_once ∷ rest) depths numbers seeds own plain forms = (tt, sample_lawful_by rest depths numbers seeds (rest_of_sample at_once rest own) plain forms)
sample_lawful_by (runs n ∷ rest) depths numbers seeds own plain forms = (numbers.0, sample_lawful_by rest depths numbers.1 seeds (rest_of_sample (runs n) rest own) plain forms)
sample_lawful_by (seed n ∷ rest) depths numbers seeds own plain forms = (seeds.0, sample_lawful_by rest depths numbers seeds.1 (rest_of_sample (seed n) rest own) plain forms)
sample_lawful_by (format text ∷ rest) depths numbers seeds own plain forms = (forms.0, sample_lawful_by rest depths numbers seeds (rest_of_sample (format text) rest own) plain forms.1)
