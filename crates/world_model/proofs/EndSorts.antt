-- Which cells an end leaves alone.
use Rattle.std.proofs.Common.{refl}
use Rattle.std.specs.Prelude.{◌∷◌, ◌≡◌, ◌++◌, if◌then◌else◌, List, [], ℕ, None, Some, Option, false}
use Rattle.term_core.specs.Meaning.{Meaning}
use Rattle.world_model.specs.Cells.{Table, Contents, Cell, Alive, Links, Watchers, NameOf, Owned}
use Rattle.world_model.specs.Changes.{after, Change, changed, OwnedCleared, AliveCleared, MachineHalted}
use Rattle.world_model.specs.Ends.{passed, table_passes, living_heir, tables_pass, partners_told, watchers_told, name_left, left_by, ends}
use Rattle.world_model.specs.Events.{LinkExit, Down}
use Rattle.world_model.specs.Names.{Pid, Ref, Name, same_pid}
use Rattle.world_model.specs.Signals.{put_if}
use Rattle.world_model.specs.Tables as tables
use Rattle.world_model.specs.Tables.{Heir}
use Rattle.world_model.proofs.Commuting.{stays}
use Rattle.world_model.proofs.SortLaws.{AllAmong, among_if, among_both, put_among, untouched_by}
use Rattle.world_model.proofs.Sorts.{is_among}

-- ---- lists of changes one after the other

pub after_both : (ks ls : List Change) (v : Contents) (c : Cell) → after (ks ++ ls) v c ≡ after ls (after ks v) c
after_both [] ls v c = refl
after_both (k ∷ ks) ls v c = after_both ks ls (changed k v) c

-- ---- the parts of an end write these sorts of cells: tails, names, tables and rows

abbrev pub end_sorts : List ℕ
end_sorts = 5 ∷ 9 ∷ 10 ∷ 11 ∷ 12 ∷ 13 ∷ 14 ∷ []

passed_among : (p : Pid) (t : Ref) (table : tables.Table) (heir : Heir) → AllAmong end_sorts (passed p t table heir)
passed_among p t table None = (refl, (refl, among_if end_sorts table.is_named _ _ (refl, tt) tt))
passed_among p t table (Some heir) = (refl, (refl, (refl, tt)))

passes_among : (v : Contents) (p : Pid) (t : Ref) (o : Option tables.Table) → AllAmong end_sorts (table_passes v p t o)
passes_among v p t None = (refl, (refl, tt))
passes_among v p t (Some table) = passed_among p t table (living_heir v table.heir)

tables_among : (v : Contents) (p : Pid) (ts : List Ref) → AllAmong end_sorts (tables_pass v p ts)
tables_among v p [] = tt
tables_among v p (t ∷ ts) = among_both end_sorts (table_passes v p t (v (Table t))) (tables_pass v p ts) (passes_among v p t (v (Table t))) (tables_among v p ts)

partners_among : (v : Contents) (p : Pid) (reason : Meaning) (qs : List Pid) → AllAmong end_sorts (partners_told v p reason qs)
partners_among v p reason [] = tt
partners_among v p reason (q ∷ qs) = among_both end_sorts (put_if (v (Alive q)) p q (LinkExit reason)) (partners_told v p reason qs) (put_among end_sorts (v (Alive q)) p q (LinkExit reason) refl) (partners_among v p reason qs)

watchers_among : (v : Contents) (p : Pid) (reason : Meaning) (refs : List Ref) → AllAmong end_sorts (watchers_told v p reason refs)
watchers_among v p reason [] = tt
watchers_among v p reason (ref ∷ refs) = among_both end_sorts (put_if (v (Alive ref.pid)) p ref.pid (Down ref reason)) (watchers_told v p reason refs) (put_among end_sorts (v (Alive ref.pid)) p ref.pid (Down ref reason) refl) (watchers_among v p reason refs)

name_among : (p : Pid) (o : Option Name) → AllAmong end_sorts (name_left p o)
name_among p None = (refl, tt)
name_among p (Some n) = (refl, (refl, tt))

left_among : (v : Contents) (p : Pid) (reason : Meaning) → AllAmong end_sorts (left_by v p reason)
left_among v p reason =
    let partners = partners_told v p reason (v (Links p)) in
    let watchers = watchers_told v p reason (v (Watchers p)) in
    let name = name_left p (v (NameOf p)) in
    among_both end_sorts (tables_pass v p (v (Owned p))) (OwnedCleared p ∷ (partners ++ (watchers ++ name))) (tables_among v p (v (Owned p)))
    (refl, among_both end_sorts partners (watchers ++ name) (partners_among v p reason (v (Links p))) (among_both end_sorts watchers name (watchers_among v p reason (v (Watchers p))) (name_among p (v (NameOf p)))))

-- an end leaves all cells of other sorts as they are, except for its own course and life
pub end_leaves : (v w : Contents) (p : Pid) (reason : Meaning) (c : Cell) → is_among end_sorts c ≡ false → after (ends v p reason) w c ≡ changed (AliveCleared p) (changed (MachineHalted p reason) w) c
end_leaves v w p reason c other =
    let dead = changed (AliveCleared p) v in
    stays (left_by dead p reason) (changed (AliveCleared p) (changed (MachineHalted p reason) w)) c (untouched_by end_sorts (left_by dead p reason) c (left_among dead p reason) other)

-- so who lives after an end is who lived, except for the one that ends
pub alive_after_end : (v w : Contents) (p q : Pid) (reason : Meaning) → after (ends v p reason) w (Alive q) ≡ (if same_pid p q then false else w (Alive q))
alive_after_end v w p q reason = end_leaves v w p reason (Alive q) refl
