-- The law of frames of an end.
use Rattle.std.proofs.Common.{◌∙◌, refl, ap}
use Rattle.std.specs.Prelude.{◌∷◌, if◌then◌else◌, ◌≡◌, ◌++◌, List, [], None, Some, Option, map}
use Rattle.term_core.specs.Meaning.{Meaning}
use Rattle.world_model.specs.Cells.{Table, Contents, Cell, Alive, Owned, Links, Watchers, NameOf}
use Rattle.world_model.specs.Changes.{after, Change, OwnedCleared, changed, AliveCleared, MachineHalted}
use Rattle.world_model.specs.Ends.{living_heir, alive_if, heir_pid, heir_read, table_passes, passed, reads_of_tables, tables_pass, partners_told, watchers_told, reads_of_end, left_by, name_left, ends}
use Rattle.world_model.specs.Events.{LinkExit, Down}
use Rattle.world_model.specs.Frames.{AgreeOn}
use Rattle.world_model.specs.Names.{Pid, Ref}
use Rattle.world_model.specs.Signals.{put_if}
use Rattle.world_model.specs.Tables as tables
use Rattle.world_model.specs.Tables.{Heir}
use Rattle.world_model.proofs.Commuting.{follows}

-- ---- contents that are the same in cells

abbrev pub SameOn : Contents → Contents → List Cell → Type 0
SameOn v w [] = Unit {0}
SameOn v w (c ∷ cs) = (v c ≡ w c) × SameOn v w cs

pub same_of : (v w : Contents) (cs : List Cell) → AgreeOn v w cs → SameOn v w cs
same_of v w [] agree = tt
same_of v w (c ∷ cs) agree = (agree.0.0, same_of v w cs agree.1)

same_parts : (v w : Contents) (cs ds : List Cell) → SameOn v w (cs ++ ds) → SameOn v w cs × SameOn v w ds
same_parts v w [] ds same = (tt, same)
same_parts v w (c ∷ cs) ds same =
    let rest = same_parts v w cs ds same.1 in
    ((same.0, rest.0), rest.1)

pub same_after_both : (ks : List Change) (v w : Contents) (cs : List Cell) → SameOn v w cs → SameOn (after ks v) (after ks w) cs
same_after_both ks v w [] same = tt
same_after_both ks v w (c ∷ cs) same = (follows ks v w c same.0, same_after_both ks v w cs same.1)

-- ---- its parts

living_heir_framed : (v w : Contents) (o : Heir) → SameOn v w (alive_if (heir_pid o)) → living_heir v o ≡ living_heir w o
living_heir_framed v w None same = refl
living_heir_framed v w (Some heir) same = λ i. if same.0 i then Some heir else None

table_framed : (v w : Contents) (p : Pid) (t : Ref) (o : Option tables.Table) → SameOn v w (heir_read o) → table_passes v p t o ≡ table_passes w p t o
table_framed v w p t None same = refl
table_framed v w p t (Some table) same = ap (passed p t table) (living_heir_framed v w table.heir same)

tables_framed : (v w : Contents) (p : Pid) (ts : List Ref) → SameOn v w (reads_of_tables v ts) → (tables_pass v p ts ≡ tables_pass w p ts) × (reads_of_tables v ts ≡ reads_of_tables w ts)
tables_framed v w p [] same = (refl, refl)
tables_framed v w p (t ∷ ts) same =
    let parts = same_parts v w (heir_read (v (Table t))) (reads_of_tables v ts) same.1 in
    let one = table_framed v w p t (v (Table t)) parts.0 ∙ ap (table_passes w p t) same.0 in
    let rest = tables_framed v w p ts parts.1 in
    ((λ i. one i ++ rest.0 i), (λ i. Table t ∷ (heir_read (same.0 i) ++ rest.1 i)))

partners_framed : (v w : Contents) (p : Pid) (reason : Meaning) (qs : List Pid) → SameOn v w (map Alive qs) → partners_told v p reason qs ≡ partners_told w p reason qs
partners_framed v w p reason [] same = refl
partners_framed v w p reason (q ∷ qs) same = λ i. put_if (same.0 i) p q (LinkExit reason) ++ partners_framed v w p reason qs same.1 i

watchers_framed : (v w : Contents) (p : Pid) (reason : Meaning) (refs : List Ref) → SameOn v w (map (λ ref. Alive ref.pid) refs) → watchers_told v p reason refs ≡ watchers_told w p reason refs
watchers_framed v w p reason [] same = refl
watchers_framed v w p reason (ref ∷ refs) same = λ i. put_if (same.0 i) p ref.pid (Down ref reason) ++ watchers_framed v w p reason refs same.1 i

-- ---- an end

left_framed : (v w : Contents) (p : Pid) (reason : Meaning) → SameOn v w (reads_of_end v p) → (left_by v p reason ≡ left_by w p reason) × (reads_of_end v p ≡ reads_of_end w p)
left_framed v w p reason same =
    let owned = same.0 in
    let links = same.1.0 in
    let watchers = same.1.1.0 in
    let name = same.1.1.1.0 in
    let parts = same_parts v w (reads_of_tables v (v (Owned p))) (map Alive (v (Links p)) ++ map (λ ref. Alive ref.pid) (v (Watchers p))) same.1.1.1.1 in
    let told = same_parts v w (map Alive (v (Links p))) (map (λ ref. Alive ref.pid) (v (Watchers p))) parts.1 in
    let all = tables_framed v w p (v (Owned p)) parts.0 in
    let go = all.0 ∙ ap (tables_pass w p) owned in
    let go_reads = all.1 ∙ ap (reads_of_tables w) owned in
    let partners = partners_framed v w p reason (v (Links p)) told.0 ∙ ap (partners_told w p reason) links in
    let downs = watchers_framed v w p reason (v (Watchers p)) told.1 ∙ ap (watchers_told w p reason) watchers in (
      (λ i. go i ++ (OwnedCleared p ∷ (partners i ++ (downs i ++ name_left p (name i))))),
      (λ i. Owned p ∷ Links p ∷ Watchers p ∷ NameOf p ∷ (go_reads i ++ (map Alive (links i) ++ map (λ ref. Alive ref.pid) (watchers i)))),
    )

pub ends_framed : (v w : Contents) (p : Pid) (reason : Meaning) → SameOn v w (reads_of_end v p) → (ends v p reason ≡ ends w p reason) × (reads_of_end v p ≡ reads_of_end w p)
ends_framed v w p reason same =
    let left = left_framed (changed (AliveCleared p) v) (changed (AliveCleared p) w) p reason (same_after_both (AliveCleared p ∷ []) v w (reads_of_end v p) same) in
    (ap (λ ks. MachineHalted p reason ∷ AliveCleared p ∷ ks) left.0, left.1)
