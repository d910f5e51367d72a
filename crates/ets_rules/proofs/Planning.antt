-- What is planned of tables can be applied, and leaves what its changes say.
use Rattle.std.proofs.Common.{◌≡◌, ◌∙◌, ◌&&◌, ◌<◌, ◌+◌, ℕ, Bool, true, false, List, [], ◌∷◌, ◌++◌, Option, Some, None, map, take, drop, get_or, length, if◌then◌else◌, refl, sym, ap, subst, append_assoc, true≢false}
use Rattle.std.proofs.lemmas.List.{take-append-drop}
use Rattle.std.specs.Prelude.{IsSome}
use Rattle.term_core.specs.Meaning.{Meaning}
use Rattle.term_core.specs.Term.{meaning_of}
use Rattle.world_model.specs.Calls.{TableCall, Insert, InsertNew, DeleteTable, DeleteKey, DeleteObject, DeleteAll, Take, UpdateCounter, UpdateElement, GiveAway, SetOptions}
use Rattle.world_model.specs.Cells as cells
use Rattle.world_model.specs.Cells.{Contents}
use Rattle.world_model.specs.Changes.{Change, RowWritten, TableSet, OwnedAdded, HeirSet, SignalPut, TableNameCleared, after, changed}
use Rattle.world_model.specs.Ends.{living_heir, passed, table_passes}
use Rattle.world_model.specs.Events.{Message}
use Rattle.world_model.specs.Names.{Name, Pid, Ref}
use Rattle.world_model.specs.NewTables.{made, means_if}
use Rattle.world_model.specs.Objects.{given, keys_asked, one_present, counter_object, alters, removed_at, removes, stored_at, stores}
use Rattle.world_model.specs.Ownership.{destroyed, gives_to, heirs_set}
use Rattle.world_model.specs.Rows.{Key, Object, RowChange, Stores, Removes, Clears, part_at, with_parts}
use Rattle.world_model.specs.TableAccess.{Found}
use Rattle.world_model.specs.TableLines.{insert_new_line, table_line}
use Rattle.world_model.specs.Tables as tables
use Rattle.world_model.specs.Tables.{Heir, TableOption, is_named, table_of}
use Rattle.ets_rules.specs.Changes.{CanApply, CanHold, IsOfKind, all_changes_of_tables, changes_of_tables, sent_by}
use Rattle.ets_rules.specs.Plans.{planned_by}
use Rattle.ets_rules.specs.Tables.{Hold, IsUnchanged, told_in}
use Rattle.ets_rules.specs.declared.change.TableChange.{TableChange}
use Rattle.ets_rules.specs.declared.change.TableChange.TheVariants as kept
use Rattle.ets_rules.specs.declared.tables.Tables.{Tables}
use Rattle.ets_rules.proofs.Adding.{all_both, all_rest, all_taken}
use Rattle.ets_rules.proofs.Holding.{hold_after}
use Rattle.ets_rules.proofs.Apart.{put_apart}
use Rattle.ets_tables.specs.Ends.{transfer_in, transfers_in}
use Rattle.ets_tables.specs.declared.transfers.Transfer.{Transfer}
use Rattle.ets_tables.proofs.Following.{still}

-- ---- lists of changes

-- one list after another
pub after_append : (ks ls : List Change) (v : Contents) → after (ks ++ ls) v ≡ after ls (after ks v)
after_append [] ls v = refl
after_append (k ∷ ks) ls v = after_append ks ls (changed k v)

pub can_first : (ks ls : List Change) (v : Contents) → CanApply v (ks ++ ls) → CanApply v ks
can_first [] ls v can = record {}
can_first (k ∷ ks) ls v can = (can.0, can_first ks ls (changed k v) can.1)

can_then : (ks ls : List Change) (v : Contents) → CanApply v (ks ++ ls) → CanApply (after ks v) ls
can_then [] ls v can = can
can_then (k ∷ ks) ls v can = can_then ks ls (changed k v) can.1

-- ---- changes that need nothing

abbrev is_plain : Change → Bool
is_plain (RowWritten t key change) = false
is_plain (TableSet t table) = false
is_plain k = true

abbrev all_plain : List Change → Bool
all_plain [] = true
all_plain (k ∷ ks) = is_plain k && all_plain ks

both_true : (a b : Bool) → (a && b) ≡ true → (a ≡ true) × (b ≡ true)
both_true true b e = (refl, e)
both_true false b e = absurd (true≢false (sym e))

one_plain : (w : Contents) (k : Change) → is_plain k ≡ true → CanHold w k
one_plain w (RowWritten t key change) e = absurd (true≢false (sym e))
one_plain w (TableSet t table) e = absurd (true≢false (sym e))
one_plain w k e = record {}

plain_applies : (w : Contents) (ks : List Change) → all_plain ks ≡ true → CanApply w ks
plain_applies w [] e = record {}
plain_applies w (k ∷ ks) e =
    let both = both_true (is_plain k) (all_plain ks) e in
    (one_plain w k both.0, plain_applies (changed k w) ks both.1)

-- ---- ends

freed_plain : (b : Bool) (name : Name) → all_plain (if b then TableNameCleared name ∷ [] else []) ≡ true
freed_plain true name = refl
freed_plain false name = refl

passed_plain : (p : Pid) (t : Ref) (table : tables.Table) (heir : Heir) → all_plain (passed p t table heir) ≡ true
passed_plain p t table None = freed_plain table.is_named table.name
passed_plain p t table (Some heir) = refl

table_plain : (v : Contents) (p : Pid) (t : Ref) (o : Option tables.Table) → all_plain (table_passes v p t o) ≡ true
table_plain v p t None = refl
table_plain v p t (Some table) = passed_plain p t table (living_heir v table.heir)

-- a table passes to its heir, or goes
pub end_applies : (v w : Contents) (p : Pid) (t : Ref) (o : Option tables.Table) → CanApply w (table_passes v p t o)
end_applies v w p t o = plain_applies w (table_passes v p t o) (table_plain v p t o)

-- ---- calls

means_plain : (b : Bool) (name : Name) (t : Ref) → all_plain (means_if b name t) ≡ true
means_plain true name t = refl
means_plain false name t = refl

pub new_applies : (w : Contents) (p : Pid) (t : Ref) (name : Name) (os : List TableOption) → w (cells.Table t) ≡ None → CanApply w (made p t name os)
new_applies w p t name os new = (new, plain_applies (changed (TableSet t (table_of p name os)) w) (OwnedAdded p t ∷ means_if (is_named os) name t) (means_plain (is_named os) name t))

writable : (change : RowChange) (table : tables.Table) (o : Option tables.Table) → o ≡ Some table → IsOfKind change (Some table) → IsSome o × IsOfKind change o
writable change table o held fits = subst (λ x. IsSome x × IsOfKind change x) (sym held) (refl, fits)

stored_applies : (w : Contents) (f : Found) (object : Object) (key : Option Key) (ls : List Change) → w (cells.Table f.ref) ≡ Some f.table → ((u : Contents) → u (cells.Table f.ref) ≡ Some f.table → CanApply u ls) → CanApply w (stored_at f object key ++ ls)
stored_applies w f object None ls held rest = rest w held
stored_applies w f object (Some key) ls held rest = (writable (Stores f.table.kind object) f.table (w (cells.Table f.ref)) held refl, rest (changed (RowWritten f.ref key (Stores f.table.kind object)) w) held)

stores_apply : (w : Contents) (f : Found) (os : List Object) → w (cells.Table f.ref) ≡ Some f.table → CanApply w (stores f os)
stores_apply w f [] held = record {}
stores_apply w f (o ∷ os) held = stored_applies w f o (part_at f.table.position o) (stores f os) held (λ u there. stores_apply u f os there)

removed_apply : (w : Contents) (f : Found) (object : Object) (key : Option Key) → w (cells.Table f.ref) ≡ Some f.table → CanApply w (removed_at f object key)
removed_apply w f object None held = record {}
removed_apply w f object (Some key) held = (writable (Removes object) f.table (w (cells.Table f.ref)) held (record {}), record {})

removes_apply : (w : Contents) (f : Found) (o : Option Object) → w (cells.Table f.ref) ≡ Some f.table → CanApply w (removes f o)
removes_apply w f None held = record {}
removes_apply w f (Some object) held = removed_apply w f object (part_at f.table.position object) held

new_ones : (w : Contents) (f : Found) (present : Bool) (os : Option (List Object)) → w (cells.Table f.ref) ≡ Some f.table → CanApply w (insert_new_line present f os).changes
new_ones w f true os held = record {}
new_ones w f false os held = stores_apply w f (given os) held

alters_apply : (w : Contents) (f : Found) (key : Key) (changes : Option (List (ℕ × Meaning))) (there : List Object) → w (cells.Table f.ref) ≡ Some f.table → CanApply w (alters f key changes there)
alters_apply w f key changes [] held = record {}
alters_apply w f key changes (object ∷ objects) held = (writable (Stores f.table.kind (with_parts (given changes) object)) f.table (w (cells.Table f.ref)) held refl, record {})

destroyed_plain : (f : Found) → all_plain (destroyed f) ≡ true
destroyed_plain f = freed_plain f.table.is_named f.table.name

gives_plain : (f : Found) (o : Option Pid) (gift : Meaning) → all_plain (gives_to f o gift) ≡ true
gives_plain f None gift = refl
gives_plain f (Some to) gift = refl

inherits_plain : (t : Ref) (hs : List Heir) → all_plain (map (HeirSet t) hs) ≡ true
inherits_plain t [] = refl
inherits_plain t (h ∷ hs) = inherits_plain t hs

heirs_plain : (t : Ref) (hs : List Heir) → all_plain (heirs_set t hs) ≡ true
heirs_plain t [] = refl
heirs_plain t (h ∷ hs) = inherits_plain t hs

-- a call at a table that is there
pub line_applies : (v w : Contents) (p : Pid) (f : Found) (call : TableCall) → w (cells.Table f.ref) ≡ Some f.table → CanApply w (table_line v p f call).changes
line_applies v w p f (Insert objects) held = stores_apply w f (given objects) held
line_applies v w p f (InsertNew objects) held = new_ones w f (one_present v f.ref (keys_asked p f objects)) objects held
line_applies v w p f DeleteTable held = plain_applies w (destroyed f) (destroyed_plain f)
line_applies v w p f (DeleteKey key) held = (writable Clears f.table (w (cells.Table f.ref)) held (record {}), record {})
line_applies v w p f (DeleteObject object) held = removes_apply w f object held
line_applies v w p f DeleteAll held = (record {}, record {})
line_applies v w p f (Take key) held = (writable Clears f.table (w (cells.Table f.ref)) held (record {}), record {})
line_applies v w p f (UpdateCounter key increment default) held = (writable (Stores f.table.kind (counter_object f.table key increment default (v (cells.Row f.ref key)))) f.table (w (cells.Table f.ref)) held refl, record {})
line_applies v w p f (UpdateElement key changes) held = alters_apply w f key changes (v (cells.Row f.ref key)) held
line_applies v w p f (GiveAway to gift) held = plain_applies w (gives_to f to gift) (gives_plain f to gift)
line_applies v w p f (SetOptions heirs) held = plain_applies w (heirs_set f.ref (given heirs)) (heirs_plain f.ref (given heirs))
line_applies v w p f call held = record {}

-- ---- what is done

-- a copy holds what the tables do
pub hold_copied : (old new : Tables) (v : Contents) → IsUnchanged old new → Hold old v → Hold new v
hold_copied old new v same hold = record { are = still old.registry.shelves.value new.registry.shelves.value v same hold.are; by_key = hold.by_key }

-- one change more
pub changed_more : (old new : Tables) (cs : List TableChange) (i : ℕ) (k : TableChange) (v : Contents) → i < length cs → k ≡ get_or cs i k → CanApply v (all_changes_of_tables cs) → Hold old (after (all_changes_of_tables (take i cs)) v)
    → ((u : Contents) → Hold old u → CanApply u (changes_of_tables k) → Hold new (after (changes_of_tables k) u)) → Hold new (after (all_changes_of_tables (take (i + 1) cs)) v)
changed_more old new cs i k v within at can hold step =
    let before = all_changes_of_tables (take i cs) in
    let rest = all_changes_of_tables (drop (i + 1) cs) in
    let u = after before v in
    let whole : all_changes_of_tables cs ≡ before ++ (changes_of_tables k ++ rest) = ap all_changes_of_tables (sym (take-append-drop i cs)) ∙ all_both (take i cs) (drop i cs) ∙ ap (λ ks. before ++ ks) (all_rest cs i k within at) in
    let can_now = can_first (changes_of_tables k) rest u (can_then before (changes_of_tables k ++ rest) v (subst (CanApply v) whole can)) in
    subst (λ w. Hold new w) (sym (ap (λ ks. after ks v) (all_taken cs i k within at) ∙ after_append before (changes_of_tables k) v)) (step u hold can_now)

-- a message that is put after changes is none of the tables
sent_apart : (tables : Tables) (p : Pid) (o : Option Transfer) (w : Contents) → Hold tables w → Hold tables (after (sent_by p o) w)
sent_apart tables p None w hold = hold
sent_apart tables p (Some transfer) w hold =
    hold_after tables tables (SignalPut p transfer.to (Message (meaning_of transfer.message)) ∷ []) w hold (put_apart tables.registry w p transfer.to (Message (meaning_of transfer.message)) hold.are)

-- what was planned is done
pub planned_done : (old new : Tables) (p : Pid) (cs slice : List TableChange) (o : Option Transfer) (ks : List Change) (w : Contents) → slice ≡ cs → planned_by p cs o ≡ ks → CanApply w ks → Hold old w
    → ((u : Contents) → Hold old u → CanApply u (all_changes_of_tables slice) → Hold new (after (all_changes_of_tables slice) u)) → Hold new (after ks w)
planned_done old new p cs slice o ks w same is can hold step =
    let all = all_changes_of_tables cs in
    let can_now = can_first all (sent_by p o) w (subst (CanApply w) (sym is) can) in
    let done = subst (λ xs. Hold new (after (all_changes_of_tables xs) w)) same (step w hold (subst (λ xs. CanApply w (all_changes_of_tables xs)) (sym same) can_now)) in
    subst (λ ls. Hold new (after ls w)) is (subst (λ u. Hold new u) (sym (after_append all (sent_by p o) w)) (sent_apart new p o (after all w) done))

-- ---- messages

pub transfers_both : (ks ls : List Change) → transfers_in (ks ++ ls) ≡ transfers_in ks ++ transfers_in ls
transfers_both [] ls = refl
transfers_both (k ∷ ks) ls = ap (λ xs. transfer_in k ++ xs) (transfers_both ks ls) ∙ sym (append_assoc (transfer_in k) (transfers_in ks) (transfers_in ls))

none_sent : (c : TableChange) → transfers_in (changes_of_tables c) ≡ []
none_sent (kept.RowWritten id key change) = refl
none_sent (kept.RowsCleared id) = refl
none_sent (kept.TableSet id owner name options) = refl
none_sent (kept.TableTouched id) = refl
none_sent (kept.OwnerSet id owner) = refl
none_sent (kept.HeirSet id heir) = refl
none_sent (kept.TableRemoved id) = refl
none_sent (kept.NameSet name id) = refl
none_sent (kept.NameCleared name) = refl
none_sent (kept.OwnedAdded p id) = refl
none_sent (kept.OwnedRemoved p id) = refl
none_sent (kept.OwnedCleared p) = refl

nobody_told : (cs : List TableChange) → transfers_in (all_changes_of_tables cs) ≡ []
nobody_told [] = refl
nobody_told (c ∷ cs) = transfers_both (changes_of_tables c) (all_changes_of_tables cs) ∙ ap (λ xs. xs ++ transfers_in (all_changes_of_tables cs)) (none_sent c) ∙ nobody_told cs

one_told : (p : Pid) (o : Option Transfer) → transfers_in (sent_by p o) ≡ told_in o
one_told p None = refl
one_told p (Some transfer) = refl

-- what was planned is told
pub planned_told : (p : Pid) (cs : List TableChange) (o : Option Transfer) (ks : List Change) → planned_by p cs o ≡ ks → told_in o ≡ transfers_in ks
planned_told p cs o ks is = sym (one_told p o) ∙ sym (ap (λ xs. xs ++ transfers_in (sent_by p o)) (nobody_told cs)) ∙ sym (transfers_both (all_changes_of_tables cs) (sent_by p o)) ∙ ap transfers_in is
