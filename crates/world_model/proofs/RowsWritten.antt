-- A served call of a table writes the rows of its line, and what it leaves there.
use Rattle.std.proofs.Common.{true≢false, ◌≡◌, ℕ, Bool, true, false, ◌&&◌, List, [], ◌∷◌, ◌++◌, map, ap, Option, Some, None, refl, ◌∙◌, if◌then◌else◌}
use Rattle.std.specs.List.{cons_option}
use Rattle.std.specs.Option.{option_or}
use Rattle.core_semantics.specs.Asked as answered
use Rattle.term_core.specs.Meaning.{Meaning}
use Rattle.world_model.specs.Calls.{Lookup, Member, LookupElement, First, Last, Next, Prev, ToList, Insert, InsertNew, DeleteTable, DeleteKey, DeleteObject, DeleteAll, Take, UpdateCounter, UpdateElement, GiveAway, SetOptions, Info, InfoAll, TableCall}
use Rattle.world_model.specs.Cells.{Table, Row, Rows, Contents, meet}
use Rattle.world_model.specs.Changes.{Change, cell_of, HeirSet, TableNameCleared, after, changed, TableRemoved, RowsCleared, OwnedRemoved, TurnTaken}
use Rattle.world_model.specs.TableAccess.{Found}
use Rattle.world_model.specs.TableRules.{found_line}
use Rattle.world_model.specs.Lines.{line}
use Rattle.world_model.specs.Names.{Ref, Name, same_ref, Pid}
use Rattle.world_model.specs.Objects.{stored_at, stores, removed_at, removes, given, one_present, keys_asked, counter_object, alters}
use Rattle.world_model.specs.Ownership.{heirs_set}
use Rattle.world_model.specs.Rows.{stored, Object, Key, parts_at, part_at, with_parts, same_key, rewritten, Removes}
use Rattle.world_model.specs.RowsLeft.{rows_in, unless_present, if_there, key_of_object, WritesRows, under_key, is_key, stored_all, with_changes, rows_left, LeavesRows, replaced, KeepsTheLast, last_with}
use Rattle.world_model.specs.TableLines.{table_line}
use Rattle.world_model.specs.Tables.{Heir, is_bag}
use Rattle.world_model.specs.RowFootprints.{cells_of}
use Rattle.world_model.specs.World.{contents}
use Rattle.world_model.specs.declared.table.Kind.TheVariants.{Set, OrderedSet, Bag, DuplicateBag}
use Rattle.world_model.specs.declared.table.Kind.{Kind}
use Rattle.world_model.proofs.Commuting.{either_way}
use Rattle.world_model.proofs.EndSorts.{after_both}
use Rattle.world_model.proofs.Meeting.{ref_itself}

-- ---- which rows

stored_write : (f : Found) (o : Object) (k : Option Key) (rest : List Change) (ks : List Key) → rows_in (map cell_of rest) ≡ map (Row f.ref) ks → rows_in (map cell_of (stored_at f o k ++ rest)) ≡ map (Row f.ref) (cons_option k ks)
stored_write f o None rest ks same = same
stored_write f o (Some k) rest ks same = ap (λ cs. Row f.ref k ∷ cs) same

stores_write : (f : Found) (os : List Object) → rows_in (map cell_of (stores f os)) ≡ map (Row f.ref) (parts_at f.table.position os)
stores_write f [] = refl
stores_write f (o ∷ os) = stored_write f o (part_at f.table.position o) (stores f os) (parts_at f.table.position os) (stores_write f os)

new_write : (f : Found) (os : List Object) (b : Bool) → rows_in (map cell_of (if b then [] else stores f os)) ≡ cells_of f.ref (unless_present b (parts_at f.table.position os))
new_write f os true = refl
new_write f os false = stores_write f os

removed_write : (f : Found) (o : Object) (k : Option Key) → rows_in (map cell_of (removed_at f o k)) ≡ map (Row f.ref) (cons_option k [])
removed_write f o None = refl
removed_write f o (Some k) = refl

removes_write : (f : Found) (o : Option Object) → rows_in (map cell_of (removes f o)) ≡ map (Row f.ref) (key_of_object f.table.position o)
removes_write f None = refl
removes_write f (Some o) = removed_write f o (part_at f.table.position o)

altered_write : (f : Found) (key : Key) (changes : Option (List (ℕ × Meaning))) (there : List Object) → rows_in (map cell_of (alters f key changes there)) ≡ cells_of f.ref (if_there there key)
altered_write f key changes [] = refl
altered_write f key changes (object ∷ objects) = refl

heirs_write : (t : Ref) (hs : List Heir) → rows_in (map cell_of (map (HeirSet t) hs)) ≡ []
heirs_write t [] = refl
heirs_write t (h ∷ hs) = heirs_write t hs

set_write : (t : Ref) (hs : List Heir) → rows_in (map cell_of (heirs_set t hs)) ≡ []
set_write t [] = refl
set_write t (h ∷ hs) = heirs_write t (h ∷ hs)

freed_write : (b : Bool) (name : Name) → rows_in (map cell_of (if b then TableNameCleared name ∷ [] else [])) ≡ []
freed_write true name = refl
freed_write false name = refl

pub writes_rows : WritesRows
writes_rows v p f (Lookup key) served = refl
writes_rows v p f (Member key) served = refl
writes_rows v p f (LookupElement key position) served = refl
writes_rows v p f First served = refl
writes_rows v p f Last served = refl
writes_rows v p f (Next key) served = refl
writes_rows v p f (Prev key) served = refl
writes_rows v p f ToList served = refl
writes_rows v p f (Insert objects) served = stores_write f (given objects)
writes_rows v p f (InsertNew objects) served = new_write f (given objects) (one_present v f.ref (keys_asked p f objects))
writes_rows v p f DeleteTable served = ap (λ cs. Rows f.ref ∷ cs) (freed_write f.table.is_named f.table.name)
writes_rows v p f (DeleteKey key) served = refl
writes_rows v p f (DeleteObject object) served = removes_write f object
writes_rows v p f DeleteAll served = refl
writes_rows v p f (Take key) served = refl
writes_rows v p f (UpdateCounter key increment default) served = refl
writes_rows v p f (UpdateElement key changes) served = altered_write f key changes (v (Row f.ref key))
writes_rows v p f (GiveAway (Some to) gift_) served = refl
writes_rows v p f (GiveAway None gift_) served = refl
writes_rows v p f (SetOptions None) served = refl
writes_rows v p f (SetOptions (Some hs)) served = set_write f.ref hs
writes_rows v p f (Info item) served = refl
writes_rows v p f InfoAll served = refl

-- ---- what a served call leaves

here : (t : Ref) (b : Bool) (xs ys : List Object) → (if same_ref t t && b then xs else ys) ≡ under_key b xs ys
here t true xs ys = ap (λ s. if s && true then xs else ys) (ref_itself t)
here t false xs ys = ap (λ s. if s && false then xs else ys) (ref_itself t)

stored_leaves : (f : Found) (o : Object) (k : Key) (x : Option Key) (v : Contents) → after (stored_at f o x) v (Row f.ref k) ≡ under_key (is_key k x) (stored f.table.kind o (v (Row f.ref k))) (v (Row f.ref k))
stored_leaves f o k None v = refl
stored_leaves f o k (Some x) v = here f.ref (same_key x k) (stored f.table.kind o (v (Row f.ref k))) (v (Row f.ref k))

stores_leave : (f : Found) (os : List Object) (v : Contents) (k : Key) → after (stores f os) v (Row f.ref k) ≡ stored_all f.table.kind f.table.position k os (v (Row f.ref k))
stores_leave f [] v k = refl
stores_leave f (o ∷ os) v k =
    let one = stored_at f o (part_at f.table.position o) in
    after_both one (stores f os) v (Row f.ref k)
    ∙ stores_leave f os (after one v) k
    ∙ ap (stored_all f.table.kind f.table.position k os) (stored_leaves f o k (part_at f.table.position o) v)

new_leaves : (f : Found) (os : List Object) (v : Contents) (k : Key) (b : Bool) → after (if b then [] else stores f os) v (Row f.ref k) ≡ under_key b (v (Row f.ref k)) (stored_all f.table.kind f.table.position k os (v (Row f.ref k)))
new_leaves f os v k true = refl
new_leaves f os v k false = stores_leave f os v k

wiped_here : (t : Ref) (xs : List Object) → (if same_ref t t then [] else xs) ≡ []
wiped_here t xs = ap (λ b. if b then [] else xs) (ref_itself t)

freed_leaves : (b : Bool) (name : Name) (v : Contents) (t : Ref) (k : Key) → after (if b then TableNameCleared name ∷ [] else []) v (Row t k) ≡ v (Row t k)
freed_leaves true name v t k = refl
freed_leaves false name v t k = refl

removed_leaves : (f : Found) (o : Object) (x : Option Key) (v : Contents) (k : Key) → after (removed_at f o x) v (Row f.ref k) ≡ under_key (is_key k x) (rewritten (Removes o) (v (Row f.ref k))) (v (Row f.ref k))
removed_leaves f o None v k = refl
removed_leaves f o (Some x) v k = here f.ref (same_key x k) (rewritten (Removes o) (v (Row f.ref k))) (v (Row f.ref k))

heirs_leave : (t : Ref) (hs : List Heir) (v : Contents) (k : Key) → after (map (HeirSet t) hs) v (Row t k) ≡ v (Row t k)
heirs_leave t [] v k = refl
heirs_leave t (h ∷ hs) v k = heirs_leave t hs (changed (HeirSet t h) v) k

set_leaves : (t : Ref) (hs : List Heir) (v : Contents) (k : Key) → after (heirs_set t hs) v (Row t k) ≡ v (Row t k)
set_leaves t [] v k = either_way (meet (Table t) (Row t k)) (v (Row t k))
set_leaves t (h ∷ hs) v k = heirs_leave t (h ∷ hs) v k

same_twice : (b : Bool) (xs : List Object) → xs ≡ under_key b xs xs
same_twice true xs = refl
same_twice false xs = refl

altered_leaves : (f : Found) (key : Key) (changes : Option (List (ℕ × Meaning))) (there : List Object) (w : Contents) (k : Key) → after (alters f key changes there) w (Row f.ref k) ≡ under_key (same_key key k) (with_changes f.table.kind changes there (w (Row f.ref k))) (w (Row f.ref k))
altered_leaves f key changes [] w k = same_twice (same_key key k) (w (Row f.ref k))
altered_leaves f key changes (object ∷ objects) w k = here f.ref (same_key key k) (stored f.table.kind (with_parts (given changes) object) (w (Row f.ref k))) (w (Row f.ref k))

pub call_leaves_rows : (v w : Contents) (p : Pid) (f : Found) (call : TableCall) (k : Key) → after (table_line v p f call).changes w (Row f.ref k) ≡ rows_left v p f call k (w (Row f.ref k))
call_leaves_rows v w p f (Insert objects) k = stores_leave f (given objects) w k
call_leaves_rows v w p f (InsertNew objects) k = new_leaves f (given objects) w k (one_present v f.ref (keys_asked p f objects))
call_leaves_rows v w p f DeleteTable k = freed_leaves f.table.is_named f.table.name (after (TableRemoved f.ref ∷ RowsCleared f.ref ∷ OwnedRemoved f.table.owner f.ref ∷ []) w) f.ref k ∙ wiped_here f.ref (w (Row f.ref k))
call_leaves_rows v w p f (DeleteKey key) k = here f.ref (same_key key k) [] (w (Row f.ref k))
call_leaves_rows v w p f (DeleteObject None) k = refl
call_leaves_rows v w p f (DeleteObject (Some o)) k = removed_leaves f o (part_at f.table.position o) w k
call_leaves_rows v w p f DeleteAll k = wiped_here f.ref (w (Row f.ref k))
call_leaves_rows v w p f (Take key) k = here f.ref (same_key key k) [] (w (Row f.ref k))
call_leaves_rows v w p f (UpdateCounter key increment default) k = here f.ref (same_key key k) (stored f.table.kind (counter_object f.table key increment default (v (Row f.ref key))) (w (Row f.ref k))) (w (Row f.ref k))
call_leaves_rows v w p f (UpdateElement key changes) k = altered_leaves f key changes (v (Row f.ref key)) w k
call_leaves_rows v w p f (GiveAway None gift_) k = refl
call_leaves_rows v w p f (GiveAway (Some to) gift_) k = refl
call_leaves_rows v w p f (SetOptions None) k = set_leaves f.ref [] w k
call_leaves_rows v w p f (SetOptions (Some hs)) k = set_leaves f.ref hs w k
call_leaves_rows v w p f call k = refl

pub leaves_rows : LeavesRows
unfolding contents
leaves_rows h p kind arguments argument call answer f key is_call is =
    let w = changed (TurnTaken p (answered.Value answer ∷ [])) (contents h) in
    ap (λ c. after (line (contents h) p c).changes w (Row f.ref key)) is_call
    ∙ ap (λ o. after (found_line (contents h) p call o).changes w (Row f.ref key)) is
    ∙ call_leaves_rows (contents h) w p f call key

-- ---- in a set and an ordered_set the last object with a key stays

only_it : (kind : Kind) (o : Object) (there : List Object) → is_bag kind ≡ false → stored kind o there ≡ o ∷ []
only_it Set o there is = refl
only_it OrderedSet o there is = refl
only_it Bag o there is = absurd (true≢false is)
only_it DuplicateBag o there is = absurd (true≢false is)

last_of_two : (kind : Kind) (x : Option Object) (b : Bool) (o : Object) (there : List Object) → is_bag kind ≡ false → replaced x (under_key b (stored kind o there) there) ≡ replaced (option_or x (if b then Some o else None)) there
last_of_two kind None true o there is = only_it kind o there is
last_of_two kind None false o there is = refl
last_of_two kind (Some x) b o there is = refl

pub keeps_the_last : KeepsTheLast
keeps_the_last kind position key [] there is = refl
keeps_the_last kind position key (o ∷ os) there is =
    keeps_the_last kind position key os (under_key (is_key key (part_at position o)) (stored kind o there) there) is
    ∙ last_of_two kind (last_with position key os) (is_key key (part_at position o)) o there is
