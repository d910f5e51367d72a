-- Each table and its rows, after every event.
use Rattle.std.proofs.Common.{◌≡◌, ℕ, Bool, true, false, ◌&&◌, List, [], ◌∷◌, map, ap, Option, Some, None, refl, sym, ◌∙◌, if◌then◌else◌}
use Rattle.std.specs.List.{list_any}
use Rattle.std.specs.Prelude.{option_map}
use Rattle.term_core.specs.Meaning.{Meaning}
use Rattle.term_core.specs.declared.step.Step.{Step}
use Rattle.term_core.specs.declared.step.Step.TheVariants.{Deliver, Turn}
use Rattle.world_model.specs.Calls.{TableCall, Call, DeleteTable, GiveAway, SetOptions, New, OnTable, call_of, Insert, InsertNew, DeleteKey, DeleteObject, DeleteAll, Take, UpdateCounter, UpdateElement}
use Rattle.world_model.specs.Cells.{Table, Contents, TableName, Alive, Owned, Row}
use Rattle.world_model.specs.Changes.{after, HeirSet, changed, TableNameCleared, TableRemoved, RowsCleared, OwnedRemoved, TableSet, OwnedAdded, AliveCleared, MachineHalted, TurnTaken, SignalDelivered}
use Rattle.world_model.specs.Ends.{living_heir}
use Rattle.world_model.specs.Events.{History, Signal, Fate, Delivered, Arrives, IsIgnored, IsDropped, Kills, Deed, Served, Refused, Ended, EndedItself, Received, TimedOut, RanAway}
use Rattle.world_model.specs.TableAccess.{Found, find}
use Rattle.world_model.specs.TableRules.{found_line}
use Rattle.world_model.specs.Lines.{line}
use Rattle.world_model.specs.Names.{Ref, same_ref, Name, Pid, same_pid}
use Rattle.world_model.specs.NewTables.{means_if, new_line, new_rule}
use Rattle.world_model.specs.Objects.{stored_at, stores, removed_at, given, one_present, keys_asked, counter_object, alters}
use Rattle.world_model.specs.OwnershipLaws.{table_left, table_passed, heir_named, row_passed}
use Rattle.world_model.specs.Ownership.{heirs_set}
use Rattle.world_model.specs.ProcessLines.{next_ref}
use Rattle.world_model.specs.Rows.{stored, Object, Key, same_key, part_at, with_parts, rewritten, Removes}
use Rattle.world_model.specs.RowsLeft.{rows_left}
use Rattle.world_model.specs.Signals.{goes_with}
use Rattle.world_model.specs.Steps.{changes_of_fate, changes_by, runaway}
use Rattle.world_model.specs.TableLines.{table_line}
use Rattle.world_model.specs.Tables.{Heir, with_heir, is_named, owned_by, table_of, TableOption}
use Rattle.world_model.specs.TableHistory.{table_of_call, table_of_new, table_by_call, passed_at_end, table_in, TableIsTold, rows_of_call, rows_by_call, rows_at_end, rows_in_event, RowsAreTold}
use Rattle.world_model.specs.ProcessHistory.{ended_in}
use Rattle.world_model.specs.World.{contents}
use Rattle.world_model.specs.declared.rule.Rule.{Rule}
use Rattle.world_model.proofs.Commuting.{either_way, stays}
use Rattle.world_model.proofs.EndSorts.{after_both}
use Rattle.world_model.proofs.Meeting.{refs_same}
use Rattle.world_model.proofs.OwnerLaws.{call_keeps, end_passes, rows_pass}
use Rattle.world_model.proofs.RowsWritten.{call_leaves_rows}
use Rattle.world_model.proofs.SortLaws.{goes_off, untouched_by, table_among, call_leaves}
use Rattle.world_model.proofs.Sorts.{table_sorts}

-- ---- a call of one table leaves the others

heirs_other : (u t : Ref) (hs : List Heir) (w : Contents) → same_ref u t ≡ false → after (map (HeirSet u) hs) w (Table t) ≡ w (Table t)
heirs_other u t [] w other = refl
heirs_other u t (h ∷ hs) w other = heirs_other u t hs (changed (HeirSet u h) w) other ∙ ap (λ b. if b then option_map (with_heir h) (w (Table t)) else w (Table t)) other

set_other : (u t : Ref) (hs : List Heir) (w : Contents) → same_ref u t ≡ false → after (heirs_set u hs) w (Table t) ≡ w (Table t)
set_other u t [] w other = either_way (same_ref u t) (w (Table t))
set_other u t (h ∷ hs) w other = heirs_other u t (h ∷ hs) w other

freed_other : (b : Bool) (name : Name) (w : Contents) (t : Ref) → after (if b then TableNameCleared name ∷ [] else []) w (Table t) ≡ w (Table t)
freed_other true name w t = refl
freed_other false name w t = refl

line_other : (v w : Contents) (p : Pid) (f : Found) (call : TableCall) (t : Ref) → same_ref f.ref t ≡ false → after (table_line v p f call).changes w (Table t) ≡ w (Table t)
line_other v w p f DeleteTable t other = freed_other f.table.is_named f.table.name (after (TableRemoved f.ref ∷ RowsCleared f.ref ∷ OwnedRemoved f.table.owner f.ref ∷ []) w) t ∙ ap (λ b. if b then None else w (Table t)) other
line_other v w p f (GiveAway None gift_) t other = refl
line_other v w p f (GiveAway (Some to) gift_) t other = ap (λ b. if b then option_map (owned_by to) (w (Table t)) else w (Table t)) other
line_other v w p f (SetOptions None) t other = set_other f.ref t [] w other
line_other v w p f (SetOptions (Some hs)) t other = set_other f.ref t hs w other
line_other v w p f call t other = stays (table_line v p f call).changes w (Table t) (untouched_by (table_sorts call) (table_line v p f call).changes (Table t) (table_among v p f call) refl)

line_told : (v w : Contents) (p : Pid) (f : Found) (call : TableCall) (t : Ref) (b : Bool) → same_ref f.ref t ≡ b → after (table_line v p f call).changes w (Table t) ≡ (if b then table_left call (w (Table t)) else w (Table t))
line_told v w p f call t true is = ap (λ u. after (table_line v p f call).changes w (Table u)) (sym (refs_same f.ref t is)) ∙ call_keeps v w p f call ∙ ap (λ u. table_left call (w (Table u))) (refs_same f.ref t is)
line_told v w p f call t false is = line_other v w p f call t is

found_told : (v w : Contents) (p : Pid) (call : TableCall) (o : Option Found) (t : Ref) → after (found_line v p call o).changes w (Table t) ≡ table_of_call o call t (w (Table t))
found_told v w p call None t = refl
found_told v w p call (Some f) t = line_told v w p f call t (same_ref f.ref t) refl

means_other : (b : Bool) (name : Name) (u t : Ref) (w : Contents) → after (means_if b name u) w (Table t) ≡ w (Table t)
means_other true name u t w = refl
means_other false name u t w = refl

new_told : (p : Pid) (u : Ref) (name : Name) (options : Option (List TableOption)) (rule : Option Rule) (w : Contents) (t : Ref) → after (new_line p u name options rule).changes w (Table t) ≡ table_of_new u p name options t (w (Table t))
new_told p u name None rule w t = refl
new_told p u name (Some os) rule w t = means_other (is_named os) name u t (after (TableSet u (table_of p name os) ∷ OwnedAdded p u ∷ []) w)

call_table : (h : History) (w : Contents) (p : Pid) (call : Call) (t : Ref) → after (line (contents h) p call).changes w (Table t) ≡ table_by_call h p call t (w (Table t))
call_table h w p (New None options) t = refl
call_table h w p (New (Some name) options) t = new_told p (next_ref (contents h) p) name options (new_rule options (contents h (TableName name))) w t
call_table h w p (OnTable argument call) t = found_told (contents h) w p call (find (contents h) argument) t
call_table h w p call t = call_leaves (contents h) w p call (Table t) refl

-- ---- an end, with what a signal takes before it

heir_same : (v w : Contents) (p : Pid) (o : Heir) → ((q : Pid) → v (Alive q) ≡ w (Alive q)) → living_heir (changed (AliveCleared p) v) o ≡ living_heir (changed (AliveCleared p) w) o
heir_same v w p None same = refl
heir_same v w p (Some heir) same = ap (λ x. if (if same_pid p heir.0 then false else x) then Some heir else None) (same heir.0)

fate_table : (h : History) (s r : Pid) (x : Signal) (f : Fate) (v w : Contents) (t : Ref) → ((q : Pid) → v (Alive q) ≡ contents h (Alive q)) → v (Owned r) ≡ contents h (Owned r) → v (Table t) ≡ contents h (Table t) → after (changes_of_fate v r f) w (Table t) ≡ passed_at_end h (ended_in (Deliver s r) (Delivered x f)) t (w (Table t))
fate_table h s r x (Arrives m) v w t lives owned_ there = refl
fate_table h s r x IsIgnored v w t lives owned_ there = refl
fate_table h s r x IsDropped v w t lives owned_ there = refl
fate_table h s r x (Kills reason) v w t lives owned_ there =
    end_passes (changed (AliveCleared r) v) (changed (AliveCleared r) (changed (MachineHalted r reason) w)) r reason t
    ∙ (λ i. if list_any (same_ref t) (owned_ i) then table_passed ((ap (λ o. living_heir (changed (AliveCleared r) v) (heir_named o)) there ∙ heir_same v (contents h) r (heir_named (contents h (Table t))) lives) i) (w (Table t)) else w (Table t))

told_table : (h : History) (step : Step) (deed : Deed) (t : Ref) → after (changes_by (contents h) step deed) (contents h) (Table t) ≡ passed_at_end h (ended_in step deed) t (table_in h step deed t (contents h (Table t)))
told_table h (Turn p) (Served kind arguments answer) t = call_table h _ p (call_of kind arguments) t
told_table h (Turn p) (Refused kind arguments refusal) t = refl
told_table h (Turn p) (EndedItself kind arguments reason) t = end_passes (changed (AliveCleared p) (contents h)) (changed (AliveCleared p) (changed (MachineHalted p reason) (changed (TurnTaken p []) (contents h)))) p reason t
told_table h (Turn p) (Received m) t = refl
told_table h (Turn p) TimedOut t = refl
told_table h (Turn p) (Ended reason) t = end_passes (changed (AliveCleared p) (contents h)) (changed (AliveCleared p) (changed (MachineHalted p reason) (changed (TurnTaken p []) (contents h)))) p reason t
told_table h (Turn p) RanAway t = end_passes (changed (AliveCleared p) (contents h)) (changed (AliveCleared p) (changed (MachineHalted p runaway) (changed (TurnTaken p []) (contents h)))) p runaway t
told_table h (Turn p) (Delivered x f) t = refl
told_table h (Deliver s r) (Delivered x f) t =
    let ks = goes_with (contents h) s r x in
    let w = changed (SignalDelivered s r) (contents h) in
    let v = after ks (contents h) in
    after_both ks (changes_of_fate v r f) w (Table t)
    ∙ fate_table h s r x f v (after ks w) t (λ q. stays ks (contents h) (Alive q) (goes_off (contents h) s r x (Alive q) refl)) (stays ks (contents h) (Owned r) (goes_off (contents h) s r x (Owned r) refl)) (stays ks (contents h) (Table t) (goes_off (contents h) s r x (Table t) refl))
    ∙ ap (passed_at_end h (ended_in (Deliver s r) (Delivered x f)) t) (stays ks w (Table t) (goes_off (contents h) s r x (Table t) refl))
told_table h (Deliver s r) deed t = refl

pub table_told : TableIsTold
unfolding contents
table_told h e t = told_table h e.step e.deed t

-- ---- rows

stored_other : (f : Found) (o : Object) (x : Option Key) (w : Contents) (t : Ref) (k : Key) → same_ref f.ref t ≡ false → after (stored_at f o x) w (Row t k) ≡ w (Row t k)
stored_other f o None w t k other = refl
stored_other f o (Some x) w t k other = ap (λ b. if b && same_key x k then stored f.table.kind o (w (Row t k)) else w (Row t k)) other

stores_other : (f : Found) (os : List Object) (w : Contents) (t : Ref) (k : Key) → same_ref f.ref t ≡ false → after (stores f os) w (Row t k) ≡ w (Row t k)
stores_other f [] w t k other = refl
stores_other f (o ∷ os) w t k other =
    let one = stored_at f o (part_at f.table.position o) in
    after_both one (stores f os) w (Row t k) ∙ stores_other f os (after one w) t k other ∙ stored_other f o (part_at f.table.position o) w t k other

new_other : (f : Found) (os : List Object) (w : Contents) (t : Ref) (k : Key) (b : Bool) → same_ref f.ref t ≡ false → after (if b then [] else stores f os) w (Row t k) ≡ w (Row t k)
new_other f os w t k true other = refl
new_other f os w t k false other = stores_other f os w t k other

removed_other : (f : Found) (o : Object) (x : Option Key) (w : Contents) (t : Ref) (k : Key) → same_ref f.ref t ≡ false → after (removed_at f o x) w (Row t k) ≡ w (Row t k)
removed_other f o None w t k other = refl
removed_other f o (Some x) w t k other = ap (λ b. if b && same_key x k then rewritten (Removes o) (w (Row t k)) else w (Row t k)) other

freed_row_other : (b : Bool) (name : Name) (w : Contents) (t : Ref) (k : Key) → after (if b then TableNameCleared name ∷ [] else []) w (Row t k) ≡ w (Row t k)
freed_row_other true name w t k = refl
freed_row_other false name w t k = refl

altered_other : (f : Found) (key : Key) (changes : Option (List (ℕ × Meaning))) (there : List Object) (w : Contents) (t : Ref) (k : Key) → same_ref f.ref t ≡ false → after (alters f key changes there) w (Row t k) ≡ w (Row t k)
altered_other f key changes [] w t k other = refl
altered_other f key changes (object ∷ objects) w t k other = ap (λ b. if b && same_key key k then stored f.table.kind (with_parts (given changes) object) (w (Row t k)) else w (Row t k)) other

rows_other : (v w : Contents) (p : Pid) (f : Found) (call : TableCall) (t : Ref) (k : Key) → same_ref f.ref t ≡ false → after (table_line v p f call).changes w (Row t k) ≡ w (Row t k)
rows_other v w p f (Insert objects) t k other = stores_other f (given objects) w t k other
rows_other v w p f (InsertNew objects) t k other = new_other f (given objects) w t k (one_present v f.ref (keys_asked p f objects)) other
rows_other v w p f DeleteTable t k other = freed_row_other f.table.is_named f.table.name (after (TableRemoved f.ref ∷ RowsCleared f.ref ∷ OwnedRemoved f.table.owner f.ref ∷ []) w) t k ∙ ap (λ b. if b then [] else w (Row t k)) other
rows_other v w p f (DeleteKey key) t k other = ap (λ b. if b && same_key key k then [] else w (Row t k)) other
rows_other v w p f (DeleteObject None) t k other = refl
rows_other v w p f (DeleteObject (Some o)) t k other = removed_other f o (part_at f.table.position o) w t k other
rows_other v w p f DeleteAll t k other = ap (λ b. if b then [] else w (Row t k)) other
rows_other v w p f (Take key) t k other = ap (λ b. if b && same_key key k then [] else w (Row t k)) other
rows_other v w p f (UpdateCounter key increment default) t k other = ap (λ b. if b && same_key key k then stored f.table.kind (counter_object f.table key increment default (v (Row f.ref key))) (w (Row t k)) else w (Row t k)) other
rows_other v w p f (UpdateElement key changes) t k other = altered_other f key changes (v (Row f.ref key)) w t k other
rows_other v w p f call t k other = stays (table_line v p f call).changes w (Row t k) (untouched_by (table_sorts call) (table_line v p f call).changes (Row t k) (table_among v p f call) refl)

rows_told_at : (v w : Contents) (p : Pid) (f : Found) (call : TableCall) (t : Ref) (k : Key) (b : Bool) → same_ref f.ref t ≡ b → after (table_line v p f call).changes w (Row t k) ≡ (if b then rows_left v p f call k (w (Row t k)) else w (Row t k))
rows_told_at v w p f call t k true is = ap (λ u. after (table_line v p f call).changes w (Row u k)) (sym (refs_same f.ref t is)) ∙ call_leaves_rows v w p f call k ∙ ap (λ u. rows_left v p f call k (w (Row u k))) (refs_same f.ref t is)
rows_told_at v w p f call t k false is = rows_other v w p f call t k is

found_rows : (h : History) (w : Contents) (p : Pid) (call : TableCall) (o : Option Found) (t : Ref) (k : Key) → after (found_line (contents h) p call o).changes w (Row t k) ≡ rows_of_call h p o call t k (w (Row t k))
found_rows h w p call None t k = refl
found_rows h w p call (Some f) t k = rows_told_at (contents h) w p f call t k (same_ref f.ref t) refl

call_rows : (h : History) (w : Contents) (p : Pid) (call : Call) (t : Ref) (k : Key) → after (line (contents h) p call).changes w (Row t k) ≡ rows_by_call h p call t k (w (Row t k))
call_rows h w p (OnTable argument call) t k = found_rows h w p call (find (contents h) argument) t k
call_rows h w p call t k = call_leaves (contents h) w p call (Row t k) refl

fate_rows : (h : History) (s r : Pid) (x : Signal) (f : Fate) (v w : Contents) (t : Ref) (k : Key) → ((q : Pid) → v (Alive q) ≡ contents h (Alive q)) → v (Owned r) ≡ contents h (Owned r) → v (Table t) ≡ contents h (Table t) → after (changes_of_fate v r f) w (Row t k) ≡ rows_at_end h (ended_in (Deliver s r) (Delivered x f)) t (w (Row t k))
fate_rows h s r x (Arrives m) v w t k lives owned_ there = refl
fate_rows h s r x IsIgnored v w t k lives owned_ there = refl
fate_rows h s r x IsDropped v w t k lives owned_ there = refl
fate_rows h s r x (Kills reason) v w t k lives owned_ there =
    rows_pass (changed (AliveCleared r) v) (changed (AliveCleared r) (changed (MachineHalted r reason) w)) r reason t k
    ∙ (λ i. if list_any (same_ref t) (owned_ i) then row_passed ((ap (λ o. living_heir (changed (AliveCleared r) v) (heir_named o)) there ∙ heir_same v (contents h) r (heir_named (contents h (Table t))) lives) i) (w (Row t k)) else w (Row t k))

told_rows : (h : History) (step : Step) (deed : Deed) (t : Ref) (k : Key) → after (changes_by (contents h) step deed) (contents h) (Row t k) ≡ rows_at_end h (ended_in step deed) t (rows_in_event h step deed t k (contents h (Row t k)))
told_rows h (Turn p) (Served kind arguments answer) t k = call_rows h _ p (call_of kind arguments) t k
told_rows h (Turn p) (Refused kind arguments refusal) t k = refl
told_rows h (Turn p) (EndedItself kind arguments reason) t k = rows_pass (changed (AliveCleared p) (contents h)) (changed (AliveCleared p) (changed (MachineHalted p reason) (changed (TurnTaken p []) (contents h)))) p reason t k
told_rows h (Turn p) (Received m) t k = refl
told_rows h (Turn p) TimedOut t k = refl
told_rows h (Turn p) (Ended reason) t k = rows_pass (changed (AliveCleared p) (contents h)) (changed (AliveCleared p) (changed (MachineHalted p reason) (changed (TurnTaken p []) (contents h)))) p reason t k
told_rows h (Turn p) RanAway t k = rows_pass (changed (AliveCleared p) (contents h)) (changed (AliveCleared p) (changed (MachineHalted p runaway) (changed (TurnTaken p []) (contents h)))) p runaway t k
told_rows h (Turn p) (Delivered x f) t k = refl
told_rows h (Deliver s r) (Delivered x f) t k =
    let ks = goes_with (contents h) s r x in
    let w = changed (SignalDelivered s r) (contents h) in
    let v = after ks (contents h) in
    after_both ks (changes_of_fate v r f) w (Row t k)
    ∙ fate_rows h s r x f v (after ks w) t k (λ q. stays ks (contents h) (Alive q) (goes_off (contents h) s r x (Alive q) refl)) (stays ks (contents h) (Owned r) (goes_off (contents h) s r x (Owned r) refl)) (stays ks (contents h) (Table t) (goes_off (contents h) s r x (Table t) refl))
    ∙ ap (rows_at_end h (ended_in (Deliver s r) (Delivered x f)) t) (stays ks w (Row t k) (goes_off (contents h) s r x (Row t k) refl))
told_rows h (Deliver s r) deed t k = refl

pub rows_told : RowsAreTold
unfolding contents
rows_told h e t k = told_rows h e.step e.deed t k
