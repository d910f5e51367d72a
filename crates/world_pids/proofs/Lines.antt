-- What calls answer and change has no other pids than what the world contains and what they are given.
use Rattle.std.proofs.Common.{ℕ, ℤ, ◌≤◌, ◌+◌, Bool, true, false, not, List, [], ◌∷◌, map, reverse, if◌then◌else◌, Option, Some, None, arith}
use Rattle.std.specs.FinMap.{keys}
use Rattle.std.specs.List.{AllByRecursion, filter, cons_option}
use Rattle.std.specs.Ordering.{is_lt, is_gt}
use Rattle.term_core.proofs.Pieces.{all-append}
use Rattle.term_core.specs.Meaning.{Meaning, Int}
use Rattle.term_core.specs.Order.{order_of_terms}
use Rattle.world_model.specs.Calls.{Call, Spawn, SpawnWay, Alone, Linked, Watched, Send, ToNobody, ToProcess, ToName, ToReference, ToNode, ToAnotherNode, SendExit, Link, Unlink, Monitor, MonitorName, Demonitor, Flag, Register, Unregister, WhereIs, Registered, IsAlive, ProcessInfo, MakeRef, MakeAlias, Unalias, StartTimer, CancelTimer, ReadTimer, New, OnTable, Misfit, TableArgument, ByName, ByReference, ByNothing, TableCall, Lookup, Member, LookupElement, First, Last, Next, Prev, ToList, Insert, InsertNew, DeleteTable, DeleteKey, DeleteObject, DeleteAll, Take, UpdateCounter, UpdateElement, GiveAway, SetOptions, Info, InfoAll, Addition, Increment, InTurn, known_items}
use Rattle.world_model.specs.Cells.{Contents, Machine, Alive, Trap, Links, Holder, Holders, NameOf, Watch, Guard, TableName, Table, Row, Rows as RowsOf}
use Rattle.world_model.specs.Changes.{Change, GuardCleared, HeirSet, is_of_watch}
use Rattle.world_model.specs.Ends.{heir_pid, name_freed}
use Rattle.world_model.specs.Events.{Signal, Message, Exit, Guarded, Elapsed}
use Rattle.world_model.specs.Guards.{aliased, is_alias_of, ends_by_reply, timer_in, watch_name}
use Rattle.world_model.specs.Lines.{line}
use Rattle.world_model.specs.Mailboxes.{picked, mailbox_in, selected_of}
use Rattle.world_model.specs.Names.{Name, Pid, Ref, same_pid}
use Rattle.world_model.specs.NewTables.{new_line, new_rule, means_if}
use Rattle.world_model.specs.Objects.{given, stored_at, stores, removed_at, removes, value_or_ok, element_answer, alters, one_present, keys_asked, additions_of, added, all_added, sum_in, sums_in, sums_answer, start_of, counter_object}
use Rattle.world_model.specs.Ownership.{gives_to, heirs_set}
use Rattle.world_model.specs.ProcessLines.{next_child, next_ref, bound, child_told, sent, sent_to_holder, exited, LinkWay, Stands, Pairs, PairsGone, Fails, link_changes, link_way, gone_told, alias_begins, alias_beside, watch_ends, flushed, send_line, unalias_line, timer_message, time_left, told_left, timer_ends, unregister_line, alias_goes, named_line, name_told, item_told, info_line, undefined}
use Rattle.world_model.specs.Rows.{Key, Object, part_at, parts_at}
use Rattle.world_model.specs.Signals.{put_if, watch_goes, reply_ends, first_of}
use Rattle.world_model.specs.TableAccess.{Found, as_found, meant, unless_named, find}
use Rattle.world_model.specs.TableLines.{table_line}
use Rattle.world_model.specs.TableRules.{found_line}
use Rattle.world_model.specs.Tables as tables
use Rattle.world_model.specs.Tables.{Heir, TableOption, OfKind, Protects, Named, AtPosition, WithHeir, Tunes, handle_of, is_bag, is_ordered, heir_in, last_asked, is_named, table_of}
use Rattle.world_model.specs.Terms.{atom, truth, reference, process_or, list_of}
use Rattle.world_model.specs.Walks.{key_or_end, last_of, key_after, item_value, item_pair}
use Rattle.world_model.specs.declared.alias.AliasEnd.{AliasEnd}
use Rattle.world_model.specs.declared.process.ProcessItem.{ProcessItem}
use Rattle.world_model.specs.declared.process.ProcessItem.TheVariants.{RegisteredName, QueueLength}
use Rattle.world_model.specs.declared.rule.Rule.{Rule}
use Rattle.world_model.specs.declared.table.Item.{Item}
use Rattle.world_model.specs.declared.table.Item.TheVariants as items
use Rattle.world_model.specs.declared.table.Kind.{Kind}
use Rattle.world_pids.specs.Numbers.{IsNumbered}
use Rattle.world_pids.proofs.Arguments.{CallTold, TableCallTold, OptionTold}
use Rattle.world_pids.proofs.Kept.{SignalTold, HeirTold, TableTold, CellsTold, ChangesTold, both_told}
use Rattle.world_pids.proofs.Rows.{ObjectsTold, PartTold, part_set, parts_set, keys_told, objects_told, part_told, list_told, tuples_told}
use Rattle.world_pids.proofs.Told.{IfThere, chosen, all_reversed, all_filtered, IsTold, EachTold, tuple_told}

module _ (n : ℕ) where
  -- what a call answers, and what it changes
  abbrev LineTold : Meaning → List Change → Type 0
  LineTold answer changes = IsTold n answer × ChangesTold n changes

  truth_told : (b : Bool) → IsTold n (truth b)
  truth_told true = tt
  truth_told false = tt

  first_told : {A : Type 0} (P : A → Type 0) (xs : List A) → AllByRecursion P xs → IfThere P (first_of xs)
  first_told P [] h = tt
  first_told P (x ∷ xs) h = h.0

  process_told : (text : Name) (o : Option Pid) → IfThere (IsNumbered n) o → IsTold n (process_or text o)
  process_told text None h = tt
  process_told text (Some p) h = h

  pub handle_told : (t : Ref) (table : tables.Table) → IsTold n (handle_of t table)
  handle_told t table = chosen (IsTold n) table.is_named (atom table.name) (reference t) tt tt

  pub freed_told : (table : tables.Table) → ChangesTold n (name_freed table)
  freed_told table = chosen (ChangesTold n) table.is_named _ [] (tt, tt) tt

  -- ---- replies through aliases

  -- what a reply ends brings nothing
  gone_with : (ref : Ref) (o : Option Pid) → ChangesTold n (watch_goes ref o)
  gone_with ref None = tt
  gone_with ref (Some q) = (tt, (tt, tt))

  pub reply_told : (b : Bool) (ref : Ref) (o : Option Pid) → ChangesTold n (reply_ends b ref o)
  reply_told true ref o = (tt, gone_with ref o)
  reply_told false ref o = tt

  -- ---- objects

  given_told : {A : Type 0} (P : A → Type 0) (o : Option (List A)) → IfThere (λ (xs : List A). AllByRecursion P xs) o → AllByRecursion P (given o)
  given_told P None h = tt
  given_told P (Some xs) h = h

  stored_told : (f : Found) (object : Object) (o : Option Key) → EachTold n object → IfThere (IsTold n) o → ChangesTold n (stored_at f object o)
  stored_told f object None h k = tt
  stored_told f object (Some key) h k = ((k, h), tt)

  stores_told : (f : Found) (objects : List Object) → ObjectsTold n objects → ChangesTold n (stores f objects)
  stores_told f [] h = tt
  stores_told f (o ∷ os) h =
      both_told n (stored_at f o (part_at f.table.position o)) (stores f os) (stored_told f o (part_at f.table.position o) h.0 (part_told n f.table.position o h.0)) (stores_told f os h.1)

  removed_told : (f : Found) (object : Object) (o : Option Key) → IfThere (IsTold n) o → ChangesTold n (removed_at f object o)
  removed_told f object None k = tt
  removed_told f object (Some key) k = ((k, tt), tt)

  removes_told : (f : Found) (o : Option Object) → IfThere (EachTold n) o → ChangesTold n (removes f o)
  removes_told f None h = tt
  removes_told f (Some object) h = removed_told f object (part_at f.table.position object) (part_told n f.table.position object h)

  alters_told : (f : Found) (key : Key) (o : Option (List (ℕ × Meaning))) (there : List Object) → IsTold n key → IfThere (λ (xs : List (ℕ × Meaning)). AllByRecursion (PartTold n) xs) o → ObjectsTold n there → ChangesTold n (alters f key o there)
  alters_told f key o [] h k l = tt
  alters_told f key o (object ∷ objects) h k l = ((h, parts_set n (given o) object (given_told (PartTold n) o k) l.0), tt)

  with_part : (o : Option Meaning) (ms : List Meaning) → IfThere (IsTold n) o → EachTold n ms → EachTold n (cons_option o ms)
  with_part None ms h k = k
  with_part (Some m) ms h k = (h, k)

  parts_told : (position : ℕ) (objects : List Object) → ObjectsTold n objects → EachTold n (parts_at position objects)
  parts_told position [] h = tt
  parts_told position (o ∷ os) h = with_part (part_at position o) (parts_at position os) (part_told n position o h.0) (parts_told position os h.1)

  value_told : (o : Option Meaning) → IfThere (IsTold n) o → IsTold n (value_or_ok o)
  value_told None h = tt
  value_told (Some m) h = h

  element_told : (kind : Kind) (o : Option ℕ) (objects : List Object) → ObjectsTold n objects → IsTold n (element_answer kind o objects)
  element_told kind None objects h = tt
  element_told kind (Some position) objects h =
      let parts = parts_told position objects h in
      chosen (IsTold n) (is_bag kind) (list_of (parts_at position objects)) (value_or_ok (first_of (parts_at position objects))) (list_told n (parts_at position objects) parts) (value_told (first_of (parts_at position objects)) (first_told (IsTold n) (parts_at position objects) parts))

  -- ---- counters

  sums_told : (additions : List Addition) (object : Object) → EachTold n (sums_in additions object)
  sums_told [] object = tt
  sums_told (addition ∷ additions) object = (tt, sums_told additions (added addition object))

  answered_told : (increment : Increment) (sums : List Meaning) → EachTold n sums → IsTold n (sums_answer increment sums)
  answered_told (InTurn additions) sums h = list_told n sums h
  answered_told increment sums h = value_told (first_of sums) (first_told (IsTold n) sums h)

  added_told : (additions : List Addition) (object : Object) → EachTold n object → EachTold n (all_added additions object)
  added_told [] object h = h
  added_told (addition ∷ additions) object h = added_told additions (added addition object) (part_set n addition.position (Int (sum_in addition object)) object tt h)

  start_told : (default : Option (Option Object)) (there : List Object) → IfThere (IfThere (EachTold n)) default → ObjectsTold n there → EachTold n (start_of default there)
  start_told default (object ∷ objects) h k = k.0
  start_told (Some (Some object)) [] h k = h
  start_told (Some None) [] h k = tt
  start_told None [] h k = tt

  counted_told : (table : tables.Table) (key : Key) (increment : Increment) (default : Option (Option Object)) (there : List Object) → IsTold n key → IfThere (IfThere (EachTold n)) default → ObjectsTold n there → EachTold n (counter_object table key increment default there)
  counted_told table key increment default there h k l =
      let additions = additions_of table.position increment in
      part_set n table.position key (all_added additions (start_of default there)) h (added_told additions (start_of default there) (start_told default there k l))

  -- ---- walks and items

  end_told : (o : Option Key) → IfThere (IsTold n) o → IsTold n (key_or_end o)
  end_told None h = tt
  end_told (Some key) h = h

  first_key : (ks : List Key) → EachTold n ks → IsTold n (key_or_end (first_of ks))
  first_key ks h = end_told (first_of ks) (first_told (IsTold n) ks h)

  last_told : (ks : List Key) → EachTold n ks → IsTold n (key_or_end (last_of ks))
  last_told ks h = first_key (reverse ks) (all_reversed (IsTold n) ks h)

  either_told : (b : Bool) (o p : Option Key) → IsTold n (key_or_end o) → IsTold n (key_or_end p) → IsTold n (key_or_end (if b then o else p))
  either_told true o p h k = h
  either_told false o p h k = k

  heir_named : (heir : Heir) → HeirTold n heir → IfThere (IsNumbered n) (heir_pid heir)
  heir_named None h = tt
  heir_named (Some x) h = h.0

  table_item_told : (v : Contents) (f : Found) (o : Option Item) → TableTold n f.table → IsTold n (item_value v f o)
  table_item_told v f None h = tt
  table_item_told v f (Some items.Owner) h = h.0
  table_item_told v f (Some items.Heir) h = process_told _ (heir_pid f.table.heir) (heir_named f.table.heir h.1)
  table_item_told v f (Some items.NamedTable) h = truth_told f.table.is_named
  table_item_told v f (Some item) h = tt

  pairs_told : (v : Contents) (f : Found) (xs : List (Name × Item)) → TableTold n f.table → EachTold n (map (item_pair v f) xs)
  pairs_told v f [] h = tt
  pairs_told v f (x ∷ xs) h = (tuple_told n (atom x.0 ∷ item_value v f (Some x.1) ∷ []) (tt, (table_item_told v f (Some x.1) h, tt)), pairs_told v f xs h)

  -- ---- calls of tables

  gives_told : (f : Found) (to : Option Pid) (gift_ : Meaning) → TableTold n f.table → IfThere (IsNumbered n) to → IsTold n gift_ → ChangesTold n (gives_to f to gift_)
  gives_told f None gift_ h k l = tt
  gives_told f (Some to) gift_ h k l = (k, (tt, (tt, ((h.0, (tt, (handle_told f.ref f.table, (h.0, (l, tt))))), tt))))

  heirs_told : (t : Ref) (hs : List Heir) → AllByRecursion (HeirTold n) hs → ChangesTold n (map (HeirSet t) hs)
  heirs_told t [] h = tt
  heirs_told t (x ∷ xs) h = (h.0, heirs_told t xs h.1)

  all_heirs_told : (t : Ref) (hs : List Heir) → AllByRecursion (HeirTold n) hs → ChangesTold n (heirs_set t hs)
  all_heirs_told t [] h = (tt, tt)
  all_heirs_told t (x ∷ xs) h = heirs_told t (x ∷ xs) h

  module _ (v : Contents) (cells : CellsTold n v) where
    table_told : (p : Pid) (f : Found) (call : TableCall) → TableTold n f.table → TableCallTold n call → LineTold (table_line v p f call).answer (table_line v p f call).changes
    table_told p f (Lookup key) t h = (tuples_told n (v (Row f.ref key)) (cells (Row f.ref key)), tt)
    table_told p f (Member key) t h = (truth_told _, tt)
    table_told p f (LookupElement key position) t h = (element_told f.table.kind position (v (Row f.ref key)) (cells (Row f.ref key)), tt)
    table_told p f First t h = (first_key (keys (v (RowsOf f.ref))) (keys_told n (v (RowsOf f.ref)) (cells (RowsOf f.ref))), tt)
    table_told p f Last t h =
        let all = keys_told n (v (RowsOf f.ref)) (cells (RowsOf f.ref)) in
        (either_told (is_ordered f.table.kind) (last_of (keys (v (RowsOf f.ref)))) (first_of (keys (v (RowsOf f.ref)))) (last_told (keys (v (RowsOf f.ref))) all) (first_key (keys (v (RowsOf f.ref))) all), tt)
    table_told p f (Next key) t h =
        let all = keys_told n (v (RowsOf f.ref)) (cells (RowsOf f.ref)) in
        (first_key (filter (λ k. is_lt (order_of_terms key k)) (keys (v (RowsOf f.ref)))) (all_filtered (IsTold n) (λ k. is_lt (order_of_terms key k)) (keys (v (RowsOf f.ref))) all), tt)
    table_told p f (Prev key) t h =
        let all = keys_told n (v (RowsOf f.ref)) (cells (RowsOf f.ref)) in (
          either_told (is_ordered f.table.kind) (last_of (filter (λ k. is_gt (order_of_terms key k)) (keys (v (RowsOf f.ref))))) (key_after key (v (RowsOf f.ref)))
              (last_told (filter (λ k. is_gt (order_of_terms key k)) (keys (v (RowsOf f.ref)))) (all_filtered (IsTold n) (λ k. is_gt (order_of_terms key k)) (keys (v (RowsOf f.ref))) all))
              (first_key (filter (λ k. is_lt (order_of_terms key k)) (keys (v (RowsOf f.ref)))) (all_filtered (IsTold n) (λ k. is_lt (order_of_terms key k)) (keys (v (RowsOf f.ref))) all)),
          tt,
        )
    table_told p f ToList t h = (tuples_told n _ (objects_told n (v (RowsOf f.ref)) (cells (RowsOf f.ref))), tt)
    table_told p f (Insert objects) t h = (tt, stores_told f (given objects) (given_told (EachTold n) objects h))
    table_told p f (InsertNew objects) t h =
        let present = one_present v f.ref (keys_asked p f objects) in
        (truth_told (not present), chosen (ChangesTold n) present [] (stores f (given objects)) tt (stores_told f (given objects) (given_told (EachTold n) objects h)))
    table_told p f DeleteTable t h = (tt, (tt, (tt, (tt, freed_told f.table))))
    table_told p f (DeleteKey key) t h = (tt, ((h, tt), tt))
    table_told p f (DeleteObject object) t h = (tt, removes_told f object h)
    table_told p f DeleteAll t h = (tt, (tt, tt))
    table_told p f (Take key) t h = (tuples_told n (v (Row f.ref key)) (cells (Row f.ref key)), ((h, tt), tt))
    table_told p f (UpdateCounter key increment default) t h =
        let there = v (Row f.ref key) in
        let additions = additions_of f.table.position increment in
        (answered_told increment (sums_in additions (start_of default there)) (sums_told additions (start_of default there)), ((h.0, counted_told f.table key increment default there h.0 h.1 (cells (Row f.ref key))), tt))
    table_told p f (UpdateElement key changes) t h = (truth_told _, alters_told f key changes (v (Row f.ref key)) h.0 h.1 (cells (Row f.ref key)))
    table_told p f (GiveAway to gift_) t h = (tt, gives_told f to gift_ t h.0 h.1)
    table_told p f (SetOptions heirs) t h = (tt, all_heirs_told f.ref (given heirs) (given_told (HeirTold n) heirs h))
    table_told p f (Info item) t h = (table_item_told v f item t, tt)
    table_told p f InfoAll t h = (list_told n (map (item_pair v f) known_items) (pairs_told v f known_items t), tt)

    -- ---- what is found

    abbrev FoundTold : Option Found → Type 0
    FoundTold o = IfThere (λ (f : Found). TableTold n f.table) o

    there_told : (t : Ref) (o : Option tables.Table) → IfThere (TableTold n) o → FoundTold (as_found t o)
    there_told t None h = tt
    there_told t (Some table) h = h

    meant_told : (o : Option Ref) → FoundTold (meant v o)
    meant_told None = tt
    meant_told (Some t) = there_told t (v (Table t)) (cells (Table t))

    unnamed_told : (o : Option Found) → FoundTold o → FoundTold (unless_named o)
    unnamed_told None h = tt
    unnamed_told (Some f) h = chosen FoundTold f.table.is_named None (Some f) tt h

    find_told : (argument : TableArgument) → FoundTold (find v argument)
    find_told (ByName name) = meant_told (v (TableName name))
    find_told (ByReference t) = unnamed_told (as_found t (v (Table t))) (there_told t (v (Table t)) (cells (Table t)))
    find_told ByNothing = tt

    found_told : (p : Pid) (call : TableCall) (o : Option Found) → FoundTold o → TableCallTold n call → LineTold (found_line v p call o).answer (found_line v p call o).changes
    found_told p call None t h = (tt, tt)
    found_told p call (Some f) t h = table_told p f call t h

    -- ---- signals

    put_told : (b : Bool) (s r : Pid) (x : Signal) → IsNumbered n s → SignalTold n x → ChangesTold n (put_if b s r x)
    put_told true s r x h k = ((h, k), tt)
    put_told false s r x h k = tt

    sent_told : (b : Bool) (p to : Pid) (m : Meaning) → IsNumbered n p → IsTold n m → ChangesTold n (sent b v p to m)
    sent_told true p to m h k = (k, tt)
    sent_told false p to m h k = put_told (v (Alive to)) p to (Message m) h k

    to_holder : (p : Pid) (o : Option Pid) (m : Meaning) → IsNumbered n p → IsTold n m → ChangesTold n (sent_to_holder v p o m)
    to_holder p None m h k = tt
    to_holder p (Some to) m h k = sent_told (same_pid p to) p to m h k

    exited_told : (b : Bool) (p to : Pid) (reason : Meaning) → IsNumbered n p → IsTold n reason → ChangesTold n (exited b v p to reason)
    exited_told true p to reason h k = ((tt, (h, (k, tt))), tt)
    exited_told false p to reason h k = put_told (v (Alive to)) p to (Exit reason) h k

    link_told : (p q : Pid) (way : LinkWay) → IsNumbered n q → ChangesTold n (link_changes p q way)
    link_told p q Stands h = (tt, (tt, tt))
    link_told p q Pairs h = (tt, (tt, tt))
    link_told p q PairsGone h = (tt, (tt, ((h, tt), tt)))
    link_told p q Fails h = tt

    gone_is_told : (b : Bool) (p q : Pid) (ref : Ref) → IsNumbered n q → ChangesTold n (gone_told b p q ref)
    gone_is_told true p q ref h = tt
    gone_is_told false p q ref h = ((h, tt), tt)

    -- ---- watches and aliases that begin and end

    ends_told : (b : Bool) (ks ls : List Change) → ChangesTold n ks → ChangesTold n ls → ChangesTold n (if b then ks else ls)
    ends_told b ks ls h k = chosen (ChangesTold n) b ks ls h k

    alias_told : (p : Pid) (ref : Ref) (o : Option AliasEnd) → ChangesTold n (alias_begins p ref o)
    alias_told p ref None = tt
    alias_told p ref (Some end) = (tt, tt)

    watch_told : (p : Pid) (ref : Ref) (o : Option Pid) → ChangesTold n (watch_ends p ref o)
    watch_told p ref None = (tt, tt)
    watch_told p ref (Some q) = ends_told (same_pid ref.pid p) _ _ (tt, (tt, (tt, tt))) (tt, (tt, tt))

    picked_told : (p : Pid) (o : Option Meaning) → ChangesTold n (picked p o)
    picked_told p None = tt
    picked_told p (Some m) = (tt, tt)

    flushed_told : (b : Bool) (p : Pid) (o : Option Meaning) → ChangesTold n (flushed b p o)
    flushed_told true p o = picked_told p o
    flushed_told false p o = tt

    -- ---- messages to references

    to_alias : (p : Pid) (ref : Ref) (o : Option Pid) (m : Meaning) → IsNumbered n p → IsTold n m → LineTold (send_line v p ref o m).answer (send_line v p ref o m).changes
    to_alias p ref None m h k = (k, tt)
    to_alias p ref (Some to) m h k = (k, put_told (v (Alive to)) p to (Guarded ref m) h k)

    alias_gone : (ref : Ref) (o : Option Name) → ChangesTold n (alias_goes ref o)
    alias_gone ref None = (tt, tt)
    alias_gone ref (Some name) = (tt, tt)

    unalias_told : (ref : Ref) (b : Bool) (o : Option Name) → LineTold (unalias_line ref b o).answer (unalias_line ref b o).changes
    unalias_told ref b o = (truth_told b, ends_told b (alias_goes ref o) [] (alias_gone ref o) tt)

    -- ---- watches by name, and what is told of processes and of names

    named_told : (p : Pid) (name : Name) (ref : Ref) (alias : Option AliasEnd) (o : Option Pid) → IsNumbered n p → IfThere (IsNumbered n) o → LineTold (named_line v p name ref alias o).answer (named_line v p name ref alias o).changes
    named_told p name ref alias None mine h = (tt, (tt, (tt, (tt, gone_is_told false p p ref mine))))
    named_told p name ref alias (Some q) mine h = (tt, (tt, (tt, (tt, gone_is_told (v (Alive q)) p q ref h))))

    own_name_told : (o : Option Name) → IsTold n (name_told o)
    own_name_told None = tt
    own_name_told (Some name) = (tt, (tt, tt))

    item_is_told : (q : Pid) (item : ProcessItem) → IsTold n (item_told v q item)
    item_is_told q RegisteredName = own_name_told (v (NameOf q))
    item_is_told q QueueLength = (tt, (tt, tt))

    told_or : (b : Bool) (m : Meaning) → IsTold n m → IsTold n (if b then m else undefined)
    told_or true m h = h
    told_or false m h = tt

    info_told : (b : Bool) (p q : Pid) (item : ProcessItem) → LineTold (info_line b v p q item).answer (info_line b v p q item).changes
    info_told true p q item = (item_is_told p item, tt)
    info_told false p q item = (told_or (v (Alive q)) (item_told v q item) (item_is_told q item), tt)

    names_are_told : (names : List Name) → IsTold n (list_of (map atom names))
    names_are_told [] = tt
    names_are_told (name ∷ names) = (tt, names_are_told names)

    -- ---- timers

    timer_told : (b : Bool) (ref : Ref) (m : Meaning) → IsTold n m → IsTold n (timer_message b ref m)
    timer_told true ref m h = (tt, (tt, (h, tt)))
    timer_told false ref m h = h

    left_told : (o : Option ℤ) → IsTold n (told_left o)
    left_told None = tt
    left_told (Some time) = tt

    timer_gone : (ref : Ref) (o : Option (Pid × ℤ)) → ChangesTold n (timer_ends ref o)
    timer_gone ref None = tt
    timer_gone ref (Some timer) = (tt, tt)

    -- ---- what begins

    bound_told : (way : SpawnWay) (p child : Pid) (ref : Ref) → ChangesTold n (bound way p child ref)
    bound_told Alone p child ref = tt
    bound_told Linked p child ref = (tt, (tt, tt))
    bound_told Watched p child ref = (tt, (tt, tt))

    child_is_told : (way : SpawnWay) (child : Pid) (ref : Ref) → IsNumbered n child → IsTold n (child_told way child ref)
    child_is_told Alone child ref h = h
    child_is_told Linked child ref h = h
    child_is_told Watched child ref h = (h, (tt, tt))

    -- a child has the numbers of its parent, and that of the turn
    pub child_numbered : (p : Pid) → IsNumbered n p → (v (Machine p)).turns + 1 ≤ n → IsNumbered n (next_child v p)
    child_numbered p mine most = all-append _ p _ mine ((omega arith, most), tt)

    heir_asked : (os : List TableOption) (heir : Heir) → AllByRecursion (OptionTold n) os → HeirTold n heir → HeirTold n (last_asked heir_in heir os)
    heir_asked [] heir h k = k
    heir_asked (WithHeir other ∷ os) heir h k = heir_asked os other h.1 h.0
    heir_asked (OfKind kind ∷ os) heir h k = heir_asked os heir h.1 k
    heir_asked (Protects protection ∷ os) heir h k = heir_asked os heir h.1 k
    heir_asked (Named ∷ os) heir h k = heir_asked os heir h.1 k
    heir_asked (AtPosition position ∷ os) heir h k = heir_asked os heir h.1 k
    heir_asked (Tunes ∷ os) heir h k = heir_asked os heir h.1 k

    means_told : (b : Bool) (name : Name) (t : Ref) → ChangesTold n (means_if b name t)
    means_told true name t = (tt, tt)
    means_told false name t = tt

    new_told : (p : Pid) (t : Ref) (name : Name) (o : Option (List TableOption)) (rule : Option Rule) → IsNumbered n p → IfThere (λ (os : List TableOption). AllByRecursion (OptionTold n) os) o → LineTold (new_line p t name o rule).answer (new_line p t name o rule).changes
    new_told p t name None rule mine h = (tt, tt)
    new_told p t name (Some os) rule mine h = (handle_told t (table_of p name os), ((mine, heir_asked os None h tt), (tt, means_told (is_named os) name t)))

    -- ---- all calls

    unregister_told : (name : Name) (o : Option Pid) → LineTold (unregister_line name o).answer (unregister_line name o).changes
    unregister_told name None = (tt, tt)
    unregister_told name (Some q) = (tt, (tt, (tt, tt)))

    pub line_told : (p : Pid) (call : Call) → IsNumbered n p → (v (Machine p)).turns + 1 ≤ n → CallTold n call → LineTold (line v p call).answer (line v p call).changes
    line_told p (Spawn way None) mine most h = (tt, tt)
    line_told p (Spawn way (Some origin)) mine most h =
        let child = child_numbered p mine most in
        (child_is_told way (next_child v p) (next_ref v p) child, (h, (child, bound_told way p (next_child v p) (next_ref v p))))
    line_told p (Send ToNobody m) mine most h = (tt, tt)
    line_told p (Send (ToProcess q) m) mine most h = (h, sent_told (same_pid p q) p q m mine h)
    line_told p (Send (ToReference ref) m) mine most h = to_alias p ref (aliased (v (Guard ref))) m mine h
    line_told p (Send (ToName name) m) mine most h = (h, to_holder p (v (Holder name)) m mine h)
    line_told p (Send (ToNode name) m) mine most h = (h, to_holder p (v (Holder name)) m mine h)
    line_told p (Send ToAnotherNode m) mine most h = (h, tt)
    line_told p (SendExit None reason) mine most h = (tt, tt)
    line_told p (SendExit (Some q) reason) mine most h = (tt, exited_told (same_pid p q) p q reason mine h)
    line_told p (Link None) mine most h = (tt, tt)
    line_told p (Link (Some q)) mine most h = (tt, link_told p q (link_way p q (v (Links p)) (v (Alive q)) (v (Trap p))) h)
    line_told p (Unlink None) mine most h = (tt, tt)
    line_told p (Unlink (Some q)) mine most h = (tt, (tt, (tt, tt)))
    line_told p (Monitor true None alias) mine most h = (tt, tt)
    line_told p (Monitor false None alias) mine most h = (tt, tt)
    line_told p (Monitor false (Some q) alias) mine most h = (tt, tt)
    line_told p (Monitor true (Some q) None) mine most h = (tt, tt)
    line_told p (Monitor true (Some q) (Some alias)) mine most h =
        let begun = alias_beside (same_pid p q) alias in
        (tt, (tt, (tt, both_told n (alias_begins p (next_ref v p) begun) _ (alias_told p (next_ref v p) begun) (gone_is_told (v (Alive q)) p q (next_ref v p) h))))
    line_told p (MonitorName false name alias) mine most h = (tt, tt)
    line_told p (MonitorName true name None) mine most h = (tt, tt)
    line_told p (MonitorName true name (Some alias)) mine most h = named_told p name (next_ref v p) alias (v (Holder name)) mine (cells (Holder name))
    line_told p (Demonitor None flushes) mine most h = (tt, tt)
    line_told p (Demonitor (Some ref) None) mine most h = (tt, tt)
    line_told p (Demonitor (Some ref) (Some flushes)) mine most h =
        (tt, both_told n (watch_ends p ref (v (Watch ref))) _ (watch_told p ref (v (Watch ref))) (flushed_told flushes p (selected_of (is_of_watch ref) (mailbox_in v p))))
    line_told p (Flag None) mine most h = (tt, tt)
    line_told p (Flag (Some b)) mine most h = (truth_told (v (Trap p)), (tt, tt))
    line_told p (Register None None) mine most h = (tt, tt)
    line_told p (Register None (Some q)) mine most h = (tt, tt)
    line_told p (Register (Some name) None) mine most h = (tt, tt)
    line_told p (Register (Some name) (Some q)) mine most h = (tt, (h, (tt, tt)))
    line_told p (Unregister None) mine most h = (tt, tt)
    line_told p (Unregister (Some name)) mine most h = unregister_told name (v (Holder name))
    line_told p (WhereIs None) mine most h = (tt, tt)
    line_told p (WhereIs (Some name)) mine most h = (process_told _ (v (Holder name)) (cells (Holder name)), tt)
    line_told p Registered mine most h = (names_are_told (keys (v Holders)), tt)
    line_told p (IsAlive None) mine most h = (tt, tt)
    line_told p (IsAlive (Some q)) mine most h = (truth_told (v (Alive q)), tt)
    line_told p (ProcessInfo None item) mine most h = (tt, tt)
    line_told p (ProcessInfo (Some q) None) mine most h = (tt, tt)
    line_told p (ProcessInfo (Some q) (Some item)) mine most h = info_told (same_pid p q) p q item
    line_told p MakeRef mine most h = (tt, tt)
    line_told p (MakeAlias None) mine most h = (tt, tt)
    line_told p (MakeAlias (Some end)) mine most h = (tt, (tt, tt))
    line_told p (Unalias None) mine most h = (tt, tt)
    line_told p (Unalias (Some ref)) mine most h = unalias_told ref (is_alias_of p (v (Guard ref))) (watch_name (v (Guard ref)))
    line_told p (StartTimer is_named None None m) mine most h = (tt, tt)
    line_told p (StartTimer is_named (Some time) None m) mine most h = (tt, tt)
    line_told p (StartTimer is_named None (Some q) m) mine most h = (tt, tt)
    line_told p (StartTimer is_named (Some time) (Some q) m) mine most h =
        let message = timer_told is_named (next_ref v p) m h in
        (tt, (tt, put_told (v (Alive q)) (next_child v p) q (Elapsed (next_ref v p) (timer_message is_named (next_ref v p) m)) (child_numbered p mine most) message))
    line_told p (CancelTimer None) mine most h = (tt, tt)
    line_told p (CancelTimer (Some ref)) mine most h =
        let timer = timer_in (v (Guard ref)) in
        (left_told (time_left v timer), timer_gone ref timer)
    line_told p (ReadTimer None) mine most h = (tt, tt)
    line_told p (ReadTimer (Some ref)) mine most h = (left_told (time_left v (timer_in (v (Guard ref)))), tt)
    line_told p (New None options) mine most h = (tt, tt)
    line_told p (New (Some name) options) mine most h = new_told p (next_ref v p) name options (new_rule options (v (TableName name))) mine h
    line_told p (OnTable argument call) mine most h = found_told p call (find v argument) (find_told argument) h
    line_told p Misfit mine most h = (tt, tt)
