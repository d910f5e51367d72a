-- A name that means a table is that table's own, so no two arguments find one table.
use Rattle.std.proofs.Common.{◌≡◌, Bool, true, false, ◌&&◌, List, [], ◌∷◌, map, ap, Option, Some, None, refl, sym, ◌∙◌, if◌then◌else◌, true≢false, subst, arith}
use Rattle.std.specs.Prelude.{◌+◌, unwrap_or, option_map}
use Rattle.term_core.specs.Meaning.{Meaning}
use Rattle.term_core.specs.declared.step.Step.{Step}
use Rattle.term_core.specs.declared.step.Step.TheVariants.{Turn, Deliver}
use Rattle.world_model.specs.Calls.{Call, TableArgument, ByName, ByReference, ByNothing, TableCall, DeleteTable, GiveAway, SetOptions, New, OnTable, call_of}
use Rattle.world_model.specs.Cells.{Table, Cell, Contents, TableName, Owned}
use Rattle.world_model.specs.Changes.{after, TableNameCleared, HeirSet, changed, CellTouched, TableRemoved, RowsCleared, OwnedRemoved, TableSet, OwnedAdded, AliveCleared, MachineHalted, SignalDelivered}
use Rattle.world_model.specs.Ends.{ends, passed, table_passes, living_heir, tables_pass}
use Rattle.world_model.specs.Events.{Fate, Arrives, IsIgnored, IsDropped, Kills, Deed, Served, Refused, Ended, EndedItself, Received, TimedOut, RanAway, Delivered, History}
use Rattle.world_model.specs.TableAccess.{find, Found, as_found, meant, unless_named}
use Rattle.world_model.specs.FindingHistory.{TablesAreFound, FoundAreThere}
use Rattle.world_model.specs.TableRules.{found_line}
use Rattle.world_model.specs.Lines.{line}
use Rattle.world_model.specs.Names.{Name, Ref, same_name, same_ref, Pid}
use Rattle.world_model.specs.NewTables.{by_rule, means_if, name_taken, new_line, new_rule}
use Rattle.world_model.specs.Ownership.{heirs_set}
use Rattle.world_model.specs.ProcessLines.{next_ref}
use Rattle.world_model.specs.Requests.{Program}
use Rattle.world_model.specs.Run.{IsRun}
use Rattle.world_model.specs.RunLaws.{NamesMeanTheirs, FindsOne}
use Rattle.world_model.specs.Signals.{goes_with}
use Rattle.world_model.specs.Steps.{changes_of_fate, changes_by, runaway}
use Rattle.world_model.specs.TableLines.{table_line}
use Rattle.world_model.specs.Tables as tables
use Rattle.world_model.specs.Tables.{is_named, owned_by, Heir, with_heir, TableOption, table_of}
use Rattle.world_model.specs.World.{found, contents, turns}
use Rattle.world_model.proofs.Commuting.{either_way, stays, follows}
use Rattle.world_model.proofs.EndSorts.{after_both}
use Rattle.world_model.proofs.Fresh.{names_new}
use Rattle.world_model.proofs.Meeting.{refs_same, pid_itself, both, pids_same, ref_itself}
use Rattle.world_model.proofs.OwnerLaws.{rest_off}
use Rattle.world_model.proofs.Served.{Unrefused, unrefused_in}
use Rattle.world_model.proofs.SortLaws.{goes_off, untouched_by, table_among, call_leaves}
use Rattle.world_model.proofs.Sorts.{is_among, table_sorts}

-- ---- names, and tables, as they are

abbrev Names : Type 0
Names = Name → Option Ref

abbrev AllTables : Type 0
AllTables = Ref → Option tables.Table

record IsNamedBy (all : AllTables) (name : Name) (t : Ref) : Type 0 where
  state : tables.Table
  there : all t ≡ Some state
  named : state.is_named ≡ true
  same : state.name ≡ name

IsNamed : Names → AllTables → Type 0
IsNamed names all = (name : Name) (t : Ref) → names name ≡ Some t → IsNamedBy all name t

pub no_some : {A : Type 0} {x : A} → None ≡ Some x → ⊥
no_some e = absurd cc

pub table_is : (x y : tables.Table) → Some x ≡ Some y → x ≡ y
table_is x y e = ap (λ o. unwrap_or o x) e

-- and each table that is to be found by its name is what that means
IsMeant : Names → AllTables → Type 0
IsMeant names all = (t : Ref) (y : tables.Table) → all t ≡ Some y → y.is_named ≡ true → names y.name ≡ Some t

still : (names : Names) (m : Name) (t : Ref) (b : Bool) → (if b then None else names m) ≡ Some t → names m ≡ Some t
still names m t true now = absurd (no_some now)
still names m t false now = now

-- ---- what may become of them

-- a table goes, and with it its name
module _ (names : Names) (all : AllTables) (u : Ref) (x : tables.Table) (mine : (y : tables.Table) → all u ≡ Some y → (y.name ≡ x.name) × (y.is_named ≡ x.is_named)) where
  gone_names : Names
  gone_names m = if x.is_named && same_name x.name m then None else names m

  gone_tables : AllTables
  gone_tables t = if same_ref u t then None else all t

  gone_by : (m : Name) (t : Ref) (b d : Bool) → same_ref u t ≡ b → (x.is_named && same_name x.name m) ≡ d → (if d then None else names m) ≡ Some t → IsNamedBy all m t → (y : tables.Table) × ((if b then None else all t) ≡ Some y) × (y.is_named ≡ true) × (y.name ≡ m)
  gone_by m t b true is test now was = absurd (no_some now)
  gone_by m t false false is test now was = (was.state, was.there, was.named, was.same)
  gone_by m t true false is test now was =
      let owned_ = mine was.state (ap all (refs_same u t is) ∙ was.there) in
      let named_ : x.is_named ≡ true = sym owned_.1 ∙ was.named in
      let name_ : x.name ≡ m = sym owned_.0 ∙ was.same in
      absurd (true≢false (sym (ap (λ b. b && same_name x.name m) named_ ∙ ap (same_name x.name) (sym name_) ∙ pid_itself x.name) ∙ test))

  gone : IsNamed names all → IsNamed gone_names gone_tables
  unfolding IsNamed gone_names gone_tables
  gone before_ m t now =
      let was = still names m t (x.is_named && same_name x.name m) now in
      let by = gone_by m t (same_ref u t) (x.is_named && same_name x.name m) refl refl now (before_ m t was) in
      record { state = by.0; there = by.1; named = by.2; same = by.3 }

-- a table that is not there goes
missing_by : (all : AllTables) (u t : Ref) (b : Bool) (m : Name) → same_ref u t ≡ b → all u ≡ None → IsNamedBy all m t → (y : tables.Table) × ((if b then None else all t) ≡ Some y) × (y.is_named ≡ true) × (y.name ≡ m)
missing_by all u t true m is none was = absurd (no_some (sym none ∙ ap all (refs_same u t is) ∙ was.there))
missing_by all u t false m is none was = (was.state, was.there, was.named, was.same)

-- a table changes, except for its name
KeepsNames : (tables.Table → tables.Table) → Type 0
KeepsNames f = (x : tables.Table) → ((f x).name ≡ x.name) × ((f x).is_named ≡ x.is_named)

altered_by : (all : AllTables) (f : tables.Table → tables.Table) (t : Ref) (b : Bool) (m : Name) → KeepsNames f → IsNamedBy all m t → (y : tables.Table) × ((if b then option_map f (all t) else all t) ≡ Some y) × (y.is_named ≡ true) × (y.name ≡ m)
unfolding KeepsNames
altered_by all f t true m keeps was = (f was.state, ap (option_map f) was.there, (keeps was.state).1 ∙ was.named, (keeps was.state).0 ∙ was.same)
altered_by all f t false m keeps was = (was.state, was.there, was.named, was.same)

-- what a table that has changed was
was_altered : (f : tables.Table → tables.Table) (b : Bool) (o : Option tables.Table) (y : tables.Table) → KeepsNames f → (if b then option_map f o else o) ≡ Some y → (x : tables.Table) × (o ≡ Some x) × (y.name ≡ x.name) × (y.is_named ≡ x.is_named)
unfolding KeepsNames
was_altered f true None y keeps now = absurd (no_some now)
was_altered f true (Some z) y keeps now =
    let is = table_is (f z) y now in
    (z, refl, ap (λ q. q.name) (sym is) ∙ (keeps z).0, ap (λ q. q.is_named) (sym is) ∙ (keeps z).1)
was_altered f false o y keeps now = (y, now, refl, refl)

was_there : (b : Bool) (o : Option tables.Table) (y : tables.Table) → (if b then None else o) ≡ Some y → o ≡ Some y
was_there true o y now = absurd (no_some now)
was_there false o y now = now

-- the name of a table that goes is not that of one that stays
not_freed : (u t : Ref) (x y : tables.Table) (o : Option Ref) (b d : Bool) → same_ref u t ≡ b → (x.is_named && same_name x.name y.name) ≡ d → (x.is_named ≡ true → x.name ≡ y.name → t ≡ u) → (if b then None else Some y) ≡ Some y → o ≡ Some t → (if d then None else o) ≡ Some t
not_freed u t x y o true d same is alone now named_ = absurd (no_some now)
not_freed u t x y o false true same is alone now named_ =
    let parts = both x.is_named (same_name x.name y.name) is in
    absurd (true≢false (sym (ap (same_ref u) (alone parts.0 (pids_same x.name y.name parts.1)) ∙ ref_itself u) ∙ same))
not_freed u t x y o false false same is alone now named_ = named_

-- ---- in contents

abbrev names_in : Contents → Names
names_in v n = v (TableName n)

abbrev tables_in : Contents → AllTables
tables_in v t = v (Table t)

abbrev Holds_ : Contents → Type 0
Holds_ v = IsNamed (names_in v) (tables_in v) × IsMeant (names_in v) (tables_in v)

-- where both are as they were
same_named : (v w : Contents) → ((n : Name) → w (TableName n) ≡ v (TableName n)) → ((t : Ref) → w (Table t) ≡ v (Table t)) → Holds_ v → Holds_ w
unfolding IsNamed IsMeant
same_named v w names all before_ = (
  (λ m t now. let was = before_.0 m t (sym (names m) ∙ now) in record { state = was.state; there = all t ∙ was.there; named = was.named; same = was.same }),
  (λ t y now is. names y.name ∙ before_.1 t y (sym (all t) ∙ now) is),
)

-- one table alters
alters_named : (v w : Contents) (u : Ref) (f : tables.Table → tables.Table) → KeepsNames f → ((n : Name) → w (TableName n) ≡ v (TableName n)) → ((t : Ref) → w (Table t) ≡ (if same_ref u t then option_map f (v (Table t)) else v (Table t))) → Holds_ v → Holds_ w
unfolding IsNamed IsMeant
alters_named v w u f keeps names all before_ = (
  (λ m t now. let by = altered_by (tables_in v) f t (same_ref u t) m keeps (before_.0 m t (sym (names m) ∙ now)) in record { state = by.0; there = all t ∙ by.1; named = by.2; same = by.3 }),
  (λ t y now is. let by = was_altered f (same_ref u t) (v (Table t)) y keeps (sym (all t) ∙ now) in names y.name ∙ ap (names_in v) by.2 ∙ before_.1 t by.0 by.1 (sym by.3 ∙ is)),
)

owner_keeps : (p : Pid) → KeepsNames (owned_by p)
unfolding KeepsNames
owner_keeps p x = (refl, refl)

heir_keeps : (heir : Heir) → KeepsNames (with_heir heir)
unfolding KeepsNames
heir_keeps heir x = (refl, refl)

-- one table goes, and no other has its name
Alone : Contents → Ref → tables.Table → Type 0
Alone v u x = (t : Ref) (y : tables.Table) → v (Table t) ≡ Some y → y.is_named ≡ true → x.is_named ≡ true → x.name ≡ y.name → t ≡ u

goes_named : (v w : Contents) (u : Ref) (x : tables.Table) → ((y : tables.Table) → v (Table u) ≡ Some y → (y.name ≡ x.name) × (y.is_named ≡ x.is_named)) → Alone v u x → ((n : Name) → w (TableName n) ≡ (if x.is_named && same_name x.name n then None else v (TableName n))) → ((t : Ref) → w (Table t) ≡ (if same_ref u t then None else v (Table t))) → Holds_ v → Holds_ w
unfolding IsNamed IsMeant Alone gone_names gone_tables
goes_named v w u x mine alone names all before_ = (
  (λ m t now. let was = gone (names_in v) (tables_in v) u x mine before_.0 m t (sym (names m) ∙ now) in record { state = was.state; there = all t ∙ was.there; named = was.named; same = was.same }),
  (λ t y now is.
      let there = was_there (same_ref u t) (v (Table t)) y (sym (all t) ∙ now) in
      names y.name ∙ not_freed u t x y (v (TableName y.name)) (same_ref u t) (x.is_named && same_name x.name y.name) refl refl (alone t y there is) (ap (λ o. if same_ref u t then None else o) (sym there) ∙ sym (all t) ∙ now) (before_.1 t y there is)),
)

pub ref_is : (t u : Ref) → Some t ≡ Some u → t ≡ u
ref_is t u e = ap (λ o. unwrap_or o t) e

-- a table that is there is alone with its name
alone_there : (v : Contents) (u : Ref) (x : tables.Table) → v (Table u) ≡ Some x → Holds_ v → Alone v u x
unfolding IsMeant Alone
alone_there v u x there before_ = λ t y now is named_ same. ref_is t u (sym (before_.1 t y now is) ∙ ap (names_in v) (sym same) ∙ before_.1 u x there named_)

missing_named : (v w : Contents) (u : Ref) → v (Table u) ≡ None → ((n : Name) → w (TableName n) ≡ v (TableName n)) → ((t : Ref) → w (Table t) ≡ (if same_ref u t then None else v (Table t))) → Holds_ v → Holds_ w
unfolding IsNamed IsMeant
missing_named v w u none names all before_ = (
  (λ m t now. let by = missing_by (tables_in v) u t (same_ref u t) m refl none (before_.0 m t (sym (names m) ∙ now)) in record { state = by.0; there = all t ∙ by.1; named = by.2; same = by.3 }),
  (λ t y now is. names y.name ∙ before_.1 t y (was_there (same_ref u t) (v (Table t)) y (sym (all t) ∙ now)) is),
)

-- ---- what is found

found_some : (t : Ref) (o : Option tables.Table) (f : Found) → as_found t o ≡ Some f → (t ≡ f.ref) × (o ≡ Some f.table)
found_some t None f now = absurd cc
found_some t (Some x) f now =
    let is : record { ref = t; table = x } ≡ f = ap (λ o. unwrap_or o (record { ref = t; table = x })) now in
    (ap (λ g. g.ref) is, ap (λ g. Some g.table) is)

meant_some : (v : Contents) (o : Option Ref) (f : Found) → meant v o ≡ Some f → (o ≡ Some f.ref) × (v (Table f.ref) ≡ Some f.table)
meant_some v None f now = absurd cc
meant_some v (Some t) f now =
    let is = found_some t (v (Table t)) f now in
    (ap Some is.0, ap (λ u. v (Table u)) (sym is.0) ∙ is.1)

unnamed_if : (g f : Found) (b : Bool) → g.table.is_named ≡ b → (if b then None else Some g) ≡ Some f → (g ≡ f) × (g.table.is_named ≡ false)
unnamed_if g f true is now = absurd cc
unnamed_if g f false is now = (ap (λ o. unwrap_or o g) now, is)

unnamed_some : (t : Ref) (o : Option tables.Table) (f : Found) → unless_named (as_found t o) ≡ Some f → (t ≡ f.ref) × (o ≡ Some f.table) × (f.table.is_named ≡ false)
unnamed_some t None f now = absurd cc
unnamed_some t (Some x) f now =
    let is = unnamed_if (record { ref = t; table = x }) f x.is_named refl now in
    (ap (λ g. g.ref) is.0, ap (λ g. Some g.table) is.0, ap (λ g. g.table.is_named) (sym is.0) ∙ is.1)

pub found_there : (v : Contents) (argument : TableArgument) (f : Found) → find v argument ≡ Some f → v (Table f.ref) ≡ Some f.table
found_there v (ByName n) f now = (meant_some v (v (TableName n)) f now).1
found_there v (ByReference t) f now = let is = unnamed_some t (v (Table t)) f now in ap (λ u. v (Table u)) (sym is.0) ∙ is.1
found_there v ByNothing f now = absurd cc

-- ---- calls

freed_at : (b : Bool) (name m : Name) (w : Contents) → after (if b then TableNameCleared name ∷ [] else []) w (TableName m) ≡ (if b && same_name name m then None else w (TableName m))
freed_at true name m w = refl
freed_at false name m w = refl

freed_table : (b : Bool) (name : Name) (w : Contents) (t : Ref) → after (if b then TableNameCleared name ∷ [] else []) w (Table t) ≡ w (Table t)
freed_table true name w t = refl
freed_table false name w t = refl

heirs_named : (u : Ref) (hs : List Heir) (w : Contents) → Holds_ w → Holds_ (after (map (HeirSet u) hs) w)
heirs_named u [] w before_ = before_
heirs_named u (h ∷ hs) w before_ = heirs_named u hs (changed (HeirSet u h) w) (alters_named w (changed (HeirSet u h) w) u (with_heir h) (heir_keeps h) (λ n. refl) (λ t. refl) before_)

set_named : (u : Ref) (hs : List Heir) (w : Contents) → Holds_ w → Holds_ (after (heirs_set u hs) w)
set_named u [] w before_ = same_named w (changed (CellTouched (Table u)) w) (λ n. refl) (λ t. either_way (same_ref u t) (w (Table t))) before_
set_named u (h ∷ hs) w before_ = heirs_named u (h ∷ hs) w before_

line_named : (v w : Contents) (p : Pid) (f : Found) (call : TableCall) → w (Table f.ref) ≡ Some f.table → Holds_ w → Holds_ (after (table_line v p f call).changes w)
line_named v w p f DeleteTable there before_ = goes_named w (after (table_line v p f DeleteTable).changes w) f.ref f.table (λ y is. let same = table_is y f.table (sym is ∙ there) in (ap (λ x. x.name) same, ap (λ x. x.is_named) same)) (alone_there w f.ref f.table there before_) (λ m. freed_at f.table.is_named f.table.name m (after (TableRemoved f.ref ∷ RowsCleared f.ref ∷ OwnedRemoved f.table.owner f.ref ∷ []) w)) (λ t. freed_table f.table.is_named f.table.name (after (TableRemoved f.ref ∷ RowsCleared f.ref ∷ OwnedRemoved f.table.owner f.ref ∷ []) w) t) before_
line_named v w p f (GiveAway None gift_) there before_ = before_
line_named v w p f (GiveAway (Some to) gift_) there before_ = alters_named w (after (table_line v p f (GiveAway (Some to) gift_)).changes w) f.ref (owned_by to) (owner_keeps to) (λ n. refl) (λ t. refl) before_
line_named v w p f (SetOptions None) there before_ = set_named f.ref [] w before_
line_named v w p f (SetOptions (Some hs)) there before_ = set_named f.ref hs w before_
line_named v w p f call there before_ =
    let off : (c : Cell) → is_among (table_sorts call) c ≡ false → after (table_line v p f call).changes w c ≡ w c = λ c other. stays (table_line v p f call).changes w c (untouched_by (table_sorts call) (table_line v p f call).changes c (table_among v p f call) other) in
    same_named w (after (table_line v p f call).changes w) (λ n. off (TableName n) refl) (λ t. off (Table t) refl) before_

found_named : (v w : Contents) (p : Pid) (call : TableCall) (o : Option Found) → ((f : Found) → o ≡ Some f → w (Table f.ref) ≡ Some f.table) → Holds_ w → Holds_ (after (found_line v p call o).changes w)
found_named v w p call None there before_ = before_
found_named v w p call (Some f) there before_ = line_named v w p f call (there f refl) before_

-- a new table
new_at : (b : Bool) (name m : Name) (u : Ref) (w : Contents) → after (means_if b name u) w (TableName m) ≡ (if b && same_name name m then Some u else w (TableName m))
new_at true name m u w = refl
new_at false name m u w = refl

new_table : (b : Bool) (name : Name) (u t : Ref) (w : Contents) → after (means_if b name u) w (Table t) ≡ w (Table t)
new_table true name u t w = refl
new_table false name u t w = refl

made_by_name : (w : Contents) (x : tables.Table) (u t : Ref) (m : Name) (b d : Bool) → (x.is_named && same_name x.name m) ≡ b → same_ref u t ≡ d → w (Table u) ≡ None → (if b then Some u else w (TableName m)) ≡ Some t → (w (TableName m) ≡ Some t → IsNamedBy (tables_in w) m t) → (y : tables.Table) × ((if d then Some x else w (Table t)) ≡ Some y) × (y.is_named ≡ true) × (y.name ≡ m)
made_by_name w x u t m true true is same none now was =
    let parts = both x.is_named (same_name x.name m) is in
    (x, refl, parts.0, pids_same x.name m parts.1)
made_by_name w x u t m true false is same none now was = absurd (true≢false (sym (ap (same_ref u) (ap (λ o. unwrap_or o u) (sym now)) ∙ ref_itself u) ∙ same))
made_by_name w x u t m false true is same none now was = absurd (no_some (sym none ∙ ap (tables_in w) (refs_same u t same) ∙ (was now).there))
made_by_name w x u t m false false is same none now was = let is_ = was now in (is_.state, is_.there, is_.named, is_.same)

meant_by_name : (w : Contents) (x y : tables.Table) (u t : Ref) (b d : Bool) → same_ref u t ≡ b → (x.is_named && same_name x.name y.name) ≡ d → (x.is_named ≡ true → w (TableName x.name) ≡ None) → (if b then Some x else w (Table t)) ≡ Some y → y.is_named ≡ true → (w (Table t) ≡ Some y → w (TableName y.name) ≡ Some t) → (if d then Some u else w (TableName y.name)) ≡ Some t
meant_by_name w x y u t true true same is free now named_ was = ap Some (refs_same u t same)
meant_by_name w x y u t true false same is free now named_ was =
    let equal = table_is x y now in
    absurd (true≢false (sym (ap (λ b. b && same_name x.name y.name) (ap (λ q. q.is_named) equal ∙ named_) ∙ ap (same_name x.name) (ap (λ q. q.name) (sym equal)) ∙ pid_itself x.name) ∙ is))
meant_by_name w x y u t false true same is free now named_ was =
    let parts = both x.is_named (same_name x.name y.name) is in
    absurd (no_some (sym (free parts.0) ∙ ap (names_in w) (pids_same x.name y.name parts.1) ∙ was now))
meant_by_name w x y u t false false same is free now named_ was = was now

-- a name that a new table is to be found by is free
taken_by : (b : Bool) (o : Option Ref) → b ≡ true → option_map (by_rule None) (name_taken b o) ≡ None → o ≡ None
taken_by true None named_ none = refl
taken_by true (Some t) named_ none = absurd cc
taken_by false o named_ none = absurd (true≢false (sym named_))

made_named : (p : Pid) (u : Ref) (name : Name) (options : Option (List TableOption)) (o : Option Ref) (w : Contents) → w (TableName name) ≡ o → (new_line p u name options (new_rule options o)).refusal ≡ None → w (Table u) ≡ None → Holds_ w → Holds_ (after (new_line p u name options (new_rule options o)).changes w)
unfolding IsNamed IsMeant
made_named p u name None o w there none no_table before_ = before_
made_named p u name (Some os) o w there none no_table before_ =
    let x = table_of p name os in
    let was = after (TableSet u x ∷ OwnedAdded p u ∷ []) w in (
      (λ m t now.
          let by = made_by_name w x u t m (is_named os && same_name name m) (same_ref u t) refl refl no_table (sym (new_at (is_named os) name m u was) ∙ now) (before_.0 m t) in
          record { state = by.0; there = new_table (is_named os) name u t was ∙ by.1; named = by.2; same = by.3 }),
      (λ t y now is. new_at (is_named os) name y.name u was ∙ meant_by_name w x y u t (same_ref u t) (is_named os && same_name name y.name) refl refl (λ named_. there ∙ taken_by (is_named os) o named_ none) (sym (new_table (is_named os) name u t was) ∙ now) is (λ old. before_.1 t y old is)),
    )

call_named : (v w : Contents) (p : Pid) (call : Call) → (line v p call).refusal ≡ None → ((n : Name) → w (TableName n) ≡ v (TableName n)) → ((argument : TableArgument) (f : Found) → find v argument ≡ Some f → w (Table f.ref) ≡ Some f.table) → w (Table (next_ref v p)) ≡ None → Holds_ w → Holds_ (after (line v p call).changes w)
call_named v w p (New None options) served names there none before_ = before_
call_named v w p (New (Some name) options) served names there none before_ = made_named p (next_ref v p) name options (v (TableName name)) w (names name) served none before_
call_named v w p (OnTable argument call) served names there none before_ = found_named v w p call (find v argument) (λ f is. there argument f is) before_
call_named v w p call served names there none before_ = same_named w (after (line v p call).changes w) (λ n. call_leaves v w p call (TableName n) refl) (λ t. call_leaves v w p call (Table t) refl) before_

-- ---- ends

-- the tables that are there have the names that they had when the process died
AreOf : Contents → Contents → Type 0
AreOf v w = (t : Ref) (y : tables.Table) → w (Table t) ≡ Some y → (x : tables.Table) × (v (Table t) ≡ Some x) × (y.name ≡ x.name) × (y.is_named ≡ x.is_named)

of_gone : (v w : Contents) (u t : Ref) (b : Bool) (y : tables.Table) → AreOf v w → (if b then None else w (Table t)) ≡ Some y → (x : tables.Table) × (v (Table t) ≡ Some x) × (y.name ≡ x.name) × (y.is_named ≡ x.is_named)
unfolding AreOf
of_gone v w u t true y of now = absurd (no_some now)
of_gone v w u t false y of now = of t y now

of_passed : (v w : Contents) (h : Pid) (t : Ref) (b : Bool) (o : Option tables.Table) (y : tables.Table) → o ≡ w (Table t) → AreOf v w → (if b then option_map (owned_by h) o else o) ≡ Some y → (x : tables.Table) × (v (Table t) ≡ Some x) × (y.name ≡ x.name) × (y.is_named ≡ x.is_named)
unfolding AreOf
of_passed v w h t true None y same of now = absurd (no_some now)
of_passed v w h t true (Some z) y same of now =
    let was = of t z (sym same) in
    let is = table_is (owned_by h z) y now in
    (was.0, was.1, ap (λ q. q.name) (sym is) ∙ was.2, ap (λ q. q.is_named) (sym is) ∙ was.3)
of_passed v w h t false o y same of now = of t y (sym same ∙ now)

record Both (v w : Contents) : Type 0 where
  named : Holds_ w
  of : AreOf v w

-- what has a table's name now had it when the process died, and then it was alone
alone_of : (v w : Contents) (u : Ref) (x : tables.Table) → v (Table u) ≡ Some x → Holds_ v → AreOf v w → Alone w u x
unfolding AreOf Alone
alone_of v w u x there before_ of = λ t y now is named_ same.
    let was = of t y now in
    alone_there v u x there before_ t was.0 was.1 (sym was.3 ∙ is) named_ (same ∙ was.2)

one_goes : (v w : Contents) (p : Pid) (u : Ref) (x : tables.Table) (heir : Heir) → v (Table u) ≡ Some x → Holds_ v → Both v w → Both v (after (passed p u x heir) w)
unfolding AreOf
one_goes v w p u x None is held was = record {
  named = goes_named w (after (passed p u x None) w) u x
      (λ y there. let by = was.of u y there in let same = table_is by.0 x (sym by.1 ∙ is) in (by.2 ∙ ap (λ q. q.name) same, by.3 ∙ ap (λ q. q.is_named) same))
      (alone_of v w u x is held was.of)
      (λ m. freed_at x.is_named x.name m (after (TableRemoved u ∷ RowsCleared u ∷ []) w))
      (λ t. freed_table x.is_named x.name (after (TableRemoved u ∷ RowsCleared u ∷ []) w) t) was.named;
  of = λ t y now. of_gone v w u t (same_ref u t) y was.of (sym (freed_table x.is_named x.name (after (TableRemoved u ∷ RowsCleared u ∷ []) w) t) ∙ now);
}
one_goes v w p u x (Some heir) is held was = record {
  named = alters_named w (after (passed p u x (Some heir)) w) u (owned_by heir.0) (owner_keeps heir.0) (λ n. refl) (λ t. refl) was.named;
  of = λ t y now. of_passed v w heir.0 t (same_ref u t) (w (Table t)) y refl was.of now;
}

not_there_by : (v w : Contents) (u : Ref) (o : Option tables.Table) → v (Table u) ≡ None → AreOf v w → w (Table u) ≡ o → o ≡ None
unfolding AreOf
not_there_by v w u None none of now = refl
not_there_by v w u (Some y) none of now = absurd (no_some (sym none ∙ (of u y now).1))

not_there : (v w : Contents) (u : Ref) → v (Table u) ≡ None → AreOf v w → w (Table u) ≡ None
not_there v w u none of = not_there_by v w u (w (Table u)) none of refl

one_of_ends : (v w : Contents) (p : Pid) (u : Ref) (o : Option tables.Table) → v (Table u) ≡ o → Holds_ v → Both v w → Both v (after (table_passes v p u o) w)
unfolding AreOf
one_of_ends v w p u None is held was = record {
  named = missing_named w (after (table_passes v p u None) w) u (not_there v w u is was.of) (λ n. refl) (λ t. refl) was.named;
  of = λ t y now. of_gone v w u t (same_ref u t) y was.of now;
}
one_of_ends v w p u (Some x) is held was = one_goes v w p u x (living_heir v x.heir) is held was

all_of_ends : (v w : Contents) (p : Pid) (ts : List Ref) → Holds_ v → Both v w → Both v (after (tables_pass v p ts) w)
all_of_ends v w p [] held was = was
all_of_ends v w p (t ∷ ts) held was =
    let one = one_of_ends v w p t (v (Table t)) refl held was in
    subst (Both v) (λ i c. sym (after_both (table_passes v p t (v (Table t))) (tables_pass v p ts) w c) i) (all_of_ends v (after (table_passes v p t (v (Table t))) w) p ts held one)

itself_of : (v : Contents) → AreOf v v
unfolding AreOf
itself_of v t y now = (y, now, refl, refl)

end_named : (v w : Contents) (p : Pid) (reason : Meaning) → ((n : Name) → w (TableName n) ≡ v (TableName n)) → ((t : Ref) → w (Table t) ≡ v (Table t)) → Holds_ v → Holds_ (after (ends v p reason) w)
unfolding AreOf
end_named v w p reason names all before_ =
    let dead = changed (AliveCleared p) v in
    let now = changed (AliveCleared p) (changed (MachineHalted p reason) w) in
    let same : Holds_ now = same_named v now names all before_ in
    let passed_ = all_of_ends dead now p (dead (Owned p)) (same_named v dead (λ n. refl) (λ t. refl) before_) (record { named = same; of = λ t y there. (y, sym (all t) ∙ there, refl, refl) }) in
    same_named (after (tables_pass dead p (dead (Owned p))) now) (after (ends v p reason) w) (λ n. rest_off (TableName n) dead now p reason refl) (λ t. rest_off (Table t) dead now p reason refl) passed_.named

-- ---- every event, and every run

fate_named : (v w : Contents) (r : Pid) (f : Fate) → ((n : Name) → w (TableName n) ≡ v (TableName n)) → ((t : Ref) → w (Table t) ≡ v (Table t)) → Holds_ v → Holds_ (after (changes_of_fate v r f) w)
fate_named v w r (Arrives m) names all before_ = same_named v (after (changes_of_fate v r (Arrives m)) w) names all before_
fate_named v w r IsIgnored names all before_ = same_named v w names all before_
fate_named v w r IsDropped names all before_ = same_named v w names all before_
fate_named v w r (Kills reason) names all before_ = end_named v w r reason names all before_

event_named : (v : Contents) (step : Step) (deed : Deed) → Unrefused v step deed → ((p : Pid) → v (Table (next_ref v p)) ≡ None) → Holds_ v → Holds_ (after (changes_by v step deed) v)
event_named v (Turn p) (Served kind arguments answer) served free before_ = call_named v _ p (call_of kind arguments) (served p kind arguments answer refl refl) (λ n. refl) (λ argument f is. found_there v argument f is) (free p) before_
event_named v (Turn p) (Refused kind arguments refusal) served free before_ = before_
event_named v (Turn p) (EndedItself kind arguments reason) served free before_ = end_named v _ p reason (λ n. refl) (λ t. refl) before_
event_named v (Turn p) (Received m) served free before_ = before_
event_named v (Turn p) TimedOut served free before_ = before_
event_named v (Turn p) (Ended reason) served free before_ = end_named v _ p reason (λ n. refl) (λ t. refl) before_
event_named v (Turn p) RanAway served free before_ = end_named v _ p runaway (λ n. refl) (λ t. refl) before_
event_named v (Turn p) (Delivered x f) served free before_ = before_
event_named v (Deliver s r) (Delivered x f) served free before_ =
    let ks = goes_with v s r x in
    let w = changed (SignalDelivered s r) v in
    let mid = same_named v (after ks v) (λ n. stays ks v (TableName n) (goes_off v s r x (TableName n) refl)) (λ t. stays ks v (Table t) (goes_off v s r x (Table t) refl)) before_ in
    subst Holds_ (λ i c. sym (after_both ks (changes_of_fate (after ks v) r f) w c) i)
    (fate_named (after ks v) (after ks w) r f (λ n. follows ks w v (TableName n) refl) (λ t. follows ks w v (Table t) refl) mid)
event_named v (Deliver s r) deed served free before_ = before_

run_named : (a : Program) (h : History) → IsRun a h → Holds_ (contents h)
unfolding contents IsNamed IsMeant
run_named a [] is = ((λ name t now. absurd (no_some now)), (λ t y now named_. absurd (no_some now)))
run_named a (e ∷ h) is = event_named (contents h) e.step e.deed (unrefused_in a h e.step e is.0) (λ p. (names_new a h p (turns h p + 1) is.1 (omega arith)).table) (run_named a h is.1)

pub names_mean_theirs : NamesMeanTheirs
unfolding IsNamed
names_mean_theirs a h name t is now =
    let by = (run_named a h is).0 name t now in
    (by.state, by.there, by.named, by.same)

-- ---- no two arguments find one table

name_by : (h : History) (n : Name) (f : Found) → found h (ByName n) ≡ Some f → contents h (TableName n) ≡ Some f.ref
name_by h n f now = (meant_some (contents h) (contents h (TableName n)) f now).0

unnamed_by : (h : History) (t : Ref) (f : Found) → found h (ByReference t) ≡ Some f → (t ≡ f.ref) × (f.table.is_named ≡ false)
unnamed_by h t f now = let is = unnamed_some t (contents h (Table t)) f now in (is.0, is.2)

apart : (a : Program) (h : History) (n : Name) (t : Ref) (f g : Found) → IsRun a h → found h (ByName n) ≡ Some f → found h (ByReference t) ≡ Some g → f.ref ≡ g.ref → ⊥
apart a h n t f g is one other same =
    let mine = names_mean_theirs a h n f.ref is (name_by h n f one) in
    let there = found_there (contents h) (ByReference t) g other in
    let equal = table_is mine.0 g.table (sym mine.1 ∙ ap (λ u. contents h (Table u)) same ∙ there) in
    true≢false (sym mine.2 ∙ ap (λ x. x.is_named) equal ∙ (unnamed_by h t g other).1)

pub finds_one : FindsOne
finds_one a h (ByName n) (ByName m) f g is one other same =
    let mine = names_mean_theirs a h n f.ref is (name_by h n f one) in
    let theirs = names_mean_theirs a h m g.ref is (name_by h m g other) in
    let equal = table_is mine.0 theirs.0 (sym mine.1 ∙ ap (λ u. contents h (Table u)) same ∙ theirs.1) in
    ap ByName (sym mine.3 ∙ ap (λ x. x.name) equal ∙ theirs.3)
finds_one a h (ByName n) (ByReference t) f g is one other same = absurd (apart a h n t f g is one other same)
finds_one a h (ByReference t) (ByName n) f g is one other same = absurd (apart a h n t g f is other one (sym same))
finds_one a h (ByReference t) (ByReference u) f g is one other same = ap ByReference ((unnamed_by h t f one).0 ∙ same ∙ sym (unnamed_by h u g other).0)
finds_one a h ByNothing b f g is one other same = absurd cc
finds_one a h b ByNothing f g is one other same = absurd cc

-- ---- each table that is there is found, and what is found is there

found_by : (h : History) (t : Ref) (x : tables.Table) (b : Bool) → x.is_named ≡ b → contents h (Table t) ≡ Some x → (b ≡ true → contents h (TableName x.name) ≡ Some t) → found h (if b then ByName x.name else ByReference t) ≡ Some (record { ref = t; table = x })
found_by h t x true named_ there meant_ = ap (meant (contents h)) (meant_ refl) ∙ ap (as_found t) there
found_by h t x false named_ there meant_ = ap (λ o. unless_named (as_found t o)) there ∙ ap (λ b. if b then None else Some (record { ref = t; table = x })) named_

pub tables_found : TablesAreFound
unfolding IsMeant
tables_found a h t x is there = found_by h t x x.is_named refl there (λ named_. (run_named a h is).1 t x there named_)

pub found_are_there : FoundAreThere
found_are_there a h (ByName n) f is now =
    let mine = names_mean_theirs a h n f.ref is (name_by h n f now) in
    let there = found_there (contents h) (ByName n) f now in
    let same = table_is mine.0 f.table (sym mine.1 ∙ there) in
    (there, ap (λ b. if b then ByName f.table.name else ByReference f.ref) (ap (λ x. x.is_named) (sym same) ∙ mine.2) ∙ ap ByName (ap (λ x. x.name) (sym same) ∙ mine.3))
found_are_there a h (ByReference t) f is now =
    let un = unnamed_by h t f now in
    (found_there (contents h) (ByReference t) f now, ap (λ b. if b then ByName f.table.name else ByReference f.ref) un.1 ∙ ap ByReference (sym un.0))
found_are_there a h ByNothing f is now = absurd cc
