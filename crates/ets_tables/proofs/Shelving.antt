-- What is on the shelves after one change.
use Rattle.std.proofs.Common.{◌≡◌, ◌⊎◌, inl, inr, Bool, true, false, cond, Global, List, [], ◌∷◌, Option, Some, None, IsSome, map, bytes_eq, if◌then◌else◌, refl, sym, ap, subst, ◌∙◌}
use Rattle.std.specs.Prelude.{option_map}
use Rattle.std.specs.List.{AllZip}
use Rattle.std.specs.Map.{lookup}
use Rattle.std.specs.BTreeMap.{BTreeMap, get, is_at, WritesThrough}
use Rattle.std.specs.declared.sync.Arc.{Arc}
use Rattle.std.proofs.lemmas.Map.Text.{is_eq-slice_cmp}
use Rattle.term_core.specs.Order.{order_of_lists}
use Rattle.term_core.specs.StepOrder.{order_of_reference_ids}
use Rattle.world_model.specs.Names.{Name, Pid, Ref, same_name, same_ref, ref_of}
use Rattle.world_model.specs.Rows.{Rows}
use Rattle.world_model.specs.Tables as tables
use Rattle.world_model.proofs.Meeting as meeting
use Rattle.ets_store.specs.Tables.{settings_in}
use Rattle.ets_store.specs.declared.table.Table.{Table}
use Rattle.proc_groups.specs.Groups.{members_in}
use Rattle.proc_groups.specs.declared.groups.Groups.{Groups}
use Rattle.proc_groups.proofs.Grouping.{same_either}
use Rattle.proc_groups.proofs.Referring.{Id, refs_same, map_if}
use Rattle.ets_tables.specs.Shelves.{AreSame, IsAltered, IsMeant, IsOwned, MeanTheSame, named_in, table_on, rows_on, rows_of}
use Rattle.ets_tables.specs.declared.name_map.NameMap.{NameMap}
use Rattle.ets_tables.specs.declared.shelves.Shelves.{Shelves}

abbrev pub Entries : Type 0
Entries = BTreeMap Id (Arc Table Global)

-- a map from references with another value at one, or none
abbrev pub HasAt : {X : Type 0} → BTreeMap Id X → Id → Option X → BTreeMap Id X → Type 0
HasAt m x w n = (q : Id) → get order_of_reference_ids n q ≡ cond (is_at (order_of_reference_ids x) q) w (get order_of_reference_ids m q)

-- what is shown of the entry at a reference
pub shown_at : {Y : Type 0} (shown : Option (Arc Table Global) → Y) (m n : Entries) (x : Id) (w : Option (Arc Table Global)) (f : Y → Y)
    → HasAt m x w n → shown w ≡ f (shown (get order_of_reference_ids m x))
    → (u : Ref) → shown (get order_of_reference_ids n (u.pid, u.number)) ≡ (if same_ref (ref_of x) u then f (shown (get order_of_reference_ids m (u.pid, u.number))) else shown (get order_of_reference_ids m (u.pid, u.number)))
shown_at shown m n x w f has is u =
    ap shown (has (u.pid, u.number) ∙ ap (λ b. cond b w (get order_of_reference_ids m (u.pid, u.number))) (refs_same x (u.pid, u.number)))
    ∙ elim (same_ref (ref_of x) u) as (λ b. same_ref (ref_of x) u ≡ b → shown (cond b w (get order_of_reference_ids m (u.pid, u.number))) ≡ (if b then f (shown (get order_of_reference_ids m (u.pid, u.number))) else shown (get order_of_reference_ids m (u.pid, u.number)))) [
      | true ↦ λ e. is ∙ ap (λ (r : Ref). f (shown (get order_of_reference_ids m (r.pid, r.number)))) (meeting.refs_same (ref_of x) u e)
      | false ↦ λ e. refl
    ] refl

abbrev pub table_in : Option (Arc Table Global) → Option tables.Table
table_in entry = option_map settings_in (option_map (λ e. e.value) entry)

abbrev pub rows_in : Option (Arc Table Global) → Rows
rows_in entry = rows_of (option_map (λ e. e.value) entry)

-- the shelves with other tables
pub altered_at : (old : Shelves) (n : Entries) (x : Id) (w : Option (Arc Table Global)) (f : Option tables.Table → Option tables.Table) (g : Rows → Rows)
    → HasAt old.tables x w n → table_in w ≡ f (table_on old (ref_of x)) → rows_in w ≡ g (rows_on old (ref_of x))
    → IsAltered (ref_of x) f g old (record old { tables = n })
altered_at old n x w f g has is is_rows = record {
  tables = shown_at table_in old.tables n x w f has is;
  rows = shown_at rows_in old.tables n x w g has is_rows;
  names = λ _. refl;
  owned = λ _. refl;
}

-- what was written through a loan of the entry
pub written : (m n : Entries) (x : Id) (s before : Arc Table Global) → Some before ≡ get order_of_reference_ids m x → WritesThrough order_of_reference_ids (order_of_reference_ids x) m s n → HasAt m x (Some s) n
written m n x s before there writes = (writes.3 (subst IsSome there refl)).0

pub rewritten : (old : Shelves) (n : Entries) (x : Id) (s before : Arc Table Global) (f : tables.Table → tables.Table) → Some before ≡ get order_of_reference_ids old.tables x
    → WritesThrough order_of_reference_ids (order_of_reference_ids x) old.tables s n → settings_in s.value ≡ f (settings_in before.value) → s.value.rows ≡ before.value.rows
    → IsAltered (ref_of x) (option_map f) (λ rows. rows) old (record old { tables = n })
rewritten old n x s before f there writes settings rows =
    altered_at old n x (Some s) (option_map f) (λ r. r) (written old.tables n x s before there writes)
    (ap Some settings ∙ ap (λ o. option_map f (table_in o)) there) (ap (λ r. r.rows) rows ∙ ap rows_in there)

-- a table that is written with what it was
pub unaltered : (old : Shelves) (n : Entries) (x : Id) (s before : Arc Table Global) → Some before ≡ get order_of_reference_ids old.tables x
    → WritesThrough order_of_reference_ids (order_of_reference_ids x) old.tables s n → settings_in s.value ≡ settings_in before.value → s.value.rows ≡ before.value.rows
    → AreSame old (record old { tables = n })
unaltered old n x s before there writes settings rows =
    let altered = altered_at old n x (Some s) (λ o. o) (λ r. r) (written old.tables n x s before there writes) (ap Some settings ∙ ap table_in there) (ap (λ r. r.rows) rows ∙ ap rows_in there) in
    record {
      tables = λ u. altered.tables u ∙ same_either (same_ref (ref_of x) u) (table_on old u);
      rows = λ u. altered.rows u ∙ same_either (same_ref (ref_of x) u) (rows_on old u);
      names = λ _. refl;
      owned = λ _. refl;
    }

-- where there is no table, a change of it leaves all as it was
pub nothing_altered : (old : Shelves) (x : Id) (f : tables.Table → tables.Table) → get order_of_reference_ids old.tables x ≡ None → IsAltered (ref_of x) (option_map f) (λ rows. rows) old old
nothing_altered old x f none = record {
  tables = λ u. elim (same_ref (ref_of x) u) as (λ b. same_ref (ref_of x) u ≡ b → table_on old u ≡ (if b then option_map f (table_on old u) else table_on old u)) [
    | true ↦ λ e. gone u e ∙ sym (ap (option_map f) (gone u e))
    | false ↦ λ e. refl
  ] refl;
  rows = λ u. sym (same_either (same_ref (ref_of x) u) (rows_on old u));
  names = λ _. refl;
  owned = λ _. refl;
} where
  gone : (u : Ref) → same_ref (ref_of x) u ≡ true → table_on old u ≡ None
  gone u e = ap (λ (r : Ref). table_on old r) (sym (meeting.refs_same (ref_of x) u e)) ∙ ap table_in none

over_if : {A B : Type 0} (f : A → B) (b : Bool) (x y : Option A) → option_map f (cond b x y) ≡ (if b then option_map f x else option_map f y)
over_if f true x y = refl
over_if f false x y = refl

-- a map of names with another value at one, or none
pub named_at : (m n : BTreeMap Name Id) (k : Name) (w : Option Id) → ((q : Name) → get order_of_lists n q ≡ cond (is_at (order_of_lists k) q) w (get order_of_lists m q))
    → (q : Name) → option_map ref_of (get order_of_lists n q) ≡ (if bytes_eq k q then option_map ref_of w else option_map ref_of (get order_of_lists m q))
named_at m n k w has q = ap (option_map ref_of) (has q ∙ ap (λ b. cond b w (get order_of_lists m q)) (is_eq-slice_cmp k q)) ∙ over_if ref_of (bytes_eq k q) w (get order_of_lists m q)

-- names that are lent are what they were, or a clone of it
pub same_names : (old now : NameMap) → (now ≡ old) ⊎ MeanTheSame old now → MeanTheSame old now
same_names old now (inl e) = λ q. ap (λ m. named_in m q) e
same_names old now (inr same) = same

-- the shelves with other names
pub meant_at : (old : Shelves) (lent left : NameMap) (n : Arc NameMap Global) (k : Name) (t : Option Ref) → MeanTheSame old.names.value lent → ((q : Name) → named_in left q ≡ (if same_name k q then t else named_in lent q)) → n.value ≡ left → IsMeant k t old (record old { names = n })
meant_at old lent left n k t same has is = record {
  tables = λ _. refl;
  rows = λ _. refl;
  names = λ q. ap (λ m. named_in m q) is ∙ has q ∙ ap (λ o. if same_name k q then t else o) (same q);
  owned = λ _. refl;
}

pub still_meant : (old : Shelves) (lent left : NameMap) (n : Arc NameMap Global) → MeanTheSame old.names.value lent → MeanTheSame lent left → n.value ≡ left → AreSame old (record old { names = n })
still_meant old lent left n same has is = record {
  tables = λ _. refl;
  rows = λ _. refl;
  names = λ q. ap (λ m. named_in m q) is ∙ has q ∙ same q;
  owned = λ _. refl;
}

-- each process has the same tables
abbrev pub HaveTheSame : Groups Id → Groups Id → Type 0
HaveTheSame old now = (q : Pid) → members_in now q ≡ members_in old q

pub same_groups : (old now : Groups Id) → (now ≡ old) ⊎ HaveTheSame old now → HaveTheSame old now
same_groups old now (inl e) = λ q. ap (λ g. members_in g q) e
same_groups old now (inr same) = same

-- the shelves with other owners
pub owned_at : (old : Shelves) (lent left : Groups Id) (n : Arc (Groups Id) Global) (p : Pid) (f : List Id → List Id) (g : List Ref → List Ref) → ((xs : List Id) → map ref_of (f xs) ≡ g (map ref_of xs)) → HaveTheSame old.owned.value lent
    → ((q : Pid) → members_in left q ≡ (if bytes_eq p q then f (members_in lent q) else members_in lent q)) → n.value ≡ left → IsOwned p g old (record old { owned = n })
owned_at old lent left n p f g alike same has is = record {
  tables = λ _. refl;
  rows = λ _. refl;
  names = λ _. refl;
  owned = λ q. ap (λ o. map ref_of (members_in o q)) is ∙ ap (map ref_of) (has q) ∙ map_if ref_of (bytes_eq p q) _ _ ∙ ap (λ zs. if bytes_eq p q then zs else map ref_of (members_in lent q)) (alike (members_in lent q))
      ∙ ap (λ xs. if bytes_eq p q then g (map ref_of xs) else map ref_of xs) (same q);
}

pub still_owned : (old : Shelves) (lent left : Groups Id) (n : Arc (Groups Id) Global) → HaveTheSame old.owned.value lent → HaveTheSame lent left → n.value ≡ left → AreSame old (record old { owned = n })
still_owned old lent left n same has is = record {
  tables = λ _. refl;
  rows = λ _. refl;
  names = λ _. refl;
  owned = λ q. ap (λ o. map ref_of (members_in o q)) is ∙ ap (map ref_of) (has q ∙ same q);
}

-- clones of entries that show the same
both_show : {X Y : Type 0} (shown : X → Y) (b : Bool) (x y : X) (o u : Option X) → shown x ≡ shown y → option_map shown o ≡ option_map shown u → option_map shown (cond b (Some x) o) ≡ option_map shown (cond b (Some y) u)
both_show shown true x y o u here there = ap Some here
both_show shown false x y o u here there = there

pub clones_show : {K X Y : Type 0} (shown : X → Y) (C : X → X → Type 0) → ((x y : X) → C x y → shown y ≡ shown x) → (es fs : List (K × X)) → AllZip (λ e f. (f.0 ≡ e.0) × C e.1 f.1) es fs
    → (test : K → Bool) → option_map shown (lookup test fs) ≡ option_map shown (lookup test es)
clones_show shown C same [] [] all test = refl
clones_show shown C same [] (f ∷ fs) all test = absurd all
clones_show shown C same (e ∷ es) [] all test = absurd all
clones_show shown C same (e ∷ es) (f ∷ fs) all test =
    ap (λ k. option_map shown (cond (test k) (Some f.1) (lookup test fs))) all.0.0 ∙ both_show shown (test e.0) f.1 e.1 _ _ (same e.1 f.1 all.0.1) (clones_show shown C same es fs all.1 test)
