-- Tables that are compared as the same are the same.
use Rattle.std.proofs.Common.{◌≡◌, ◌&&◌, Bool, true, false, not, Global, List, [], ◌∷◌, Option, Some, ℕ, bytes_eq, cond, refl, sym, ap, subst, ◌∙◌}
use Rattle.std.specs.Prelude.{option_map}
use Rattle.std.proofs.lemmas.Slice.Eq.{bytes_eq-Decides}
use Rattle.std.specs.BTreeMap.{BTreeMap, get, is_at}
use Rattle.std.specs.Cmp.Lexicographic.{pointwise}
use Rattle.std.specs.Map.{lookup}
use Rattle.std.specs.Ordering.{eq_by_cmp}
use Rattle.std.specs.declared.sync.Arc.{Arc}
use Rattle.term_core.proofs.Equality.{reference_ids_same}
use Rattle.term_core.specs.Order.{order_of_lists}
use Rattle.term_core.specs.StepOrder.{order_of_reference_ids}
use Rattle.world_model.specs.Cells.{Contents}
use Rattle.world_model.specs.Names.{Name, ref_of}
use Rattle.world_model.specs.Rows.{under}
use Rattle.ets_store.specs.Tables.{IsSameTable}
use Rattle.ets_store.specs.declared.table.Table.{Table}
use Rattle.proc_groups.proofs.Alike.{entries_told}
use Rattle.proc_groups.proofs.Referring.{Id}
use Rattle.ets_tables.specs.Shelves.{AreSame, AreShelved}
use Rattle.ets_tables.specs.inside.Alike.{AreSameTables}
use Rattle.ets_tables.specs.declared.shelves.Shelves.{Shelves}
use Rattle.ets_tables.proofs.Shelving.{table_in, rows_in}

pub not_off : (b : Bool) → false ≡ not b → b ≡ true
not_off true e = refl
not_off false e = cc

abbrev Entry : Type 0
Entry = Option (Arc Table Global)

-- the same settings and the same rows are shown
abbrev pub ShowTheSame : Entry → Entry → Type 0
ShowTheSame a b = (table_in b ≡ table_in a) × (rows_in b ≡ rows_in a)

either : (b : Bool) (s t : Arc Table Global) (o r : Entry) → IsSameTable s.value t.value → ShowTheSame o r → ShowTheSame (cond b (Some s) o) (cond b (Some t) r)
either true s t o r here others = (ap Some here.settings, ap (λ rows. rows.rows) here.rows)
either false s t o r here others = others

pub tables_told : (x : Id) (es fs : List (Id × Arc Table Global)) → AreSameTables es fs → ShowTheSame (lookup (is_at (order_of_reference_ids x)) es) (lookup (is_at (order_of_reference_ids x)) fs)
tables_told x [] [] same = (refl, refl)
tables_told x [] (g ∷ gs) same = absurd same
tables_told x (f ∷ fs) [] same = absurd same
tables_told x (f ∷ fs) (g ∷ gs) same =
    let others = lookup (is_at (order_of_reference_ids x)) fs in
    let rest = lookup (is_at (order_of_reference_ids x)) gs in
    subst (λ k. ShowTheSame (cond (is_at (order_of_reference_ids x) f.0) (Some f.1) others) (cond (is_at (order_of_reference_ids x) k) (Some g.1) rest)) same.0
    (either (is_at (order_of_reference_ids x) f.0) f.1 g.1 others rest same.1 (tables_told x fs gs same.2))

pub names_told : (a b : BTreeMap (List ℕ) Id) → pointwise (λ p q. bytes_eq p.0 q.0 && eq_by_cmp order_of_reference_ids p.1 q.1) a.entries b.entries ≡ true → (name : Name) → option_map ref_of (get order_of_lists b name) ≡ option_map ref_of (get order_of_lists a name)
names_told a b e name =
    ap (λ es. option_map ref_of (lookup (is_at (order_of_lists name)) es))
    (sym (entries_told bytes_eq (eq_by_cmp order_of_reference_ids) (λ x y. (bytes_eq-Decides x y).0) (λ x y. (reference_ids_same x y _ refl).0) a.entries b.entries e))

-- what the others hold
pub shelved_too : (one other : Shelves) (v : Contents) → AreSame one other → AreShelved other v → AreShelved one v
shelved_too one other v same are = record {
  tables = λ t. sym (same.tables t) ∙ are.tables t;
  rows = λ t. sym (same.rows t) ∙ are.rows t;
  each_row = λ t key. ap (λ rows. under rows key) (sym (same.rows t)) ∙ are.each_row t key;
  names = λ name. sym (same.names name) ∙ are.names name;
  owned = λ p. sym (same.owned p) ∙ are.owned p;
}
