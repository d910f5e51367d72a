use Rattle.std.proofs.Common.{◌≡◌, ◌∷◌, refl, sym, subst}
use Rattle.term_core.proofs.Equality.{reference_ids_same}
use Rattle.ets_store.specs.Tables.{IsSameTable}
use Rattle.ets_store.specs.declared.table.Table.{Table}
use Rattle.ets_tables.specs.inside.Alike.{AreSameTables}
use Rattle.ets_tables.proofs.Alike.{not_off}
use Rattle.ets_tables.proofs.sameness.same_tables.Goals as goal

pub loop-id-preserved : goal.loop-id-preserved
loop-id-preserved c = λ more.
    let one = c.in-Some-Some.table.now in
    let other = c.in-Some-Some.other_table.now in
    let ids : c.in-Some-Some.id.now ≡ c.in-Some-Some.other_id.now = (reference_ids_same c.in-Some-Some.id.now c.in-Some-Some.other_id.now _ refl).0 (not_off _ c.if-ne.ensures) in
    let tables : IsSameTable one.value other.value =
    subst (λ (t : Table). IsSameTable t other.value) c.deref.ensures (subst (λ (t : Table). IsSameTable c.deref.result.now t) c.deref-in-Some-Some.ensures (c.is_same.ensures c.if-not-is_same.false)) in
    c.loop-id.invariant
    (subst (λ es. AreSameTables es c.loop-id.right) (sym c.in-Some-Some.ensures.steps)
    (subst (λ fs. AreSameTables ((c.in-Some-Some.id.now, one) ∷ c.next.new.self) fs) (sym c.in-Some-Some.ensures'.steps) (ids, tables, more)))
