use Rattle.std.proofs.Common.{◌≡◌, Some, IsSome, refl, ap, sym, subst, is_ok, ◌∙◌}
use Rattle.std.specs.Borrow.{MutBor}
use Rattle.ets_store.specs.Tables.{settings_in}
use Rattle.ets_store.specs.declared.table.Table.{Table}
use Rattle.world_model.specs.Names.{ref_of}
use Rattle.ets_tables.specs.Shelves.{AreSame, IsAltered, table_on, rows_on}
use Rattle.ets_tables.proofs.Following.{same_then, same_shelves}
use Rattle.ets_tables.proofs.Lending.{on_err_map, if_ok_map, altered_since}
use Rattle.ets_tables.proofs.registry.Registry.table_mut.Goals as goal

pub table_mut-requires : goal.table_mut-requires
table_mut-requires c = subst IsSome (sym ((same_shelves c.args.self.now.shelves.value c.in_ok-shelves.shelves.now c.in_ok-shelves.ensures.value).tables (ref_of c.args.id.now))) c.requires

pub returns : goal.returns
returns c =
    let old = c.args.self.now.shelves.value in
    let lent = c.in_ok-shelves.shelves.now in
    let t = ref_of c.args.id.now in
    let same = same_shelves old lent c.in_ok-shelves.ensures.value in
    let kept = c.table_mut.follows.lender-at-none in (
      (
        refl,
        λ w ok. subst (λ s. IsAltered t (λ _. Some (settings_in w)) (λ _. w.rows.rows) old s) (sym (c.make_mut.follows.holds (c.table_mut.follows.lender w) (ap is_ok c.in_ok-shelves.was)))
            (altered_since old lent (c.table_mut.follows.lender w) t (λ _. Some (settings_in w)) (λ _. w.rows.rows) same (c.table_mut.follows.holds w ok)),
        on_err_map c.table_mut.result (λ left. subst (λ s. AreSame old s) (sym (c.make_mut.follows.holds kept (ap is_ok c.in_ok-shelves.was))) (same_then old lent kept same left)) c.table_mut.follows.holds-at-none,
      ),
      record {
        writes_back = tt;
        table = if_ok_map (λ (r : MutBor Table). Some (settings_in r.now) ≡ table_on lent t) (λ r. Some (settings_in r.now) ≡ table_on old t) c.table_mut.result (λ r is. is ∙ same.tables t) c.table_mut.ensures.table;
        rows = if_ok_map (λ (r : MutBor Table). r.now.rows.rows ≡ rows_on lent t) (λ r. r.now.rows.rows ≡ rows_on old t) c.table_mut.result (λ r is. is ∙ same.rows t) c.table_mut.ensures.rows;
      },
    )
