use Rattle.std.proofs.Common.{◌≡◌, ◌⊎◌, Some, refl, ap, ◌∙◌}
use Rattle.std.specs.Borrow.{MutBor}
use Rattle.ets_store.specs.Tables.{settings_in, IsSameTable}
use Rattle.ets_store.specs.declared.table.Table.{Table}
use Rattle.world_model.specs.Names.{ref_of}
use Rattle.ets_tables.specs.Shelves.{table_on, rows_on}
use Rattle.ets_tables.proofs.Lending.{on_err_map, if_ok_map, same_settings, same_rows_in}
use Rattle.ets_tables.proofs.Shelving.{altered_at, written, unaltered, table_in, rows_in}
use Rattle.ets_tables.proofs.shelves.Shelves.table_mut.Goals as goal

pub returns-in-Some : goal.returns-in-Some
returns-in-Some c =
    let old = c.args.self.now in
    let x = c.args.id.now in
    let before = c.in-Some.entry.now in
    let there = c.in-Some.ensures.value in
    let kept = c.make_mut.follows.lender-at-none in
    let IsLent : MutBor Table → Type 0 = λ r. (r.now ≡ before.value) ⊎ IsSameTable before.value r.now in (
      (
        refl,
        λ w ok. altered_at old (c.get_mut.follows.lender (c.make_mut.follows.lender w)) x (Some (c.make_mut.follows.lender w)) (λ _. Some (settings_in w)) (λ _. w.rows.rows)
            (written old.tables (c.get_mut.follows.lender (c.make_mut.follows.lender w)) x (c.make_mut.follows.lender w) before there (c.get_mut.follows.holds (c.make_mut.follows.lender w)))
            (ap (λ t. Some (settings_in t)) (c.make_mut.follows.holds w ok)) (ap (λ t. t.rows.rows) (c.make_mut.follows.holds w ok)),
        on_err_map c.make_mut.result (λ same. unaltered old (c.get_mut.follows.lender kept) x kept before there (c.get_mut.follows.holds kept) (same_settings before.value kept.value same) (same_rows_in before.value kept.value same))
            c.make_mut.follows.holds-at-none,
      ),
      record {
        writes_back = tt;
        table = if_ok_map IsLent (λ r. Some (settings_in r.now) ≡ table_on old (ref_of x)) c.make_mut.result (λ r same. ap Some (same_settings before.value r.now same) ∙ ap table_in there) c.make_mut.ensures.value;
        rows = if_ok_map IsLent (λ r. r.now.rows.rows ≡ rows_on old (ref_of x)) c.make_mut.result (λ r same. ap (λ rows. rows.rows) (same_rows_in before.value r.now same) ∙ ap rows_in there) c.make_mut.ensures.value;
      },
    )
