use Rattle.std.proofs.Common.{Some, ap, subst}
use Rattle.ets_store.specs.Tables.{settings_in}
use Rattle.world_model.specs.Names.{ref_of}
use Rattle.proc_groups.proofs.Referring.{Id}
use Rattle.ets_tables.specs.Shelves.{IsAltered}
use Rattle.ets_tables.proofs.Shelving.{altered_at}
use Rattle.ets_tables.proofs.shelves.Shelves.put.Goals as goal

pub returns-clause-ok : goal.returns-clause-ok
returns-clause-ok c =
    let Puts : Id → Type 0 = λ x. IsAltered (ref_of x) (λ _. Some (settings_in c.args.table)) (λ _. c.args.table.rows.rows) c.args.self.now (record c.args.self.now { tables = c.insert.new.self }) in
    subst Puts c.in_ok-copy.ensures
    (altered_at c.args.self.now c.insert.new.self c.in_ok-copy.field-0 (Some c.in_ok-entry.entry) (λ _. Some (settings_in c.args.table)) (λ _. c.args.table.rows.rows) c.in_ok-insert.ensures.updates.0
    (ap (λ t. Some (settings_in t)) c.in_ok-entry.ensures.ok) (ap (λ t. t.rows.rows) c.in_ok-entry.ensures.ok))
