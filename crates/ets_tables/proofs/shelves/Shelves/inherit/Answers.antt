use Rattle.world_model.specs.Tables.{with_heir}
use Rattle.ets_store.specs.Tables.{heir_in}
use Rattle.proc_groups.proofs.Grouping.{on_err}
use Rattle.ets_tables.proofs.Shelving.{rewritten, unaltered}
use Rattle.ets_tables.proofs.shelves.Shelves.inherit.Goals as goal

pub returns-in_err-entrust-clause-err : goal.returns-in_err-entrust-clause-err
returns-in_err-entrust-clause-err c =
    on_err c.from_residual.result
    (unaltered c.args.self.now (c.get_mut.follows.lender c.entrust.new.entry) c.args.id.now c.entrust.new.entry c.in-Some.entry.now c.in-Some.ensures.value (c.get_mut.follows.holds c.entrust.new.entry) c.in_err-entrust.ensures.err c.entrust.ensures.rows)

pub returns-clause-ok : goal.returns-clause-ok
returns-clause-ok c =
    rewritten c.args.self.now (c.get_mut.follows.lender c.entrust.new.entry) c.args.id.now c.entrust.new.entry c.in-Some.entry.now (with_heir (heir_in c.args.heir)) c.in-Some.ensures.value
    (c.get_mut.follows.holds c.entrust.new.entry) c.in_ok-entrust.ensures.ok c.entrust.ensures.rows
