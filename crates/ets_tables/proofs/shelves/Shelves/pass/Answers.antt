use Rattle.world_model.specs.Tables.{owned_by}
use Rattle.proc_groups.proofs.Grouping.{on_err}
use Rattle.ets_tables.proofs.Shelving.{rewritten, unaltered}
use Rattle.ets_tables.proofs.shelves.Shelves.pass.Goals as goal

pub returns-in_err-hand-clause-err : goal.returns-in_err-hand-clause-err
returns-in_err-hand-clause-err c =
    on_err c.from_residual.result
    (unaltered c.args.self.now (c.get_mut.follows.lender c.hand.new.entry) c.args.id.now c.hand.new.entry c.in-Some.entry.now c.in-Some.ensures.value (c.get_mut.follows.holds c.hand.new.entry) c.in_err-hand.ensures.err c.hand.ensures.rows)

pub returns-clause-ok : goal.returns-clause-ok
returns-clause-ok c =
    rewritten c.args.self.now (c.get_mut.follows.lender c.hand.new.entry) c.args.id.now c.hand.new.entry c.in-Some.entry.now (owned_by c.args.to.now) c.in-Some.ensures.value
    (c.get_mut.follows.holds c.hand.new.entry) c.in_ok-hand.ensures.ok c.hand.ensures.rows
