use Rattle.std.proofs.Common.{Some, ap, is_ok}
use Rattle.proc_groups.proofs.Grouping.{on_err}
use Rattle.world_model.specs.Names.{ref_of}
use Rattle.ets_tables.proofs.Shelving.{meant_at, same_names, still_meant}
use Rattle.ets_tables.proofs.shelves.Shelves.mean.Goals as goal

pub returns-in_err-put-clause-err : goal.returns-in_err-put-clause-err
returns-in_err-put-clause-err c =
    on_err c.from_residual-in_err-put.result
    (still_meant c.args.self.now c.in_ok-named.named.now c.put.new.self _ (same_names _ _ c.in_ok-named.ensures.value) c.in_err-put.ensures.err (c.make_mut.follows.holds c.put.new.self (ap is_ok c.in_ok-named.was)))

pub returns-clause-ok : goal.returns-clause-ok
returns-clause-ok c =
    meant_at c.args.self.now c.in_ok-named.named.now c.put.new.self _ c.args.name.now (Some (ref_of c.args.id.now)) (same_names _ _ c.in_ok-named.ensures.value) c.in_ok-put.ensures.ok
    (c.make_mut.follows.holds c.put.new.self (ap is_ok c.in_ok-named.was))
