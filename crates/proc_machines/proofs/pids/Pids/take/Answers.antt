use Rattle.std.proofs.Common.{false, refl, ap}
use Rattle.std.specs.Result.{is_ok}
use Rattle.proc_machines.proofs.Placing.{now_in}
use Rattle.proc_machines.proofs.pids.Pids.take.Goals as goal

pub returns-clause-ok : goal.returns-clause-ok
returns-clause-ok c =
    now_in c.args.self.now (record { pids = c.make_mut.follows.lender c.remove.new.self }) c.in_ok-pids.pids.now c.remove.new.self c.args.pid.now c.args.pid.now false c.in_ok-pids.ensures.value
    c.remove.ensures.updates.0 (c.make_mut.follows.holds c.remove.new.self (ap is_ok c.in_ok-pids.was)) refl
