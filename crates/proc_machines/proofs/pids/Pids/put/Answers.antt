use Rattle.std.proofs.Common.{true, ap}
use Rattle.std.specs.Result.{is_ok}
use Rattle.proc_machines.proofs.Placing.{now_in}
use Rattle.proc_machines.proofs.pids.Pids.put.Goals as goal

pub returns-clause-ok : goal.returns-clause-ok
returns-clause-ok c =
    now_in c.args.self.now (record { pids = c.make_mut.follows.lender c.insert.new.self }) c.in_ok-pids.pids.now c.insert.new.self c.args.pid.now c.in_ok-pid.pid true c.in_ok-pids.ensures.value
    c.in_ok-insert.ensures.updates.0 (c.make_mut.follows.holds c.insert.new.self (ap is_ok c.in_ok-pids.was)) c.in_ok-pid.ensures
