use Rattle.std.proofs.Common.{◌≡◌, option_map, rules}
use Rattle.world_model.specs.Signals.{first_of}
use Rattle.proc_signals.specs.Channels.{between}
use Rattle.proc_signals.specs.Signal.{signal_of}
use Rattle.proc_signals.proofs.Cells.{taken_follows}
use Rattle.proc_signals.proofs.channels.Channels.take_front.Goals as goal

pub returns-clause-fetches : goal.returns-clause-fetches
returns-clause-fetches c = λ v some told.
    let is : option_map signal_of c.in_ok-taken.taken ≡ first_of (between c.args.self.now c.args.from.now c.args.to.now) = search rules in
    taken_follows signal_of v c.args.self.now _ c.args.from.now c.args.to.now c.in_ok-taken.taken (search rules) is some told
