use Rattle.std.proofs.Common.{rules}
use Rattle.proc_signals.proofs.Cells.{picks_follow}
use Rattle.proc_signals.proofs.mailbox.Mailbox.take_at.Goals as goal

pub returns-clause-picks : goal.returns-clause-picks
returns-clause-picks c = λ selects v p first told.
    picks_follow selects p c.args.self.now _ v c.args.place _ first (search rules) (search rules) told
