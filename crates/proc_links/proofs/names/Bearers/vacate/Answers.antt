use Rattle.proc_links.proofs.Named.{put_now}
use Rattle.proc_links.proofs.names.Bearers.vacate.Goals as goal

pub returns-clause-holders : goal.returns-clause-holders
returns-clause-holders c = put_now c.args.self.now.holders c.remove.new.self _ _ c.remove.ensures.updates.0
