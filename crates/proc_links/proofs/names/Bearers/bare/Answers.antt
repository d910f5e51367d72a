use Rattle.proc_links.proofs.Named.{put_now}
use Rattle.proc_links.proofs.names.Bearers.bare.Goals as goal

pub returns-clause-names : goal.returns-clause-names
returns-clause-names c = put_now c.args.self.now.names c.remove.new.self _ _ c.remove.ensures.updates.0
