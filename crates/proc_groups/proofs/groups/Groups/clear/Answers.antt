use Rattle.std.proofs.Common.{None, [], refl}
use Rattle.proc_groups.proofs.Grouping.{members_at}
use Rattle.proc_groups.proofs.groups.Groups.clear.Goals as goal

pub returns : goal.returns
returns g c = members_at c.args.self.now.sets c.remove-items.new.self c.args.pid.now None (λ _. []) refl c.remove-items.ensures.updates.0
