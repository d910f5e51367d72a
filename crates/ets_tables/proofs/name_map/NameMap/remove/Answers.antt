use Rattle.std.proofs.Common.{None}
use Rattle.ets_tables.proofs.Shelving.{named_at}
use Rattle.ets_tables.proofs.name_map.NameMap.remove.Goals as goal

pub returns : goal.returns
returns c = named_at c.args.self.now.references c.remove.new.self c.args.name.now None c.remove.ensures.updates.0
