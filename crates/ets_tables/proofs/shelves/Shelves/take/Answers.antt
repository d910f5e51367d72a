use Rattle.std.proofs.Common.{None, refl}
use Rattle.std.specs.FinMap.{empty}
use Rattle.ets_tables.proofs.Shelving.{altered_at}
use Rattle.ets_tables.proofs.shelves.Shelves.take.Goals as goal

pub returns-clause-left : goal.returns-clause-left
returns-clause-left c = altered_at c.args.self.now c.remove.new.self c.args.id.now None (λ _. None) (λ _. empty) c.remove.ensures.updates.0 refl refl
