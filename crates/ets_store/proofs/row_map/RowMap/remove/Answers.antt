use Rattle.std.proofs.Common.{ap, ◌∙◌}
use Rattle.std.specs.FinMap.{remove}
use Rattle.term_core.specs.Term.{meaning_of}
use Rattle.ets_store.proofs.Maps.{leaves_remove}
use Rattle.ets_store.proofs.row_map.RowMap.remove.Goals as goal

pub invariant_of-self : goal.invariant_of-self
invariant_of-self c = (leaves_remove c.args.key.now c.self.inside.entries.entries c.remove.new.self.entries c.remove.ensures.entries c.self.invariant).0

pub returns : goal.returns
returns c = (leaves_remove c.args.key.now c.self.inside.entries.entries c.remove.new.self.entries c.remove.ensures.entries c.self.invariant).1 ∙ ap (λ m. remove m (meaning_of c.args.key.now)) c.self.view_is
