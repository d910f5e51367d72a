use Rattle.std.proofs.Common.{ap, ◌∙◌}
use Rattle.std.specs.FinMap.{insert}
use Rattle.term_core.specs.Term.{meaning_of}
use Rattle.ets_store.proofs.Maps.{leaves_insert}
use Rattle.ets_store.proofs.row_map.RowMap.insert.Goals as goal

pub invariant_of-self-2 : goal.invariant_of-self-2
invariant_of-self-2 c = (leaves_insert c.args.key c.args.objects c.self.inside.entries.entries c.insert.new.self.entries c.in_ok-insert.ensures.entries c.requires c.self.invariant).0

pub returns-clause-ok : goal.returns-clause-ok
returns-clause-ok c = (leaves_insert c.args.key c.args.objects c.self.inside.entries.entries c.insert.new.self.entries c.in_ok-insert.ensures.entries c.requires c.self.invariant).1 ∙ ap (λ m. insert m (meaning_of c.args.key) c.args.objects) c.self.view_is
