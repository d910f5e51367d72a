use Rattle.std.proofs.Common.{ap, ◌∙◌}
use Rattle.std.specs.FinMap.{get}
use Rattle.term_core.specs.Term.{meaning_of}
use Rattle.ets_store.proofs.Maps.{get_shown}
use Rattle.ets_store.proofs.row_map.RowMap.get.Goals as goal

pub returns : goal.returns
returns c = c.get.ensures.value ∙ get_shown c.args.key.now c.self.inside.entries.entries c.self.invariant.0 ∙ ap (λ m. get m (meaning_of c.args.key.now)) c.self.view_is
