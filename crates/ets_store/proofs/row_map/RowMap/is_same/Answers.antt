use Rattle.std.proofs.Common.{◌∙◌, sym}
use Rattle.ets_store.proofs.Alike.{rows_told}
use Rattle.ets_store.proofs.row_map.RowMap.is_same.Goals as goal

pub returns : goal.returns
returns c = λ e. sym c.self.view_is ∙ rows_told c.self.inside.entries.entries c.other.inside.entries.entries (sym c.eq.ensures ∙ e) ∙ c.other.view_is
