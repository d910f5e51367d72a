use Rattle.std.proofs.Common.{◌∙◌, ap, length, sym}
use Rattle.search_levels.proofs.Lying.{as_many}
use Rattle.search_levels.proofs.rows.Rows.len.Goals as goal

pub returns : goal.returns
returns g c = c.len.ensures ∙ c.self.inside.spans.ok.0 ∙ sym (as_many c.self.inside.numbers.items c.self.inside.spans.items) ∙ ap length c.self.view_is
