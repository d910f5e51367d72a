use Rattle.std.proofs.Common.{◌∙◌, arith}
use Rattle.ets_store.proofs.Parts.{no_part_zero, no_part_past, part_read}
use Rattle.ets_store.proofs.object.Object.part.Goals as goal

pub returns-then-position-eq0 : goal.returns-then-position-eq0
returns-then-position-eq0 c = no_part_zero c.args.self.now c.args.position (omega arith)

pub returns-then-parts-position : goal.returns-then-parts-position
returns-then-parts-position c = no_part_past c.as_slice-parts.result.now c.args.self.now c.args.position (c.as_slice-parts.ensures ∙ c.deref.ensures ∙ c.self.view_is) (omega arith)

pub returns : goal.returns
returns c = part_read c.as_slice-parts.result.now c.args.self.now c.args.position c.index-parts-position.result (c.as_slice-parts.ensures ∙ c.deref.ensures ∙ c.self.view_is) (omega arith) (omega arith) c.index-parts-position.is
