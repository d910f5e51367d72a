use Rattle.std.proofs.Common.{◌∙◌, sym, subst}
use Rattle.std.specs.Prelude.{Bool}
use Rattle.world_model.specs.Cells as cells
use Rattle.world_model.specs.Names.{ref_of}
use Rattle.world_model.specs.Signals.{reply_ends, watch_if}
use Rattle.world_planned.specs.inside.Planned.{Adds}
use Rattle.world_planned.proofs.Adding.{adds_none}
use Rattle.world_planned.proofs.guarding.reply.Goals as goal

pub returns-in_ok-end_alias : goal.returns-in_ok-end_alias
returns-in_ok-end_alias c = λ m v told.
    let ref = ref_of c.args.reference.now in
    subst (λ (b : Bool). Adds (watch_if b ref) (reply_ends b ref (v (cells.Watch ref))) c.args.planned.now c.end_alias.new.planned) (sym c.if-ends_by_reply.true ∙ c.ends_by_reply.ensures m v told) (c.in_ok-end_alias.ensures m v told)

pub returns-else-ends_by_reply : goal.returns-else-ends_by_reply
returns-else-ends_by_reply c = λ m v told.
    let ref = ref_of c.args.reference.now in
    subst (λ (b : Bool). Adds (watch_if b ref) (reply_ends b ref (v (cells.Watch ref))) c.args.planned.now c.args.planned.now) (sym c.if-ends_by_reply.false ∙ c.ends_by_reply.ensures m v told) (adds_none c.args.planned.now)
