use Rattle.std.proofs.Common.{◌∙◌, Bool, if◌then◌else◌, ap, sym}
use Rattle.world_model.specs.ProcessLines.{item_told, undefined}
use Rattle.world_planned.proofs.Calling.{if_ok}
use Rattle.world_process_calls.proofs.telling.item_or.Goals as goal

pub returns-then-lives : goal.returns-then-lives
returns-then-lives c =
    if_ok c.item_told.result _ _ (λ told is m v agrees.
    is m v agrees ∙ ap (λ (b : Bool). if b then item_told v c.args.whom.now c.args.item else undefined) (sym c.if-lives.true ∙ c.lives.ensures m v agrees)) c.item_told.ensures
