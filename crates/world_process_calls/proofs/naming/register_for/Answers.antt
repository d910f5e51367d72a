use Rattle.std.proofs.Common.{sym}
use Rattle.world_planned.proofs.Adding.{adds_then}
use Rattle.world_planned.proofs.Calling.{register_refuses, register_serves}
use Rattle.world_process_calls.proofs.naming.register_for.Goals as goal

pub returns-then-can_register : goal.returns-then-can_register
returns-then-can_register c = λ caller m v told meant.
    register_serves v caller c.args.whom c.args.name c.done.result _ _ (sym (c.if-can_register.ensures m v told)) c.done.ensures (adds_then _ _ _ _ _ _ _ c.in_ok-read_register.ensures c.in_ok-change.ensures)

pub returns : goal.returns
returns c = λ caller m v told meant. register_refuses v caller c.args.whom c.args.name _ _ (sym (c.if-can_register.ensures m v told)) c.in_ok-read_register.ensures
