use Rattle.std.proofs.Common.{◌≡◌, ◌∙◌, is_some, sym, rules}
use Rattle.std.specs.Prelude.{◌&&◌}
use Rattle.world_model.specs.Calls.{call_of}
use Rattle.world_model.specs.Cells.{Alive}
use Rattle.world_model.specs.Signals.{first_of, waiting_in}
use Rattle.world_plans.proofs.Asking.{asked_waits}
use Rattle.world_plans.proofs.waiting.must_wait.Goals as goal

pub returns-then-lives : goal.returns-then-lives
returns-then-lives c = λ m v told.
    let p = c.args.caller.now in
    let q = c.in-Some.whom.now in
    let waits : c.is_some.result ≡ (v (Alive q) && is_some (first_of (waiting_in v p q))) = search rules in
    waits ∙ sym (asked_waits v p q (call_of c.args.kind c.args.arguments.now) (sym c.in-Some.ensures))
