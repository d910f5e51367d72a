-- A call that asks about another process waits for the signals to that.
use Rattle.std.proofs.Common.{◌≡◌, Bool, true, false, Some, None, is_some, if◌then◌else◌, ap}
use Rattle.std.specs.Prelude.{◌&&◌, not, unwrap_or}
use Rattle.world_model.specs.Calls.{Call, IsAlive, ProcessInfo}
use Rattle.world_model.specs.Cells.{Contents, Alive}
use Rattle.world_model.specs.Names.{Pid, same_pid}
use Rattle.world_model.specs.Signals.{first_of, waiting_in}
use Rattle.world_model.specs.Steps.{must_wait}
use Rattle.world_plans.specs.inside.Waiting.{asked_of}

abbrev waits_for : Contents → Pid → Pid → Bool
waits_for v p q = v (Alive q) && is_some (first_of (waiting_in v p q))

asked_another : (v : Contents) (p r q : Pid) (own : Bool) → (if own then None else Some r) ≡ Some q → (not own && waits_for v p r) ≡ waits_for v p q
asked_another v p r q true e = absurd cc
asked_another v p r q false e = ap (λ o. waits_for v p (unwrap_or o q)) e

pub asked_waits : (v : Contents) (p q : Pid) (call : Call) → asked_of p call ≡ Some q → must_wait v p call ≡ waits_for v p q
asked_waits v p q (IsAlive (Some r)) e = ap (λ o. waits_for v p (unwrap_or o q)) e
asked_waits v p q (ProcessInfo (Some r) (Some item)) e = asked_another v p r q (same_pid p r) e
asked_waits v p q (ProcessInfo None (Some item)) e = absurd cc
asked_waits v p q (ProcessInfo None None) e = absurd cc
asked_waits v p q call e = absurd cc
