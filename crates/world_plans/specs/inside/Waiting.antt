-- Calls that wait.
use Rattle.std.specs.Prelude.{Option, None, Some, if◌then◌else◌}
use Rattle.world_model.specs.Calls.{Call, IsAlive, ProcessInfo}
use Rattle.world_model.specs.Names.{Pid, same_pid}

-- another process than this one
abbrev pub another : Pid → Option Pid → Option Pid
another p None = None
another p (Some q) = if same_pid p q then None else Some q

-- the process that a call asks about: whether it lives, or of another than the caller what is told of it
abbrev pub asked_of : Pid → Call → Option Pid
asked_of p (IsAlive whom) = whom
asked_of p (ProcessInfo whom (Some item)) = another p whom
asked_of p call = None
