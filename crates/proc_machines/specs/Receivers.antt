-- Receives, as mailboxes are searched by them.
use Rattle.std.specs.Prelude.{Bool}
use Rattle.term_core.specs.Meaning.{Meaning}
use Rattle.core_eval.specs.Standing.{stands_at}
use Rattle.core_eval.specs.Told.{is_selected}
use Rattle.proc_machines.specs.declared.receiver.Receiver.{Receiver}

-- whether a receive takes a message: one of its clauses selects it
abbrev pub taken_by : Receiver → Meaning → Bool
taken_by receiver message = is_selected (stands_at receiver.machine.now) message
