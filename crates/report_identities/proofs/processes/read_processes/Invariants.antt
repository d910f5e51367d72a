use Rattle.std.proofs.Common.{length}
use Rattle.report_identities.proofs.ProcessTexts.{ReadsProcesses}
use Rattle.report_identities.proofs.processes.read_processes.Given as goal

abbrev pub invariant-processes : goal.invariant-processes
invariant-processes l = ReadsProcesses l.text l.processes.items l.rest

abbrev pub decreases-processes : goal.decreases-processes
decreases-processes l = length l.rest
