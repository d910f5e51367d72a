-- Which processes live, by the records, when one is dead.
use Rattle.std.specs.Prelude.{Bool, false, if◌then◌else◌}
use Rattle.proc_machines.specs.Processes.{lives_in}
use Rattle.world_model.specs.Names.{Pid, same_pid}
use Rattle.world_records.specs.Records.{processes_of}
use Rattle.world_planned.specs.declared.readings.Outliving.{Outliving}

abbrev pub outlives_by : Outliving → Pid → Bool
outlives_by living q = if same_pid living.pid.now q then false else lives_in (processes_of living.records.now) q
