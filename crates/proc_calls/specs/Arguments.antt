-- Arguments as they are held, in the words of the calls of the explored world.
use Rattle.std.specs.Prelude.{Bool, true, false}
use Rattle.world_model.specs.Calls as calls
use Rattle.world_model.specs.Names.{ref_of}
use Rattle.world_model.specs.Requests as requests
use Rattle.proc_calls.specs.declared.argument.Destination.{Destination}
use Rattle.proc_calls.specs.declared.argument.Destination.TheVariants.{ToProcess, ToName, ToReference, ToNode, ToAnotherNode, ToNobody}
use Rattle.proc_calls.specs.declared.argument.MonitorType.{MonitorType}
use Rattle.proc_calls.specs.declared.argument.MonitorType.TheVariants.{Process, Another}
use Rattle.proc_calls.specs.declared.guarding.Naming.{Naming}
use Rattle.proc_calls.specs.declared.guarding.Naming.TheVariants.{Named, Bare}
use Rattle.proc_calls.specs.declared.options.Flushing.{Flushing}
use Rattle.proc_calls.specs.declared.options.Flushing.TheVariants.{Flushes, Keeps}
use Rattle.proc_calls.specs.declared.options.Trapping.{Trapping}
use Rattle.proc_calls.specs.declared.options.Trapping.TheVariants.{Traps, Obeys}
use Rattle.proc_calls.specs.declared.spawning.Origin.{Origin}
use Rattle.proc_calls.specs.declared.spawning.SpawnWay.{SpawnWay}
use Rattle.proc_calls.specs.declared.spawning.SpawnWay.TheVariants.{Alone, Linked, Watched}

-- who a message is for
abbrev pub destination_in : Destination → calls.Destination
destination_in (ToProcess pid) = calls.ToProcess pid
destination_in (ToName name) = calls.ToName name
destination_in (ToReference reference) = calls.ToReference (ref_of reference)
destination_in (ToNode name) = calls.ToNode name
destination_in ToAnotherNode = calls.ToAnotherNode
destination_in ToNobody = calls.ToNobody

-- whether it is a process that is to be watched
abbrev pub is_process : MonitorType → Bool
is_process Process = true
is_process Another = false

-- whether the message of a watch goes too
abbrev pub flushes : Flushing → Bool
flushes Flushes = true
flushes Keeps = false

-- whether exits are trapped
abbrev pub traps : Trapping → Bool
traps Traps = true
traps Obeys = false

-- whether the message of a timer names it
abbrev pub is_named : Naming → Bool
is_named Named = true
is_named Bare = false

-- what a spawn adds
abbrev pub way_in : SpawnWay → calls.SpawnWay
way_in Alone = calls.Alone
way_in Linked = calls.Linked
way_in Watched = calls.Watched

-- where a process that is spawned begins
abbrev pub origin_in : Origin → requests.Origin
origin_in origin = requests.Spawned origin.module_name origin.function_name origin.arguments
