-- The program that a module is.
use Rattle.std.specs.Prelude.{[], codes}
use Rattle.core_tree.specs.Syntax.{ModuleTree}
use Rattle.core_semantics.specs.Ask.{Entry, entry, ask}
use Rattle.core_semantics.specs.Asked.{Asked, Call, Receive, End, Runaway}
use Rattle.world_model.specs.Requests.{Request, Origin, Main, Spawned, Calls, Receives, Ends, RunsAway, Program}
use Rattle.world_model.specs.World.{answers}

-- the first process begins in `main/0` of the module
abbrev pub entry_of : ModuleTree → Origin → Entry
entry_of m Main = entry m.name (codes "main") []
entry_of m (Spawned module_name function_name arguments) = entry module_name function_name arguments

-- a request as evaluation makes it; a receive says itself which messages its clauses select
abbrev pub request_of : Asked → Request
request_of (Call kind arguments) = Calls kind arguments
request_of (Receive waits selects) = Receives waits selects
request_of (End reason) = Ends reason
request_of Runaway = RunsAway

-- what its processes ask is what evaluation of the module asks
abbrev pub program_of : ModuleTree → Program
program_of m p origin answers = request_of (ask m p (entry_of m origin) answers)
