-- What a process asks of the world, and what a program is to the world.
use Rattle.std.specs.Prelude.{Bool, List}
use Rattle.term_core.specs.Meaning.{Meaning}
use Rattle.core_calls.specs.declared.call.CallKind.{CallKind}
use Rattle.core_semantics.specs.Asked.{Answered}
use Rattle.world_model.specs.Names.{Name, Pid}

-- where a process begins: the first in `main/0`, another in the function with the arguments of its spawn
pub data Origin : Type 0 where
  Main : Origin
  Spawned : (module_name function_name : Name) (arguments : List Meaning) → Origin

-- a call with its arguments; a receive, which waits for ever or not, with the messages that its clauses select; an end with its reason; or that too many applications were made in a row
pub data Request : Type 0 where
  Calls : (kind : CallKind) (arguments : List Meaning) → Request
  Receives : (waits : Bool) (selects : Meaning → Bool) → Request
  Ends : (reason : Meaning) → Request
  RunsAway : Request

-- a program: what a process asks next, by its name, where it began, and the answers that it got so far
abbrev pub Program : Type 0
Program = Pid → Origin → List Answered → Request
