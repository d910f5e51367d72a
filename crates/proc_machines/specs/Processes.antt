-- The processes of a world.
use Rattle.std.specs.Prelude.{◌≡◌, ◌∷◌, [], ℕ, Bool, true, false, List, Option, Some, None, if◌then◌else◌}
use Rattle.term_core.specs.Meaning.{Meaning}
use Rattle.core_tree.specs.Syntax.{ModuleTree}
use Rattle.core_eval.specs.Standing.{Standing, stands_at}
use Rattle.core_eval.specs.Told as told
use Rattle.core_eval.specs.Told.{Told, is_selected}
use Rattle.world_model.specs.Asking.{program_of}
use Rattle.world_model.specs.Cells as cells
use Rattle.world_model.specs.Cells.{Contents}
use Rattle.world_model.specs.Changes.{Change, MachineStarted, AliveSet}
use Rattle.world_model.specs.Names.{Pid, same_pid}
use Rattle.world_model.specs.Requests.{Origin, Request, Calls, Receives, Ends, RunsAway}
use Rattle.world_model.specs.Steps.{asked}
use Rattle.proc_machines.specs.Courses.{StandsAs, course_at, standing_of, turns_of}
use Rattle.proc_machines.specs.Pids.{is_in}
use Rattle.proc_machines.specs.declared.course.Course.{Course}
use Rattle.proc_machines.specs.declared.processes.Processes.{Processes}

-- the module of the processes
abbrev pub module_of : Processes → ModuleTree
module_of processes = processes.program.now

-- whether a process lives
abbrev pub lives_in : Processes → Pid → Bool
lives_in processes p = is_in processes.living p

-- whether it traps exits
abbrev pub traps_in : Processes → Pid → Bool
traps_in processes p = is_in processes.trapping p

abbrev pub course_in : Processes → Pid → Option Course
course_in processes p = course_at processes.courses p

-- how many turns it took
abbrev pub turns_in : Processes → Pid → ℕ
turns_in processes p = turns_of (course_in processes p)

-- where its machine is
abbrev pub standing_in : Processes → Pid → Option Standing
standing_in processes p = standing_of (course_in processes p)

-- the processes are what the contents say; each that lives is at what the program asks after its answers, and the others have no machine
pub record Agrees (m : ModuleTree) (processes : Processes) (v : Contents) : Type 0 where
  pub program : module_of processes ≡ m
  pub alive : (p : Pid) → lives_in processes p ≡ v (cells.Alive p)
  pub trap : (p : Pid) → traps_in processes p ≡ v (cells.Trap p)
  pub turns : (p : Pid) → turns_in processes p ≡ (v (cells.Machine p)).turns
  pub stands : (p : Pid) → lives_in processes p ≡ true → StandsAs m p (v (cells.Machine p)) (standing_in processes p)
  pub gone : (p : Pid) → lives_in processes p ≡ false → standing_in processes p ≡ None

-- each process lives, traps exits, took as many turns and is where it was before
pub record IsUnchanged (old new : Processes) : Type 0 where
  pub program : module_of new ≡ module_of old
  pub alive : (p : Pid) → lives_in new p ≡ lives_in old p
  pub trap : (p : Pid) → traps_in new p ≡ traps_in old p
  pub courses : (p : Pid) → course_in new p ≡ course_in old p

-- which messages a machine takes: those that the receive that it waits at selects
abbrev pub selected_by : Option Standing → Meaning → Bool
selected_by None message = false
selected_by (Some machine) message = is_selected (stands_at machine) message

-- which messages the receive of a process selects
abbrev pub selects_in : Processes → Pid → Meaning → Bool
selects_in processes p = selected_by (standing_in processes p)

-- a request: what it says by itself, with the messages that it selects where it is a receive
abbrev pub request_with : (Meaning → Bool) → Told → Request
request_with selects (told.Call kind arguments) = Calls kind arguments
request_with selects (told.Receive waits) = Receives waits selects
request_with selects (told.End reason) = Ends reason
request_with selects told.Runaway = RunsAway

-- this is what a process asks, if it lives, whatever contents the processes agree with
abbrev pub IsRequestOf : Processes → Pid → Option Request → Type 0
IsRequestOf processes p request = (m : ModuleTree) (v : Contents) → Agrees m processes v → lives_in processes p ≡ true → request ≡ Some (asked (program_of m) p (v (cells.Machine p)))

-- what it changes that a process begins
abbrev pub changes_begun : Pid → Origin → List Change
changes_begun p origin = MachineStarted p origin ∷ AliveSet p ∷ []

-- a process has its last course and no longer lives
pub record IsClosed (p : Pid) (course : Course) (old new : Processes) : Type 0 where
  pub program : module_of new ≡ module_of old
  pub alive : (q : Pid) → lives_in new q ≡ (if same_pid p q then false else lives_in old q)
  pub trap : (q : Pid) → traps_in new q ≡ traps_in old q
  pub courses : (q : Pid) → course_in new q ≡ (if same_pid p q then Some course else course_in old q)

-- one process has come as far as it has among others, and nothing else is changed
pub record TakesCourse (p : Pid) (other old new : Processes) : Type 0 where
  pub program : module_of new ≡ module_of old
  pub alive : (q : Pid) → lives_in new q ≡ lives_in old q
  pub trap : (q : Pid) → traps_in new q ≡ traps_in old q
  pub courses : (q : Pid) → course_in new q ≡ (if same_pid p q then course_in other q else course_in old q)

-- one process lives, and traps exits, where it does among others, and nothing else is changed
pub record TakesFlags (p : Pid) (other old new : Processes) : Type 0 where
  pub program : module_of new ≡ module_of old
  pub alive : (q : Pid) → lives_in new q ≡ (if same_pid p q then lives_in other q else lives_in old q)
  pub trap : (q : Pid) → traps_in new q ≡ (if same_pid p q then traps_in other q else traps_in old q)
  pub courses : (q : Pid) → course_in new q ≡ course_in old q
