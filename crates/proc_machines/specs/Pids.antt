-- Sets of processes.
use Rattle.std.specs.Prelude.{◌≡◌, Bool, if◌then◌else◌}
use Rattle.std.specs.BTreeSet.{contains}
use Rattle.term_core.specs.Order.{order_of_lists}
use Rattle.world_model.specs.Names.{Pid, same_pid}
use Rattle.proc_machines.specs.declared.pids.Pids.{Pids}

-- whether a process is among them
abbrev pub is_in : Pids → Pid → Bool
is_in pids p = contains order_of_lists pids.pids.value p

-- one process is among them or is not, and the others are as they were
abbrev pub HasAt : Pid → Bool → Pids → Pids → Type 0
HasAt p there old new = (q : Pid) → is_in new q ≡ (if same_pid p q then there else is_in old q)

-- one process is among them if it is among others, and the rest are as they were
abbrev pub TakesAt : Pid → Pids → Pids → Pids → Type 0
TakesAt p other old new = (q : Pid) → is_in new q ≡ (if same_pid p q then is_in other q else is_in old q)

-- the same processes
abbrev pub AreSame : Pids → Pids → Type 0
AreSame old new = (q : Pid) → is_in new q ≡ is_in old q
