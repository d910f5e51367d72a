-- How far processes have come.
use Rattle.std.specs.Map.{lookup}
use Rattle.std.specs.Prelude.{◌≡◌, ◌+◌, ◌++◌, ℕ, List, Option, Some, None, map, if◌then◌else◌}
use Rattle.core_tree.specs.Syntax.{ModuleTree}
use Rattle.core_semantics.specs.Ask.{ask}
use Rattle.core_semantics.specs.Asked.{Answered}
use Rattle.core_eval.specs.Standing.{AreOne, Standing, StandsAt, module_in}
use Rattle.world_model.specs.Asking.{entry_of}
use Rattle.world_model.specs.Cells as cells
use Rattle.world_model.specs.Names.{Pid, same_pid}
use Rattle.proc_machines.specs.declared.course.Course.{Course}
use Rattle.proc_machines.specs.declared.courses.CourseList.{CourseList}
use Rattle.proc_machines.specs.declared.courses.Courses.{Courses}

-- how many turns a process took; none where it was never begun
abbrev pub turns_of : Option Course → ℕ
turns_of None = 0
turns_of (Some course) = course.turns

-- where its machine is, if it has one
abbrev pub standing_of : Option Course → Option Standing
standing_of None = None
standing_of (Some course) = course.machine

-- a machine of the module is, and after all further answers will be, at what the program asks after the answers of a course
abbrev pub StandsAs : ModuleTree → Pid → cells.Course → Option Standing → Type 0
StandsAs m p course None = ⊥
StandsAs m p course (Some machine) = (module_in machine ≡ m) × StandsAt machine (λ later. ask m p (entry_of m course.origin) (course.answers ++ later))

-- a course with a turn more, with what it is answered
abbrev pub turned : List Answered → cells.Course → cells.Course
turned answer course = record { origin = course.origin; turns = course.turns + 1; answers = course.answers ++ answer; ended = course.ended }

-- the processes that were begun, each with its course
abbrev pub listed : CourseList → List (Pid × Course)
listed list = map (λ entry. (entry.0, entry.1.value)) list.entries.items

-- the course of a process, if it was begun: the first that the list has for it
abbrev pub course_at : Courses → Pid → Option Course
course_at courses p = lookup (same_pid p) (listed courses.courses.value)

-- one process has this course in a list, and the others those that they had
abbrev pub IsPut : Pid → Course → List (Pid × Course) → List (Pid × Course) → Type 0
IsPut p course old new = (q : Pid) → lookup (same_pid q) new ≡ (if same_pid p q then Some course else lookup (same_pid q) old)

-- one process has no course in a list, and the others those that they had
abbrev pub IsLeftOut : Pid → List (Pid × Course) → List (Pid × Course) → Type 0
IsLeftOut p old new = (q : Pid) → lookup (same_pid q) new ≡ (if same_pid p q then None else lookup (same_pid q) old)

-- one process has in a list what it has in another, and the others have the courses that they had
abbrev pub IsTakenOver : Pid → List (Pid × Course) → List (Pid × Course) → List (Pid × Course) → Type 0
IsTakenOver p other old new = (q : Pid) → lookup (same_pid q) new ≡ (if same_pid p q then lookup (same_pid q) other else lookup (same_pid q) old)

-- one process has this course, and the others those that they had
abbrev pub HasAt : Pid → Course → Courses → Courses → Type 0
HasAt p course old new = (q : Pid) → course_at new q ≡ (if same_pid p q then Some course else course_at old q)

-- one process has the course that it has among others, if it has one there, and the others have those that they had
abbrev pub TakesAt : Pid → Courses → Courses → Courses → Type 0
TakesAt p other old new = (q : Pid) → course_at new q ≡ (if same_pid p q then course_at other q else course_at old q)

-- the same courses
abbrev pub AreSame : Courses → Courses → Type 0
AreSame old new = (q : Pid) → course_at new q ≡ course_at old q

-- two machines of one module ask the same, or there are none
abbrev pub AreOneIf : Option Standing → Option Standing → Type 0
AreOneIf None None = Unit {0}
AreOneIf (Some a) (Some b) = module_in a ≡ module_in b → AreOne a b
AreOneIf a b = ⊥

-- as many turns, and machines that ask the same
pub record IsSameCourse (a b : Course) : Type 0 where
  pub turns : a.turns ≡ b.turns
  pub machine : AreOneIf a.machine b.machine

abbrev pub AreSameIf : Option Course → Option Course → Type 0
AreSameIf None None = Unit {0}
AreSameIf (Some a) (Some b) = IsSameCourse a b
AreSameIf a b = ⊥
