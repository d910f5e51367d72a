-- What the processes are after the changes of a cell.
use Rattle.std.proofs.Common.{◌≡◌, Bool, true, false, List, [], ◌∷◌, ◌++◌, ◌+◌, Option, Some, None, Bor, is_some, option_copied, bytes_eq, if◌then◌else◌, refl, sym, ap, subst, ◌∙◌, true≢false}
use Rattle.std.proofs.lemmas.Slice.Eq.{bytes_eq-Decides}
use Rattle.term_core.specs.Meaning.{Meaning}
use Rattle.core_tree.specs.Syntax.{ModuleTree}
use Rattle.core_semantics.specs.Ask.{ask, is_first}
use Rattle.core_semantics.specs.Asked.{Answered}
use Rattle.core_eval.specs.Standing as standing
use Rattle.core_eval.specs.Standing.{Standing, is_spent, module_in}
use Rattle.world_model.specs.Asking.{entry_of}
use Rattle.world_model.specs.Cells as cells
use Rattle.world_model.specs.Cells.{Contents}
use Rattle.world_model.specs.Changes.{after, MachineStarted, TurnTaken, MachineHalted, AliveSet, AliveCleared}
use Rattle.world_model.specs.Names.{Pid, same_pid}
use Rattle.world_model.specs.Requests.{Origin}
use Rattle.world_model.specs.World.{beginning}
use Rattle.proc_machines.specs.Courses.{StandsAs, turned, turns_of, standing_of}
use Rattle.proc_machines.specs.Processes.{Agrees, IsClosed, module_of, lives_in, traps_in, course_in, turns_in, standing_in}
use Rattle.proc_machines.specs.declared.course.Course.{Course}
use Rattle.proc_machines.specs.declared.processes.Processes.{Processes}

-- where one process has another course, each has the turns of its cell
turns_at : (old : Pid → Option Course) (new : Pid → Option Course) (p : Pid) (course : Course) (X : cells.Course → cells.Course) (w : Pid → cells.Course)
    → ((q : Pid) → new q ≡ (if same_pid p q then Some course else old q)) → course.turns ≡ (X (w p)).turns → ((q : Pid) → turns_of (old q) ≡ (w q).turns)
    → (q : Pid) → turns_of (new q) ≡ (if same_pid p q then X (w q) else w q).turns
turns_at old new p course X w is turns told q =
    ap turns_of (is q) ∙ elim (bytes_eq p q) as (λ b. bytes_eq p q ≡ b → turns_of (if b then Some course else old q) ≡ (if b then X (w q) else w q).turns) [
      | true ↦ λ e. turns ∙ ap (λ r. (X (w r)).turns) ((bytes_eq-Decides p q).0 e)
      | false ↦ λ e. told q
    ] refl

-- where one process has another machine, each that lives is at what its cell says
stands_at : (m : ModuleTree) (old new : Pid → Option Course) (lives lived : Pid → Bool) (p : Pid) (course : Course) (X : cells.Course → cells.Course) (w : Pid → cells.Course)
    → ((q : Pid) → new q ≡ (if same_pid p q then Some course else old q)) → (lives p ≡ true → StandsAs m p (X (w p)) course.machine)
    → ((q : Pid) → same_pid p q ≡ false → lives q ≡ true → lived q ≡ true)
    → ((q : Pid) → lived q ≡ true → StandsAs m q (w q) (standing_of (old q)))
    → (q : Pid) → lives q ≡ true → StandsAs m q (if same_pid p q then X (w q) else w q) (standing_of (new q))
stands_at m old new lives lived p course X w is stands others told q alive =
    subst (λ c. StandsAs m q (if same_pid p q then X (w q) else w q) (standing_of c)) (sym (is q))
    (elim (bytes_eq p q) as (λ b. bytes_eq p q ≡ b → StandsAs m q (if b then X (w q) else w q) (standing_of (if b then Some course else old q))) [
      | true ↦ λ e. subst (λ r. StandsAs m r (X (w r)) course.machine) ((bytes_eq-Decides p q).0 e) (stands (ap lives ((bytes_eq-Decides p q).0 e) ∙ alive))
      | false ↦ λ e. told q (others q e alive)
    ] refl)

-- where one process has another machine, a process that does not live has none
gone_at : (old new : Pid → Option Course) (lives lived : Pid → Bool) (p : Pid) (course : Course)
    → ((q : Pid) → new q ≡ (if same_pid p q then Some course else old q)) → (lives p ≡ false → course.machine ≡ None)
    → ((q : Pid) → same_pid p q ≡ false → lives q ≡ false → lived q ≡ false)
    → ((q : Pid) → lived q ≡ false → standing_of (old q) ≡ None)
    → (q : Pid) → lives q ≡ false → standing_of (new q) ≡ None
gone_at old new lives lived p course is none others told q gone =
    ap standing_of (is q) ∙ elim (bytes_eq p q) as (λ b. bytes_eq p q ≡ b → standing_of (if b then Some course else old q) ≡ None) [
      | true ↦ λ e. none (ap lives ((bytes_eq-Decides p q).0 e) ∙ gone)
      | false ↦ λ e. told q (others q e gone)
    ] refl

abbrev fresh : Origin → cells.Course → cells.Course
fresh origin course = record { origin = origin; turns = 0; answers = []; ended = None }

abbrev halted : Meaning → cells.Course → cells.Course
halted reason course = record { origin = course.origin; turns = course.turns; answers = course.answers; ended = Some reason }

-- a process other than this one is alive as before
lived_if : (b : Bool) (x y z w : Bool) → y ≡ (if b then x else z) → b ≡ false → y ≡ w → z ≡ w
lived_if true x y z w is none alive = absurd (true≢false none)
lived_if false x y z w is none alive = sym is ∙ alive

-- a process that begins lives
born : (b : Bool) (y z : Bool) → y ≡ (if b then true else z) → b ≡ true → y ≡ true
born true y z is e = is
born false y z is e = absurd (true≢false (sym e))

itself : (p : Pid) → same_pid p p ≡ true
itself p = (bytes_eq-Decides p p).1 refl

lives_if : (p q : Pid) (life x y : Bool) → x ≡ y → (if same_pid p q then life else x) ≡ (if same_pid p q then life else y)
lives_if p q life x y e = ap (λ z. if same_pid p q then life else z) e

-- a process begins, and is at its first request
pub agrees_begun : (m : ModuleTree) (old new : Processes) (v : Contents) (p : Pid) (origin : Origin) (course : Course)
    → module_of new ≡ module_of old → ((q : Pid) → lives_in new q ≡ (if same_pid p q then true else lives_in old q)) → ((q : Pid) → traps_in new q ≡ traps_in old q)
    → ((q : Pid) → course_in new q ≡ (if same_pid p q then Some course else course_in old q)) → course.turns ≡ 0 → StandsAs m p (fresh origin (v (cells.Machine p))) course.machine
    → Agrees m old v → Agrees m new (after (MachineStarted p origin ∷ AliveSet p ∷ []) v)
agrees_begun m old new v p origin course program alive trap courses turns stands told = record {
  program = program ∙ told.program;
  alive = λ q. alive q ∙ lives_if p q true (lives_in old q) (v (cells.Alive q)) (told.alive q);
  trap = λ q. trap q ∙ told.trap q;
  turns = turns_at (course_in old) (course_in new) p course (fresh origin) (λ q. v (cells.Machine q)) courses turns told.turns;
  stands = stands_at m (course_in old) (course_in new) (lives_in new) (lives_in old) p course (fresh origin) (λ q. v (cells.Machine q)) courses (λ _. stands) (λ q e. lived_if (same_pid p q) true (lives_in new q) (lives_in old q) true (alive q) e) told.stands;
  gone = gone_at (course_in old) (course_in new) (lives_in new) (lives_in old) p course courses (λ a. absurd (true≢false (sym (born (same_pid p p) (lives_in new p) (lives_in old p) (alive p) (itself p)) ∙ a))) (λ q e. lived_if (same_pid p q) true (lives_in new q) (lives_in old q) false (alive q) e) told.gone;
}

-- a process takes a turn that is answered
pub agrees_turned : (m : ModuleTree) (old new : Processes) (v : Contents) (p : Pid) (answer : List Answered) (course : Course)
    → module_of new ≡ module_of old → ((q : Pid) → lives_in new q ≡ lives_in old q) → ((q : Pid) → traps_in new q ≡ traps_in old q)
    → ((q : Pid) → course_in new q ≡ (if same_pid p q then Some course else course_in old q)) → course.turns ≡ turns_in old p + 1
    → ((c : cells.Course) → StandsAs m p c (standing_in old p) → StandsAs m p (turned answer c) course.machine) → (standing_in old p ≡ None → course.machine ≡ None)
    → Agrees m old v → Agrees m new (after (TurnTaken p answer ∷ []) v)
agrees_turned m old new v p answer course program alive trap courses turns stands none told = record {
  program = program ∙ told.program;
  alive = λ q. alive q ∙ told.alive q;
  trap = λ q. trap q ∙ told.trap q;
  turns = turns_at (course_in old) (course_in new) p course (turned answer) (λ q. v (cells.Machine q)) courses (turns ∙ ap (λ n. n + 1) (told.turns p)) told.turns;
  stands = stands_at m (course_in old) (course_in new) (lives_in new) (lives_in old) p course (turned answer) (λ q. v (cells.Machine q)) courses (λ a. stands (v (cells.Machine p)) (told.stands p (sym (alive p) ∙ a))) (λ q _ a. sym (alive q) ∙ a) told.stands;
  gone = gone_at (course_in old) (course_in new) (lives_in new) (lives_in old) p course courses (λ a. none (told.gone p (sym (alive p) ∙ a))) (λ q _ a. sym (alive q) ∙ a) told.gone;
}

-- a process that does not live is nowhere
dead : (b : Bool) (y z : Bool) → y ≡ (if b then false else z) → b ≡ true → y ≡ false
dead true y z is e = is
dead false y z is e = absurd (true≢false (sym e))

gone : (old new : Processes) (p : Pid) (course : Course) → IsClosed p course old new → lives_in new p ≡ false
gone old new p course closed = dead (same_pid p p) (lives_in new p) (lives_in old p) (closed.alive p) (itself p)

closed_gone : (old new : Processes) (p : Pid) (course : Course) → IsClosed p course old new → course.machine ≡ None → ((q : Pid) → lives_in old q ≡ false → standing_in old q ≡ None)
    → (q : Pid) → lives_in new q ≡ false → standing_in new q ≡ None
closed_gone old new p course closed none =
    gone_at (course_in old) (course_in new) (lives_in new) (lives_in old) p course closed.courses (λ _. none) (λ q e. lived_if (same_pid p q) false (lives_in new q) (lives_in old q) false (closed.alive q) e)

-- a process is killed
pub agrees_killed : (m : ModuleTree) (old new : Processes) (v : Contents) (p : Pid) (reason : Meaning) (course : Course)
    → IsClosed p course old new → course.turns ≡ turns_in old p → course.machine ≡ None → Agrees m old v → Agrees m new (after (MachineHalted p reason ∷ AliveCleared p ∷ []) v)
agrees_killed m old new v p reason course closed turns none told = record {
  program = closed.program ∙ told.program;
  alive = λ q. closed.alive q ∙ lives_if p q false (lives_in old q) (v (cells.Alive q)) (told.alive q);
  trap = λ q. closed.trap q ∙ told.trap q;
  turns = turns_at (course_in old) (course_in new) p course (halted reason) (λ q. v (cells.Machine q)) closed.courses (turns ∙ told.turns p) told.turns;
  stands = stands_at m (course_in old) (course_in new) (lives_in new) (lives_in old) p course (halted reason) (λ q. v (cells.Machine q)) closed.courses (λ a. absurd (true≢false (sym a ∙ gone old new p course closed))) (λ q e. lived_if (same_pid p q) false (lives_in new q) (lives_in old q) true (closed.alive q) e) told.stands;
  gone = closed_gone old new p course closed none told.gone;
}

twice : {A : Type 0} (b : Bool) (f g : A → A) (x : A) → (if b then g (f x) else x) ≡ (if b then g (if b then f x else x) else (if b then f x else x))
twice true f g x = refl
twice false f g x = refl

-- a process ends by a turn of its own
pub agrees_ended : (m : ModuleTree) (old new : Processes) (v : Contents) (p : Pid) (reason : Meaning) (course : Course)
    → IsClosed p course old new → course.turns ≡ turns_in old p + 1 → course.machine ≡ None → Agrees m old v → Agrees m new (after (TurnTaken p [] ∷ MachineHalted p reason ∷ AliveCleared p ∷ []) v)
agrees_ended m old new v p reason course closed turns none told = record {
  program = closed.program ∙ told.program;
  alive = λ q. closed.alive q ∙ lives_if p q false (lives_in old q) (v (cells.Alive q)) (told.alive q);
  trap = λ q. closed.trap q ∙ told.trap q;
  turns = λ q. turns_at (course_in old) (course_in new) p course (λ c. halted reason (turned [] c)) w closed.courses (turns ∙ ap (λ n. n + 1) (told.turns p)) told.turns q
      ∙ ap (λ c. c.turns) (twice (same_pid p q) (turned []) (halted reason) (w q));
  stands = λ q a. subst (λ c. StandsAs m q c (standing_in new q)) (twice (same_pid p q) (turned []) (halted reason) (w q))
      (stands_at m (course_in old) (course_in new) (lives_in new) (lives_in old) p course (λ c. halted reason (turned [] c)) w closed.courses (λ a. absurd (true≢false (sym a ∙ gone old new p course closed))) (λ q e. lived_if (same_pid p q) false (lives_in new q) (lives_in old q) true (closed.alive q) e) told.stands q a);
  gone = closed_gone old new p course closed none told.gone;
} where
  w : Pid → cells.Course
  w q = v (cells.Machine q)

-- the first is the process []
first_only : (q : Pid) → (if same_pid [] q then true else false) ≡ is_first q
first_only [] = refl
first_only (n ∷ ns) = refl

beginning_turns : (b : Bool) (course : Course) → course.turns ≡ 0 → turns_of (if b then Some course else None) ≡ 0
beginning_turns true course is = is
beginning_turns false course is = refl

first_stands : (m : ModuleTree) (q : Pid) (course : Course) → (if same_pid [] q then true else false) ≡ true → StandsAs m [] (beginning (cells.Machine [])) course.machine → StandsAs m q (beginning (cells.Machine q)) (standing_of (if same_pid [] q then Some course else None))
first_stands m [] course alive stands = stands
first_stands m (n ∷ ns) course alive stands = absurd (true≢false (sym alive))

others_gone : (q : Pid) (course : Course) → (if same_pid [] q then true else false) ≡ false → standing_of (if same_pid [] q then Some course else None) ≡ None
others_gone [] course a = absurd (true≢false a)
others_gone (n ∷ ns) course a = refl

-- in the beginning there is the first process
pub agrees_opened : (m : ModuleTree) (new : Processes) (course : Course) (p : Pid) → p ≡ [] → module_of new ≡ m → ((q : Pid) → lives_in new q ≡ (if same_pid p q then true else false)) → ((q : Pid) → traps_in new q ≡ false)
    → ((q : Pid) → course_in new q ≡ (if same_pid p q then Some course else None)) → course.turns ≡ 0 → StandsAs m [] (beginning (cells.Machine [])) course.machine → Agrees m new beginning
agrees_opened m new course p first program alive trap courses turns stands = record {
  program = program;
  alive = λ q. now q ∙ first_only q;
  trap = trap;
  turns = λ q. ap turns_of (there q) ∙ beginning_turns (same_pid [] q) course turns;
  stands = λ q a. subst (λ c. StandsAs m q (beginning (cells.Machine q)) (standing_of c)) (sym (there q)) (first_stands m q course (sym (now q) ∙ a) stands);
  gone = λ q a. ap standing_of (there q) ∙ others_gone q course (sym (now q) ∙ a);
} where
  now : (q : Pid) → lives_in new q ≡ (if same_pid [] q then true else false)
  now q = alive q ∙ ap (λ r. if same_pid r q then true else false) first

  there : (q : Pid) → course_in new q ≡ (if same_pid [] q then Some course else None)
  there q = courses q ∙ ap (λ r. if same_pid r q then Some course else None) first

shift : (xs : List Answered) (a : Answered) (ys : List Answered) → xs ++ (a ∷ ys) ≡ (xs ++ (a ∷ [])) ++ ys
shift [] a ys = refl
shift (x ∷ xs) a ys = ap (λ zs. x ∷ zs) (shift xs a ys)

-- a machine that ran on with an answer is where its course is with that answer
pub ran_on : (m : ModuleTree) (p : Pid) (c : cells.Course) (old copied new : Standing) (a : Answered) → copied ≡ old → is_spent new ≡ false → module_in new ≡ module_in copied
    → ((later : List Answered) → standing.after new later ≡ standing.after copied (a ∷ later)) → StandsAs m p c (Some old) → StandsAs m p (turned (a ∷ []) c) (Some new)
ran_on m p c old copied new a same lives program goes_on told = (
  program ∙ ap module_in same ∙ told.0,
  record {
    lives = lives;
    asks = λ later. goes_on later ∙ ap (λ s. standing.after s (a ∷ later)) same ∙ told.1.asks (a ∷ later) ∙ ap (ask m p (entry_of m c.origin)) (shift c.answers a later);
  },
)

some_stands : (m : ModuleTree) (p : Pid) (c : cells.Course) (machine : Option Standing) → StandsAs m p c machine → is_some machine ≡ true
some_stands m p c None stands = absurd stands
some_stands m p c (Some machine) stands = refl

-- those that live have machines, and no others
pub machines_live : (m : ModuleTree) (ps : Processes) (v : Contents) (p : Pid) → Agrees m ps v → is_some (standing_in ps p) ≡ lives_in ps p
machines_live m ps v p told =
    elim (lives_in ps p) as (λ b. lives_in ps p ≡ b → is_some (standing_in ps p) ≡ b) [
      | true ↦ λ e. some_stands m p (v (cells.Machine p)) (standing_in ps p) (told.stands p e)
      | false ↦ λ e. ap is_some (told.gone p e)
    ] refl

pub some_copied : {X : Type 0} (o : Option (Bor X)) → is_some o ≡ is_some (option_copied o)
some_copied None = refl
some_copied (Some x) = refl
