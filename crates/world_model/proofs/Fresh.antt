-- Names do not repeat.
use Rattle.std.proofs.Common.{◌∙◌, ◌≡◌, Bool, true, false, ℕ, [], ◌∷◌, ◌++◌, length, length-append, ap, Some, None, refl, if◌then◌else◌, arith, inl, inr, true≢false, sym}
use Rattle.std.specs.Prelude.{◌&&◌, ◌<◌, ◌+◌, ◌⊎◌, List, Option, option_map}
use Rattle.term_core.specs.Meaning.{Meaning}
use Rattle.term_core.specs.declared.step.Step.{Step}
use Rattle.term_core.specs.declared.step.Step.TheVariants.{Turn, Deliver}
use Rattle.core_calls.specs.declared.call.CallKind.{CallKind}
use Rattle.core_semantics.specs.Ask.{is_first}
use Rattle.world_model.specs.Calls.{Call, New, OnTable, Spawn, Monitor, MonitorName, call_of}
use Rattle.world_model.specs.Cells.{Table, Contents, Alive, Machine, Watch}
use Rattle.world_model.specs.Events.{Event, History, event, Served, Deed}
use Rattle.world_model.specs.Names.{Pid, Ref, same_ref, same_pid}
use Rattle.world_model.specs.ProcessLines.{next_ref, next_child}
use Rattle.world_model.specs.Requests.{Program}
use Rattle.world_model.specs.Run.{next_event, IsRun}
use Rattle.world_model.specs.RunLaws.{NamesAreNew}
use Rattle.world_model.specs.Steps.{deed_asked, asked}
use Rattle.world_model.specs.ProcessHistory.{is_it, begun_by_call, begun_in, is_turn_of, is_of_turn, ended_in}
use Rattle.world_model.specs.World.{contents, turns, alive}
use Rattle.world_model.proofs.Lives.{turns_told, alive_told}
use Rattle.world_model.proofs.Meeting.{refs_same, pids_same, pid_itself, both}
use Rattle.world_model.proofs.Unmade.{makes_by, watches_by, makes_in, watches_in, table_none, watch_none}

-- ---- pids that end with a number

parent_of : Pid → Pid
parent_of [] = []
parent_of (n ∷ []) = []
parent_of (n ∷ m ∷ ns) = n ∷ parent_of (m ∷ ns)

last_number : Pid → ℕ
last_number [] = 0
last_number (n ∷ []) = n
last_number (n ∷ m ∷ ns) = last_number (m ∷ ns)

parent_is : (p : Pid) (n : ℕ) → parent_of (p ++ (n ∷ [])) ≡ p
unfolding parent_of
parent_is [] n = refl
parent_is (x ∷ []) n = refl
parent_is (x ∷ y ∷ p) n = ap (λ q. x ∷ q) (parent_is (y ∷ p) n)

number_is : (p : Pid) (n : ℕ) → last_number (p ++ (n ∷ [])) ≡ n
unfolding last_number
number_is [] n = refl
number_is (x ∷ []) n = refl
number_is (x ∷ y ∷ p) n = number_is (y ∷ p) n

not_itself : (p : Pid) (n : ℕ) → p ++ (n ∷ []) ≡ p → ⊥
not_itself p n is =
    let long = length-append p (n ∷ []) in
    let same = ap length is in
    absurd (omega (arith, long, same))

-- ---- what is unused

record IsFree (v : Contents) (p : Pid) (n : ℕ) : Type 0 where
  child : v (Alive (p ++ (n ∷ []))) ≡ false
  course : (v (Machine (p ++ (n ∷ [])))).turns ≡ 0
  table : v (Table (record { pid = p; number = n })) ≡ None
  watch : v (Watch (record { pid = p; number = n })) ≡ None

-- of a reference that is the next of a process
ref_parts : (a b : Ref) → same_ref a b ≡ true → (a.pid ≡ b.pid) × (a.number ≡ b.number)
ref_parts a b is =
    let same = refs_same a b is in
    (ap (λ r. r.pid) same, ap (λ r. r.number) same)

-- what an event makes and watches is the next of the process whose turn it is
makes_next : (v : Contents) (p : Pid) (call : Call) (t : Ref) → makes_by v p call t ≡ true → same_ref (next_ref v p) t ≡ true
makes_next v p (New name options) t is = is
makes_next v p (OnTable argument call) t is = absurd cc
makes_next v p call t is = absurd cc

watches_next : (v : Contents) (p : Pid) (call : Call) (t : Ref) → watches_by v p call t ≡ true → same_ref (next_ref v p) t ≡ true
watches_next v p (Spawn way origin) t is = is
watches_next v p (Monitor is_process whom alias) t is = is
watches_next v p (MonitorName is_process name alias) t is = is
watches_next v p call t is = absurd cc

begun_next : (h : History) (p : Pid) (call : Call) (q : Pid) → is_it (begun_by_call h p call) q ≡ true → next_child (contents h) p ≡ q
begun_next h p (Spawn way (Some origin)) q is = pids_same (next_child (contents h) p) q is
begun_next h p (Spawn way None) q is = absurd cc
begun_next h p call q is = absurd cc

-- ---- the numbers of a process only rise

by_bool : (b : Bool) → (b ≡ true) ⊎ (b ≡ false)
by_bool true = inl refl
by_bool false = inr refl

where_true : {A : Type 0} (b : Bool) (x y : A) → b ≡ true → (if b then x else y) ≡ x
where_true b x y is = ap (λ c. if c then x else y) is

where_false : {A : Type 0} (b : Bool) (x y : A) → b ≡ false → (if b then x else y) ≡ y
where_false b x y is = ap (λ c. if c then x else y) is

-- a call does not begin its caller
not_own_child : (h : History) (p : Pid) (call : Call) → is_it (begun_by_call h p call) p ≡ false
not_own_child h p call =
    elim (by_bool (is_it (begun_by_call h p call) p)) [
      | inl own ↦ absurd (not_itself p (turns h p + 1) (begun_next h p call p own))
      | inr other ↦ other
    ]

-- a served call counts
pub counts : (h : History) (p : Pid) (kind : CallKind) (arguments : List Meaning) (answer : Meaning) → turns (event (Turn p) (Served kind arguments answer) ∷ h) p ≡ turns h p + 1
counts h p kind arguments answer =
    turns_told h (event (Turn p) (Served kind arguments answer)) p
    ∙ where_false (is_it (begun_by_call h p (call_of kind arguments)) p) 0 (if same_pid p p && true then turns h p + 1 else turns h p) (not_own_child h p (call_of kind arguments))
    ∙ ap (λ b. if b && true then turns h p + 1 else turns h p) (pid_itself p)

-- who begins, makes or watches: the process whose turn it is
pub record IsBy (h : History) (step : Step) (deed : Deed) (p : Pid) : Type 0 where
  pub turn : step ≡ Turn p
  pub now : turns (event step deed ∷ h) p ≡ turns h p + 1

beginner : (h : History) (step : Step) (deed : Deed) (q : Pid) → is_it (begun_in h step deed) q ≡ true → (p : Pid) × IsBy h step deed p × (next_child (contents h) p ≡ q)
beginner h (Turn p) (Served kind arguments answer) q is = (p, record { turn = refl; now = counts h p kind arguments answer }, begun_next h p (call_of kind arguments) q is)
beginner h (Turn p) deed q is = absurd cc
beginner h (Deliver s r) deed q is = absurd cc

maker : (h : History) (step : Step) (deed : Deed) (t : Ref) → makes_in (contents h) step deed t ≡ true → (p : Pid) × IsBy h step deed p × (same_ref (next_ref (contents h) p) t ≡ true)
maker h (Turn p) (Served kind arguments answer) t is = (p, record { turn = refl; now = counts h p kind arguments answer }, makes_next (contents h) p (call_of kind arguments) t is)
maker h (Turn p) deed t is = absurd cc
maker h (Deliver s r) deed t is = absurd cc

pub watcher : (h : History) (step : Step) (deed : Deed) (t : Ref) → watches_in (contents h) step deed t ≡ true → (p : Pid) × IsBy h step deed p × (same_ref (next_ref (contents h) p) t ≡ true)
watcher h (Turn p) (Served kind arguments answer) t is = (p, record { turn = refl; now = counts h p kind arguments answer }, watches_next (contents h) p (call_of kind arguments) t is)
watcher h (Turn p) deed t is = absurd cc
watcher h (Deliver s r) deed t is = absurd cc

turner : (q : Pid) (step : Step) (b : Bool) → (is_turn_of q step && b) ≡ true → step ≡ Turn q
turner q (Turn p) b is = ap Turn (pids_same p q (both (same_pid p q) b is).0)
turner q (Deliver s r) b is = absurd (true≢false (sym is))

-- ---- one event

pub AreFree : History → Type 0
AreFree h = (q : Pid) (n : ℕ) → turns h q < n → IsFree (contents h) q n

-- of the process that took the turn, the next number is used
not_used : (h : History) (step : Step) (deed : Deed) (p q : Pid) (n : ℕ) → IsBy h step deed p → p ≡ q → turns h p + 1 ≡ n → turns (event step deed ∷ h) q < n → ⊥
not_used h step deed p q n by same number_ less =
    let now = by.now in
    let moved : turns (event step deed ∷ h) q ≡ turns h p + 1 = ap (turns (event step deed ∷ h)) (sym same) ∙ now in
    omega (arith, moved, number_, less)

-- the numbers of a process only rise
pub rises : (h : History) (step : Step) (deed : Deed) (q : Pid) (n : ℕ) → AreFree h → turns (event step deed ∷ h) q < n → turns h q < n
unfolding AreFree
rises h step deed q n free less =
    let told = turns_told h (event step deed) q in
    elim (by_bool (is_it (begun_in h step deed) q)) [
      | inl begun ↦
          let by = beginner h step deed q begun in
          let none : turns h q ≡ 0 = ap (turns h) (sym by.2) ∙ (free by.0 (turns h by.0 + 1) (omega arith)).course in
          let now = told ∙ where_true (is_it (begun_in h step deed) q) 0 _ begun in
          omega (arith, none, now, less)
      | inr old ↦
          let later = told ∙ where_false (is_it (begun_in h step deed) q) 0 _ old in
          elim (by_bool (is_turn_of q step && is_of_turn deed)) [
            | inl turn ↦ let now = later ∙ where_true (is_turn_of q step && is_of_turn deed) (turns h q + 1) (turns h q) turn in omega (arith, now, less)
            | inr other ↦ let now = later ∙ where_false (is_turn_of q step && is_of_turn deed) (turns h q + 1) (turns h q) other in omega (arith, now, less)
          ]
    ]

child_free : (h : History) (step : Step) (deed : Deed) (q : Pid) (n : ℕ) → turns (event step deed ∷ h) q < n → IsFree (contents h) q n → alive (event step deed ∷ h) (q ++ (n ∷ [])) ≡ false
child_free h step deed q n less was =
    let child = q ++ (n ∷ []) in
    let told = alive_told h (event step deed) child in
    elim (by_bool (is_it (ended_in step deed) child)) [
      | inl ended ↦ told ∙ where_true (is_it (ended_in step deed) child) false _ ended
      | inr lives ↦
          let later = told ∙ where_false (is_it (ended_in step deed) child) false _ lives in
          elim (by_bool (is_it (begun_in h step deed) child)) [
            | inl begun ↦
                let by = beginner h step deed child begun in
                let same = sym (parent_is by.0 (turns h by.0 + 1)) ∙ ap parent_of by.2 ∙ parent_is q n in
                let number_ = sym (number_is by.0 (turns h by.0 + 1)) ∙ ap last_number by.2 ∙ number_is q n in
                absurd (not_used h step deed by.0 q n by.1 same number_ less)
            | inr old ↦ later ∙ where_false (is_it (begun_in h step deed) child) true _ old ∙ was.child
          ]
    ]

course_free : (h : History) (step : Step) (deed : Deed) (q : Pid) (n : ℕ) → ((p : Pid) → step ≡ Turn p → alive h p ≡ true) → IsFree (contents h) q n → turns (event step deed ∷ h) (q ++ (n ∷ [])) ≡ 0
course_free h step deed q n lives was =
    let child = q ++ (n ∷ []) in
    let told = turns_told h (event step deed) child in
    elim (by_bool (is_it (begun_in h step deed) child)) [
      | inl begun ↦ told ∙ where_true (is_it (begun_in h step deed) child) 0 _ begun
      | inr old ↦
          let later = told ∙ where_false (is_it (begun_in h step deed) child) 0 _ old in
          elim (by_bool (is_turn_of child step && is_of_turn deed)) [
            | inl turn ↦ absurd (true≢false (sym (lives child (turner child step (is_of_turn deed) turn)) ∙ was.child))
            | inr other ↦ later ∙ where_false (is_turn_of child step && is_of_turn deed) (turns h child + 1) (turns h child) other ∙ was.course
          ]
    ]

table_free : (h : History) (step : Step) (deed : Deed) (q : Pid) (n : ℕ) → turns (event step deed ∷ h) q < n → IsFree (contents h) q n → contents (event step deed ∷ h) (Table (record { pid = q; number = n })) ≡ None
unfolding contents
table_free h step deed q n less was =
    let t : Ref = record { pid = q; number = n } in
    elim (by_bool (makes_in (contents h) step deed t)) [
      | inl made_ ↦
          let by = maker h step deed t made_ in
          let parts = ref_parts (next_ref (contents h) by.0) t by.2 in
          absurd (not_used h step deed by.0 q n by.1 parts.0 parts.1 less)
      | inr other ↦ table_none (contents h) step deed t other was.table
    ]

watch_free : (h : History) (step : Step) (deed : Deed) (q : Pid) (n : ℕ) → turns (event step deed ∷ h) q < n → IsFree (contents h) q n → contents (event step deed ∷ h) (Watch (record { pid = q; number = n })) ≡ None
unfolding contents
watch_free h step deed q n less was =
    let t : Ref = record { pid = q; number = n } in
    elim (by_bool (watches_in (contents h) step deed t)) [
      | inl made_ ↦
          let by = watcher h step deed t made_ in
          let parts = ref_parts (next_ref (contents h) by.0) t by.2 in
          absurd (not_used h step deed by.0 q n by.1 parts.0 parts.1 less)
      | inr other ↦ watch_none (contents h) step deed t other was.watch
    ]

-- ---- every run

lives_when : (b : Bool) (o : Option Deed) (s : Step) (e : Event) → option_map (event s) (if b then o else None) ≡ Some e → b ≡ true
lives_when true o s e now = refl
lives_when false o s e now = absurd cc

pub turns_live : (a : Program) (h : History) (step : Step) (e : Event) → next_event a h step ≡ Some e → (p : Pid) → step ≡ Turn p → alive h p ≡ true
turns_live a h step e now p is = lives_when (contents h (Alive p)) (deed_asked (contents h) p (asked a p (contents h (Machine p)))) (Turn p) e (ap (next_event a h) (sym is) ∙ now)

not_first : (q : Pid) (n : ℕ) → is_first (q ++ (n ∷ [])) ≡ false
not_first [] n = refl
not_first (x ∷ q) n = refl

pub all_free : (a : Program) (h : History) → IsRun a h → AreFree h
unfolding AreFree contents
all_free a [] is q n less = record { child = not_first q n; course = refl; table = refl; watch = refl }
all_free a (e ∷ h) is q n less =
    let free = all_free a h is.1 in
    let was = free q n (rises h e.step e.deed q n free less) in
    record {
      child = child_free h e.step e.deed q n less was;
      course = course_free h e.step e.deed q n (turns_live a h e.step e is.0) was;
      table = table_free h e.step e.deed q n less was;
      watch = watch_free h e.step e.deed q n less was;
    }

pub names_new : NamesAreNew
unfolding AreFree
names_new a h p n is less =
    let free = all_free a h is p n less in
    record { child = free.child; course = free.course; table = free.table; watch = free.watch }
