-- The numbers of the pids of a run.
use Rattle.std.proofs.Common.{◌≡◌, ℕ, suc, ◌≤◌, ◌+◌, Bool, true, false, [], ◌∷◌, map, length, refl, sym, ap, subst, ◌∙◌, true≢false, if◌then◌else◌, Option, Some, None, option_map, arith}
use Rattle.std.specs.List.{AllByRecursion}
use Rattle.std.specs.Prelude.{◌&&◌, is_some}
use Rattle.term_core.proofs.Pieces.{all-append}
use Rattle.term_core.specs.declared.step.Step.{Step}
use Rattle.term_core.specs.declared.step.Step.TheVariants.{Turn, Deliver}
use Rattle.core_semantics.specs.Ask.{ask, is_first}
use Rattle.core_semantics.specs.Asked.{Asked, Call, Receive, End, Runaway}
use Rattle.core_tree.specs.Syntax.{ModuleTree}
use Rattle.world_model.specs.Asking.{program_of, entry_of, request_of}
use Rattle.world_model.specs.Calls.{Spawn, call_of}
use Rattle.world_model.specs.Calls as calls
use Rattle.world_model.specs.Cells.{Cell, Contents, Machine, Alive, Rows}
use Rattle.world_model.specs.Events.{History, Event, Deed, Served, event, Signal}
use Rattle.world_model.specs.Names.{Pid}
use Rattle.world_model.specs.ProcessHistory.{is_it, begun_by_call, begun_in, ended_in, is_turn_of, is_of_turn}
use Rattle.world_model.specs.ProcessLines.{next_child}
use Rattle.world_model.specs.Requests.{Origin, Main, Spawned, Program}
use Rattle.world_model.specs.Run.{IsRun, is_enabled, schedule_of}
use Rattle.world_model.specs.Signals.{first_of, waiting_in}
use Rattle.world_model.specs.Steps.{next_deed, deed_asked, deed_delivered, asked, changes_by}
use Rattle.world_model.specs.World.{contents, alive, turns}
use Rattle.world_model.proofs.Fresh.{turns_live}
use Rattle.world_model.proofs.Histories.{deed_is}
use Rattle.world_model.proofs.Lives.{alive_told, turns_told}
use Rattle.world_model.proofs.Meeting.{pids_same}
use Rattle.world_pids.specs.Numbers.{IsNumbered, IsOfNumbered, LivingAreNumbered, StepsAreNumbered, SchedulesAreNumbered}
use Rattle.world_pids.proofs.Evaluated.{asks_what_it_was_told}
use Rattle.world_pids.proofs.Kept.{OriginTold, SentTold, CellTold, CellsTold, ChangesTold, after_told}
use Rattle.world_pids.proofs.Rows.{no_rows}
use Rattle.world_pids.proofs.Steps.{RequestTold, AsksOfTold, step_told, waiting_told}
use Rattle.world_pids.proofs.Told.{IfThere, all_reversed, EachTold, AsksTold}

-- ---- no process took more turns than there were events

one_more : (b c : Bool) (t k : ℕ) → t ≤ k → (if b then 0 else (if c then t + 1 else t)) ≤ k + 1
one_more true c t k most = omega arith
one_more false true t k most = omega (arith, most)
one_more false false t k most = omega (arith, most)

pub turns_at_most : (h : History) (p : Pid) → turns h p ≤ length h
unfolding contents
turns_at_most [] p = omega arith
turns_at_most (e ∷ h) p =
    let told = turns_told h e p in
    let most = one_more (is_it (begun_in h e.step e.deed) p) (is_turn_of p e.step && is_of_turn e.deed) (turns h p) (length h) (turns_at_most h p) in
    omega (arith, told, most)

-- ---- who lives

first_numbered : (n : ℕ) (p : Pid) → is_first p ≡ true → IsNumbered n p
first_numbered n [] lives = tt
first_numbered n (k ∷ p) lives = absurd (true≢false (sym lives))

module _ (n : ℕ) where
  begun_numbered : (h : History) (step : Step) (deed : Deed) (q : Pid) → ((p : Pid) → step ≡ Turn p → IsNumbered n p × (turns h p + 1 ≤ n)) → is_it (begun_in h step deed) q ≡ true → IsNumbered n q
  begun_numbered h (Turn p) (Served kind arguments answer) q who is = by_call (call_of kind arguments) is where
    by_call : (call : calls.Call) → is_it (begun_by_call h p call) q ≡ true → IsNumbered n q
    by_call (Spawn way (Some origin)) same = subst (IsNumbered n) (pids_same (next_child (contents h) p) q same) (all-append _ p _ (who p refl).0 ((omega arith, (who p refl).1), tt))
    by_call (Spawn way None) same = absurd (true≢false (sym same))
    by_call call same = absurd (true≢false (sym same))
  begun_numbered h (Turn p) deed q who is = absurd (true≢false (sym is))
  begun_numbered h (Deliver s r) deed q who is = absurd (true≢false (sym is))

  lives_by : (q : Pid) (ended begun lived : Bool) → (begun ≡ true → IsNumbered n q) → (lived ≡ true → IsNumbered n q) → (if ended then false else (if begun then true else lived)) ≡ true → IsNumbered n q
  lives_by q true begun lived by was now = absurd (true≢false (sym now))
  lives_by q false true lived by was now = by refl
  lives_by q false false lived by was now = was now

  less : (k : ℕ) → suc k ≤ n → k ≤ n
  less k most = omega (arith, most)

  living : (a : Program) (h : History) (p : Pid) → IsRun a h → length h ≤ n → alive h p ≡ true → IsNumbered n p
  unfolding contents
  living a [] p real most lives = first_numbered n p lives
  living a (e ∷ h) p real most lives =
      lives_by p (is_it (ended_in e.step e.deed) p) (is_it (begun_in h e.step e.deed) p) (alive h p)
      (begun_numbered h e.step e.deed p (λ q turn. (living a h q real.1 (less (length h) most) (turns_live a h e.step e real.0 q turn), let few = turns_at_most h q in omega (arith, few, most))))
      (living a h p real.1 (less (length h) most))
      (sym (alive_told h e p) ∙ lives)

  -- ---- what the world contains

  beginning_told : CellsTold n (contents [])
  unfolding contents
  beginning_told = λ c. in_cell c where
    in_cell : (c : Cell) → CellTold n c (contents [] c)
    in_cell (Machine p) = (tt, tt)
    in_cell (Alive p) = first_numbered n p
    in_cell (Rows t) = no_rows n
    in_cell c = tt

  module _ (a : Program) (asks : AsksOfTold n a) where
    pub run_told : (h : History) → IsRun a h → length h ≤ n → CellsTold n (contents h)
    unfolding contents
    run_told [] real most = beginning_told
    run_told (e ∷ h) real most =
        let cells = run_told h real.1 (less (length h) most) in
        let told = step_told n (contents h) cells a asks (λ p. let few = turns_at_most h p in omega (arith, few, most)) e.step in
        after_told n (changes_by (contents h) e.step e.deed) (contents h) (subst (IfThere (λ (d : Deed). ChangesTold n (changes_by (contents h) e.step d))) (deed_is e.step (next_deed a (contents h) e.step) e real.0) told) cells

    -- ---- steps that are enabled

    turn_lives : (b : Bool) (o : Option Deed) (p : Pid) → is_some (option_map (event (Turn p)) (if b then o else None)) ≡ true → b ≡ true
    turn_lives true o p now = refl
    turn_lives false o p now = absurd (true≢false (sym now))

    both_there : (v : Contents) (s r : Pid) (b : Bool) (o : Option Signal) → IfThere (SentTold n s) o → is_some (option_map (event (Deliver s r)) (if b then deed_delivered v s r o else None)) ≡ true → (b ≡ true) × IsNumbered n s
    both_there v s r true (Some x) h now = (refl, h.0)
    both_there v s r true None h now = absurd (true≢false (sym now))
    both_there v s r false o h now = absurd (true≢false (sym now))

    pub enabled_numbered : (h : History) (step : Step) → IsRun a h → length h ≤ n → is_enabled a h step ≡ true → IsOfNumbered n step
    enabled_numbered h (Turn p) real most now =
        run_told h real most (Alive p) (turn_lives (contents h (Alive p)) (deed_asked (contents h) p (asked a p (contents h (Machine p)))) p now)
    enabled_numbered h (Deliver s r) real most now =
        let cells = run_told h real most in
        let there = both_there (contents h) s r (contents h (Alive r)) (first_of (waiting_in (contents h) s r)) (waiting_told n (contents h) cells s r) now in
        (there.1, cells (Alive r) there.0)

    taken_numbered : (h : History) → IsRun a h → length h ≤ n → AllByRecursion (IsOfNumbered n) (map (λ (e : Event). e.step) h)
    taken_numbered [] real most = tt
    taken_numbered (e ∷ h) real most = (enabled_numbered h e.step real.1 (less (length h) most) (ap is_some real.0), taken_numbered h real.1 (less (length h) most))

    pub schedule_numbered : (h : History) → IsRun a h → length h ≤ n → AllByRecursion (IsOfNumbered n) (schedule_of h)
    schedule_numbered h real most = all_reversed (IsOfNumbered n) (map (λ (e : Event). e.step) h) (taken_numbered h real most)

  -- ---- modules

  request_told : (r : Asked) → AsksTold n r → RequestTold n (request_of r)
  request_told (Call kind arguments) h = h
  request_told (Receive waits selects) h = tt
  request_told (End reason) h = h
  request_told Runaway h = tt

  begins_told : (m : ModuleTree) (origin : Origin) → OriginTold n origin → EachTold n (entry_of m origin).arguments
  begins_told m Main h = tt
  begins_told m (Spawned module_name function_name arguments) h = h

  pub modules_ask : (m : ModuleTree) → AsksOfTold n (program_of m)
  modules_ask m p origin answers mine h k =
      request_told (ask m p (entry_of m origin) answers) (asks_what_it_was_told n m p mine (entry_of m origin) answers (begins_told m origin h) k)

-- ---- the laws

at_most_itself : (n : ℕ) → n ≤ n
at_most_itself n = omega arith

pub living_numbered : LivingAreNumbered
living_numbered a h p real lives = living (length h) a h p real (at_most_itself (length h)) lives

pub steps_numbered : StepsAreNumbered
steps_numbered m h step real now = enabled_numbered (length h) (program_of m) (modules_ask (length h) m) h step real (at_most_itself (length h)) now

pub schedules_numbered : SchedulesAreNumbered
schedules_numbered m h real = schedule_numbered (length h) (program_of m) (modules_ask (length h) m) h real (at_most_itself (length h))
