-- What each step does has no other pids than what the world contains.
use Rattle.std.proofs.Common.{◌≡◌, ℕ, ◌≤◌, ◌+◌, Bool, true, false, List, [], ◌∷◌, refl, if◌then◌else◌, Option, Some, None, codes}
use Rattle.std.specs.List.{AllByRecursion, list_any}
use Rattle.std.specs.Prelude.{is_some, not, ◌&&◌}
use Rattle.term_core.specs.Meaning.{Meaning}
use Rattle.term_core.specs.declared.step.Step.{Step}
use Rattle.term_core.specs.declared.step.Step.TheVariants.{Turn, Deliver}
use Rattle.core_calls.specs.declared.call.CallKind.{CallKind}
use Rattle.core_semantics.specs.Asked.{Answered}
use Rattle.world_model.specs.Calls.{Call, SendExit, call_of}
use Rattle.world_model.specs.Cells.{Contents, Machine, Alive, Trap, Links, Watch, Watchers, Guard, NameOf, Owned, Table, Tail, Front, Mailed, Taken}
use Rattle.world_model.specs.Changes.{AliveCleared, after, changed, without_first}
use Rattle.world_model.specs.Ends.{living_heir, passed, table_passes, tables_pass, partners_told, watchers_told, name_left, left_by, ends}
use Rattle.world_model.specs.Events.{Signal, Message, Exit, LinkExit, Down, Guarded, Elapsed, Fate, Arrives, IsIgnored, IsDropped, Kills, Refusal, Deed}
use Rattle.world_model.specs.Guards.{is_alias_of, ends_by_reply, timer_in, watch_name}
use Rattle.world_model.specs.Lines.{line}
use Rattle.world_model.specs.Mailboxes.{left_of, mailbox_in, selected_of}
use Rattle.world_model.specs.Names.{Name, Pid, Ref, same_pid, same_term}
use Rattle.world_model.specs.Requests.{Origin, Request, Calls, Receives, Ends, RunsAway, Program}
use Rattle.world_model.specs.Signals.{put_if, is_normal, exit_message, down_message, as_exit, exit_fate, link_fate, down_fate, guarded_fate, watched_as, fate_of, goes_with, first_of, waiting_in}
use Rattle.world_model.specs.Steps.{killing, ends_itself, must_wait, judged, ended_or, deed_of_call, received, deed_asked, asked, runaway, changes_of_turn, deed_delivered, changes_of_fate, next_deed, changes_by}
use Rattle.world_model.specs.Tables as tables
use Rattle.world_model.specs.Tables.{Heir, handle_of}
use Rattle.world_model.specs.Terms.{is_atom, atom}
use Rattle.world_pids.specs.Numbers.{IsNumbered}
use Rattle.world_pids.proofs.Arguments.{CallTold, call_told}
use Rattle.world_pids.proofs.Kept.{OriginTold, SignalTold, SentTold, HeirTold, TableTold, CellsTold, ChangesTold, changed_told, after_told, both_told}
use Rattle.world_pids.proofs.Lines.{handle_told, freed_told, reply_told, line_told}
use Rattle.world_pids.proofs.Told.{IfThere, chosen, all_dropped, IsTold, EachTold, AllTold}

module _ (n : ℕ) where
  abbrev pub RequestTold : Request → Type 0
  RequestTold (Calls kind arguments) = EachTold n arguments
  RequestTold (Receives waits selects) = Unit {0}
  RequestTold (Ends reason) = IsTold n reason
  RequestTold RunsAway = Unit {0}

  -- a program names no other pids than it was told
  abbrev pub AsksOfTold : Program → Type 0
  AsksOfTold a = (p : Pid) (origin : Origin) (answers : List Answered) → IsNumbered n p → OriginTold n origin → AllTold n answers → RequestTold (a p origin answers)

  -- ---- ends

  module _ (p : Pid) (mine : IsNumbered n p) where
    passed_told : (t : Ref) (table : tables.Table) (heir : Heir) → HeirTold n heir → ChangesTold n (passed p t table heir)
    passed_told t table None h = (tt, (tt, freed_told n table))
    passed_told t table (Some heir) h = (h.0, (tt, ((mine, (tt, (handle_told n t table, (mine, (h.1, tt))))), tt)))

    living_told : (v : Contents) (heir : Heir) → HeirTold n heir → HeirTold n (living_heir v heir)
    living_told v None h = tt
    living_told v (Some heir) h = chosen (HeirTold n) (v (Alive heir.0)) (Some heir) None h tt

    passes_told : (v : Contents) (t : Ref) (o : Option tables.Table) → IfThere (TableTold n) o → ChangesTold n (table_passes v p t o)
    passes_told v t None h = (tt, (tt, tt))
    passes_told v t (Some table) h = passed_told t table (living_heir v table.heir) (living_told v table.heir h.1)

    all_pass : (v : Contents) (ts : List Ref) → CellsTold n v → ChangesTold n (tables_pass v p ts)
    all_pass v [] cells = tt
    all_pass v (t ∷ ts) cells = both_told n (table_passes v p t (v (Table t))) (tables_pass v p ts) (passes_told v t (v (Table t)) (cells (Table t))) (all_pass v ts cells)

    put_told : (b : Bool) (r : Pid) (x : Signal) → SignalTold n x → ChangesTold n (put_if b p r x)
    put_told true r x h = ((mine, h), tt)
    put_told false r x h = tt

    partners_are_told : (v : Contents) (reason : Meaning) (qs : List Pid) → IsTold n reason → ChangesTold n (partners_told v p reason qs)
    partners_are_told v reason [] h = tt
    partners_are_told v reason (q ∷ qs) h = both_told n (put_if (v (Alive q)) p q (LinkExit reason)) (partners_told v p reason qs) (put_told (v (Alive q)) q (LinkExit reason) h) (partners_are_told v reason qs h)

    watchers_are_told : (v : Contents) (reason : Meaning) (refs : List Ref) → IsTold n reason → ChangesTold n (watchers_told v p reason refs)
    watchers_are_told v reason [] h = tt
    watchers_are_told v reason (ref ∷ refs) h = both_told n (put_if (v (Alive ref.pid)) p ref.pid (Down ref reason)) (watchers_told v p reason refs) (put_told (v (Alive ref.pid)) ref.pid (Down ref reason) h) (watchers_are_told v reason refs h)

    name_told : (o : Option Name) → ChangesTold n (name_left p o)
    name_told None = (tt, tt)
    name_told (Some name) = (tt, (tt, tt))

    left_told : (v : Contents) (reason : Meaning) → CellsTold n v → IsTold n reason → ChangesTold n (left_by v p reason)
    left_told v reason cells h =
        both_told n (tables_pass v p (v (Owned p))) _ (all_pass v (v (Owned p)) cells) (
          tt,
          both_told n (partners_told v p reason (v (Links p))) _ (partners_are_told v reason (v (Links p)) h)
              (both_told n (watchers_told v p reason (v (Watchers p))) (name_left p (v (NameOf p))) (watchers_are_told v reason (v (Watchers p)) h) (name_told (v (NameOf p)))),
        )

    pub ends_told : (v : Contents) (reason : Meaning) → CellsTold n v → IsTold n reason → ChangesTold n (ends v p reason)
    ends_told v reason cells h = (tt, (tt, left_told (changed (AliveCleared p) v) reason (changed_told n (AliveCleared p) v tt cells) h))

  -- ---- fates

  abbrev FateTold : Fate → Type 0
  FateTold (Arrives message) = IsTold n message
  FateTold IsIgnored = Unit {0}
  FateTold IsDropped = Unit {0}
  FateTold (Kills reason) = IsTold n reason

  as_exit_told : (traps is_own : Bool) (s : Pid) (reason : Meaning) → IsNumbered n s → IsTold n reason → FateTold (as_exit traps is_own s reason)
  as_exit_told traps is_own s reason h k =
      chosen FateTold traps (Arrives (exit_message s reason)) _ (tt, (h, (k, tt)))
      (chosen FateTold (is_normal reason && not is_own) IsIgnored (Kills reason) tt k)

  exit_told : (traps is_own : Bool) (s : Pid) (reason : Meaning) → IsNumbered n s → IsTold n reason → FateTold (exit_fate traps is_own s reason)
  exit_told traps is_own s reason h k = chosen FateTold (is_atom (codes "kill") reason) (Kills (atom (codes "killed"))) (as_exit traps is_own s reason) tt (as_exit_told traps is_own s reason h k)

  link_told : (stands traps : Bool) (s : Pid) (reason : Meaning) → IsNumbered n s → IsTold n reason → FateTold (link_fate stands traps s reason)
  link_told stands traps s reason h k = chosen FateTold stands (as_exit traps false s reason) IsDropped (as_exit_told traps false s reason h k) tt

  who_told : (s : Pid) (o : Option Name) → IsNumbered n s → IsTold n (watched_as s o)
  who_told s None h = h
  who_told s (Some name) h = (tt, (tt, tt))

  down_told : (o : Option Pid) (ref : Ref) (who reason : Meaning) → IsTold n who → IsTold n reason → FateTold (down_fate o ref who reason)
  down_told o ref who reason h k = chosen FateTold (is_some o) (Arrives (down_message ref who reason)) IsDropped (tt, (tt, (tt, (h, (k, tt))))) tt

  guarded_told : (b : Bool) (m : Meaning) → IsTold n m → FateTold (guarded_fate b m)
  guarded_told b m h = chosen FateTold b (Arrives m) IsDropped h tt

  fate_told : (v : Contents) (s r : Pid) (x : Signal) → SentTold n s x → FateTold (fate_of v s r x)
  fate_told v s r (Message m) h = h.1
  fate_told v s r (Exit reason) h = exit_told (v (Trap r)) false s reason h.0 h.1
  fate_told v s r (LinkExit reason) h = link_told (list_any (same_pid s) (v (Links r))) (v (Trap r)) s reason h.0 h.1
  fate_told v s r (Down ref reason) h = down_told (v (Watch ref)) ref (watched_as s (watch_name (v (Guard ref)))) reason (who_told s (watch_name (v (Guard ref))) h.0) h.1
  fate_told v s r (Guarded ref m) h = guarded_told (is_alias_of r (v (Guard ref))) m h.1
  fate_told v s r (Elapsed ref m) h = guarded_told (is_some (timer_in (v (Guard ref)))) m h.1

  -- ---- deliveries

  goes_told : (v : Contents) (s r : Pid) (x : Signal) → ChangesTold n (goes_with v s r x)
  goes_told v s r (Message m) = tt
  goes_told v s r (Exit reason) = tt
  goes_told v s r (LinkExit reason) = (tt, (tt, tt))
  goes_told v s r (Down ref reason) = (tt, (tt, (tt, tt)))
  goes_told v s r (Guarded ref m) = reply_told n (ends_by_reply r (v (Guard ref))) ref (v (Watch ref))
  goes_told v s r (Elapsed ref m) = (tt, tt)

  by_fate : (v : Contents) (r : Pid) (f : Fate) → IsNumbered n r → CellsTold n v → FateTold f → ChangesTold n (changes_of_fate v r f)
  by_fate v r (Arrives m) mine cells h = (h, tt)
  by_fate v r IsIgnored mine cells h = tt
  by_fate v r IsDropped mine cells h = tt
  by_fate v r (Kills reason) mine cells h = ends_told r mine v reason cells h

  module _ (v : Contents) (cells : CellsTold n v) where
    abbrev DoesTold : Step → Option Deed → Type 0
    DoesTold step o = IfThere (λ (d : Deed). ChangesTold n (changes_by v step d)) o

    delivered_told : (s r : Pid) (o : Option Signal) → IsNumbered n r → IfThere (SentTold n s) o → DoesTold (Deliver s r) (deed_delivered v s r o)
    delivered_told s r None mine h = tt
    delivered_told s r (Some x) mine h =
        (tt, both_told n (goes_with v s r x) _ (goes_told v s r x) (by_fate (after (goes_with v s r x) v) r (fate_of v s r x) mine (after_told n (goes_with v s r x) v (goes_told v s r x) cells) (fate_told v s r x h)))

    first_sent : {A : Type 0} (P : A → Type 0) (xs : List A) → AllByRecursion P xs → IfThere P (first_of xs)
    first_sent P [] h = tt
    first_sent P (x ∷ xs) h = h.0

    -- the signal that waits first, and who sent it
    pub waiting_told : (s r : Pid) → IfThere (SentTold n s) (first_of (waiting_in v s r))
    waiting_told s r = first_sent (SentTold n s) (waiting_in v s r) (all_dropped (SentTold n s) (v (Front s r)) (v (Tail s r)) (cells (Tail s r)))

    -- ---- turns

    module _ (p : Pid) (mine : IsNumbered n p) (most : (v (Machine p)).turns + 1 ≤ n) where
      abbrev TurnTold : Deed → Type 0
      TurnTold d = ChangesTold n (changes_of_turn v p d)

      judged_told : (kind : CallKind) (arguments : List Meaning) (o : Option Refusal) → CallTold n (call_of kind arguments) → TurnTold (judged kind arguments o (line v p (call_of kind arguments)).answer)
      judged_told kind arguments None h = let told = line_told n v cells p (call_of kind arguments) mine most h in ((told.0, tt), told.1)
      judged_told kind arguments (Some refusal) h = ((tt, tt), tt)

      ended_told : (kind : CallKind) (arguments : List Meaning) (o : Option Meaning) (d : Deed) → IfThere (IsTold n) o → TurnTold d → TurnTold (ended_or kind arguments o d)
      ended_told kind arguments None d h k = k
      ended_told kind arguments (Some reason) d h k = (tt, ends_told p mine v reason cells h)

      killing_told : (f : Fate) → FateTold f → IfThere (IsTold n) (killing f)
      killing_told (Arrives m) h = tt
      killing_told IsIgnored h = tt
      killing_told IsDropped h = tt
      killing_told (Kills reason) h = h

      itself_told : (call : Call) → CallTold n call → IfThere (IsTold n) (ends_itself v p call)
      itself_told (SendExit (Some q) reason) h =
          chosen (IfThere (IsTold n)) (same_pid p q) (killing (exit_fate (v (Trap p)) true p reason)) None (killing_told (exit_fate (v (Trap p)) true p reason) (exit_told (v (Trap p)) true p reason mine h)) tt
      itself_told (SendExit None reason) h = tt
      itself_told call h = tt

      called_told : (kind : CallKind) (arguments : List Meaning) → CallTold n (call_of kind arguments) → IfThere TurnTold (deed_of_call v p kind arguments)
      called_told kind arguments h =
          let call = call_of kind arguments in
          chosen (IfThere TurnTold) (must_wait v p call) None (Some (ended_or kind arguments (ends_itself v p call) (judged kind arguments (line v p call).refusal (line v p call).answer))) tt
          (ended_told kind arguments (ends_itself v p call) _ (itself_told call h) (judged_told kind arguments (line v p call).refusal h))

      without_told : (test : Meaning → Bool) (ms : List Meaning) → EachTold n ms → EachTold n (without_first test ms)
      without_told test [] h = tt
      without_told test (m ∷ ms) h = chosen (EachTold n) (test m) ms (m ∷ without_first test ms) h.1 (h.0, without_told test ms h.1)

      left_over : (taken ms : List Meaning) → EachTold n ms → EachTold n (left_of taken ms)
      left_over [] ms h = h
      left_over (m ∷ more) ms h = left_over more (without_first (same_term m) ms) (without_told (same_term m) ms h)

      selected_told : (selects : Meaning → Bool) (ms : List Meaning) → EachTold n ms → IfThere (IsTold n) (selected_of selects ms)
      selected_told selects [] h = tt
      selected_told selects (m ∷ ms) h = chosen (IfThere (IsTold n)) (selects m) (Some m) (selected_of selects ms) h.0 (selected_told selects ms h.1)

      received_told : (waits : Bool) (o : Option Meaning) → IfThere (IsTold n) o → IfThere TurnTold (received waits o)
      received_told waits (Some m) h = ((h, tt), (tt, tt))
      received_told true None h = tt
      received_told false None h = ((tt, tt), tt)

      asked_told : (request : Request) → RequestTold request → IfThere TurnTold (deed_asked v p request)
      asked_told (Calls kind arguments) h = called_told kind arguments (call_told n kind arguments h)
      asked_told (Receives waits selects) h =
          received_told waits (selected_of selects (mailbox_in v p)) (selected_told selects (mailbox_in v p) (left_over (v (Taken p)) (v (Mailed p)) (cells (Mailed p))))
      asked_told (Ends reason) h = (tt, ends_told p mine v reason cells h)
      asked_told RunsAway h = (tt, ends_told p mine v runaway cells tt)

    -- ---- steps

    module _ (a : Program) (asks : AsksOfTold a) (most : (p : Pid) → (v (Machine p)).turns + 1 ≤ n) where
      turn_told : (p : Pid) (b : Bool) → v (Alive p) ≡ b → DoesTold (Turn p) (if b then deed_asked v p (asked a p (v (Machine p))) else None)
      turn_told p true lives =
          let mine = cells (Alive p) lives in
          asked_told p mine (most p) (asked a p (v (Machine p))) (asks p (v (Machine p)).origin (v (Machine p)).answers mine (cells (Machine p)).0 (cells (Machine p)).1)
      turn_told p false lives = tt

      delivery_told : (s r : Pid) (b : Bool) → v (Alive r) ≡ b → DoesTold (Deliver s r) (if b then deed_delivered v s r (first_of (waiting_in v s r)) else None)
      delivery_told s r true lives = delivered_told s r (first_of (waiting_in v s r)) (cells (Alive r) lives) (waiting_told s r)
      delivery_told s r false lives = tt

      pub step_told : (step : Step) → DoesTold step (next_deed a v step)
      step_told (Turn p) = turn_told p (v (Alive p)) refl
      step_told (Deliver s r) = delivery_told s r (v (Alive r)) refl
