-- A process lives from where it begins until an event ends it; its turns, its answers and its flag.
use Rattle.std.proofs.Common.{◌∙◌, refl, ap}
use Rattle.std.specs.Prelude.{◌∷◌, ◌+◌, ◌≡◌, ◌++◌, ◌&&◌, if◌then◌else◌, false, Option, true, None, Some, Bool, unwrap_or, [], List}
use Rattle.term_core.specs.Meaning.{Meaning}
use Rattle.term_core.specs.declared.step.Step.{Step}
use Rattle.term_core.specs.declared.step.Step.TheVariants.{Deliver, Turn}
use Rattle.core_semantics.specs.Asked as answered
use Rattle.core_semantics.specs.Asked.{Answered}
use Rattle.world_model.specs.Calls.{Spawn, SpawnWay, Alone, Linked, Watched, Call, OnTable, call_of, Flag}
use Rattle.world_model.specs.Cells.{Alive, Machine, Contents, Trap, Course}
use Rattle.world_model.specs.Changes.{after, changed, SignalDelivered, TurnTaken}
use Rattle.world_model.specs.Ends.{ends}
use Rattle.world_model.specs.Events.{Signal, Fate, Delivered, Arrives, IsIgnored, IsDropped, Kills, History, Deed, Served, Refused, Ended, EndedItself, Received, TimedOut, RanAway}
use Rattle.world_model.specs.Lines.{line}
use Rattle.world_model.specs.Names.{Pid, Ref, same_pid}
use Rattle.world_model.specs.ProcessLines.{bound, next_child, next_ref}
use Rattle.world_model.specs.Requests.{Origin}
use Rattle.world_model.specs.Signals.{goes_with}
use Rattle.world_model.specs.Steps.{changes_of_fate, changes_by, runaway, raised_by}
use Rattle.world_model.specs.Terms.{atom}
use Rattle.world_model.specs.ProcessHistory.{is_it, ended_in, begun_by_call, begun_in, AliveIsTold, flag_in, is_turn_of, flag_set, TrapsAreTold, is_of_turn, answer_in, TurnsAreTold, AnswersAreTold}
use Rattle.world_model.specs.World.{contents}
use Rattle.world_model.proofs.Commuting.{stays}
use Rattle.world_model.proofs.EndSorts.{alive_after_end, after_both, end_leaves}
use Rattle.world_model.proofs.Outcomes.{touches}
use Rattle.world_model.proofs.SortLaws.{goes_off, call_leaves, no_life, no_flag, no_course}

bound_off : (way : SpawnWay) (p child : Pid) (ref : Ref) (q : Pid) → touches (bound way p child ref) (Alive q) ≡ false
bound_off Alone p child ref q = refl
bound_off Linked p child ref q = refl
bound_off Watched p child ref q = refl

bound_off_course : (way : SpawnWay) (p child : Pid) (ref : Ref) (q : Pid) → touches (bound way p child ref) (Machine q) ≡ false
bound_off_course Alone p child ref q = refl
bound_off_course Linked p child ref q = refl
bound_off_course Watched p child ref q = refl

abbrev IsTold : Contents → Contents → Option Pid → Option Pid → Pid → Type 0
IsTold v now ended begins q = now (Alive q) ≡ (if is_it ended q then false else (if is_it begins q then true else v (Alive q)))

fate_told : (v w : Contents) (s r q : Pid) (x : Signal) (f : Fate) → after (changes_of_fate v r f) w (Alive q) ≡ (if is_it (ended_in (Deliver s r) (Delivered x f)) q then false else w (Alive q))
fate_told v w s r q x (Arrives m) = refl
fate_told v w s r q x IsIgnored = refl
fate_told v w s r q x IsDropped = refl
fate_told v w s r q x (Kills reason) = alive_after_end v w r q reason

delivery_told : (v : Contents) (s r q : Pid) (x : Signal) (f : Fate) → IsTold v (after (changes_by v (Deliver s r) (Delivered x f)) v) (ended_in (Deliver s r) (Delivered x f)) None q
delivery_told v s r q x f =
    let ks = goes_with v s r x in
    let w = changed (SignalDelivered s r) v in
    after_both ks (changes_of_fate (after ks v) r f) w (Alive q) ∙ fate_told (after ks v) (after ks w) s r q x f ∙ ap (λ b. if is_it (ended_in (Deliver s r) (Delivered x f)) q then false else b) (stays ks w (Alive q) (goes_off v s r x (Alive q) refl))

call_told : (h : History) (w : Contents) (p q : Pid) (call : Call) → w (Alive q) ≡ contents h (Alive q) → IsTold (contents h) (after (line (contents h) p call).changes w) None (begun_by_call h p call) q
call_told h w p q (Spawn way (Some origin)) same = stays (bound way p (next_child (contents h) p) (next_ref (contents h) p)) _ (Alive q) (bound_off way p (next_child (contents h) p) (next_ref (contents h) p) q) ∙ ap (λ x. if same_pid (next_child (contents h) p) q then true else x) same
call_told h w p q (Spawn way None) same = same
call_told h w p q (OnTable argument call) same = call_leaves (contents h) w p (OnTable argument call) (Alive q) (no_life call q) ∙ same
call_told h w p q call same = call_leaves (contents h) w p call (Alive q) refl ∙ same

told : (h : History) (step : Step) (deed : Deed) (q : Pid) → IsTold (contents h) (after (changes_by (contents h) step deed) (contents h)) (ended_in step deed) (begun_in h step deed) q
told h (Turn p) (Served kind arguments answer) q = call_told h _ p q (call_of kind arguments) refl
told h (Turn p) (Refused kind arguments refusal) q = refl
told h (Turn p) (EndedItself kind arguments reason) q = alive_after_end (contents h) _ p q reason
told h (Turn p) (Received m) q = refl
told h (Turn p) TimedOut q = refl
told h (Turn p) (Ended reason) q = alive_after_end (contents h) _ p q reason
told h (Turn p) RanAway q = alive_after_end (contents h) _ p q runaway
told h (Turn p) (Delivered x f) q = refl
told h (Deliver s r) (Delivered x f) q = delivery_told (contents h) s r q x f
told h (Deliver s r) deed q = refl

pub alive_told : AliveIsTold
unfolding contents
alive_told h e q = told h e.step e.deed q

-- ---- the flag

same_either : {A : Type 0} (b : Bool) (x : A) → x ≡ (if b then x else x)
same_either true x = refl
same_either false x = refl

call_flag : (v w : Contents) (p q : Pid) (call : Call) → w (Trap q) ≡ v (Trap q) → after (line v p call).changes w (Trap q) ≡ (if same_pid p q then unwrap_or (flag_in call) (v (Trap q)) else v (Trap q))
call_flag v w p q (Flag (Some b)) same = ap (λ x. if same_pid p q then b else x) same
call_flag v w p q (Flag None) same = same ∙ same_either (same_pid p q) (v (Trap q))
call_flag v w p q (OnTable argument call) same = call_leaves v w p (OnTable argument call) (Trap q) (no_flag call q) ∙ same ∙ same_either (same_pid p q) (v (Trap q))
call_flag v w p q call same = call_leaves v w p call (Trap q) refl ∙ same ∙ same_either (same_pid p q) (v (Trap q))

fate_flag : (v w : Contents) (r q : Pid) (f : Fate) → after (changes_of_fate v r f) w (Trap q) ≡ w (Trap q)
fate_flag v w r q (Arrives m) = refl
fate_flag v w r q IsIgnored = refl
fate_flag v w r q IsDropped = refl
fate_flag v w r q (Kills reason) = end_leaves v w r reason (Trap q) refl

flagged : (v : Contents) (step : Step) (deed : Deed) (q : Pid) → after (changes_by v step deed) v (Trap q) ≡ (if is_turn_of q step then unwrap_or (flag_set deed) (v (Trap q)) else v (Trap q))
flagged v (Turn p) (Served kind arguments answer) q = call_flag v _ p q (call_of kind arguments) refl
flagged v (Turn p) (Refused kind arguments refusal) q = same_either (same_pid p q) (v (Trap q))
flagged v (Turn p) (EndedItself kind arguments reason) q = end_leaves v (changed (TurnTaken p []) v) p reason (Trap q) refl ∙ same_either (same_pid p q) (v (Trap q))
flagged v (Turn p) (Received m) q = same_either (same_pid p q) (v (Trap q))
flagged v (Turn p) TimedOut q = same_either (same_pid p q) (v (Trap q))
flagged v (Turn p) (Ended reason) q = end_leaves v (changed (TurnTaken p []) v) p reason (Trap q) refl ∙ same_either (same_pid p q) (v (Trap q))
flagged v (Turn p) RanAway q = end_leaves v (changed (TurnTaken p []) v) p runaway (Trap q) refl ∙ same_either (same_pid p q) (v (Trap q))
flagged v (Turn p) (Delivered x f) q = same_either (same_pid p q) (v (Trap q))
flagged v (Deliver s r) (Delivered x f) q =
    let ks = goes_with v s r x in
    let w = changed (SignalDelivered s r) v in
    after_both ks (changes_of_fate (after ks v) r f) w (Trap q) ∙ fate_flag (after ks v) (after ks w) r q f ∙ stays ks w (Trap q) (goes_off v s r x (Trap q) refl)
flagged v (Deliver s r) deed q = refl

pub traps_told : TrapsAreTold
unfolding contents
traps_told h e q = flagged (contents h) e.step e.deed q

-- ---- turns and answers

-- a part of a course that halting leaves
module _ {A : Type 0} (part : Course → A) (fresh : A) (turned_ : List Answered → A → A) (begins : (o : Origin) → part (record { origin = o; turns = 0; answers = []; ended = None }) ≡ fresh) (turning : (m : Course) (xs : List Answered) → part (record { origin = m.origin; turns = m.turns + 1; answers = m.answers ++ xs; ended = m.ended }) ≡ turned_ xs (part m)) (halting : (m : Course) (reason : Meaning) → part (record { origin = m.origin; turns = m.turns; answers = m.answers; ended = Some reason }) ≡ part m) where
  begun_if : (b : Bool) (o : Origin) (m : Course) → part (if b then record { origin = o; turns = 0; answers = []; ended = None } else m) ≡ (if b then fresh else part m)
  begun_if true o m = begins o
  begun_if false o m = refl

  turned_if : (b : Bool) (xs : List Answered) (m : Course) → part (if b then record { origin = m.origin; turns = m.turns + 1; answers = m.answers ++ xs; ended = m.ended } else m) ≡ (if b then turned_ xs (part m) else part m)
  turned_if true xs m = turning m xs
  turned_if false xs m = refl

  halted_if : (b : Bool) (reason : Meaning) (m : Course) → part (if b then record { origin = m.origin; turns = m.turns; answers = m.answers; ended = Some reason } else m) ≡ part m
  halted_if true reason m = halting m reason
  halted_if false reason m = refl

  call_part : (h : History) (w : Contents) (p q : Pid) (call : Call) → part (after (line (contents h) p call).changes w (Machine q)) ≡ (if is_it (begun_by_call h p call) q then fresh else part (w (Machine q)))
  call_part h w p q (Spawn way (Some origin)) =
      ap part (stays (bound way p (next_child (contents h) p) (next_ref (contents h) p)) _ (Machine q) (bound_off_course way p (next_child (contents h) p) (next_ref (contents h) p) q))
      ∙ begun_if (same_pid (next_child (contents h) p) q) origin (w (Machine q))
  call_part h w p q (Spawn way None) = refl
  call_part h w p q (OnTable argument call) = ap part (call_leaves (contents h) w p (OnTable argument call) (Machine q) (no_course call q))
  call_part h w p q call = ap part (call_leaves (contents h) w p call (Machine q) refl)

  end_part : (v w : Contents) (p q : Pid) (reason : Meaning) → part (after (ends v p reason) w (Machine q)) ≡ part (w (Machine q))
  end_part v w p q reason = ap part (end_leaves v w p reason (Machine q) refl) ∙ halted_if (same_pid p q) reason (w (Machine q))

  fate_part : (v w : Contents) (r q : Pid) (f : Fate) → part (after (changes_of_fate v r f) w (Machine q)) ≡ part (w (Machine q))
  fate_part v w r q (Arrives m) = refl
  fate_part v w r q IsIgnored = refl
  fate_part v w r q IsDropped = refl
  fate_part v w r q (Kills reason) = end_part v w r q reason

  abbrev part_told : History → Step → Deed → Pid → A
  part_told h step deed q = if is_it (begun_in h step deed) q then fresh else (if is_turn_of q step && is_of_turn deed then turned_ (answer_in deed) (part (contents h (Machine q))) else part (contents h (Machine q)))

  and_true : (b : Bool) (x y : A) → (if b then x else y) ≡ (if b && true then x else y)
  and_true true x y = refl
  and_true false x y = refl

  and_false : (b : Bool) (x y : A) → y ≡ (if b && false then x else y)
  and_false true x y = refl
  and_false false x y = refl

  turn_part : (h : History) (p q : Pid) (xs : List Answered) → part (changed (TurnTaken p xs) (contents h) (Machine q)) ≡ (if same_pid p q && true then turned_ xs (part (contents h (Machine q))) else part (contents h (Machine q)))
  turn_part h p q xs = turned_if (same_pid p q) xs (contents h (Machine q)) ∙ and_true (same_pid p q) _ _

  pub parts_told : (h : History) (step : Step) (deed : Deed) (q : Pid) → part (after (changes_by (contents h) step deed) (contents h) (Machine q)) ≡ part_told h step deed q
  parts_told h (Turn p) (Served kind arguments answer) q =
      call_part h _ p q (call_of kind arguments) ∙ ap (λ x. if is_it (begun_by_call h p (call_of kind arguments)) q then fresh else x) (turn_part h p q (answered.Value answer ∷ []))
  parts_told h (Turn p) (Refused kind arguments refusal) q = turn_part h p q (answered.Raise (atom (raised_by refusal)) ∷ [])
  parts_told h (Turn p) (EndedItself kind arguments reason) q = end_part (contents h) _ p q reason ∙ turn_part h p q []
  parts_told h (Turn p) (Received m) q = turn_part h p q (answered.Message m ∷ [])
  parts_told h (Turn p) TimedOut q = turn_part h p q (answered.TimedOut ∷ [])
  parts_told h (Turn p) (Ended reason) q = end_part (contents h) _ p q reason ∙ turn_part h p q []
  parts_told h (Turn p) RanAway q = end_part (contents h) _ p q runaway ∙ turn_part h p q []
  parts_told h (Turn p) (Delivered x f) q = and_false (same_pid p q) _ _
  parts_told h (Deliver s r) (Delivered x f) q =
      let ks = goes_with (contents h) s r x in
      let w = changed (SignalDelivered s r) (contents h) in
      ap part (after_both ks (changes_of_fate (after ks (contents h)) r f) w (Machine q)) ∙ fate_part (after ks (contents h)) (after ks w) r q f ∙ ap part (stays ks w (Machine q) (goes_off (contents h) s r x (Machine q) refl))
  parts_told h (Deliver s r) deed q = refl

pub turns_told : TurnsAreTold
unfolding contents
turns_told h e q = parts_told (λ m. m.turns) 0 (λ xs n. n + 1) (λ o. refl) (λ m xs. refl) (λ m reason. refl) h e.step e.deed q

pub answers_told : AnswersAreTold
unfolding contents
answers_told h e q = parts_told (λ m. m.answers) [] (λ xs before_. before_ ++ xs) (λ o. refl) (λ m xs. refl) (λ m reason. refl) h e.step e.deed q
