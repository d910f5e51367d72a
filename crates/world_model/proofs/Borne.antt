-- A process has exactly the name that it holds.
use Rattle.std.proofs.Common.{◌≡◌, inl, inr, [], ◌∷◌, Bool, true, false, ◌&&◌, Option, Some, None, refl, sym, ap, ◌∙◌, if◌then◌else◌, true≢false}
use Rattle.std.specs.Prelude.{is_some, not}
use Rattle.term_core.specs.Meaning.{Meaning}
use Rattle.term_core.specs.declared.step.Step.{Step}
use Rattle.term_core.specs.declared.step.Step.TheVariants.{Turn, Deliver}
use Rattle.world_model.specs.Bonds.{held_at_end, held_in, name_of_ended, vacated, HolderIsToldInRuns}
use Rattle.world_model.specs.Calls.{Call, Register, Unregister, OnTable, TableCall, First, call_of}
use Rattle.world_model.specs.Cells.{Contents, Holder, NameOf, Alive}
use Rattle.world_model.specs.Changes.{HolderSet, NameSet, AliveCleared, MachineHalted, SignalDelivered, after, changed}
use Rattle.world_model.specs.Ends.{ends, name_left}
use Rattle.world_model.specs.Events.{History, Badarg, Deed, Served, Refused, EndedItself, Ended, Received, TimedOut, RanAway, Delivered, Fate, Arrives, IsIgnored, IsDropped, Kills}
use Rattle.world_model.specs.Lines.{line}
use Rattle.world_model.specs.Names.{Name, Pid, same_name, same_pid}
use Rattle.world_model.specs.ProcessLines.{is_undefined, unregister_line}
use Rattle.world_model.specs.Requests.{Program}
use Rattle.world_model.specs.Run.{IsRun}
use Rattle.world_model.specs.RunLaws.{HoldersHaveNames}
use Rattle.world_model.specs.Signals.{goes_with}
use Rattle.world_model.specs.Steps.{changes_of_fate, changes_by, runaway}
use Rattle.world_model.specs.ProcessHistory.{ended_in, is_it}
use Rattle.world_model.specs.World.{contents}
use Rattle.world_model.proofs.BondLaws.{holder_told, end_but_name, end_held}
use Rattle.world_model.proofs.Commuting.{either_is, stays, follows}
use Rattle.world_model.proofs.EndSorts.{after_both}
use Rattle.world_model.proofs.Matching.{it_is, is_itself, no_other}
use Rattle.world_model.proofs.Meeting.{pids_same}
use Rattle.world_model.proofs.Served.{Unrefused, unrefused_in}
use Rattle.world_model.proofs.SortLaws.{goes_off, call_leaves, no_holder}
use Rattle.world_model.proofs.Sorts.{is_among, table_sorts}

-- ---- names from both sides

Match : Contents → Type 0
Match v = (q : Pid) (n : Name) → is_it (v (NameOf q)) n ≡ is_it (v (Holder n)) q

-- where both are as they were
match_same : (v w : Contents) → ((q : Pid) → w (NameOf q) ≡ v (NameOf q)) → ((n : Name) → w (Holder n) ≡ v (Holder n)) → Match v → Match w
unfolding Match
match_same v w names holders before_ = λ q n. ap (λ o. is_it o n) (names q) ∙ before_ q n ∙ sym (ap (λ o. is_it o q) (holders n))

-- a name that nobody holds, for a process that has none
bears_by : (w : Contents) (n m : Name) (q x : Pid) (b d : Bool) → same_pid q x ≡ b → same_name n m ≡ d → w (Holder n) ≡ None → w (NameOf q) ≡ None → Match w → is_it (if b then Some n else w (NameOf x)) m ≡ is_it (if d then Some q else w (Holder m)) x
unfolding Match
bears_by w n m q x true true here same free bare before_ = same ∙ sym here
bears_by w n m q x true false here same free bare before_ = same ∙ sym (ap (λ o. is_it o m) bare) ∙ ap (λ y. is_it (w (NameOf y)) m) (pids_same q x here) ∙ before_ x m
bears_by w n m q x false true here same free bare before_ = before_ x m ∙ sym (ap (λ k. is_it (w (Holder k)) x) (pids_same n m same)) ∙ ap (λ o. is_it o x) free ∙ sym here
bears_by w n m q x false false here same free bare before_ = before_ x m

bears : (w : Contents) (n : Name) (q : Pid) → w (Holder n) ≡ None → w (NameOf q) ≡ None → Match w → Match (after (HolderSet n q ∷ NameSet q n ∷ []) w)
unfolding Match
bears w n q free bare before_ = λ x m. bears_by w n m q x (same_pid q x) (same_name n m) refl refl free bare before_

-- a process no longer has its name, and that has no holder
bares_by : (w : Contents) (p x : Pid) (o : Option Name) (m : Name) (b : Bool) → same_pid p x ≡ b → w (NameOf p) ≡ o → Match w → is_it (if b then None else w (NameOf x)) m ≡ is_it (vacated o m (w (Holder m))) x
unfolding Match
bares_by w p x None m true here had before_ = sym (ap (λ k. is_it k m) had) ∙ ap (λ y. is_it (w (NameOf y)) m) (pids_same p x here) ∙ before_ x m
bares_by w p x None m false here had before_ = before_ x m
bares_by w p x (Some n) m true here had before_ =
    elim (either_is (same_name n m)) [
      | inl same ↦ sym (ap (λ d. is_it (if d then None else w (Holder m)) x) same)
      | inr other ↦ sym (ap (λ d. is_it (if d then None else w (Holder m)) x) other ∙ sym (before_ x m) ∙ sym (ap (λ y. is_it (w (NameOf y)) m) (pids_same p x here)) ∙ ap (λ k. is_it k m) had ∙ other)
    ]
bares_by w p x (Some n) m false here had before_ =
    elim (either_is (same_name n m)) [
      | inl same ↦
          let holds : is_it (w (Holder m)) p ≡ true = sym (before_ p m) ∙ ap (λ k. is_it k m) had ∙ same in
          before_ x m ∙ no_other (w (Holder m)) p x holds here ∙ sym (ap (λ d. is_it (if d then None else w (Holder m)) x) same)
      | inr other ↦ before_ x m ∙ sym (ap (λ d. is_it (if d then None else w (Holder m)) x) other)
    ]

bares : (v w : Contents) (p : Pid) → ((x : Pid) → w (NameOf x) ≡ (if same_pid p x then None else v (NameOf x))) → ((m : Name) → w (Holder m) ≡ vacated (v (NameOf p)) m (v (Holder m))) → Match v → Match w
unfolding Match
bares v w p names holders before_ = λ x m. ap (λ o. is_it o m) (names x) ∙ bares_by v p x (v (NameOf p)) m (same_pid p x) refl refl before_ ∙ sym (ap (λ o. is_it o x) (holders m))

-- ---- calls

is_off : (b : Bool) → not b ≡ true → b ≡ false
is_off true is = absurd (true≢false (sym is))
is_off false is = refl

has_none : {A : Type 0} (o : Option A) → is_some o ≡ false → o ≡ None
has_none None is = refl
has_none (Some x) is = absurd (true≢false is)

-- what is registered was free, and its process bare
free_by : (lives undefined : Bool) (holder : Option Pid) (other : Option Name) → (if lives && (undefined && (not (is_some holder) && not (is_some other))) then None else Some Badarg) ≡ None → (holder ≡ None) × (other ≡ None)
free_by true true None None is = (refl, refl)
free_by true true None (Some n) is = absurd cc
free_by true true (Some q) other is = absurd cc
free_by true false holder other is = absurd cc
free_by false undefined holder other is = absurd cc

unregistered : (w : Contents) (n : Name) (o : Option Pid) → w (Holder n) ≡ o → Match w → Match (after (unregister_line n o).changes w)
unfolding Match
unregistered w n None is before_ = before_
unregistered w n (Some q) is before_ =
    let had : w (NameOf q) ≡ Some n = it_is (w (NameOf q)) n (before_ q n ∙ is_itself (w (Holder n)) q is) in
    λ x m. bares_by w q x (Some n) m (same_pid q x) refl had before_

no_name : (call : TableCall) (q : Pid) → is_among (table_sorts call) (NameOf q) ≡ false
no_name First q = refl
no_name call q = refl

call_match : (v w : Contents) (p : Pid) (call : Call) → (line v p call).refusal ≡ None → ((q : Pid) → w (NameOf q) ≡ v (NameOf q)) → ((n : Name) → w (Holder n) ≡ v (Holder n)) → Match w → Match (after (line v p call).changes w)
call_match v w p (Register None None) none names holders before_ = before_
call_match v w p (Register None (Some q)) none names holders before_ = before_
call_match v w p (Register (Some n) None) none names holders before_ = before_
call_match v w p (Register (Some n) (Some q)) none names holders before_ =
    let free = free_by (v (Alive q)) (not (is_undefined n)) (v (Holder n)) (v (NameOf q)) none in
    bears w n q (holders n ∙ free.0) (names q ∙ free.1) before_
call_match v w p (Unregister None) none names holders before_ = before_
call_match v w p (Unregister (Some n)) none names holders before_ = unregistered w n (v (Holder n)) (holders n) before_
call_match v w p (OnTable argument call) none names holders before_ = match_same w (after (line v p (OnTable argument call)).changes w) (λ q. call_leaves v w p (OnTable argument call) (NameOf q) (no_name call q)) (λ n. call_leaves v w p (OnTable argument call) (Holder n) (no_holder call n)) before_
call_match v w p call none names holders before_ = match_same w (after (line v p call).changes w) (λ q. call_leaves v w p call (NameOf q) refl) (λ n. call_leaves v w p call (Holder n) refl) before_

-- ---- ends

name_bared : (p x : Pid) (o : Option Name) (w : Contents) → after (name_left p o) w (NameOf x) ≡ (if same_pid p x then None else w (NameOf x))
name_bared p x None w = refl
name_bared p x (Some n) w = refl

end_match : (v w : Contents) (p : Pid) (reason : Meaning) → ((q : Pid) → w (NameOf q) ≡ v (NameOf q)) → Match w → Match (after (ends v p reason) w)
end_match v w p reason names before_ =
    bares w (after (ends v p reason) w) p
    (λ x. end_but_name v w p reason (NameOf x) refl ∙ name_bared p x (v (NameOf p)) (changed (AliveCleared p) (changed (MachineHalted p reason) w)))
    (λ m. end_held v w p reason m ∙ ap (λ o. vacated o m (w (Holder m))) (sym (names p))) before_

-- ---- every event, and every run

fate_match : (v w : Contents) (r : Pid) (f : Fate) → ((q : Pid) → w (NameOf q) ≡ v (NameOf q)) → Match w → Match (after (changes_of_fate v r f) w)
fate_match v w r (Arrives m) names before_ = match_same w (after (changes_of_fate v r (Arrives m)) w) (λ q. refl) (λ n. refl) before_
fate_match v w r IsIgnored names before_ = before_
fate_match v w r IsDropped names before_ = before_
fate_match v w r (Kills reason) names before_ = end_match v w r reason names before_

event_match : (v : Contents) (step : Step) (deed : Deed) → Unrefused v step deed → Match v → Match (after (changes_by v step deed) v)
unfolding Match
event_match v (Turn p) (Served kind arguments answer) served before_ = call_match v _ p (call_of kind arguments) (served p kind arguments answer refl refl) (λ q. refl) (λ n. refl) before_
event_match v (Turn p) (Refused kind arguments refusal) served before_ = before_
event_match v (Turn p) (EndedItself kind arguments reason) served before_ = end_match v _ p reason (λ q. refl) before_
event_match v (Turn p) (Received m) served before_ = before_
event_match v (Turn p) TimedOut served before_ = before_
event_match v (Turn p) (Ended reason) served before_ = end_match v _ p reason (λ q. refl) before_
event_match v (Turn p) RanAway served before_ = end_match v _ p runaway (λ q. refl) before_
event_match v (Turn p) (Delivered x f) served before_ = before_
event_match v (Deliver s r) (Delivered x f) served before_ =
    let ks = goes_with v s r x in
    let w = changed (SignalDelivered s r) v in
    let mid = match_same v (after ks w) (λ q. stays ks w (NameOf q) (goes_off v s r x (NameOf q) refl)) (λ n. stays ks w (Holder n) (goes_off v s r x (Holder n) refl)) before_ in
    match_same (after (changes_of_fate (after ks v) r f) (after ks w)) (after (changes_by v (Deliver s r) (Delivered x f)) v)
    (λ q. after_both ks (changes_of_fate (after ks v) r f) w (NameOf q)) (λ n. after_both ks (changes_of_fate (after ks v) r f) w (Holder n))
    (fate_match (after ks v) (after ks w) r f (λ q. follows ks w v (NameOf q) refl) mid)
event_match v (Deliver s r) deed served before_ = before_

run_match : (a : Program) (h : History) → IsRun a h → Match (contents h)
unfolding contents Match
run_match a [] is = λ q n. refl
run_match a (e ∷ h) is = event_match (contents h) e.step e.deed (unrefused_in a h e.step e is.0) (run_match a h is.1)

pub holders_have_names : HoldersHaveNames
unfolding Match
holders_have_names a h p n is =
    let both = run_match a h is p n in
    ((λ has. it_is (contents h (Holder n)) p (sym both ∙ is_itself (contents h (NameOf p)) n has)), (λ holds. it_is (contents h (NameOf p)) n (both ∙ is_itself (contents h (Holder n)) p holds)))

-- ---- a name goes with its holder

goes_with_holder : (o : Option Name) (n : Name) (there : Option Pid) (p : Pid) → is_it o n ≡ is_it there p → vacated o n there ≡ (if is_it there p then None else there)
goes_with_holder None n there p same = ap (λ b. if b then None else there) same
goes_with_holder (Some m) n there p same = ap (λ b. if b then None else there) same

event_holder : (h : History) (step : Step) (deed : Deed) (n : Name) → ((p : Pid) → is_it (contents h (NameOf p)) n ≡ is_it (contents h (Holder n)) p) → vacated (name_of_ended h (ended_in step deed)) n (held_in step deed n (contents h (Holder n))) ≡ held_at_end (ended_in step deed) (held_in step deed n (contents h (Holder n)))
event_holder h (Turn p) (Served kind arguments answer) n same = refl
event_holder h (Turn p) (Refused kind arguments refusal) n same = refl
event_holder h (Turn p) (EndedItself kind arguments reason) n same = goes_with_holder (contents h (NameOf p)) n (contents h (Holder n)) p (same p)
event_holder h (Turn p) (Received m) n same = refl
event_holder h (Turn p) TimedOut n same = refl
event_holder h (Turn p) (Ended reason) n same = goes_with_holder (contents h (NameOf p)) n (contents h (Holder n)) p (same p)
event_holder h (Turn p) RanAway n same = goes_with_holder (contents h (NameOf p)) n (contents h (Holder n)) p (same p)
event_holder h (Turn p) (Delivered x f) n same = refl
event_holder h (Deliver s r) (Delivered x (Arrives m)) n same = refl
event_holder h (Deliver s r) (Delivered x IsIgnored) n same = refl
event_holder h (Deliver s r) (Delivered x IsDropped) n same = refl
event_holder h (Deliver s r) (Delivered x (Kills reason)) n same = goes_with_holder (contents h (NameOf r)) n (contents h (Holder n)) r (same r)
event_holder h (Deliver s r) deed n same = refl

pub holder_told_in_runs : HolderIsToldInRuns
unfolding Match
holder_told_in_runs a h e n is = holder_told h e n ∙ event_holder h e.step e.deed n (λ p. run_match a h is.1 p n)
