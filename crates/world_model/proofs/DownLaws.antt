-- Each signal of a watch comes from the process that it is of; so the watches of a process are those that are of it.
use Rattle.std.proofs.Common.{◌≡◌, Bool, true, false, ◌&&◌, ◌||◌, ℕ, zero, suc, ◌+◌, ◌<◌, ◌≤◌, List, [], ◌∷◌, ◌++◌, drop, Option, Some, None, refl, sym, ap, ◌∙◌, ◌⊎◌, inl, inr, if◌then◌else◌, true≢false, subst, arith}
use Rattle.std.specs.List.{list_any}
use Rattle.std.specs.Prelude.{not, unwrap_or}
use Rattle.term_core.specs.Meaning.{Meaning}
use Rattle.term_core.specs.declared.step.Step.{Step}
use Rattle.term_core.specs.declared.step.Step.TheVariants.{Turn, Deliver}
use Rattle.core_calls.specs.declared.call.CallKind.{CallKind}
use Rattle.world_model.specs.Bonds.{named_target, watched_by_call, watched_in}
use Rattle.world_model.specs.Calls.{Call, Spawn, Alone, Linked, Watched, Send, ToProcess, ToName, ToReference, ToNode, ToAnotherNode, ToNobody, SendExit, Link, Monitor, MonitorName, StartTimer, Demonitor, OnTable, TableCall, TableArgument, First, GiveAway, call_of}
use Rattle.world_model.specs.Cells.{Contents, Alive, Links, Owned, Table, Watch, Watchers, Guard, Front, Tail}
use Rattle.world_model.specs.Changes.{after}
use Rattle.world_model.specs.Events.{Event, History, event, Deed, Served, EndedItself, Ended, RanAway, Delivered, Signal, Message, Exit, LinkExit, Down, Guarded, Elapsed, Fate, Kills}
use Rattle.world_model.specs.Guards.{aliased, ends_by_reply}
use Rattle.world_model.specs.TableAccess.{Found}
use Rattle.world_model.specs.Names.{Pid, Ref, same_pid, same_ref}
use Rattle.world_model.specs.Posted.{on_way, if_lives, put_for_holder, put_for_alias, put_by_link, put_by_watch, put_by_named, put_by_gift, put_by_call, put_for_heir, put_for_table, put_for_heirs, put_for_partners, put_for_watchers, put_by_end, put_in, outlives}
use Rattle.world_model.specs.ProcessLines.{LinkWay, Stands, Pairs, PairsGone, Fails, link_way, next_child, next_ref, noproc, timer_message}
use Rattle.world_model.specs.Requests.{Program}
use Rattle.world_model.specs.Run.{IsRun}
use Rattle.world_model.specs.RunLaws.{TargetsHaveWatches}
use Rattle.world_model.specs.Signals.{first_of, reply_ends, goes_with, waiting_in}
use Rattle.world_model.specs.Steps.{changes_by, deed_delivered, next_deed, runaway}
use Rattle.world_model.specs.Tables as tables
use Rattle.world_model.specs.Tables.{Heir}
use Rattle.world_model.specs.ProcessHistory.{is_it}
use Rattle.world_model.specs.World.{alive, contents, found, guarded, holder, linked, traps, turns, watched}
use Rattle.world_model.proofs.BondLaws.{watched_told}
use Rattle.world_model.proofs.Fresh.{all_free, counts, names_new, rises, watcher}
use Rattle.world_model.proofs.Histories.{deed_is}
use Rattle.world_model.proofs.Listed.{AreListed, always_listed, any_ref, among_refs}
use Rattle.world_model.proofs.MailLaws.{tail_told}
use Rattle.world_model.proofs.Matching.{Match, lost_has, it_is, is_itself}
use Rattle.world_model.proofs.Meeting.{both, pids_same, refs_same, ref_itself}
use Rattle.world_model.proofs.Posting.{puts_told}
use Rattle.world_model.proofs.Unmade.{watches_by, watches_in}
use Rattle.world_model.proofs.Watching.{Known, ComesFrom, IsFrom, event_known}

-- ---- a watch that is reported was made, and is for nobody else

record Fits (h : History) (s : Pid) (ref : Ref) : Type 0 where
  used : ref.number ≤ turns h ref.pid
  of : (x : Pid) → is_it (watched h ref) x ≡ true → same_pid s x ≡ true

abbrev IsFit : History → Pid → Signal → Type 0
IsFit h s (Down ref reason) = Fits h s ref
IsFit h s x = Unit {0}

abbrev AllFit : History → Pid → List Signal → Type 0
AllFit h s [] = Unit {0}
AllFit h s (x ∷ xs) = IsFit h s x × AllFit h s xs

fit_both : (h : History) (s : Pid) (xs ys : List Signal) → AllFit h s xs → AllFit h s ys → AllFit h s (xs ++ ys)
fit_both h s [] ys first second = second
fit_both h s (x ∷ xs) ys first second = (first.0, fit_both h s xs ys first.1 second)

fit_first : (h : History) (s : Pid) (n : ℕ) (xs : List Signal) (x : Signal) → first_of (drop n xs) ≡ Some x → AllFit h s xs → IsFit h s x
fit_first h s zero [] x is fit = absurd cc
fit_first h s zero (y ∷ xs) x is fit = subst (IsFit h s) (ap (λ o. unwrap_or o y) is) fit.0
fit_first h s (suc n) [] x is fit = absurd cc
fit_first h s (suc n) (y ∷ xs) x is fit = fit_first h s n xs x is fit.1

-- ---- what was reported before still fits

below : (n m : ℕ) → (n < m) ⊎ (m ≤ n)
below n zero = inr (omega arith)
below zero (suc m) = inl (omega arith)
below (suc n) (suc m) = elim (below n m) [
  | inl less ↦ inl (omega (arith, less))
  | inr other ↦ inr (omega (arith, other))
]

begun_by : (b : Bool) (n : Pid) (there : Option Pid) (y : Pid) → is_it (if b then Some n else there) y ≡ true → (is_it there y ≡ true) ⊎ (b ≡ true)
begun_by true n there y now = inr refl
begun_by false n there y now = inl now

ended_by : (b : Bool) (there : Option Pid) (y : Pid) → is_it (if b then None else there) y ≡ true → is_it there y ≡ true
ended_by true there y now = absurd (true≢false (sym now))
ended_by false there y now = now

new_by : (h : History) (p : Pid) (call : Call) (ref : Ref) (there : Option Pid) (y : Pid) → is_it (watched_by_call h p call ref there) y ≡ true → (is_it there y ≡ true) ⊎ (watches_by (contents h) p call ref ≡ true)
new_by h p (Spawn Alone None) ref there y now = inl now
new_by h p (Spawn Linked None) ref there y now = inl now
new_by h p (Spawn Watched None) ref there y now = inl now
new_by h p (Spawn Alone (Some origin)) ref there y now = inl now
new_by h p (Spawn Linked (Some origin)) ref there y now = inl now
new_by h p (Spawn Watched (Some origin)) ref there y now = begun_by (same_ref (next_ref (contents h) p) ref) _ there y now
new_by h p (Monitor true None alias) ref there y now = inl now
new_by h p (Monitor false None alias) ref there y now = inl now
new_by h p (Monitor false (Some q) alias) ref there y now = inl now
new_by h p (Monitor true (Some q) None) ref there y now = inl now
new_by h p (Monitor true (Some q) (Some alias)) ref there y now = begun_by (same_ref (next_ref (contents h) p) ref) q there y now
new_by h p (MonitorName false name alias) ref there y now = inl now
new_by h p (MonitorName true name None) ref there y now = inl now
new_by h p (MonitorName true name (Some alias)) ref there y now = begun_by (same_ref (next_ref (contents h) p) ref) (named_target p (holder h name)) there y now
new_by h p (Demonitor None flushes) ref there y now = inl now
new_by h p (Demonitor (Some u) None) ref there y now = inl now
new_by h p (Demonitor (Some u) (Some flushes)) ref there y now = inl (ended_by (same_pid u.pid p && same_ref u ref) there y now)
new_by h p call ref there y now = inl now

kept_or_new : (h : History) (step : Step) (deed : Deed) (ref : Ref) (there : Option Pid) (y : Pid) → is_it (watched_in h step deed ref there) y ≡ true → (is_it there y ≡ true) ⊎ (watches_in (contents h) step deed ref ≡ true)
kept_or_new h (Turn p) (Served kind arguments answer) ref there y now = new_by h p (call_of kind arguments) ref there y now
kept_or_new h (Turn p) deed ref there y now = inl now
kept_or_new h (Deliver s r) (Delivered (Down other reason) fate) ref there y now = inl (ended_by (same_ref other ref) there y now)
kept_or_new h (Deliver s r) (Delivered (Guarded other m) fate) ref there y now = inl (ended_by (ends_by_reply r (guarded h other) && same_ref other ref) there y now)
kept_or_new h (Deliver s r) deed ref there y now = inl now

-- a number that is used is no new one
not_new : (h : History) (p : Pid) (ref : Ref) → next_ref (contents h) p ≡ ref → ref.number ≤ turns h ref.pid → ⊥
not_new h p ref is used =
    let number_ : turns h p + 1 ≡ ref.number = ap (λ r. r.number) is in
    let same : turns h p ≡ turns h ref.pid = ap (λ r. turns h r.pid) is in
    absurd (omega (arith, number_, same, used))

still_used : (a : Program) (h : History) (e : Event) (q : Pid) (n : ℕ) → IsRun a h → n ≤ turns h q → n ≤ turns (e ∷ h) q
still_used a h e q n is used = elim (below (turns (e ∷ h) q) n) [
  | inl less ↦ let more = rises h e.step e.deed q n (all_free a h is) less in absurd (omega (arith, more, used))
  | inr other ↦ other
]

still_fits : (a : Program) (h : History) (e : Event) (s : Pid) (ref : Ref) → IsRun a h → Fits h s ref → Fits (e ∷ h) s ref
still_fits a h e s ref is fit = record {
  used = still_used a h e ref.pid ref.number is fit.used;
  of = λ x now. elim (kept_or_new h e.step e.deed ref (watched h ref) x (sym (ap (λ o. is_it o x) (watched_told h e ref)) ∙ now)) [
    | inl was ↦ fit.of x was
    | inr new ↦
        let by = watcher h e.step e.deed ref new in
        absurd (not_new h by.0 ref (refs_same (next_ref (contents h) by.0) ref by.2) fit.used)
  ];
}

one_still : (a : Program) (h : History) (e : Event) (s : Pid) (x : Signal) → IsRun a h → IsFit h s x → IsFit (e ∷ h) s x
one_still a h e s (Message m) is fit = tt
one_still a h e s (Exit reason) is fit = tt
one_still a h e s (LinkExit reason) is fit = tt
one_still a h e s (Down ref reason) is fit = still_fits a h e s ref is fit
one_still a h e s (Guarded ref m) is fit = tt
one_still a h e s (Elapsed ref m) is fit = tt

all_still : (a : Program) (h : History) (e : Event) (s : Pid) (xs : List Signal) → IsRun a h → AllFit h s xs → AllFit (e ∷ h) s xs
all_still a h e s [] is fit = tt
all_still a h e s (x ∷ xs) is fit = (one_still a h e s x is fit.0, all_still a h e s xs is fit.1)

-- ---- what is put fits

way_fit : (g : History) (p q : Pid) (x : Signal) (s r : Pid) (b : Bool) → (same_pid p s && same_pid q r) ≡ b → IsFit g p x → AllFit g s (if b then x ∷ [] else [])
way_fit g p q x s r true is fit = (subst (λ y. IsFit g y x) (pids_same p s (both (same_pid p s) (same_pid q r) is).0) fit, tt)
way_fit g p q x s r false is fit = tt

on_way_fit : (g : History) (p q : Pid) (x : Signal) (s r : Pid) → IsFit g p x → AllFit g s (on_way p q x s r)
on_way_fit g p q x s r fit = way_fit g p q x s r (same_pid p s && same_pid q r) refl fit

lives_fit : (g : History) (s : Pid) (b : Bool) (xs : List Signal) → AllFit g s xs → AllFit g s (if_lives b xs)
lives_fit g s true xs fit = fit
lives_fit g s false xs fit = tt

own_fit : (g h : History) (p to : Pid) (x : Signal) (s r : Pid) (b : Bool) → IsFit g p x → AllFit g s (if b then [] else if_lives (alive h to) (on_way p to x s r))
own_fit g h p to x s r true fit = tt
own_fit g h p to x s r false fit = lives_fit g s (alive h to) (on_way p to x s r) (on_way_fit g p to x s r fit)

holder_fit : (g h : History) (p : Pid) (o : Option Pid) (x : Signal) (s r : Pid) → IsFit g p x → AllFit g s (put_for_holder h p o x s r)
holder_fit g h p None x s r fit = tt
holder_fit g h p (Some to) x s r fit = own_fit g h p to x s r (same_pid p to) fit

alias_fit : (g h : History) (p : Pid) (o : Option Pid) (x : Signal) (s r : Pid) → IsFit g p x → AllFit g s (put_for_alias h p o x s r)
alias_fit g h p None x s r fit = tt
alias_fit g h p (Some to) x s r fit = lives_fit g s (alive h to) (on_way p to x s r) (on_way_fit g p to x s r fit)

link_fit : (g : History) (way : LinkWay) (p q s r : Pid) → AllFit g s (put_by_link way p q s r)
link_fit g Stands p q s r = tt
link_fit g Pairs p q s r = tt
link_fit g PairsGone p q s r = on_way_fit g q p (LinkExit noproc) s r tt
link_fit g Fails p q s r = tt

watch_fit : (g : History) (lives : Bool) (p q : Pid) (ref : Ref) (s r : Pid) → Fits g q ref → AllFit g s (put_by_watch lives p q ref s r)
watch_fit g true p q ref s r fit = tt
watch_fit g false p q ref s r fit = on_way_fit g q p (Down ref noproc) s r fit

named_fit : (g h : History) (p : Pid) (o : Option Pid) (ref : Ref) (s r : Pid) → Fits g (named_target p o) ref → AllFit g s (put_by_named h p o ref s r)
named_fit g h p None ref s r fit = watch_fit g false p p ref s r fit
named_fit g h p (Some q) ref s r fit = watch_fit g (alive h q) p q ref s r fit

gift_fit : (g : History) (o : Option Found) (to : Pid) (gift_ : Meaning) (s r : Pid) → AllFit g s (put_by_gift o to gift_ s r)
gift_fit g None to gift_ s r = tt
gift_fit g (Some f) to gift_ s r = on_way_fit g f.table.owner to _ s r tt

-- the watch that a call begins
new_fit : (g h : History) (p q : Pid) → turns g p ≡ turns h p + 1 → watched g (next_ref (contents h) p) ≡ (if same_ref (next_ref (contents h) p) (next_ref (contents h) p) then Some q else watched h (next_ref (contents h) p)) → Fits g q (next_ref (contents h) p)
new_fit g h p q now told = record {
  used = omega (arith, now);
  of = λ x is. sym (ap (λ o. is_it o x) (told ∙ ap (λ b. if b then Some q else watched h (next_ref (contents h) p)) (ref_itself (next_ref (contents h) p)))) ∙ is;
}

table_fit : (g h : History) (p : Pid) (argument : TableArgument) (call : TableCall) (s r : Pid) → AllFit g s (put_by_call h p (OnTable argument call) s r)
table_fit g h p argument First s r = tt
table_fit g h p argument (GiveAway None gift_) s r = tt
table_fit g h p argument (GiveAway (Some to) gift_) s r = gift_fit g (found h argument) to gift_ s r
table_fit g h p argument call s r = tt

call_fit : (g h : History) (p : Pid) (call : Call) (s r : Pid) → turns g p ≡ turns h p + 1 → ((ref : Ref) → watched g ref ≡ watched_by_call h p call ref (watched h ref)) → AllFit g s (put_by_call h p call s r)
call_fit g h p (Send ToNobody m) s r now told = tt
call_fit g h p (Send (ToProcess to) m) s r now told = own_fit g h p to (Message m) s r (same_pid p to) tt
call_fit g h p (Send (ToReference u) m) s r now told = alias_fit g h p (aliased (guarded h u)) (Guarded u m) s r tt
call_fit g h p (Send (ToName name) m) s r now told = holder_fit g h p (holder h name) (Message m) s r tt
call_fit g h p (Send (ToNode name) m) s r now told = holder_fit g h p (holder h name) (Message m) s r tt
call_fit g h p (Send ToAnotherNode m) s r now told = tt
call_fit g h p (SendExit None reason) s r now told = tt
call_fit g h p (SendExit (Some to) reason) s r now told = own_fit g h p to (Exit reason) s r (same_pid p to) tt
call_fit g h p (Link None) s r now told = tt
call_fit g h p (Link (Some q)) s r now told = link_fit g (link_way p q (linked h p) (alive h q) (traps h p)) p q s r
call_fit g h p (Monitor true None alias) s r now told = tt
call_fit g h p (Monitor false None alias) s r now told = tt
call_fit g h p (Monitor false (Some q) alias) s r now told = tt
call_fit g h p (Monitor true (Some q) None) s r now told = tt
call_fit g h p (StartTimer is_named None None m) s r now told = tt
call_fit g h p (StartTimer is_named (Some time) None m) s r now told = tt
call_fit g h p (StartTimer is_named None (Some to) m) s r now told = tt
call_fit g h p (StartTimer is_named (Some time) (Some to) m) s r now told = lives_fit g s (alive h to) _ (on_way_fit g (next_child (contents h) p) to (Elapsed (next_ref (contents h) p) (timer_message is_named (next_ref (contents h) p) m)) s r tt)
call_fit g h p (Monitor true (Some q) (Some alias)) s r now told = watch_fit g (alive h q) p q (next_ref (contents h) p) s r (new_fit g h p q now (told (next_ref (contents h) p)))
call_fit g h p (MonitorName false name alias) s r now told = tt
call_fit g h p (MonitorName true name None) s r now told = tt
call_fit g h p (MonitorName true name (Some alias)) s r now told = named_fit g h p (holder h name) (next_ref (contents h) p) s r (new_fit g h p (named_target p (holder h name)) now (told (next_ref (contents h) p)))
call_fit g h p (OnTable argument call) s r now told = table_fit g h p argument call s r
call_fit g h p call s r now told = tt

-- ---- ends

heir_fit : (g : History) (v : Contents) (p : Pid) (t : Ref) (table_ : tables.Table) (heir : Heir) (s r : Pid) → AllFit g s (put_for_heir v p t table_ heir s r)
heir_fit g v p t table_ None s r = tt
heir_fit g v p t table_ (Some heir) s r = lives_fit g s (outlives v p heir.0) _ (on_way_fit g p heir.0 _ s r tt)

table_told_fit : (g : History) (v : Contents) (p : Pid) (t : Ref) (o : Option tables.Table) (s r : Pid) → AllFit g s (put_for_table v p t o s r)
table_told_fit g v p t None s r = tt
table_told_fit g v p t (Some table_) s r = heir_fit g v p t table_ table_.heir s r

heirs_fit : (g : History) (v : Contents) (p : Pid) (ts : List Ref) (s r : Pid) → AllFit g s (put_for_heirs v p ts s r)
heirs_fit g v p [] s r = tt
heirs_fit g v p (t ∷ ts) s r = fit_both g s (put_for_table v p t (v (Table t)) s r) (put_for_heirs v p ts s r) (table_told_fit g v p t (v (Table t)) s r) (heirs_fit g v p ts s r)

partners_fit : (g : History) (v : Contents) (p : Pid) (reason : Meaning) (qs : List Pid) (s r : Pid) → AllFit g s (put_for_partners v p reason qs s r)
partners_fit g v p reason [] s r = tt
partners_fit g v p reason (q ∷ qs) s r = fit_both g s (if_lives (outlives v p q) (on_way p q (LinkExit reason) s r)) (put_for_partners v p reason qs s r) (lives_fit g s (outlives v p q) _ (on_way_fit g p q (LinkExit reason) s r tt)) (partners_fit g v p reason qs s r)

or_true : (a b : Bool) → b ≡ true → (a || b) ≡ true
or_true true b is = refl
or_true false b is = is

watchers_fit : (g : History) (v : Contents) (p : Pid) (reason : Meaning) (refs : List Ref) (s r : Pid) → ((ref : Ref) → list_any (same_ref ref) refs ≡ true → Fits g p ref) → AllFit g s (put_for_watchers v p reason refs s r)
watchers_fit g v p reason [] s r fit = tt
watchers_fit g v p reason (u ∷ us) s r fit =
    fit_both g s (if_lives (outlives v p u.pid) (on_way p u.pid (Down u reason) s r)) (put_for_watchers v p reason us s r)
    (lives_fit g s (outlives v p u.pid) _ (on_way_fit g p u.pid (Down u reason) s r (fit u (ap (λ b. b || list_any (same_ref u) us) (ref_itself u)))))
    (watchers_fit g v p reason us s r (λ ref there. fit ref (or_true (same_ref ref u) (list_any (same_ref ref) us) there)))

end_fit : (g : History) (v : Contents) (p : Pid) (reason : Meaning) (s r : Pid) → ((ref : Ref) → list_any (same_ref ref) (v (Watchers p)) ≡ true → Fits g p ref) → AllFit g s (put_by_end v p reason s r)
end_fit g v p reason s r fit =
    fit_both g s (put_for_heirs v p (v (Owned p)) s r) (put_for_partners v p reason (v (Links p)) s r ++ put_for_watchers v p reason (v (Watchers p)) s r) (heirs_fit g v p (v (Owned p)) s r)
    (fit_both g s (put_for_partners v p reason (v (Links p)) s r) (put_for_watchers v p reason (v (Watchers p)) s r) (partners_fit g v p reason (v (Links p)) s r) (watchers_fit g v p reason (v (Watchers p)) s r fit))

-- what a delivery leaves of the watches of a process was there before
reply_was : (b : Bool) (other : Ref) (o : Option Pid) (q : Pid) (v : Contents) (ref : Ref) → AreListed v → list_any (same_ref ref) (after (reply_ends b other o) v (Watchers q)) ≡ true → list_any (same_ref ref) (v (Watchers q)) ≡ true
reply_was true other None q v ref sorted there = there
reply_was true other (Some t) q v ref sorted there = (both (not (same_pid t q && same_ref other ref)) (list_any (same_ref ref) (v (Watchers q))) (sym (lost_has (same_pid t q) other ref (v (Watchers q)) (sorted.watches q)) ∙ there)).1
reply_was false other o q v ref sorted there = there

was_watch : (h : History) (t u q : Pid) (x : Signal) (ref : Ref) → list_any (same_ref ref) (after (goes_with (contents h) t u x) (contents h) (Watchers q)) ≡ true → list_any (same_ref ref) (contents h (Watchers q)) ≡ true
was_watch h t u q (Message m) ref there = there
was_watch h t u q (Exit reason) ref there = there
was_watch h t u q (LinkExit reason) ref there = there
was_watch h t u q (Down other reason) ref there = (both (not (same_pid t q && same_ref other ref)) (list_any (same_ref ref) (contents h (Watchers q))) (sym (lost_has (same_pid t q) other ref (contents h (Watchers q)) ((always_listed h).watches q)) ∙ there)).1
was_watch h t u q (Guarded other m) ref there = reply_was (ends_by_reply u (contents h (Guard other))) other (contents h (Watch other)) q (contents h) ref (always_listed h) there
was_watch h t u q (Elapsed other m) ref there = there

-- ---- every event

put_fit : (g h : History) (step : Step) (deed : Deed) (s r : Pid) → ((p : Pid) (kind : CallKind) (arguments : List Meaning) (answer : Meaning) → step ≡ Turn p → deed ≡ Served kind arguments answer → (turns g p ≡ turns h p + 1) × ((ref : Ref) → watched g ref ≡ watched_by_call h p (call_of kind arguments) ref (watched h ref)))
    → ((p : Pid) (ref : Ref) → list_any (same_ref ref) (contents h (Watchers p)) ≡ true → Fits g p ref) → AllFit g s (put_in h step deed s r)
put_fit g h (Turn p) (Served kind arguments answer) s r told fit = let by = told p kind arguments answer refl refl in call_fit g h p (call_of kind arguments) s r by.0 by.1
put_fit g h (Turn p) (EndedItself kind arguments reason) s r told fit = end_fit g (contents h) p reason s r (fit p)
put_fit g h (Turn p) (Ended reason) s r told fit = end_fit g (contents h) p reason s r (fit p)
put_fit g h (Turn p) RanAway s r told fit = end_fit g (contents h) p runaway s r (fit p)
put_fit g h (Turn p) deed s r told fit = tt
put_fit g h (Deliver t u) (Delivered x (Kills reason)) s r told fit = end_fit g (after (goes_with (contents h) t u x) (contents h)) u reason s r (λ ref there. fit u ref (was_watch h t u u x ref there))
put_fit g h (Deliver t u) deed s r told fit = tt

-- ---- every run

record IsKnown (h : History) : Type 0 where
  watches : Known (contents h)
  signals : (s r : Pid) → AllFit h s (contents h (Tail s r))

known_fits : (a : Program) (h : History) (p : Pid) (ref : Ref) → IsRun a h → Known (contents h) → list_any (same_ref ref) (contents h (Watchers p)) ≡ true → Fits h p ref
unfolding Match
known_fits a h p ref is known there =
    let its : is_it (watched h ref) p ≡ true = sym (known p ref) ∙ there in
    let whose : watched h ref ≡ Some p = it_is (watched h ref) p its in
    record {
      used = elim (below (turns h ref.pid) ref.number) [
        | inl less ↦ absurd (true≢false (sym its ∙ ap (λ o. is_it o p) (names_new a h ref.pid ref.number is less).watch))
        | inr other ↦ other
      ];
      of = λ x now. sym (ap (λ o. is_it o x) whose) ∙ now;
    }

served_told : (a : Program) (h : History) (e : Event) (p : Pid) (kind : CallKind) (arguments : List Meaning) (answer : Meaning) → e.step ≡ Turn p → e.deed ≡ Served kind arguments answer → (turns (e ∷ h) p ≡ turns h p + 1) × ((ref : Ref) → watched (e ∷ h) ref ≡ watched_by_call h p (call_of kind arguments) ref (watched h ref))
served_told a h e p kind arguments answer step deed =
    let same : event (Turn p) (Served kind arguments answer) ≡ e = λ i. record { step = sym step i; deed = sym deed i } in (
      sym (ap (λ f. turns (f ∷ h) p) same) ∙ counts h p kind arguments answer,
      (λ ref. sym (ap (λ f. watched (f ∷ h) ref) same) ∙ watched_told h (event (Turn p) (Served kind arguments answer)) ref),
    )

-- what is delivered was on its way
signal_in : Signal → Option Deed → Signal
signal_in x (Some (Delivered y f)) = y
signal_in x o = x

was_first : (v : Contents) (s r : Pid) (b : Bool) (o : Option Signal) (x : Signal) (f : Fate) → (if b then deed_delivered v s r o else None) ≡ Some (Delivered x f) → o ≡ Some x
unfolding signal_in
was_first v s r true None x f now = absurd cc
was_first v s r true (Some y) x f now = ap Some (ap (signal_in y) now)
was_first v s r false o x f now = absurd cc

from_fit : (h : History) (s : Pid) (x : Signal) → IsFit h s x → ComesFrom (contents h) s x
from_fit h s (Message m) fit = tt
from_fit h s (Exit reason) fit = tt
from_fit h s (LinkExit reason) fit = tt
from_fit h s (Down ref reason) fit = fit.of
from_fit h s (Guarded ref m) fit = tt
from_fit h s (Elapsed ref m) fit = tt

delivered_from : (a : Program) (h : History) (step : Step) (deed : Deed) → next_deed a (contents h) step ≡ Some deed → ((s r : Pid) → AllFit h s (contents h (Tail s r))) → IsFrom (contents h) step deed
delivered_from a h (Turn p) deed now fit = tt
delivered_from a h (Deliver s r) (Delivered x f) now fit =
    from_fit h s x (fit_first h s (contents h (Front s r)) (contents h (Tail s r)) x (was_first (contents h) s r (contents h (Alive r)) (first_of (waiting_in (contents h) s r)) x f now) (fit s r))
delivered_from a h (Deliver s r) deed now fit = tt

run_known : (a : Program) (h : History) → IsRun a h → IsKnown h
unfolding contents Match
run_known a [] is = record { watches = λ q ref. refl; signals = λ s r. tt }
run_known a (e ∷ h) is =
    let was = run_known a h is.1 in
    let v = contents h in
    let ks = changes_by v e.step e.deed in
    record {
      watches = event_known v e.step e.deed (λ p. (names_new a h p (turns h p + 1) is.1 (omega arith)).watch) (always_listed h) (delivered_from a h e.step e.deed (deed_is e.step (next_deed a v e.step) e is.0) was.signals) was.watches;
      signals = λ s r. subst (AllFit (e ∷ h) s) (sym (tail_told ks v s r ∙ ap (λ xs. v (Tail s r) ++ xs) (puts_told h e s r)))
          (fit_both (e ∷ h) s (v (Tail s r)) (put_in h e.step e.deed s r) (all_still a h e s (v (Tail s r)) is.1 (was.signals s r))
          (put_fit (e ∷ h) h e.step e.deed s r (λ p kind arguments answer step deed. served_told a h e p kind arguments answer step deed) (λ p ref there. still_fits a h e p ref is.1 (known_fits a h p ref is.1 was.watches there))));
    }

pub targets_have_watches : TargetsHaveWatches
unfolding Match
targets_have_watches a h p ref is =
    let one = (run_known a h is).watches p ref in
    ((λ there. it_is (watched h ref) p (sym one ∙ any_ref ref (contents h (Watchers p)) there)), (λ of. among_refs ref (contents h (Watchers p)) (one ∙ is_itself (watched h ref) p of)))
