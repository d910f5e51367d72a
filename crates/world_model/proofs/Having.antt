-- A process has exactly the tables that it owns.
use Rattle.std.proofs.Common.{◌≡◌, Bool, true, false, ◌&&◌, ◌||◌, List, [], ◌∷◌, map, Option, Some, None, refl, sym, ap, ◌∙◌, if◌then◌else◌, true≢false, arith}
use Rattle.std.specs.List.{list_any}
use Rattle.std.specs.Prelude.{◌++◌, ℕ, option_map, unwrap_or, ◌+◌}
use Rattle.term_core.specs.Meaning.{Meaning}
use Rattle.term_core.specs.declared.step.Step.{Step}
use Rattle.term_core.specs.declared.step.Step.TheVariants.{Turn, Deliver}
use Rattle.core_semantics.specs.Asked as answered
use Rattle.world_model.specs.Calls.{Call, TableCall, DeleteTable, GiveAway, SetOptions, New, OnTable, TableArgument, call_of}
use Rattle.world_model.specs.Cells.{Contents, Cell, Alive, Links, NameOf, Table, TableName, Owned, Watchers}
use Rattle.world_model.specs.Changes.{TableSet, OwnedAdded, TableRemoved, RowsCleared, OwnedRemoved, HeirSet, AliveCleared, OwnedCleared, TableNameCleared, MachineHalted, TurnTaken, SignalDelivered, after, changed}
use Rattle.world_model.specs.Ends.{ends, heir_pid, left_by, living_heir, name_left, partners_told, passed, table_passes, tables_pass, watchers_told}
use Rattle.world_model.specs.Events.{History, Deed, Served, Refused, EndedItself, Ended, Received, TimedOut, RanAway, Delivered, Signal, LinkExit, Down, Fate, Arrives, IsIgnored, IsDropped, Kills}
use Rattle.world_model.specs.TableAccess.{Found, find}
use Rattle.world_model.specs.TableRules.{found_line}
use Rattle.world_model.specs.Lines.{line}
use Rattle.world_model.specs.Names.{Name, Pid, Ref, same_pid, same_ref}
use Rattle.world_model.specs.NewTables.{means_if, new_line, new_rule}
use Rattle.world_model.specs.OwnershipLaws.{heir_named, table_passed}
use Rattle.world_model.specs.Ownership.{heirs_set}
use Rattle.world_model.specs.ProcessLines.{next_ref}
use Rattle.world_model.specs.Requests.{Program}
use Rattle.world_model.specs.Run.{IsRun}
use Rattle.world_model.specs.RunLaws.{OwnersHaveTables}
use Rattle.world_model.specs.Signals.{goes_with, put_if}
use Rattle.world_model.specs.Steps.{changes_of_fate, changes_by, runaway}
use Rattle.world_model.specs.TableLines.{table_line}
use Rattle.world_model.specs.Tables as tables
use Rattle.world_model.specs.Tables.{Heir, TableOption, is_named, owned_by, table_of, with_heir}
use Rattle.world_model.specs.ProcessHistory.{is_it}
use Rattle.world_model.specs.World.{contents, turns}
use Rattle.world_model.specs.declared.rule.Rule.{Rule}
use Rattle.world_model.proofs.Commuting.{either_way, stays, follows}
use Rattle.world_model.proofs.EndSorts.{after_both}
use Rattle.world_model.proofs.Fresh.{names_new}
use Rattle.world_model.proofs.Listed.{AreListed, all_listed, always_listed, pid_turned, any_ref, among_refs}
use Rattle.world_model.proofs.Matching.{Match, match_same, match_moves, gained_has, lost_has, it_is, is_itself}
use Rattle.world_model.proofs.Meeting.{pids_same, refs_same}
use Rattle.world_model.proofs.Mutual.{both_turned}
use Rattle.world_model.proofs.Named.{found_there}
use Rattle.world_model.proofs.OwnerLaws.{end_passes, heir_at, turned_ref}
use Rattle.world_model.proofs.SortLaws.{goes_off, AllAmong, among_both, call_leaves, put_among, table_among, untouched_by}
use Rattle.world_model.proofs.Sorts.{is_among, table_sorts}

abbrev pub owner_of : Option tables.Table → Option Pid
owner_of o = option_map (λ (x : tables.Table). x.owner) o

abbrev pub Had : Contents → Type 0
Had v = Match (λ q. v (Owned q)) (λ t. owner_of (v (Table t)))

-- where both are as they were
had_same : (v w : Contents) → ((q : Pid) → w (Owned q) ≡ v (Owned q)) → ((t : Ref) → owner_of (w (Table t)) ≡ owner_of (v (Table t))) → Had v → Had w
had_same v w lists owners before_ = match_same (λ q. v (Owned q)) (λ q. w (Owned q)) (λ t. owner_of (v (Table t))) (λ t. owner_of (w (Table t))) lists owners before_

-- ---- calls

pub owner_if : (b : Bool) (n o : Option tables.Table) → owner_of (if b then n else o) ≡ (if b then owner_of n else owner_of o)
owner_if true n o = refl
owner_if false n o = refl

freed_owned : (b : Bool) (name : Name) (w : Contents) (q : Pid) → after (if b then TableNameCleared name ∷ [] else []) w (Owned q) ≡ w (Owned q)
freed_owned true name w q = refl
freed_owned false name w q = refl

pub freed_at : (b : Bool) (name : Name) (w : Contents) (t : Ref) → after (if b then TableNameCleared name ∷ [] else []) w (Table t) ≡ w (Table t)
freed_at true name w t = refl
freed_at false name w t = refl

pub means_table : (b : Bool) (name : Name) (u t : Ref) (w : Contents) → after (means_if b name u) w (Table t) ≡ w (Table t)
means_table true name u t w = refl
means_table false name u t w = refl

means_owned : (b : Bool) (name : Name) (u : Ref) (w : Contents) (q : Pid) → after (means_if b name u) w (Owned q) ≡ w (Owned q)
means_owned true name u w q = refl
means_owned false name u w q = refl

-- a table is made, which was not there
made_had : (p : Pid) (u : Ref) (name : Name) (options : Option (List TableOption)) (rule : Option Rule) (w : Contents) → w (Table u) ≡ None → Had w → Had (after (new_line p u name options rule).changes w)
made_had p u name None rule w none before_ = before_
made_had p u name (Some os) rule w none before_ =
    let was = after (TableSet u (table_of p name os) ∷ OwnedAdded p u ∷ []) w in
    match_moves (λ q. w (Owned q)) (λ q. after (new_line p u name (Some os) rule).changes w (Owned q)) (λ t. owner_of (w (Table t))) (λ t. owner_of (after (new_line p u name (Some os) rule).changes w (Table t))) u (Some p) (λ q. same_pid p q) (λ q. false)
    (λ q t. ap (list_any (same_ref t)) (means_owned (is_named os) name u was q) ∙ gained_has (same_pid p q) u t (w (Owned q)))
    (λ t. ap owner_of (means_table (is_named os) name u t was) ∙ owner_if (same_ref u t) (Some (table_of p name os)) (w (Table t)))
    (λ q. refl) (λ q is. sym (ap (λ o. is_it (owner_of o) q) none) ∙ is) before_

-- it is deleted
deleted_had : (w : Contents) (p : Pid) (f : Found) (v : Contents) → w (Table f.ref) ≡ Some f.table → AreListed w → Had w → Had (after (table_line v p f DeleteTable).changes w)
deleted_had w p f v there sorted before_ =
    let was = after (TableRemoved f.ref ∷ RowsCleared f.ref ∷ OwnedRemoved f.table.owner f.ref ∷ []) w in
    match_moves (λ q. w (Owned q)) (λ q. after (table_line v p f DeleteTable).changes w (Owned q)) (λ t. owner_of (w (Table t))) (λ t. owner_of (after (table_line v p f DeleteTable).changes w (Table t))) f.ref None (λ q. false) (λ q. same_pid f.table.owner q)
    (λ q t. ap (list_any (same_ref t)) (freed_owned f.table.is_named f.table.name was q) ∙ lost_has (same_pid f.table.owner q) f.ref t (w (Owned q)) (sorted.tables q))
    (λ t. ap owner_of (freed_at f.table.is_named f.table.name was t) ∙ owner_if (same_ref f.ref t) None (w (Table t)))
    (λ q. refl) (λ q is. sym (ap (λ o. is_it (owner_of o) q) there) ∙ is) before_

-- it passes
given_to : (w : Contents) (u t : Ref) (to : Pid) (x : tables.Table) (b : Bool) → same_ref u t ≡ b → w (Table u) ≡ Some x → owner_of (if b then option_map (owned_by to) (w (Table t)) else w (Table t)) ≡ (if b then Some to else owner_of (w (Table t)))
given_to w u t to x true same there = ap (λ r. owner_of (option_map (owned_by to) (w (Table r)))) (sym (refs_same u t same)) ∙ ap (λ o. owner_of (option_map (owned_by to) o)) there
given_to w u t to x false same there = refl

given_had : (w : Contents) (p to : Pid) (gift_ : Meaning) (f : Found) (v : Contents) → w (Table f.ref) ≡ Some f.table → AreListed w → Had w → Had (after (table_line v p f (GiveAway (Some to) gift_)).changes w)
given_had w p to gift_ f v there sorted before_ =
    let ks = (table_line v p f (GiveAway (Some to) gift_)).changes in
    match_moves (λ q. w (Owned q)) (λ q. after ks w (Owned q)) (λ t. owner_of (w (Table t))) (λ t. owner_of (after ks w (Table t))) f.ref (Some to) (λ q. same_pid to q) (λ q. same_pid f.table.owner q)
    (λ q t. gained_has (same_pid to q) f.ref t (changed (OwnedRemoved f.table.owner f.ref) w (Owned q)) ∙ ap (λ b. same_pid to q && same_ref f.ref t || b) (lost_has (same_pid f.table.owner q) f.ref t (w (Owned q)) (sorted.tables q)))
    (λ t. given_to w f.ref t to f.table (same_ref f.ref t) refl there)
    (λ q. refl) (λ q is. sym (ap (λ o. is_it (owner_of o) q) there) ∙ is) before_

-- an heir leaves its owner
heir_owner : (b : Bool) (heir : Heir) (o : Option tables.Table) → owner_of (if b then option_map (with_heir heir) o else o) ≡ owner_of o
heir_owner true heir None = refl
heir_owner true heir (Some x) = refl
heir_owner false heir o = refl

heirs_owner : (u t : Ref) (hs : List Heir) (w : Contents) → owner_of (after (map (HeirSet u) hs) w (Table t)) ≡ owner_of (w (Table t))
heirs_owner u t [] w = refl
heirs_owner u t (h ∷ hs) w = heirs_owner u t hs (changed (HeirSet u h) w) ∙ heir_owner (same_ref u t) h (w (Table t))

set_owner : (u t : Ref) (hs : List Heir) (w : Contents) → owner_of (after (heirs_set u hs) w (Table t)) ≡ owner_of (w (Table t))
set_owner u t [] w = ap owner_of (either_way (same_ref u t) (w (Table t)))
set_owner u t (h ∷ hs) w = heirs_owner u t (h ∷ hs) w

off : (v w : Contents) (p : Pid) (f : Found) (call : TableCall) (c : Cell) → is_among (table_sorts call) c ≡ false → after (table_line v p f call).changes w c ≡ w c
off v w p f call c other = stays (table_line v p f call).changes w c (untouched_by (table_sorts call) (table_line v p f call).changes c (table_among v p f call) other)

line_had : (v w : Contents) (p : Pid) (f : Found) (call : TableCall) → w (Table f.ref) ≡ Some f.table → AreListed w → Had w → Had (after (table_line v p f call).changes w)
line_had v w p f DeleteTable there sorted before_ = deleted_had w p f v there sorted before_
line_had v w p f (GiveAway None gift_) there sorted before_ = before_
line_had v w p f (GiveAway (Some to) gift_) there sorted before_ = given_had w p to gift_ f v there sorted before_
line_had v w p f (SetOptions None) there sorted before_ = had_same w (after (table_line v p f (SetOptions None)).changes w) (λ q. off v w p f (SetOptions None) (Owned q) refl) (λ t. set_owner f.ref t [] w) before_
line_had v w p f (SetOptions (Some hs)) there sorted before_ = had_same w (after (table_line v p f (SetOptions (Some hs))).changes w) (λ q. off v w p f (SetOptions (Some hs)) (Owned q) refl) (λ t. set_owner f.ref t hs w) before_
line_had v w p f call there sorted before_ = had_same w (after (table_line v p f call).changes w) (λ q. off v w p f call (Owned q) refl) (λ t. ap owner_of (off v w p f call (Table t) refl)) before_

found_had : (v w : Contents) (p : Pid) (call : TableCall) (o : Option Found) → ((f : Found) → o ≡ Some f → w (Table f.ref) ≡ Some f.table) → AreListed w → Had w → Had (after (found_line v p call o).changes w)
found_had v w p call None there sorted before_ = before_
found_had v w p call (Some f) there sorted before_ = line_had v w p f call (there f refl) sorted before_

call_had : (v w : Contents) (p : Pid) (call : Call) → ((argument : TableArgument) (f : Found) → find v argument ≡ Some f → w (Table f.ref) ≡ Some f.table) → w (Table (next_ref v p)) ≡ None → AreListed w → Had w → Had (after (line v p call).changes w)
call_had v w p (New None options) there none sorted before_ = before_
call_had v w p (New (Some name) options) there none sorted before_ = made_had p (next_ref v p) name options (new_rule options (v (TableName name))) w none before_
call_had v w p (OnTable argument call) there none sorted before_ = found_had v w p call (find v argument) (there argument) sorted before_
call_had v w p call there none sorted before_ = had_same w (after (line v p call).changes w) (λ q. call_leaves v w p call (Owned q) refl) (λ t. ap owner_of (call_leaves v w p call (Table t) refl)) before_

-- ---- ends

-- what the heirs of tables gain
and_false : (b x : Bool) → x ≡ (b && false || x)
and_false true x = refl
and_false false x = refl

passed_gains : (p : Pid) (u t : Ref) (x : tables.Table) (heir : Heir) (w : Contents) (q : Pid) → list_any (same_ref t) (after (passed p u x heir) w (Owned q)) ≡ (same_ref u t && is_it (heir_pid heir) q || list_any (same_ref t) (w (Owned q)))
passed_gains p u t x None w q = ap (list_any (same_ref t)) (freed_owned x.is_named x.name (after (TableRemoved u ∷ RowsCleared u ∷ []) w) q) ∙ and_false (same_ref u t) (list_any (same_ref t) (w (Owned q)))
passed_gains p u t x (Some heir) w q = gained_has (same_pid heir.0 q) u t (w (Owned q)) ∙ ap (λ b. b || list_any (same_ref t) (w (Owned q))) (both_turned (same_pid heir.0 q) (same_ref u t))

one_gains : (v : Contents) (p : Pid) (u t : Ref) (o : Option tables.Table) (w : Contents) (q : Pid) → list_any (same_ref t) (after (table_passes v p u o) w (Owned q)) ≡ (same_ref u t && is_it (heir_pid (living_heir v (heir_named o))) q || list_any (same_ref t) (w (Owned q)))
one_gains v p u t None w q = and_false (same_ref u t) (list_any (same_ref t) (w (Owned q)))
one_gains v p u t (Some x) w q = passed_gains p u t x (living_heir v x.heir) w q

or_once : (a h z : Bool) → (a && h || (h || z)) ≡ (h || z)
or_once true true z = refl
or_once true false z = refl
or_once false h z = refl

more_by : (v : Contents) (t u : Ref) (a z : Bool) (q : Pid) (b : Bool) → same_ref u t ≡ b → (a && is_it (heir_pid (heir_at v t)) q || (b && is_it (heir_pid (heir_at v u)) q || z)) ≡ ((b || a) && is_it (heir_pid (heir_at v t)) q || z)
more_by v t u a z q true same = ap (λ r. a && is_it (heir_pid (heir_at v t)) q || (is_it (heir_pid (heir_at v r)) q || z)) (refs_same u t same) ∙ or_once a (is_it (heir_pid (heir_at v t)) q) z
more_by v t u a z q false same = refl

all_gain : (v : Contents) (p : Pid) (ts : List Ref) (t : Ref) (w : Contents) (q : Pid) → list_any (same_ref t) (after (tables_pass v p ts) w (Owned q)) ≡ (list_any (same_ref t) ts && is_it (heir_pid (heir_at v t)) q || list_any (same_ref t) (w (Owned q)))
all_gain v p [] t w q = refl
all_gain v p (u ∷ us) t w q =
    let first = table_passes v p u (v (Table u)) in
    let gets = is_it (heir_pid (heir_at v t)) q in
    ap (list_any (same_ref t)) (after_both first (tables_pass v p us) w (Owned q))
    ∙ all_gain v p us t (after first w) q
    ∙ ap (λ b. list_any (same_ref t) us && gets || b) (one_gains v p u t (v (Table u)) w q)
    ∙ more_by v t u (list_any (same_ref t) us) (list_any (same_ref t) (w (Owned q))) q (same_ref u t) refl
    ∙ ap (λ b. (b || list_any (same_ref t) us) && gets || list_any (same_ref t) (w (Owned q))) (sym (turned_ref t u (same_ref u t) refl))

-- what is sent at an end changes no table
abbrev tell_sorts : List ℕ
tell_sorts = 5 ∷ 9 ∷ 10 ∷ []

partners_tell : (v : Contents) (p : Pid) (reason : Meaning) (qs : List Pid) → AllAmong tell_sorts (partners_told v p reason qs)
partners_tell v p reason [] = tt
partners_tell v p reason (q ∷ qs) = among_both tell_sorts (put_if (v (Alive q)) p q (LinkExit reason)) (partners_told v p reason qs) (put_among tell_sorts (v (Alive q)) p q (LinkExit reason) refl) (partners_tell v p reason qs)

watchers_tell : (v : Contents) (p : Pid) (reason : Meaning) (refs : List Ref) → AllAmong tell_sorts (watchers_told v p reason refs)
watchers_tell v p reason [] = tt
watchers_tell v p reason (ref ∷ refs) = among_both tell_sorts (put_if (v (Alive ref.pid)) p ref.pid (Down ref reason)) (watchers_told v p reason refs) (put_among tell_sorts (v (Alive ref.pid)) p ref.pid (Down ref reason) refl) (watchers_tell v p reason refs)

name_tells : (p : Pid) (o : Option Name) → AllAmong tell_sorts (name_left p o)
name_tells p None = (refl, tt)
name_tells p (Some n) = (refl, (refl, tt))

tables_left : (v w : Contents) (p : Pid) (reason : Meaning) (q : Pid) → after (left_by v p reason) w (Owned q) ≡ (if same_pid p q then [] else after (tables_pass v p (v (Owned p))) w (Owned q))
tables_left v w p reason q =
    let partners = partners_told v p reason (v (Links p)) in
    let watchers = watchers_told v p reason (v (Watchers p)) in
    let name = name_left p (v (NameOf p)) in
    let telling = partners ++ (watchers ++ name) in
    let among : AllAmong tell_sorts telling = among_both tell_sorts partners (watchers ++ name) (partners_tell v p reason (v (Links p))) (among_both tell_sorts watchers name (watchers_tell v p reason (v (Watchers p))) (name_tells p (v (NameOf p)))) in
    after_both (tables_pass v p (v (Owned p))) (OwnedCleared p ∷ telling) w (Owned q)
    ∙ stays telling (changed (OwnedCleared p) (after (tables_pass v p (v (Owned p))) w)) (Owned q) (untouched_by tell_sorts telling (Owned q) among refl)

or_false : (b : Bool) → (b || false) ≡ b
or_false true = refl
or_false false = refl

-- a table of the process goes to its heir, which is another, or to nobody
end_by : (p q : Pid) (heir : Heir) (o : Option tables.Table) (a e x : Bool) → a ≡ is_it (owner_of o) p → x ≡ is_it (owner_of o) q → same_pid p q ≡ e → ((h : Pid × Meaning) → heir ≡ Some h → same_pid p h.0 ≡ false)
    → (if e then false else (a && is_it (heir_pid heir) q || x)) ≡ is_it (owner_of (if a then table_passed heir o else o)) q
end_by p q None o true true x mine has is other = refl
end_by p q (Some h) None true true x mine has is other = refl
end_by p q (Some h) (Some y) true true x mine has is other = sym (pid_turned q h.0 false (ap (λ r. same_pid r h.0) (sym (pids_same p q is)) ∙ other h refl))
end_by p q None o true false x mine has is other = has ∙ ap (λ k. is_it k q) (it_is (owner_of o) p (sym mine)) ∙ is
end_by p q (Some h) None true false x mine has is other = absurd (true≢false mine)
end_by p q (Some h) (Some y) true false x mine has is other = ap (λ b. same_pid h.0 q || b) (has ∙ ap (λ k. is_it k q) (it_is (Some y.owner) p (sym mine)) ∙ is) ∙ or_false (same_pid h.0 q)
end_by p q heir o false true x mine has is other = mine ∙ ap (is_it (owner_of o)) (pids_same p q is)
end_by p q heir o false false x mine has is other = has

if_left : (e : Bool) (t : Ref) (ts : List Ref) → list_any (same_ref t) (if e then [] else ts) ≡ (if e then false else list_any (same_ref t) ts)
if_left true t ts = refl
if_left false t ts = refl

pub no_table : {A : Type 0} {x : A} → None ≡ Some x → ⊥
no_table e = absurd cc

-- an heir that inherits lives
living_by : (v : Contents) (heir h : Pid × Meaning) (b : Bool) → v (Alive heir.0) ≡ b → (if b then Some heir else None) ≡ Some h → v (Alive h.0) ≡ true
living_by v heir h true is now = ap (λ y. v (Alive y.0)) (sym (ap (λ o. unwrap_or o heir) now)) ∙ is
living_by v heir h false is now = absurd (no_table now)

pub living_is : (v : Contents) (o : Heir) (h : Pid × Meaning) → living_heir v o ≡ Some h → v (Alive h.0) ≡ true
living_is v None h is = absurd cc
living_is v (Some heir) h is = living_by v heir h (v (Alive heir.0)) refl is

-- and is another than the process that is dead
pub heir_other : (v : Contents) (p : Pid) (h : Pid × Meaning) (b : Bool) → same_pid p h.0 ≡ b → (if b then false else v (Alive h.0)) ≡ true → b ≡ false
heir_other v p h true is lives = absurd (true≢false (sym lives))
heir_other v p h false is lives = refl

end_had : (v w : Contents) (p : Pid) (reason : Meaning) → ((q : Pid) → w (Owned q) ≡ v (Owned q)) → ((t : Ref) → w (Table t) ≡ v (Table t)) → Had v → Had (after (ends v p reason) w)
unfolding Match
end_had v w p reason lists all before_ = λ q t.
    let dead = changed (AliveCleared p) v in
    let mid = changed (AliveCleared p) (changed (MachineHalted p reason) w) in
    let heir = heir_at dead t in
    ap (list_any (same_ref t)) (tables_left dead mid p reason q)
    ∙ if_left (same_pid p q) t (after (tables_pass dead p (v (Owned p))) mid (Owned q))
    ∙ ap (λ b. if same_pid p q then false else b) (all_gain dead p (v (Owned p)) t mid q ∙ ap (λ us. list_any (same_ref t) (v (Owned p)) && is_it (heir_pid heir) q || list_any (same_ref t) us) (lists q))
    ∙ end_by p q heir (v (Table t)) (list_any (same_ref t) (v (Owned p))) (same_pid p q) (list_any (same_ref t) (v (Owned q))) (before_ p t) (before_ q t) refl (λ h is. heir_other v p h (same_pid p h.0) refl (living_is dead (heir_named (v (Table t))) h is))
    ∙ sym (ap (λ o. is_it (owner_of o) q) (end_passes dead mid p reason t ∙ ap (λ o. if list_any (same_ref t) (v (Owned p)) then table_passed heir o else o) (all t)))

-- ---- every event, and every run

pub goes_had : (u : Contents) (s r : Pid) (x : Signal) (v : Contents) → Had v → Had (after (goes_with u s r x) v)
goes_had u s r x v before_ = had_same v (after (goes_with u s r x) v) (λ q. stays (goes_with u s r x) v (Owned q) (goes_off u s r x (Owned q) refl)) (λ t. ap owner_of (stays (goes_with u s r x) v (Table t) (goes_off u s r x (Table t) refl))) before_

fate_had : (v w : Contents) (r : Pid) (f : Fate) → ((q : Pid) → w (Owned q) ≡ v (Owned q)) → ((t : Ref) → w (Table t) ≡ v (Table t)) → Had v → Had (after (changes_of_fate v r f) w)
fate_had v w r (Arrives m) lists all before_ = had_same v (after (changes_of_fate v r (Arrives m)) w) lists (λ t. ap owner_of (all t)) before_
fate_had v w r IsIgnored lists all before_ = had_same v w lists (λ t. ap owner_of (all t)) before_
fate_had v w r IsDropped lists all before_ = had_same v w lists (λ t. ap owner_of (all t)) before_
fate_had v w r (Kills reason) lists all before_ = end_had v w r reason lists all before_

event_had : (v : Contents) (step : Step) (deed : Deed) → ((p : Pid) → v (Table (next_ref v p)) ≡ None) → AreListed v → Had v → Had (after (changes_by v step deed) v)
event_had v (Turn p) (Served kind arguments answer) free sorted before_ = call_had v (changed (TurnTaken p (answered.Value answer ∷ [])) v) p (call_of kind arguments) (λ argument f is. found_there v argument f is) (free p) (all_listed (TurnTaken p (answered.Value answer ∷ []) ∷ []) v sorted) before_
event_had v (Turn p) (Refused kind arguments refusal) free sorted before_ = before_
event_had v (Turn p) (EndedItself kind arguments reason) free sorted before_ = end_had v (changed (TurnTaken p []) v) p reason (λ q. refl) (λ t. refl) before_
event_had v (Turn p) (Received m) free sorted before_ = before_
event_had v (Turn p) TimedOut free sorted before_ = before_
event_had v (Turn p) (Ended reason) free sorted before_ = end_had v (changed (TurnTaken p []) v) p reason (λ q. refl) (λ t. refl) before_
event_had v (Turn p) RanAway free sorted before_ = end_had v (changed (TurnTaken p []) v) p runaway (λ q. refl) (λ t. refl) before_
event_had v (Turn p) (Delivered x f) free sorted before_ = before_
event_had v (Deliver s r) (Delivered x f) free sorted before_ =
    let ks = goes_with v s r x in
    let w = changed (SignalDelivered s r) v in
    had_same (after (changes_of_fate (after ks v) r f) (after ks w)) (after (changes_by v (Deliver s r) (Delivered x f)) v)
    (λ q. after_both ks (changes_of_fate (after ks v) r f) w (Owned q)) (λ t. ap owner_of (after_both ks (changes_of_fate (after ks v) r f) w (Table t)))
    (fate_had (after ks v) (after ks w) r f (λ q. follows ks w v (Owned q) refl) (λ t. follows ks w v (Table t) refl) (goes_had v s r x v before_))
event_had v (Deliver s r) deed free sorted before_ = before_

pub run_had : (a : Program) (h : History) → IsRun a h → Had (contents h)
unfolding contents Match
run_had a [] is = λ q t. refl
run_had a (e ∷ h) is = event_had (contents h) e.step e.deed (λ p. (names_new a h p (turns h p + 1) is.1 (omega arith)).table) (always_listed h) (run_had a h is.1)

pub owners_have_tables : OwnersHaveTables
unfolding Match
owners_have_tables a h p t is =
    let both = run_had a h is p t in
    ((λ there. it_is (owner_of (contents h (Table t))) p (sym both ∙ any_ref t (contents h (Owned p)) there)), (λ owns. among_refs t (contents h (Owned p)) (both ∙ is_itself (owner_of (contents h (Table t))) p owns)))
