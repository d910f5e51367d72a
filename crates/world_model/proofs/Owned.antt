-- Each table that is there has an owner, which lives.
use Rattle.std.proofs.Common.{◌≡◌, Bool, true, false, List, [], ◌∷◌, map, ap, Option, Some, None, refl, sym, ◌∙◌, if◌then◌else◌, true≢false, subst}
use Rattle.std.specs.List.{list_any}
use Rattle.std.specs.Option.{option_or}
use Rattle.std.specs.Prelude.{unwrap_or, option_map}
use Rattle.term_core.specs.Meaning.{Meaning}
use Rattle.term_core.specs.declared.step.Step.{Step}
use Rattle.term_core.specs.declared.step.Step.TheVariants.{Turn, Deliver}
use Rattle.core_semantics.specs.Asked as answered
use Rattle.core_semantics.specs.Asked.{Answered}
use Rattle.world_model.specs.Calls.{Call, TableCall, DeleteTable, GiveAway, SetOptions, Spawn, SpawnWay, Alone, Linked, Watched, New, OnTable, call_of}
use Rattle.world_model.specs.Cells.{Table, TableName, Cell, Owned, Contents, Alive}
use Rattle.world_model.specs.Changes.{after, TableNameCleared, HeirSet, changed, CellTouched, TableRemoved, RowsCleared, OwnedRemoved, TableSet, OwnedAdded, AliveSet, MachineStarted, AliveCleared, MachineHalted, TurnTaken, SignalDelivered}
use Rattle.world_model.specs.Ends.{ends}
use Rattle.world_model.specs.Events.{Signal, Fate, Arrives, IsIgnored, IsDropped, Kills, Deed, Served, Refused, Ended, EndedItself, Received, TimedOut, RanAway, Delivered, History}
use Rattle.world_model.specs.TableAccess.{Found, access_rule_at, find, is_table_argument}
use Rattle.world_model.specs.TableRules.{found_line, refusal_by, table_rule}
use Rattle.world_model.specs.Lines.{line}
use Rattle.world_model.specs.Names.{same_ref, Name, Ref, Pid, same_pid}
use Rattle.world_model.specs.NewTables.{means_if, new_line, new_rule}
use Rattle.world_model.specs.OwnershipLaws.{heir_named, table_passed}
use Rattle.world_model.specs.Ownership.{heirs_set, gift_rule}
use Rattle.world_model.specs.ProcessLines.{bound, next_child, next_ref}
use Rattle.world_model.specs.Requests.{Program}
use Rattle.world_model.specs.Run.{IsRun}
use Rattle.world_model.specs.RunLaws.{OwnersLive}
use Rattle.world_model.specs.Signals.{goes_with}
use Rattle.world_model.specs.Steps.{changes_of_fate, changes_by, runaway, raised_by}
use Rattle.world_model.specs.TableLines.{table_line}
use Rattle.world_model.specs.Tables as tables
use Rattle.world_model.specs.Tables.{owned_by, Heir, with_heir, is_named, TableOption, table_of}
use Rattle.world_model.specs.Terms.{atom}
use Rattle.world_model.specs.ProcessHistory.{is_it}
use Rattle.world_model.specs.World.{contents}
use Rattle.world_model.specs.declared.rule.Rule.{Rule}
use Rattle.world_model.specs.declared.rule.Rule.TheVariants.{BadTable}
use Rattle.world_model.proofs.Commuting.{stays, either_way, follows}
use Rattle.world_model.proofs.EndSorts.{after_both, alive_after_end}
use Rattle.world_model.proofs.Fresh.{turns_live}
use Rattle.world_model.proofs.Having.{Had, owner_of, freed_at, goes_had, living_is, means_table, no_table, run_had}
use Rattle.world_model.proofs.Listed.{pid_turned}
use Rattle.world_model.proofs.Matching.{Match}
use Rattle.world_model.proofs.Named.{found_there}
use Rattle.world_model.proofs.OwnerLaws.{heir_at, end_passes}
use Rattle.world_model.proofs.Served.{Unrefused, unrefused_in}
use Rattle.world_model.proofs.SortLaws.{goes_off, untouched_by, table_among, call_leaves}
use Rattle.world_model.proofs.Sorts.{is_among, table_sorts}

HaveOwners : Contents → Type 0
HaveOwners v = (t : Ref) (x : tables.Table) → v (Table t) ≡ Some x → v (Alive x.owner) ≡ true

owner_is : (x y : tables.Table) → Some x ≡ Some y → x.owner ≡ y.owner
owner_is x y e = ap (λ o. (unwrap_or o x).owner) e

-- where tables are as they were, and lives, or more live
owned_same : (v w : Contents) → ((t : Ref) → w (Table t) ≡ v (Table t)) → ((q : Pid) → v (Alive q) ≡ true → w (Alive q) ≡ true) → HaveOwners v → HaveOwners w
unfolding HaveOwners
owned_same v w all lives before_ t x now = lives x.owner (before_ t x (sym (all t) ∙ now))

-- ---- calls

freed_lives : (b : Bool) (name : Name) (w : Contents) (q : Pid) → after (if b then TableNameCleared name ∷ [] else []) w (Alive q) ≡ w (Alive q)
freed_lives true name w q = refl
freed_lives false name w q = refl

deleted_by : (w : Contents) (f : Found) (t : Ref) (x : tables.Table) (b : Bool) → (if b then None else w (Table t)) ≡ Some x → HaveOwners w → w (Alive x.owner) ≡ true
unfolding HaveOwners
deleted_by w f t x true now before_ = absurd (no_table now)
deleted_by w f t x false now before_ = before_ t x now

given_by : (w : Contents) (to : Pid) (t : Ref) (x : tables.Table) (b : Bool) (o : Option tables.Table) → o ≡ w (Table t) → w (Alive to) ≡ true → (if b then option_map (owned_by to) o else o) ≡ Some x → HaveOwners w → w (Alive x.owner) ≡ true
unfolding HaveOwners
given_by w to t x true None same lives now before_ = absurd (no_table now)
given_by w to t x true (Some y) same lives now before_ = ap (λ q. w (Alive q)) (sym (owner_is (owned_by to y) x now)) ∙ lives
given_by w to t x false o same lives now before_ = before_ t x (sym same ∙ now)

heir_by : (t u : Ref) (h : Heir) (b : Bool) (o : Option tables.Table) (x : tables.Table) → (if b then option_map (with_heir h) o else o) ≡ Some x → (y : tables.Table) × (o ≡ Some y) × (y.owner ≡ x.owner)
heir_by t u h true None x now = absurd (no_table now)
heir_by t u h true (Some y) x now = (y, refl, owner_is (with_heir h y) x now)
heir_by t u h false o x now = (x, now, refl)

heirs_owned : (u : Ref) (hs : List Heir) (w : Contents) → HaveOwners w → HaveOwners (after (map (HeirSet u) hs) w)
unfolding HaveOwners
heirs_owned u [] w before_ = before_
heirs_owned u (h ∷ hs) w before_ = heirs_owned u hs (changed (HeirSet u h) w) (λ t x now.
    let by = heir_by t u h (same_ref u t) (w (Table t)) x now in
    ap (λ q. w (Alive q)) (sym by.2) ∙ before_ t by.0 by.1)

set_owned : (u : Ref) (hs : List Heir) (w : Contents) → HaveOwners w → HaveOwners (after (heirs_set u hs) w)
set_owned u [] w before_ = owned_same w (changed (CellTouched (Table u)) w) (λ t. either_way (same_ref u t) (w (Table t))) (λ q lives. lives) before_
set_owned u (h ∷ hs) w before_ = heirs_owned u (h ∷ hs) w before_

-- a process that gets a table lives
target_lives : (table_ : tables.Table) (to : Pid) (b : Bool) → gift_rule table_ to b ≡ None → b ≡ true
target_lives table_ to true is = refl
target_lives table_ to false is = absurd cc

line_owned : (v w : Contents) (p : Pid) (f : Found) (call : TableCall) → (table_line v p f call).rule ≡ None → ((q : Pid) → v (Alive q) ≡ true → w (Alive q) ≡ true) → HaveOwners w → HaveOwners (after (table_line v p f call).changes w)
unfolding HaveOwners
line_owned v w p f DeleteTable none lives before_ = λ t x now.
    let was = after (TableRemoved f.ref ∷ RowsCleared f.ref ∷ OwnedRemoved f.table.owner f.ref ∷ []) w in
    freed_lives f.table.is_named f.table.name was x.owner ∙ deleted_by w f t x (same_ref f.ref t) (sym (freed_at f.table.is_named f.table.name was t) ∙ now) before_
line_owned v w p f (GiveAway None gift_) none lives before_ = before_
line_owned v w p f (GiveAway (Some to) gift_) none lives before_ = λ t x now. given_by w to t x (same_ref f.ref t) (w (Table t)) refl (lives to (target_lives f.table to (v (Alive to)) none)) now before_
line_owned v w p f (SetOptions None) none lives before_ = set_owned f.ref [] w before_
line_owned v w p f (SetOptions (Some hs)) none lives before_ = set_owned f.ref hs w before_
line_owned v w p f call none lives before_ =
    let off : (c : Cell) → is_among (table_sorts call) c ≡ false → after (table_line v p f call).changes w c ≡ w c = λ c other. stays (table_line v p f call).changes w c (untouched_by (table_sorts call) (table_line v p f call).changes c (table_among v p f call) other) in
    owned_same w (after (table_line v p f call).changes w) (λ t. off (Table t) refl) (λ q there. off (Alive q) refl ∙ there) before_

or_none : {A : Type 0} (a b : Option A) → option_or a b ≡ None → b ≡ None
or_none None b is = is
or_none (Some x) b is = absurd cc

found_owned : (v w : Contents) (p : Pid) (call : TableCall) (o : Option Found) → (found_line v p call o).rule ≡ None → ((q : Pid) → v (Alive q) ≡ true → w (Alive q) ≡ true) → HaveOwners w → HaveOwners (after (found_line v p call o).changes w)
found_owned v w p call None none lives before_ = before_
found_owned v w p call (Some f) none lives before_ = line_owned v w p f call (or_none (access_rule_at p f call) (table_line v p f call).rule none) lives before_

no_refusal : (f : Option Found) (o : Option Rule) → option_map (refusal_by f) o ≡ None → o ≡ None
no_refusal f None is = refl
no_refusal f (Some rule) is = absurd cc

rule_found : (b : Bool) (o : Option Rule) → (if b then o else Some BadTable) ≡ None → o ≡ None
rule_found true o is = is
rule_found false o is = absurd cc

-- a new table
means_lives : (b : Bool) (name : Name) (u : Ref) (w : Contents) (q : Pid) → after (means_if b name u) w (Alive q) ≡ w (Alive q)
means_lives true name u w q = refl
means_lives false name u w q = refl

made_by_owner : (w : Contents) (p : Pid) (t : Ref) (new_ x : tables.Table) (b : Bool) → new_.owner ≡ p → w (Alive p) ≡ true → (if b then Some new_ else w (Table t)) ≡ Some x → HaveOwners w → w (Alive x.owner) ≡ true
unfolding HaveOwners
made_by_owner w p t new_ x true own lives now before_ = ap (λ q. w (Alive q)) (sym (owner_is new_ x now) ∙ own) ∙ lives
made_by_owner w p t new_ x false own lives now before_ = before_ t x now

made_owned : (p : Pid) (u : Ref) (name : Name) (options : Option (List TableOption)) (rule : Option Rule) (w : Contents) → w (Alive p) ≡ true → HaveOwners w → HaveOwners (after (new_line p u name options rule).changes w)
unfolding HaveOwners
made_owned p u name None rule w lives before_ = before_
made_owned p u name (Some os) rule w lives before_ = λ t x now.
    let was = after (TableSet u (table_of p name os) ∷ OwnedAdded p u ∷ []) w in
    means_lives (is_named os) name u was x.owner ∙ made_by_owner w p t (table_of p name os) x (same_ref u t) refl lives (sym (means_table (is_named os) name u t was) ∙ now) before_

-- a spawn only begins
lives_on : (b : Bool) (x : Bool) → x ≡ true → (if b then true else x) ≡ true
lives_on true x is = refl
lives_on false x is = is

bound_table : (way : SpawnWay) (p child : Pid) (u t : Ref) (w : Contents) → after (bound way p child u) w (Table t) ≡ w (Table t)
bound_table Alone p child u t w = refl
bound_table Linked p child u t w = refl
bound_table Watched p child u t w = refl

bound_lives : (way : SpawnWay) (p child : Pid) (u : Ref) (w : Contents) (q : Pid) → after (bound way p child u) w (Alive q) ≡ w (Alive q)
bound_lives Alone p child u w q = refl
bound_lives Linked p child u w q = refl
bound_lives Watched p child u w q = refl

call_owned : (v w : Contents) (p : Pid) (call : Call) → (line v p call).refusal ≡ None → w (Alive p) ≡ true → ((q : Pid) → v (Alive q) ≡ true → w (Alive q) ≡ true) → HaveOwners w → HaveOwners (after (line v p call).changes w)
call_owned v w p (Spawn way None) none lives same before_ = before_
call_owned v w p (Spawn way (Some origin)) none lives same before_ =
    let born = changed (AliveSet (next_child v p)) (changed (MachineStarted (next_child v p) origin) w) in
    owned_same w (after (line v p (Spawn way (Some origin))).changes w) (λ t. bound_table way p (next_child v p) (next_ref v p) t born) (λ q there. bound_lives way p (next_child v p) (next_ref v p) born q ∙ lives_on (same_pid (next_child v p) q) (w (Alive q)) there) before_
call_owned v w p (New None options) none lives same before_ = before_
call_owned v w p (New (Some name) options) none lives same before_ = made_owned p (next_ref v p) name options (new_rule options (v (TableName name))) w lives before_
call_owned v w p (OnTable argument call) none lives same before_ = found_owned v w p call (find v argument) (rule_found (is_table_argument argument) (found_line v p call (find v argument)).rule (no_refusal (find v argument) (table_rule v p argument call) none)) same before_
call_owned v w p call none lives same before_ = owned_same w (after (line v p call).changes w) (λ t. call_leaves v w p call (Table t) refl) (λ q there. call_leaves v w p call (Alive q) refl ∙ there) before_

-- ---- ends

-- what an end leaves of a table that the process had goes to an heir, which lives and is another; one that it had not has another owner
inherited_by : (heir : Heir) (o : Option tables.Table) (x : tables.Table) → table_passed heir o ≡ Some x → (h : Pid × Meaning) × (heir ≡ Some h) × (x.owner ≡ h.0)
inherited_by None o x now = absurd (no_table now)
inherited_by (Some h) None x now = absurd (no_table now)
inherited_by (Some h) (Some y) x now = (h, refl, sym (owner_is (owned_by h.0 y) x now))

other_lives : (b lived : Bool) → (if b then false else lived) ≡ true → (b ≡ false) × (lived ≡ true)
other_lives true lived is = absurd (true≢false (sym is))
other_lives false lived is = (refl, is)

end_by : (v w : Contents) (p : Pid) (t : Ref) (x : tables.Table) (b : Bool) → list_any (same_ref t) (v (Owned p)) ≡ b → (if b then table_passed (heir_at (changed (AliveCleared p) v) t) (w (Table t)) else w (Table t)) ≡ Some x → ((t : Ref) → w (Table t) ≡ v (Table t)) → Had v → HaveOwners v → (same_pid p x.owner ≡ false) × (v (Alive x.owner) ≡ true)
unfolding HaveOwners Match
end_by v w p t x true has now all had before_ =
    let dead = changed (AliveCleared p) v in
    let by = inherited_by (heir_at dead t) (w (Table t)) x now in
    let alive_ = other_lives (same_pid p by.0.0) (v (Alive by.0.0)) (living_is dead (heir_named (dead (Table t))) by.0 by.1) in
    (ap (same_pid p) by.2 ∙ alive_.0, ap (λ q. v (Alive q)) by.2 ∙ alive_.1)
end_by v w p t x false has now all had before_ =
    let there = sym (all t) ∙ now in
    (pid_turned x.owner p false (sym (had p t ∙ ap (λ o. is_it (owner_of o) p) there) ∙ has), before_ t x there)

end_owned : (v w : Contents) (p : Pid) (reason : Meaning) → ((t : Ref) → w (Table t) ≡ v (Table t)) → ((q : Pid) → w (Alive q) ≡ v (Alive q)) → Had v → HaveOwners v → HaveOwners (after (ends v p reason) w)
unfolding HaveOwners
end_owned v w p reason all lives had before_ = λ t x now.
    let dead = changed (AliveCleared p) v in
    let mid = changed (AliveCleared p) (changed (MachineHalted p reason) w) in
    let by = end_by v mid p t x (list_any (same_ref t) (v (Owned p))) refl (sym (end_passes dead mid p reason t) ∙ now) all had before_ in
    alive_after_end v w p x.owner reason ∙ ap (λ b. if b then false else w (Alive x.owner)) by.0 ∙ lives x.owner ∙ by.1

-- ---- every event, and every run

goes_owned : (u : Contents) (s r : Pid) (x : Signal) (w : Contents) → HaveOwners w → HaveOwners (after (goes_with u s r x) w)
goes_owned u s r x w before_ = owned_same w (after (goes_with u s r x) w) (λ t. stays (goes_with u s r x) w (Table t) (goes_off u s r x (Table t) refl)) (λ q lives. stays (goes_with u s r x) w (Alive q) (goes_off u s r x (Alive q) refl) ∙ lives) before_

fate_owned : (v w : Contents) (r : Pid) (f : Fate) → ((t : Ref) → w (Table t) ≡ v (Table t)) → ((q : Pid) → w (Alive q) ≡ v (Alive q)) → Had v → HaveOwners v → HaveOwners (after (changes_of_fate v r f) w)
fate_owned v w r (Arrives m) all lives had before_ = owned_same v (after (changes_of_fate v r (Arrives m)) w) all (λ q there. lives q ∙ there) before_
fate_owned v w r IsIgnored all lives had before_ = owned_same v w all (λ q there. lives q ∙ there) before_
fate_owned v w r IsDropped all lives had before_ = owned_same v w all (λ q there. lives q ∙ there) before_
fate_owned v w r (Kills reason) all lives had before_ = end_owned v w r reason all lives had before_

turned_owned : (v : Contents) (p : Pid) (xs : List Answered) → HaveOwners v → HaveOwners (changed (TurnTaken p xs) v)
turned_owned v p xs before_ = owned_same v (changed (TurnTaken p xs) v) (λ t. refl) (λ q there. there) before_

event_owned : (v : Contents) (step : Step) (deed : Deed) → ((p : Pid) → step ≡ Turn p → v (Alive p) ≡ true) → Unrefused v step deed → Had v → HaveOwners v → HaveOwners (after (changes_by v step deed) v)
event_owned v (Turn p) (Served kind arguments answer) lives unrefused had before_ = call_owned v (changed (TurnTaken p (answered.Value answer ∷ [])) v) p (call_of kind arguments) (unrefused p kind arguments answer refl refl) (lives p refl) (λ q there. there) (turned_owned v p (answered.Value answer ∷ []) before_)
event_owned v (Turn p) (Refused kind arguments refusal) lives unrefused had before_ = turned_owned v p (answered.Raise (atom (raised_by refusal)) ∷ []) before_
event_owned v (Turn p) (EndedItself kind arguments reason) lives unrefused had before_ = end_owned v (changed (TurnTaken p []) v) p reason (λ t. refl) (λ q. refl) had before_
event_owned v (Turn p) (Received m) lives unrefused had before_ = owned_same v (after (changes_by v (Turn p) (Received m)) v) (λ t. refl) (λ q there. there) before_
event_owned v (Turn p) TimedOut lives unrefused had before_ = turned_owned v p (answered.TimedOut ∷ []) before_
event_owned v (Turn p) (Ended reason) lives unrefused had before_ = end_owned v (changed (TurnTaken p []) v) p reason (λ t. refl) (λ q. refl) had before_
event_owned v (Turn p) RanAway lives unrefused had before_ = end_owned v (changed (TurnTaken p []) v) p runaway (λ t. refl) (λ q. refl) had before_
event_owned v (Turn p) (Delivered x f) lives unrefused had before_ = before_
event_owned v (Deliver s r) (Delivered x f) lives unrefused had before_ =
    let ks = goes_with v s r x in
    let w = changed (SignalDelivered s r) v in
    subst HaveOwners (λ i c. sym (after_both ks (changes_of_fate (after ks v) r f) w c) i)
    (fate_owned (after ks v) (after ks w) r f (λ t. follows ks w v (Table t) refl) (λ q. follows ks w v (Alive q) refl) (goes_had v s r x v had) (goes_owned v s r x v before_))
event_owned v (Deliver s r) deed lives unrefused had before_ = before_

run_owned : (a : Program) (h : History) → IsRun a h → HaveOwners (contents h)
unfolding contents HaveOwners
run_owned a [] is = λ t x now. absurd (no_table now)
run_owned a (e ∷ h) is = event_owned (contents h) e.step e.deed (turns_live a h e.step e is.0) (unrefused_in a h e.step e is.0) (run_had a h is.1) (run_owned a h is.1)

pub owners_live : OwnersLive
unfolding HaveOwners
owners_live a h argument f is now =
    let there = found_there (contents h) argument f now in
    (ap (option_map (λ (x : tables.Table). x.owner)) there, run_owned a h is f.ref f.table there)
