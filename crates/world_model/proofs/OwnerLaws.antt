-- What each event leaves of a table.
use Rattle.std.proofs.Common.{◌≡◌, Bool, true, false, ◌||◌, List, [], ◌∷◌, ◌++◌, map, ap, Option, Some, None, refl, sym, ◌∙◌, inl, inr, if◌then◌else◌, true≢false}
use Rattle.std.specs.List.{list_any}
use Rattle.std.specs.Prelude.{option_map, ℕ}
use Rattle.term_core.specs.Meaning.{Meaning}
use Rattle.core_semantics.specs.Asked as answered
use Rattle.world_model.specs.Calls.{TableCall, DeleteTable, GiveAway, SetOptions}
use Rattle.world_model.specs.Cells.{Table, Content, Contents, Cell, Alive, Owned, Links, Watchers, NameOf, Row}
use Rattle.world_model.specs.Changes.{after, HeirSet, changed, TableNameCleared, TableRemoved, RowsCleared, OwnedRemoved, TurnTaken, OwnedCleared, AliveCleared}
use Rattle.world_model.specs.Ends.{passed, table_passes, living_heir, tables_pass, partners_told, watchers_told, name_left, left_by}
use Rattle.world_model.specs.Events.{LinkExit, Down, Ended, RanAway, EndedItself}
use Rattle.world_model.specs.TableAccess.{Found}
use Rattle.world_model.specs.TableRules.{found_line}
use Rattle.world_model.specs.Lines.{line}
use Rattle.world_model.specs.Names.{Ref, same_ref, Name, Pid}
use Rattle.world_model.specs.NewTables.{means_if}
use Rattle.world_model.specs.OwnershipLaws.{heirs_left, table_left, LeavesTable, MakesTable, table_passed, heir_named, PassesTables, row_passed, PassesRows}
use Rattle.world_model.specs.Ownership.{heirs_set}
use Rattle.world_model.specs.ProcessLines.{next_ref}
use Rattle.world_model.specs.Rows.{Object, Key}
use Rattle.world_model.specs.Signals.{put_if}
use Rattle.world_model.specs.Steps.{runaway}
use Rattle.world_model.specs.TableLines.{table_line}
use Rattle.world_model.specs.Tables as tables
use Rattle.world_model.specs.Tables.{Heir, with_heir, is_named, owned_by, table_of}
use Rattle.world_model.specs.World.{contents}
use Rattle.world_model.proofs.Commuting.{stays, either_is}
use Rattle.world_model.proofs.EndSorts.{after_both}
use Rattle.world_model.proofs.Meeting.{ref_itself, refs_same}
use Rattle.world_model.proofs.SortLaws.{untouched_by, table_among, AllAmong, among_both, put_among}
use Rattle.world_model.proofs.Sorts.{is_among, table_sorts}

-- ---- a served call

here : (t : Ref) (x y : Option tables.Table) → (if same_ref t t then x else y) ≡ x
here t x y = ap (λ b. if b then x else y) (ref_itself t)

heirs_keep : (t : Ref) (hs : List Heir) (w : Contents) → after (map (HeirSet t) hs) w (Table t) ≡ heirs_left hs (w (Table t))
heirs_keep t [] w = refl
heirs_keep t (h ∷ hs) w = heirs_keep t hs (changed (HeirSet t h) w) ∙ ap (heirs_left hs) (here t (option_map (with_heir h) (w (Table t))) (w (Table t)))

set_keeps : (t : Ref) (hs : List Heir) (w : Contents) → after (heirs_set t hs) w (Table t) ≡ heirs_left hs (w (Table t))
set_keeps t [] w = here t (w (Table t)) (w (Table t))
set_keeps t (h ∷ hs) w = heirs_keep t (h ∷ hs) w

freed_keep : (b : Bool) (name : Name) (w : Contents) (t : Ref) → after (if b then TableNameCleared name ∷ [] else []) w (Table t) ≡ w (Table t)
freed_keep true name w t = refl
freed_keep false name w t = refl

-- calls of other sorts leave it
off : (v w : Contents) (p : Pid) (f : Found) (call : TableCall) → is_among (table_sorts call) (Table f.ref) ≡ false → after (table_line v p f call).changes w (Table f.ref) ≡ w (Table f.ref)
off v w p f call other = stays (table_line v p f call).changes w (Table f.ref) (untouched_by (table_sorts call) (table_line v p f call).changes (Table f.ref) (table_among v p f call) other)

pub call_keeps : (v w : Contents) (p : Pid) (f : Found) (call : TableCall) → after (table_line v p f call).changes w (Table f.ref) ≡ table_left call (w (Table f.ref))
call_keeps v w p f DeleteTable = freed_keep f.table.is_named f.table.name (after (TableRemoved f.ref ∷ RowsCleared f.ref ∷ OwnedRemoved f.table.owner f.ref ∷ []) w) f.ref ∙ here f.ref None (w (Table f.ref))
call_keeps v w p f (GiveAway None gift_) = refl
call_keeps v w p f (GiveAway (Some to) gift_) = here f.ref (option_map (owned_by to) (w (Table f.ref))) (w (Table f.ref))
call_keeps v w p f (SetOptions None) = set_keeps f.ref [] w
call_keeps v w p f (SetOptions (Some hs)) = set_keeps f.ref hs w
call_keeps v w p f call = off v w p f call refl

pub leaves_table : LeavesTable
unfolding contents
leaves_table h p kind arguments argument call answer f is_call is =
    let w = changed (TurnTaken p (answered.Value answer ∷ [])) (contents h) in
    ap (λ c. after (line (contents h) p c).changes w (Table f.ref)) is_call
    ∙ ap (λ o. after (found_line (contents h) p call o).changes w (Table f.ref)) is
    ∙ call_keeps (contents h) w p f call

means_keep : (b : Bool) (name : Name) (u t : Ref) (w : Contents) → after (means_if b name u) w (Table t) ≡ w (Table t)
means_keep true name u t w = refl
means_keep false name u t w = refl

pub makes_table : MakesTable
unfolding contents
makes_table h p kind arguments name os answer is_call =
    let t = next_ref (contents h) p in
    let w = changed (TurnTaken p (answered.Value answer ∷ [])) (contents h) in
    ap (λ c. after (line (contents h) p c).changes w (Table t)) is_call
    ∙ means_keep (is_named os) name t t _ ∙ here t (Some (table_of p name os)) (contents h (Table t))

-- ---- an end

twice : (heir : Heir) (x : Option tables.Table) → table_passed heir (table_passed heir x) ≡ table_passed heir x
twice None x = refl
twice (Some heir) None = refl
twice (Some heir) (Some s) = refl

passed_by : (p : Pid) (u t : Ref) (table_ : tables.Table) (heir : Heir) (w : Contents) → after (passed p u table_ heir) w (Table t) ≡ (if same_ref u t then table_passed heir (w (Table t)) else w (Table t))
passed_by p u t table_ None w = freed_keep table_.is_named table_.name _ t
passed_by p u t table_ (Some heir) w = refl

one_passes : (v : Contents) (p : Pid) (u t : Ref) (o : Option tables.Table) (w : Contents) → after (table_passes v p u o) w (Table t) ≡ (if same_ref u t then table_passed (living_heir v (heir_named o)) (w (Table t)) else w (Table t))
one_passes v p u t None w = refl
one_passes v p u t (Some table_) w = passed_by p u t table_ (living_heir v table_.heir) w

pub turned_ref : (t u : Ref) (b : Bool) → same_ref u t ≡ b → same_ref t u ≡ b
turned_ref t u true e = ap (same_ref t) (refs_same u t e) ∙ ref_itself t
turned_ref t u false e =
    elim (either_is (same_ref t u)) [
      | inl same ↦ absurd (true≢false (sym (ap (same_ref u) (refs_same t u same) ∙ ref_itself u) ∙ e))
      | inr other ↦ other
    ]

abbrev pub heir_at : Contents → Ref → Heir
heir_at v t = living_heir v (heir_named (v (Table t)))

-- a cell that each table's passing renews where the table is this one
module _ (p : Pid) (t : Ref) (c : Cell) (f : Heir → Content c → Content c) (once : (heir : Heir) (x : Content c) → f heir (f heir x) ≡ f heir x) (one : (v : Contents) (u : Ref) (o : Option tables.Table) (w : Contents) → after (table_passes v p u o) w c ≡ (if same_ref u t then f (living_heir v (heir_named o)) (w c) else w c)) where
  both_pass : (heir : Heir) (b : Bool) (x : Content c) → (if b then f heir (f heir x) else f heir x) ≡ f heir x
  both_pass heir true x = once heir x
  both_pass heir false x = refl

  one_of : (v : Contents) (u : Ref) (b d : Bool) (x : Content c) → same_ref u t ≡ b → (if d then f (heir_at v t) (if b then f (heir_at v u) x else x) else (if b then f (heir_at v u) x else x)) ≡ (if b || d then f (heir_at v t) x else x)
  one_of v u true d x e = ap (λ r. if d then f (heir_at v t) (f (heir_at v r) x) else f (heir_at v r) x) (refs_same u t e) ∙ both_pass (heir_at v t) d x
  one_of v u false d x e = refl

  pub all_pass : (v : Contents) (ts : List Ref) (w : Contents) → after (tables_pass v p ts) w c ≡ (if list_any (same_ref t) ts then f (heir_at v t) (w c) else w c)
  all_pass v [] w = refl
  all_pass v (u ∷ us) w =
      let first = table_passes v p u (v (Table u)) in
      after_both first (tables_pass v p us) w c
      ∙ all_pass v us (after first w)
      ∙ (λ i. if list_any (same_ref t) us then f (heir_at v t) (one v u (v (Table u)) w i) else one v u (v (Table u)) w i)
      ∙ one_of v u (same_ref u t) (list_any (same_ref t) us) (w c) refl
      ∙ (λ i. if sym (turned_ref t u (same_ref u t) refl) i || list_any (same_ref t) us then f (heir_at v t) (w c) else w c)

-- the rest of an end writes neither tables nor rows
abbrev pub rest_sorts : List ℕ
rest_sorts = 5 ∷ 9 ∷ 10 ∷ 13 ∷ []

partners_off : (v : Contents) (p : Pid) (reason : Meaning) (qs : List Pid) → AllAmong rest_sorts (partners_told v p reason qs)
partners_off v p reason [] = tt
partners_off v p reason (q ∷ qs) = among_both rest_sorts (put_if (v (Alive q)) p q (LinkExit reason)) (partners_told v p reason qs) (put_among rest_sorts (v (Alive q)) p q (LinkExit reason) refl) (partners_off v p reason qs)

watchers_off : (v : Contents) (p : Pid) (reason : Meaning) (refs : List Ref) → AllAmong rest_sorts (watchers_told v p reason refs)
watchers_off v p reason [] = tt
watchers_off v p reason (ref ∷ refs) = among_both rest_sorts (put_if (v (Alive ref.pid)) p ref.pid (Down ref reason)) (watchers_told v p reason refs) (put_among rest_sorts (v (Alive ref.pid)) p ref.pid (Down ref reason) refl) (watchers_off v p reason refs)

name_off : (p : Pid) (o : Option Name) → AllAmong rest_sorts (name_left p o)
name_off p None = (refl, tt)
name_off p (Some n) = (refl, (refl, tt))

pub rest_off : (c : Cell) (v w : Contents) (p : Pid) (reason : Meaning) → is_among rest_sorts c ≡ false → after (left_by v p reason) w c ≡ after (tables_pass v p (v (Owned p))) w c
rest_off c v w p reason other =
    let partners = partners_told v p reason (v (Links p)) in
    let watchers = watchers_told v p reason (v (Watchers p)) in
    let name = name_left p (v (NameOf p)) in
    let rest = OwnedCleared p ∷ (partners ++ (watchers ++ name)) in
    let among : AllAmong rest_sorts rest = (refl, among_both rest_sorts partners (watchers ++ name) (partners_off v p reason (v (Links p))) (among_both rest_sorts watchers name (watchers_off v p reason (v (Watchers p))) (name_off p (v (NameOf p))))) in
    after_both (tables_pass v p (v (Owned p))) rest w c ∙ stays rest (after (tables_pass v p (v (Owned p))) w) c (untouched_by rest_sorts rest c among other)

pub end_passes : (v w : Contents) (p : Pid) (reason : Meaning) (t : Ref) → after (left_by v p reason) w (Table t) ≡ (if list_any (same_ref t) (v (Owned p)) then table_passed (heir_at v t) (w (Table t)) else w (Table t))
end_passes v w p reason t = rest_off (Table t) v w p reason refl ∙ all_pass p t (Table t) table_passed twice (λ v u o x. one_passes v p u t o x) v (v (Owned p)) w

pub passes_tables : PassesTables
unfolding contents
passes_tables h p (Ended reason) t is = end_passes (changed (AliveCleared p) (contents h)) _ p reason t
passes_tables h p RanAway t is = end_passes (changed (AliveCleared p) (contents h)) _ p runaway t
passes_tables h p (EndedItself kind arguments reason) t is = end_passes (changed (AliveCleared p) (contents h)) _ p reason t
passes_tables h p deed t is = absurd is

-- ---- and of its rows

rows_twice : (heir : Heir) (xs : List Object) → row_passed heir (row_passed heir xs) ≡ row_passed heir xs
rows_twice None xs = refl
rows_twice (Some heir) xs = refl

freed_row : (b : Bool) (name : Name) (w : Contents) (t : Ref) (k : Key) → after (if b then TableNameCleared name ∷ [] else []) w (Row t k) ≡ w (Row t k)
freed_row true name w t k = refl
freed_row false name w t k = refl

either_row : (b : Bool) (xs : List Object) → xs ≡ (if b then xs else xs)
either_row true xs = refl
either_row false xs = refl

row_by : (p : Pid) (u t : Ref) (k : Key) (table_ : tables.Table) (heir : Heir) (w : Contents) → after (passed p u table_ heir) w (Row t k) ≡ (if same_ref u t then row_passed heir (w (Row t k)) else w (Row t k))
row_by p u t k table_ None w = freed_row table_.is_named table_.name _ t k
row_by p u t k table_ (Some heir) w = either_row (same_ref u t) (w (Row t k))

one_wipes : (v : Contents) (p : Pid) (u t : Ref) (k : Key) (o : Option tables.Table) (w : Contents) → after (table_passes v p u o) w (Row t k) ≡ (if same_ref u t then row_passed (living_heir v (heir_named o)) (w (Row t k)) else w (Row t k))
one_wipes v p u t k None w = refl
one_wipes v p u t k (Some table_) w = row_by p u t k table_ (living_heir v table_.heir) w

pub rows_pass : (v w : Contents) (p : Pid) (reason : Meaning) (t : Ref) (k : Key) → after (left_by v p reason) w (Row t k) ≡ (if list_any (same_ref t) (v (Owned p)) then row_passed (heir_at v t) (w (Row t k)) else w (Row t k))
rows_pass v w p reason t k = rest_off (Row t k) v w p reason refl ∙ all_pass p t (Row t k) row_passed rows_twice (λ v u o x. one_wipes v p u t k o x) v (v (Owned p)) w

pub passes_rows : PassesRows
unfolding contents
passes_rows h p (Ended reason) t k is = rows_pass (changed (AliveCleared p) (contents h)) _ p reason t k
passes_rows h p RanAway t k is = rows_pass (changed (AliveCleared p) (contents h)) _ p runaway t k
passes_rows h p (EndedItself kind arguments reason) t k is = rows_pass (changed (AliveCleared p) (contents h)) _ p reason t k
passes_rows h p deed t k is = absurd is
