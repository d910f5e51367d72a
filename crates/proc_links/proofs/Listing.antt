-- All names that are held, in their order: those of the contents.
use Rattle.std.proofs.Common.{◌≡◌, ◌&&◌, Bool, true, false, cond, T, List, [], ◌∷◌, Option, Some, map, refl, sym, ap, subst, ◌∙◌}
use Rattle.std.specs.BTreeMap.{BTreeMap, IsOrdered}
use Rattle.std.specs.BTreeMap as stored
use Rattle.std.specs.Cmp.Lexicographic.{nat_list_cmp_total}
use Rattle.std.specs.FinMap.{FinMap, get, keys, from_sorted, entries-from_sorted, get-from_sorted, same_map}
use Rattle.std.specs.FinMap.Entries.{find, below_all, is_sorted}
use Rattle.std.specs.List.{AllByRecursion}
use Rattle.std.specs.List.Sorted.{IsStrictlySortedBy}
use Rattle.std.specs.Map.{lookup}
use Rattle.std.specs.Ordering.{eq_by_cmp, is_lt}
use Rattle.std.specs.Prelude.{IfOk}
use Rattle.std.specs.declared.cmp.Ordering.TheVariants.{Less}
use Rattle.std.specs.declared.result.Result.{Result}
use Rattle.std.specs.declared.result.Result.TheVariants.{Ok, Err}
use Rattle.term_core.specs.Order.{order_of_lists}
use Rattle.world_model.specs.Names.{Name, Pid}
use Rattle.world_model.proofs.HolderLaws.{get-held, holders_with, names_apart}
use Rattle.world_model.specs.Cells as cells
use Rattle.world_model.specs.Cells.{Contents}
use Rattle.proc_links.specs.Bearers.{put_at}
use Rattle.proc_links.specs.Names.{holder_in, AreListed}
use Rattle.proc_links.specs.declared.names.Names.{Names}

abbrev Entries : Type 0
Entries = List (Name × Pid)

abbrev names_of : Entries → List Name
names_of es = map (λ e. e.0) es

both : (a b : Bool) → T a → T b → T (a && b)
both true b p q = q
both false b p q = p

below : (x : Name) (es : Entries) → AllByRecursion (λ y. order_of_lists x y ≡ Less) (names_of es) → T (below_all order_of_lists x es)
below x [] all = tt
below x (e ∷ es) all = both (is_lt (order_of_lists x e.0)) (below_all order_of_lists x es) (subst (λ r. T (is_lt r)) (sym all.0) tt) (below x es all.1)

sorted : (es : Entries) → IsStrictlySortedBy order_of_lists (names_of es) → T (is_sorted order_of_lists es)
unfolding IsStrictlySortedBy
sorted [] rising = tt
sorted (e ∷ es) rising = both (below_all order_of_lists e.0 es) (is_sorted order_of_lists es) (below e.0 es rising.0) (sorted es rising.1)

found : (name : Name) (es : Entries) → find order_of_lists name es ≡ lookup (eq_by_cmp order_of_lists name) es
found name [] = refl
found name (e ∷ es) = ap (cond (eq_by_cmp order_of_lists name e.0) (Some e.1)) (found name es)

-- a map that has the same holders has the same names
pub all_names : (map : BTreeMap Name Pid) (held : FinMap order_of_lists Pid) → IsOrdered order_of_lists map → ((name : Name) → stored.get order_of_lists map name ≡ get held name) → names_of map.entries ≡ keys held
all_names map held rising told =
    let is = sorted map.entries rising in
    ap names_of (sym (entries-from_sorted order_of_lists map.entries is))
    ∙ ap keys (same_map nat_list_cmp_total names_apart (from_sorted map.entries) held (λ name. get-from_sorted order_of_lists map.entries name is ∙ found name map.entries ∙ told name))

-- a change of one holder
pub names_listed : (old new : Names) (n : Name) (h : Option Pid) (v : Contents) → ((m : Name) → holder_in new m ≡ put_at n h m (holder_in old m)) → AreListed old v → (m : Name) → holder_in new m ≡ get (holders_with n h (v cells.Holders)) m
names_listed old new n h v named told m = named m ∙ ap (put_at n h m) (told m) ∙ sym (get-held n h (v cells.Holders) m)

-- what is said of each answer
pub if_answered : {X E : Type 0} (P Q : X → Type 0) (r : Result X E) → ((x : X) → P x → Q x) → IfOk r P → IfOk r Q
if_answered P Q (Ok x) says is = says x is
if_answered P Q (Err e) says is = tt
