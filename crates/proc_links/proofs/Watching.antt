-- What watches there are after one begins or ends.
use Rattle.std.proofs.Common.{◌≡◌, ◌⊎◌, inl, inr, List, Option, Some, None, map, bytes_eq, if◌then◌else◌, ap, ◌∙◌}
use Rattle.std.specs.BTreeMap.{get, is_at}
use Rattle.term_core.specs.StepOrder.{order_of_reference_ids}
use Rattle.world_model.specs.Cells as cells
use Rattle.world_model.specs.Cells.{Contents}
use Rattle.world_model.specs.Changes.{set_in_order, without_first}
use Rattle.world_model.specs.Names.{Pid, Ref, same_pid, same_ref, order_of_refs, ref_of}
use Rattle.proc_groups.specs.Groups.{members_in}
use Rattle.proc_groups.proofs.Referring.{Id, refs_same, refs_in_order, map_if, refs_without}
use Rattle.proc_links.specs.inside.Watched.{AreSame}
use Rattle.proc_links.specs.Watchers.{watchers_in, watch_in, AreWatchers, AreWatches, BeginsWatch, EndsWatch}
use Rattle.proc_links.specs.declared.watchers.Watches.{Watches}
use Rattle.proc_links.specs.declared.watchers.Watchers.{Watchers}

pub same_watches : (old now : Watches) → (now ≡ old) ⊎ AreSame old now → AreSame old now
same_watches old now (inl e) = record { watchers = λ p. ap (λ w. members_in w.watchers p) e; targets = λ id. ap (λ w. get order_of_reference_ids w.targets id) e }
same_watches old now (inr same) = same

-- at one process a change of its references, and at one reference another target
now_changed : (old new : Watchers) (b c : Watches) (x : Id) (t : Pid) (f : List Id → List Id) (g : List Ref → List Ref) (w : Option Pid) → ((xs : List Id) → map ref_of (f xs) ≡ g (map ref_of xs)) → AreSame old.watches.value b
    → ((p : Pid) → members_in c.watchers p ≡ (if bytes_eq t p then f (members_in b.watchers p) else members_in b.watchers p))
    → new.watches.value ≡ c → (p : Pid) → watchers_in new p ≡ (if same_pid t p then g (watchers_in old p) else watchers_in old p)
now_changed old new b c x t f g w same is change now p =
    ap (λ s. map ref_of (members_in s.watchers p)) now ∙ ap (map ref_of) (change p) ∙ map_if ref_of (bytes_eq t p) _ _
    ∙ ap (λ zs. if bytes_eq t p then zs else map ref_of (members_in b.watchers p)) (same (members_in b.watchers p))
    ∙ ap (λ xs. if bytes_eq t p then g (map ref_of xs) else map ref_of xs) (is.watchers p)

now_targets : (old new : Watchers) (b c : Watches) (x : Id) (w : Option Pid) → AreSame old.watches.value b
    → ((id : Id) → get order_of_reference_ids c.targets id ≡ (if is_at (order_of_reference_ids x) id then w else get order_of_reference_ids b.targets id))
    → new.watches.value ≡ c → (other : Ref) → watch_in new other ≡ (if same_ref (ref_of x) other then w else watch_in old other)
now_targets old new b c x w is change now other =
    ap (λ s. get order_of_reference_ids s.targets (other.pid, other.number)) now ∙ change (other.pid, other.number)
    ∙ ap (λ y. if y then w else get order_of_reference_ids b.targets (other.pid, other.number)) (refs_same x (other.pid, other.number))
    ∙ ap (λ o. if same_ref (ref_of x) other then w else o) (is.targets (other.pid, other.number))

pub now_watched : (old new : Watchers) (b c : Watches) (x : Id) (t : Pid) → AreSame old.watches.value b
    → ((p : Pid) → members_in c.watchers p ≡ (if bytes_eq t p then set_in_order order_of_reference_ids x (members_in b.watchers p) else members_in b.watchers p))
    → ((id : Id) → get order_of_reference_ids c.targets id ≡ (if is_at (order_of_reference_ids x) id then Some t else get order_of_reference_ids b.targets id))
    → new.watches.value ≡ c → BeginsWatch (ref_of x) t old new
now_watched old new b c x t is watchers targets now = record {
  watchers = now_changed old new b c x t (set_in_order order_of_reference_ids x) (set_in_order order_of_refs (ref_of x)) (Some t) (refs_in_order x) is watchers now;
  watches = now_targets old new b c x (Some t) is targets now;
}

pub now_unwatched : (old new : Watchers) (b c : Watches) (x : Id) (t : Pid) → AreSame old.watches.value b
    → ((p : Pid) → members_in c.watchers p ≡ (if bytes_eq t p then without_first (is_at (order_of_reference_ids x)) (members_in b.watchers p) else members_in b.watchers p))
    → ((id : Id) → get order_of_reference_ids c.targets id ≡ (if is_at (order_of_reference_ids x) id then None else get order_of_reference_ids b.targets id))
    → new.watches.value ≡ c → EndsWatch (ref_of x) t old new
now_unwatched old new b c x t is watchers targets now = record {
  watchers = now_changed old new b c x t (without_first (is_at (order_of_reference_ids x))) (without_first (same_ref (ref_of x))) None (refs_without x) is watchers now;
  watches = now_targets old new b c x None is targets now;
}

pub watchers_begun : (old new : Watchers) (ref : Ref) (t : Pid) (v : Contents) → BeginsWatch ref t old new → AreWatchers old v → (p : Pid) → watchers_in new p ≡ (if same_pid t p then set_in_order order_of_refs ref (v (cells.Watchers p)) else v (cells.Watchers p))
watchers_begun old new ref t v begun told p = begun.watchers p ∙ ap (λ xs. if same_pid t p then set_in_order order_of_refs ref xs else xs) (told p)

pub watches_begun : (old new : Watchers) (ref : Ref) (t : Pid) (v : Contents) → BeginsWatch ref t old new → AreWatches old v → (other : Ref) → watch_in new other ≡ (if same_ref ref other then Some t else v (cells.Watch other))
watches_begun old new ref t v begun told other = begun.watches other ∙ ap (λ o. if same_ref ref other then Some t else o) (told other)

pub watchers_over : (old new : Watchers) (ref : Ref) (t : Pid) (v : Contents) → EndsWatch ref t old new → AreWatchers old v → (p : Pid) → watchers_in new p ≡ (if same_pid t p then without_first (same_ref ref) (v (cells.Watchers p)) else v (cells.Watchers p))
watchers_over old new ref t v over told p = over.watchers p ∙ ap (λ xs. if same_pid t p then without_first (same_ref ref) xs else xs) (told p)

pub watches_over : (old new : Watchers) (ref : Ref) (t : Pid) (v : Contents) → EndsWatch ref t old new → AreWatches old v → (other : Ref) → watch_in new other ≡ (if same_ref ref other then None else v (cells.Watch other))
watches_over old new ref t v over told other = over.watches other ∙ ap (λ o. if same_ref ref other then None else o) (told other)
