-- Links, watches and names that are compared as the same are the same.
use Rattle.std.proofs.Common.{◌≡◌, ◌&&◌, ℕ, Bool, true, false, not, List, map, option_map, bytes_eq, refl, sym, ap, ◌∙◌}
use Rattle.std.proofs.lemmas.Bool.{and_parts}
use Rattle.std.proofs.lemmas.Slice.Eq.{bytes_eq-Decides}
use Rattle.std.specs.BTreeMap.{BTreeMap, get, is_at}
use Rattle.std.specs.Cmp.Lexicographic.{pointwise}
use Rattle.std.specs.Map.{lookup}
use Rattle.std.specs.Ordering.{eq_by_cmp, int_eq}
use Rattle.term_core.proofs.Equality.{reference_ids_same}
use Rattle.term_core.specs.Order.{order_of_lists}
use Rattle.term_core.specs.StepOrder.{order_of_reference_ids}
use Rattle.world_model.specs.Names.{ref_of, same_name, same_pid}
use Rattle.proc_groups.specs.declared.groups.Groups.{Groups}
use Rattle.proc_groups.specs.Groups.{members_in}
use Rattle.proc_groups.proofs.Alike.{entries_told}
use Rattle.proc_links.specs.Bearers as bearers
use Rattle.proc_links.specs.Guards as guards
use Rattle.proc_links.specs.Guards.{guard_of, same_end, same_guard}
use Rattle.proc_links.specs.Names as naming
use Rattle.proc_links.specs.Watchers as watching
use Rattle.proc_links.specs.inside.Alike.{end_told, integer_told}
use Rattle.proc_links.specs.inside.Watched.{AreSame}
use Rattle.proc_links.specs.declared.guards.Guard.{Guard}
use Rattle.proc_links.specs.declared.guards.Guard.TheVariants.{Alias, Timer, NamedWatch, NamedAlias}
use Rattle.proc_links.specs.declared.guards.Guards.{Guards}
use Rattle.proc_links.specs.declared.names.Names.{Names}
use Rattle.proc_links.specs.declared.watchers.Watchers.{Watchers}

pub not_off : (b : Bool) → false ≡ not b → b ≡ true
not_off true e = refl
not_off false e = cc

-- what two references point to is the same where sets are
pub members_of_both : {K : Type 0} {a b one other : Groups K} → a ≡ one → b ≡ other → ((p : List ℕ) → members_in b p ≡ members_in a p) → (p : List ℕ) → members_in other p ≡ members_in one p
members_of_both left right same p = ap (λ g. members_in g p) (sym right) ∙ same p ∙ ap (λ g. members_in g p) left

pub targets_told : (a b : BTreeMap (List ℕ × ℕ) (List ℕ)) → pointwise (λ p q. eq_by_cmp order_of_reference_ids p.0 q.0 && bytes_eq p.1 q.1) a.entries b.entries ≡ true → (id : List ℕ × ℕ) → get order_of_reference_ids a id ≡ get order_of_reference_ids b id
targets_told a b e id =
    ap (lookup (is_at (order_of_reference_ids id)))
    (entries_told (eq_by_cmp order_of_reference_ids) bytes_eq (λ x y. (reference_ids_same x y _ refl).0) (λ x y. (bytes_eq-Decides x y).0) a.entries b.entries e)

pub borne_told : (a b : BTreeMap (List ℕ) (List ℕ)) → pointwise (λ p q. bytes_eq p.0 q.0 && bytes_eq p.1 q.1) a.entries b.entries ≡ true → (m : List ℕ) → get order_of_lists a m ≡ get order_of_lists b m
borne_told a b e m =
    ap (lookup (is_at (order_of_lists m)))
    (entries_told bytes_eq bytes_eq (λ x y. (bytes_eq-Decides x y).0) (λ x y. (bytes_eq-Decides x y).0) a.entries b.entries e)

pub watches_of_both : (one other : Watchers) → AreSame one.watches.value other.watches.value → watching.IsUnchanged one other
watches_of_both one other same = record { watchers = λ p. ap (map ref_of) (same.watchers p); watches = λ ref. same.targets (ref.pid, ref.number) }

pub names_of_both : (one other : Names) → bearers.AreSame one.bearers.value other.bearers.value → naming.IsUnchanged one other
names_of_both one other same = record { holders = same.holders; names = same.names }

-- guards that are compared as the same
stored_told : (a b : Guard) → same_guard (guard_of a) (guard_of b) ≡ true → a ≡ b
stored_told (Alias p a) (Alias q b) e =
    let s = and_parts (same_pid p q) (same_end a b) e in
    λ i. Alias ((bytes_eq-Decides p q).0 s.0 i) (end_told a b s.1 i)
stored_told (Timer p m) (Timer q n) e =
    let s = and_parts (same_pid p q) (int_eq m n) e in
    λ i. Timer ((bytes_eq-Decides p q).0 s.0 i) (integer_told m n s.1 i)
stored_told (NamedWatch n) (NamedWatch m) e = λ i. NamedWatch ((bytes_eq-Decides n m).0 e i)
stored_told (NamedAlias n p a) (NamedAlias m q b) e =
    let s = and_parts (same_name n m) _ e in
    let t = and_parts (same_pid p q) (same_end a b) s.1 in
    λ i. NamedAlias ((bytes_eq-Decides n m).0 s.0 i) ((bytes_eq-Decides p q).0 t.0 i) (end_told a b t.1 i)
stored_told (Alias p a) (Timer q n) e = cc
stored_told (Alias p a) (NamedWatch m) e = cc
stored_told (Alias p a) (NamedAlias m q b) e = cc
stored_told (Timer p m) (Alias q b) e = cc
stored_told (Timer p m) (NamedWatch n) e = cc
stored_told (Timer p m) (NamedAlias n q b) e = cc
stored_told (NamedWatch n) (Alias q b) e = cc
stored_told (NamedWatch n) (Timer q m) e = cc
stored_told (NamedWatch n) (NamedAlias m q b) e = cc
stored_told (NamedAlias n p a) (Alias q b) e = cc
stored_told (NamedAlias n p a) (Timer q m) e = cc
stored_told (NamedAlias n p a) (NamedWatch m) e = cc

pub guards_told : (a b : BTreeMap (List ℕ × ℕ) Guard) → pointwise (λ p q. eq_by_cmp order_of_reference_ids p.0 q.0 && same_guard (guard_of p.1) (guard_of q.1)) a.entries b.entries ≡ true → a.entries ≡ b.entries
guards_told a b e = entries_told (eq_by_cmp order_of_reference_ids) (λ x y. same_guard (guard_of x) (guard_of y)) (λ x y. (reference_ids_same x y _ refl).0) stored_told a.entries b.entries e

pub guards_of_both : (one other : Guards) → one.guards.value.entries ≡ other.guards.value.entries → guards.IsUnchanged one other
guards_of_both one other same ref = ap (λ es. option_map guard_of (lookup (is_at (order_of_reference_ids (ref.pid, ref.number))) es)) (sym same)
