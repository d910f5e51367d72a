use Rattle.std.proofs.Common.{◌≡◌, ◌∷◌, [], List, Bool, true, false, cond, ap, sym, ◌∙◌, refl, map, Some, None, codes, true≢false}
use Rattle.std.specs.Cmp.Lexicographic.{nat_list_cmp_total}
use Rattle.std.specs.FinMap.{FinMap, get, entries, insert, remove, empty, from_sorted, get-insert, get-remove, get-empty, get-from_sorted, entries-from_sorted, same_map}
use Rattle.std.specs.Ordering.{eq_by_cmp}
use Rattle.term_core.specs.Order.{order_of_lists}
use Rattle.core_calls.specs.declared.call.CallKind.TheVariants as kinds
use Rattle.world_model.specs.Events.{Event}
use Rattle.world_model.specs.ExampleRuns.{P, P_1, serves_it}
use Rattle.world_model.specs.Names.{Name, Pid}
use Rattle.world_model.specs.Terms.{atom, list_of}
use Rattle.world_model.specs.World.{contents}
use Rattle.world_model.proofs.HolderLaws.{is_equal, names_apart}
use Rattle.world_model.proofs.laws.examples.names_are_listed.Goals as goal

abbrev Held : Type 0
Held = FinMap order_of_lists Pid

abbrev a : Name
a = codes "a"

abbrev n : Name
n = codes "n"

-- both have their names
abbrev both : Held
both = insert (insert empty n P_1) a P

abbrev is_at : Name → Name → Bool
is_at name q = eq_by_cmp order_of_lists q name

both_are : both ≡ from_sorted ((a, P) ∷ (n, P_1) ∷ [])
both_are = same_map nat_list_cmp_total names_apart _ _ (λ q.
    get-insert nat_list_cmp_total (insert empty n P_1) a P q
    ∙ ap (cond (is_at a q) (Some P)) (get-insert nat_list_cmp_total empty n P_1 q ∙ ap (cond (is_at n q) (Some P_1)) (get-empty order_of_lists q))
    ∙ sym (get-from_sorted order_of_lists ((a, P) ∷ (n, P_1) ∷ []) q tt))

without : (q : Name) (here there : Bool) → is_at n q ≡ here → is_at a q ≡ there → cond here None (cond there (Some P) (cond here (Some P_1) None)) ≡ cond there (Some P) None
without q true true is_n is_a = absurd (true≢false (sym is_a ∙ ap (is_at a) (names_apart q n (is_equal (order_of_lists q n) is_n))))
without q true false is_n is_a = refl
without q false true is_n is_a = refl
without q false false is_n is_a = refl

one_is : remove both n ≡ from_sorted ((a, P) ∷ [])
one_is = same_map nat_list_cmp_total names_apart _ _ (λ q.
    get-remove nat_list_cmp_total both n q
    ∙ ap (λ held. cond (is_at n q) None held) (ap (λ held. get held q) both_are ∙ get-from_sorted order_of_lists ((a, P) ∷ (n, P_1) ∷ []) q tt)
    ∙ without q (is_at n q) (is_at a q) refl refl
    ∙ sym (get-from_sorted order_of_lists ((a, P) ∷ []) q tt))

-- the event that tells of these
abbrev listed : List (Name × Pid) → Event
listed held = serves_it P kinds.Registered [] (list_of (map atom (map (λ e. e.0) held)))

pub returns-clause-all : goal.returns-clause-all
unfolding contents
returns-clause-all c = ap (λ held. Some (listed held)) (ap entries both_are ∙ entries-from_sorted order_of_lists ((a, P) ∷ (n, P_1) ∷ []) tt)

pub returns-clause-gone : goal.returns-clause-gone
unfolding contents
returns-clause-gone c = ap (λ held. Some (listed held)) (ap entries one_is ∙ entries-from_sorted order_of_lists ((a, P) ∷ []) tt)
