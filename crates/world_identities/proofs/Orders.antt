-- The order of identities, kind by kind.
use Rattle.std.proofs.Common.{◌≡◌, ◌↔◌, Bool, ℕ, List, Option, IsTrue, refl, sym, ap, ◌∙◌, option_to_list}
use Rattle.std.specs.Cmp.{Equal-is, tied_itself}
use Rattle.std.specs.Ordering.{ordering_then, nat_cmp, is_eq, eq_by_cmp}
use Rattle.std.specs.declared.cmp.Ordering.{Ordering}
use Rattle.std.specs.declared.cmp.Ordering.TheVariants.{Less, Equal, Greater}
use Rattle.term_core.specs.Meaning.{Meaning}
use Rattle.term_core.specs.Order.{order_of_lists, order_of_terms, order_of_items}
use Rattle.term_core.specs.inside.OrderLaws.{then_Equal}
use Rattle.core_calls.specs.CallCodes.{number_of_call}
use Rattle.core_calls.specs.Calls.{signature}
use Rattle.core_calls.specs.declared.call.CallKind.{CallKind}
use Rattle.world_model.specs.Names.{Pid}
use Rattle.world_model.specs.Shown.{Identity, End, Deadlock, Runaway, RefusedCall, Unread}
use Rattle.world_model.specs.declared.rule.Rule.{Rule}
use Rattle.world_identities.specs.Order.{number_of_rule, order_of_processes, order_of_identities}
use Rattle.world_identities.specs.inside.OrderLaws.{identities_total, same_identity}

then_both : (o q : Ordering) → ordering_then o q ≡ ordering_then (ordering_then o Equal) (ordering_then (ordering_then q Equal) Equal)
then_both Less q = refl
then_both Equal Less = refl
then_both Equal Equal = refl
then_both Equal Greater = refl
then_both Greater q = refl

then_last : (o : Ordering) → o ≡ ordering_then (ordering_then o Equal) Equal
then_last Less = refl
then_last Equal = refl
then_last Greater = refl

-- the fields of a refusal, one after another
then_all : (p k f t r u c : Ordering) → ordering_then (ordering_then (ordering_then (ordering_then p k) (ordering_then f t)) (ordering_then r u)) c ≡ ordering_then (ordering_then p Equal) (ordering_then k (ordering_then (ordering_then f t) (ordering_then r (ordering_then u c))))
then_all Less k f t r u c = refl
then_all Greater k f t r u c = refl
then_all Equal Less f t r u c = refl
then_all Equal Greater f t r u c = refl
then_all Equal Equal Less t r u c = refl
then_all Equal Equal Greater t r u c = refl
then_all Equal Equal Equal Less r u c = refl
then_all Equal Equal Equal Greater r u c = refl
then_all Equal Equal Equal Equal Less u c = refl
then_all Equal Equal Equal Equal Greater u c = refl
then_all Equal Equal Equal Equal Equal Less c = refl
then_all Equal Equal Equal Equal Equal Greater c = refl
then_all Equal Equal Equal Equal Equal Equal c = refl

pub order_of_ends : (p q : Pid) (x y : Meaning) → ordering_then (order_of_lists p q) (order_of_terms x y) ≡ order_of_identities (End p x) (End q y)
order_of_ends p q x y = then_both (order_of_lists p q) (order_of_terms x y)

pub order_of_deadlocks : (ps qs : List Pid) → order_of_processes ps qs ≡ order_of_identities (Deadlock ps) (Deadlock qs)
order_of_deadlocks ps qs = sym (then_Equal (order_of_processes ps qs))

pub order_of_unread : (ps qs : List Pid) → order_of_processes ps qs ≡ order_of_identities (Unread ps) (Unread qs)
order_of_unread ps qs = sym (then_Equal (order_of_processes ps qs))

pub order_of_runaways : (p q : Pid) → order_of_lists p q ≡ order_of_identities (Runaway p) (Runaway q)
order_of_runaways p q = then_last (order_of_lists p q)

abbrev pub by_request : Pid → ℕ → Pid → ℕ → Ordering
by_request p m q n = ordering_then (order_of_lists p q) (nat_cmp m n)

abbrev pub by_call : CallKind → List Meaning → CallKind → List Meaning → Ordering
by_call c xs d ys = ordering_then (order_of_lists (signature c).function_name (signature d).function_name) (order_of_items xs ys)

abbrev pub by_reason : Rule → Option Pid → Rule → Option Pid → Ordering
by_reason r o s u = ordering_then (nat_cmp (number_of_rule r) (number_of_rule s)) (order_of_processes (option_to_list o) (option_to_list u))

pub order_of_refusals : (p q : Pid) (m n : ℕ) (c d : CallKind) (xs ys : List Meaning) (r s : Rule) (o u : Option Pid) → ordering_then (ordering_then (ordering_then (by_request p m q n) (by_call c xs d ys)) (by_reason r o s u)) (nat_cmp (number_of_call c) (number_of_call d)) ≡ order_of_identities (RefusedCall p m c xs r o) (RefusedCall q n d ys s u)
order_of_refusals p q m n c d xs ys r s o u = then_all (order_of_lists p q) (nat_cmp m n) (order_of_lists (signature c).function_name (signature d).function_name) (order_of_items xs ys) (nat_cmp (number_of_rule r) (number_of_rule s)) (order_of_processes (option_to_list o) (option_to_list u)) (nat_cmp (number_of_call c) (number_of_call d))

-- what `==` says: the two are the same
pub identities_same : (i j : Identity) (r : Bool) → r ≡ eq_by_cmp order_of_identities i j → IsTrue r ↔ (i ≡ j)
identities_same i j r e =
    (λ h. same_identity i j ((Equal-is (order_of_identities i j)).0 (sym e ∙ h)), λ h. e ∙ ap is_eq (ap (order_of_identities i) (sym h) ∙ tied_itself identities_total i))
