-- The order of identities is total, and answers Equal only where the two are the same.
use Rattle.std.proofs.Common.{◌≡◌, ℕ, zero, suc, List, [], ◌∷◌, Option, Some, None, refl, sym, ap, ◌∙◌}
use Rattle.std.specs.Cmp.{IsTotalOrder, nat_cmp_total, on_total, then_total}
use Rattle.std.specs.Cmp.Lexicographic.{lists_total, nat_list_cmp_total}
use Rattle.std.specs.Ordering.{nat_cmp, on, then_cmp}
use Rattle.std.specs.Prelude.{option_to_list}
use Rattle.std.specs.declared.cmp.Ordering.{Ordering}
use Rattle.std.specs.declared.cmp.Ordering.TheVariants.{Equal}
use Rattle.term_core.specs.Meaning.{Meaning}
use Rattle.term_core.specs.Order.{order_of_lists, order_of_items}
use Rattle.term_core.specs.inside.OrderLaws.{items_total, first_Equal, second_Equal, same_number, same_list, same_items}
use Rattle.core_calls.specs.CallCodes.{number_of_call, call_of_number, call_of_number-number_of_call}
use Rattle.core_calls.specs.declared.call.CallKind.{CallKind}
use Rattle.world_model.specs.Names.{Pid}
use Rattle.world_model.specs.Shown.{Identity, End, Deadlock, Runaway, RefusedCall, Unread}
use Rattle.world_model.specs.declared.rule.Rule.{Rule}
use Rattle.world_model.specs.declared.rule.Rule.TheVariants.{BadTable, NoTable, PrivateRead, PrivateWrite, ProtectedWrite, NotOwner, BadName, BadOption, NameTaken, NotObject, ShortObject, BadPosition, NoKey, NotInteger, BagRefused, DeadTarget, OwnTarget, BadItem, CounterRange}
use Rattle.world_identities.specs.Order.{number_of_rule, kind_of, processes_of, terms_of, request_of, function_of, rule_of, owner_of, call_of, order_of_processes, order_of_calls, order_of_identities}

processes_total : IsTotalOrder order_of_processes
processes_total = lists_total nat_list_cmp_total

pub identities_total : IsTotalOrder order_of_identities
identities_total = then_total (on_total kind_of nat_cmp_total) (then_total (on_total processes_of processes_total) (then_total (on_total request_of nat_cmp_total) (then_total (then_total (on_total function_of nat_list_cmp_total) (on_total terms_of items_total)) (then_total (on_total rule_of nat_cmp_total) (then_total (on_total owner_of processes_total) (on_total call_of nat_cmp_total))))))

same_processes : (ps qs : List Pid) → order_of_processes ps qs ≡ Equal → ps ≡ qs
same_processes [] [] e = refl
same_processes [] (q ∷ qs) e = cc
same_processes (p ∷ ps) [] e = cc
same_processes (p ∷ ps) (q ∷ qs) e = λ i. same_list p q (first_Equal _ _ e) i ∷ same_processes ps qs (second_Equal _ _ e) i

-- ---- numbers distinguish rules and calls

rule_in : List Rule → ℕ → Rule
rule_in [] n = BadTable
rule_in (r ∷ rs) zero = r
rule_in (r ∷ rs) (suc n) = rule_in rs n

rules : List Rule
rules = BadTable ∷ BadTable ∷ NoTable ∷ PrivateRead ∷ PrivateWrite ∷ ProtectedWrite ∷ NotOwner ∷ BadName ∷ BadOption ∷ NameTaken ∷ NotObject ∷ ShortObject ∷ BadPosition ∷ NoKey ∷ NotInteger ∷ BagRefused ∷ DeadTarget ∷ OwnTarget ∷ BadItem ∷ CounterRange ∷ []

rule_back : (r : Rule) → rule_in rules (number_of_rule r) ≡ r
unfolding rule_in rules
rule_back BadTable = refl
rule_back NoTable = refl
rule_back PrivateRead = refl
rule_back PrivateWrite = refl
rule_back ProtectedWrite = refl
rule_back NotOwner = refl
rule_back BadName = refl
rule_back BadOption = refl
rule_back NameTaken = refl
rule_back NotObject = refl
rule_back ShortObject = refl
rule_back BadPosition = refl
rule_back NoKey = refl
rule_back NotInteger = refl
rule_back BagRefused = refl
rule_back DeadTarget = refl
rule_back OwnTarget = refl
rule_back BadItem = refl
rule_back CounterRange = refl

same_rule : (r s : Rule) → number_of_rule r ≡ number_of_rule s → r ≡ s
same_rule r s e = sym (rule_back r) ∙ ap (rule_in rules) e ∙ rule_back s

same_call : (k l : CallKind) → number_of_call k ≡ number_of_call l → k ≡ l
same_call k l e = sym (call_of_number-number_of_call k) ∙ ap call_of_number e ∙ call_of_number-number_of_call l

first_of : Pid → List Pid → Pid
first_of p [] = p
first_of p (q ∷ qs) = q

same_only : (p q : Pid) → (p ∷ []) ≡ (q ∷ []) → p ≡ q
unfolding first_of
same_only p q e = ap (first_of p) e

same_reason : (r s : Meaning) → (r ∷ []) ≡ (s ∷ []) → r ≡ s
same_reason r s e = cc

same_owner : (o u : Option Pid) → option_to_list o ≡ option_to_list u → o ≡ u
same_owner None None e = refl
same_owner None (Some q) e = cc
same_owner (Some p) None e = cc
same_owner (Some p) (Some q) e = ap Some (same_only p q e)

-- ---- Equal identities have the same fields, and are the same

record Alike (i j : Identity) : Type 0 where
  kind : kind_of i ≡ kind_of j
  processes : processes_of i ≡ processes_of j
  request : request_of i ≡ request_of j
  terms : terms_of i ≡ terms_of j
  rule : rule_of i ≡ rule_of j
  owner : owner_of i ≡ owner_of j
  call : call_of i ≡ call_of j

both_Equal : (R S : Identity → Identity → Ordering) (i j : Identity) → then_cmp R S i j ≡ Equal → (R i j ≡ Equal) × (S i j ≡ Equal)
both_Equal R S i j e = (first_Equal (R i j) (S i j) e, second_Equal (R i j) (S i j) e)

abbrev by_owner : Identity → Identity → Ordering
by_owner = then_cmp (on owner_of order_of_processes) (on call_of nat_cmp)

abbrev by_rule : Identity → Identity → Ordering
by_rule = then_cmp (on rule_of nat_cmp) by_owner

abbrev by_call : Identity → Identity → Ordering
by_call = then_cmp order_of_calls by_rule

abbrev by_request : Identity → Identity → Ordering
by_request = then_cmp (on request_of nat_cmp) by_call

abbrev by_processes : Identity → Identity → Ordering
by_processes = then_cmp (on processes_of order_of_processes) by_request

alike : (i j : Identity) → order_of_identities i j ≡ Equal → Alike i j
alike i j e =
    let kinds = both_Equal (on kind_of nat_cmp) by_processes i j e in
    let processes = both_Equal (on processes_of order_of_processes) by_request i j kinds.1 in
    let requests = both_Equal (on request_of nat_cmp) by_call i j processes.1 in
    let calls = both_Equal order_of_calls by_rule i j requests.1 in
    let parts = both_Equal (on function_of order_of_lists) (on terms_of order_of_items) i j calls.0 in
    let rest = both_Equal (on rule_of nat_cmp) by_owner i j calls.1 in
    let last = both_Equal (on owner_of order_of_processes) (on call_of nat_cmp) i j rest.1 in
    record {
      kind = same_number (kind_of i) (kind_of j) kinds.0;
      processes = same_processes (processes_of i) (processes_of j) processes.0;
      request = same_number (request_of i) (request_of j) requests.0;
      terms = same_items (terms_of i) (terms_of j) parts.1;
      rule = same_number (rule_of i) (rule_of j) rest.0;
      owner = same_processes (owner_of i) (owner_of j) last.0;
      call = same_number (call_of i) (call_of j) last.1;
    }

one_identity : (i j : Identity) → Alike i j → i ≡ j
one_identity (End p r) (End q s) h = λ i. End (same_only p q h.processes i) (same_reason r s h.terms i)
one_identity (Deadlock ps) (Deadlock qs) h = ap Deadlock h.processes
one_identity (Runaway p) (Runaway q) h = ap Runaway (same_only p q h.processes)
one_identity (RefusedCall p k c xs r o) (RefusedCall q l d ys s u) h =
    λ i. RefusedCall (same_only p q h.processes i) (h.request i) (same_call c d h.call i) (h.terms i) (same_rule r s h.rule i) (same_owner o u h.owner i)
one_identity (Unread ps) (Unread qs) h = ap Unread h.processes
one_identity i j h = absurd (by_kind h.kind)
  where
    by_kind : kind_of i ≡ kind_of j → ⊥
    by_kind e = cc

pub same_identity : (i j : Identity) → order_of_identities i j ≡ Equal → i ≡ j
same_identity i j e = one_identity i j (alike i j e)
