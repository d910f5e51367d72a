-- What sets of processes have after a change at one.
use Rattle.std.proofs.Common.{◌≡◌, ◌⊎◌, inl, inr, Bool, cond, bytes_eq, if◌then◌else◌, ap, ◌∙◌}
use Rattle.std.specs.List.{AllZip}
use Rattle.std.specs.BTreeMap.{is_at}
use Rattle.std.specs.BTreeSet.{BTreeSet, contains}
use Rattle.std.proofs.lemmas.Map.Text.{is_eq-slice_cmp}
use Rattle.std.proofs.lemmas.List.Elements.{same_from_all_zip}
use Rattle.std.specs.List.{list_any}
use Rattle.term_core.specs.Order.{order_of_lists}
use Rattle.world_model.specs.Names.{Pid}
use Rattle.proc_machines.specs.Pids as pids
use Rattle.proc_machines.specs.Pids.{is_in}
use Rattle.proc_machines.specs.declared.pids.Pids.{Pids}

-- a set that is lent is what it was, or a clone of it
same_set : (old now : BTreeSet Pid) → (now ≡ old) ⊎ AllZip (λ a b. b ≡ a) old.keys now.keys → (q : Pid) → contains order_of_lists now q ≡ contains order_of_lists old q
same_set old now (inl e) q = ap (λ s. contains order_of_lists s q) e
same_set old now (inr all) q = ap (λ keys. list_any (is_at (order_of_lists q)) keys) (same_from_all_zip (λ a b. b ≡ a) old.keys now.keys all (λ _ _ e. e))

pub now_in : (old new : Pids) (b n : BTreeSet Pid) (p k : Pid) (there : Bool) → (b ≡ old.pids.value) ⊎ AllZip (λ a b. b ≡ a) old.pids.value.keys b.keys
    → ((q : Pid) → contains order_of_lists n q ≡ cond (is_at (order_of_lists k) q) there (contains order_of_lists b q)) → new.pids.value ≡ n → k ≡ p → pids.HasAt p there old new
now_in old new b n p k there same has is same_key q =
    ap (λ s. contains order_of_lists s q) is ∙ has q ∙ ap (λ t. cond t there (contains order_of_lists b q)) (is_eq-slice_cmp k q ∙ ap (λ r. bytes_eq r q) same_key)
    ∙ ap (λ z. if bytes_eq p q then there else z) (same_set old.pids.value b same q)
