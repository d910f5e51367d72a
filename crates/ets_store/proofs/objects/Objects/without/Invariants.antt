use Rattle.std.proofs.Common.{◌≡◌, ◌++◌, drop, not}
use Rattle.std.specs.List.{filter}
use Rattle.world_model.specs.Rows.{same_object}
use Rattle.ets_store.proofs.objects.Objects.without.Given as goal

abbrev pub invariant-loop-item : goal.invariant-loop-item
invariant-loop-item l = l.items.items ++ filter (λ o. not (same_object l.object o)) (drop l.item-index l.item-items) ≡ filter (λ o. not (same_object l.object o)) l.self
