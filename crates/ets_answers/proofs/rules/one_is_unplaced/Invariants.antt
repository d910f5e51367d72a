use Rattle.std.proofs.Common.{◌≡◌, drop, map}
use Rattle.std.specs.List.{list_any}
use Rattle.ets_store.specs.Parts.{part_in}
use Rattle.world_model.specs.Objects.{is_key_or_none}
use Rattle.ets_answers.proofs.rules.one_is_unplaced.Given as goal

abbrev pub invariant-loop-change : goal.invariant-loop-change
invariant-loop-change l = list_any (λ change. is_key_or_none l.key change.0) (map part_in (drop l.change-index l.changes)) ≡ list_any (λ change. is_key_or_none l.key change.0) (map part_in l.changes)
