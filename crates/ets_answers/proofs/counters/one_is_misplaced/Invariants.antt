use Rattle.std.proofs.Common.{◌≡◌, drop, map}
use Rattle.std.specs.List.{list_any}
use Rattle.ets_calls.specs.Arguments.{addition_in}
use Rattle.world_model.specs.Objects.{is_key_or_none}
use Rattle.ets_answers.proofs.counters.one_is_misplaced.Given as goal

abbrev pub invariant-loop-addition : goal.invariant-loop-addition
invariant-loop-addition l = list_any (λ addition. is_key_or_none l.key addition.position) (map addition_in (drop l.addition-index l.additions)) ≡ list_any (λ addition. is_key_or_none l.key addition.position) (map addition_in l.additions)
