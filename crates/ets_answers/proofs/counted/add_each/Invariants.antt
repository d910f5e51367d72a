use Rattle.std.proofs.Common.{◌≡◌, None, drop, map}
use Rattle.ets_answers.proofs.Additions.{CountsOn}
use Rattle.ets_calls.specs.Arguments.{addition_in}
use Rattle.term_core.specs.Term.{meaning_of}
use Rattle.world_model.specs.Objects.{sums_rule}
use Rattle.ets_answers.proofs.counted.add_each.Given as goal

-- where none is refused, the additions that are left come to the same as all of them
abbrev pub invariant-loop-addition : goal.invariant-loop-addition
invariant-loop-addition l = sums_rule (map addition_in l.additions) l.fn.object ≡ None → CountsOn (map addition_in l.additions) (map meaning_of l.fn.sums.items) l.fn.object (map addition_in (drop l.addition-index l.additions)) (map meaning_of l.sums.items) l.object
