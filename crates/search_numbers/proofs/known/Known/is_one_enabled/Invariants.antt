use Rattle.search_numbers.proofs.known.Known.is_one_enabled.Given as goal

abbrev pub invariant-loop-at : goal.invariant-loop-at
invariant-loop-at l = Unit {0}
