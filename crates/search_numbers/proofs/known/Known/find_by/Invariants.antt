use Rattle.search_numbers.proofs.known.Known.find_by.Given as goal

abbrev pub invariant-loop : goal.invariant-loop
invariant-loop l = Unit {0}
