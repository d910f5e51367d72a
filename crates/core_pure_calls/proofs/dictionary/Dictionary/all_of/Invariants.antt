use Rattle.std.proofs.Common.{◌≡◌, ◌++◌, drop, map}
use Rattle.term_core.specs.Term.{meaning_of}
use Rattle.core_pure_calls.specs.Dictionary.{pair_of}
use Rattle.core_pure_calls.specs.Entries.{entry_of}
use Rattle.core_pure_calls.proofs.dictionary.Dictionary.all_of.Given as goal

-- the pairs, with those of the entries that are left, are all
abbrev pub invariant-loop-entry : goal.invariant-loop-entry
invariant-loop-entry l = map meaning_of l.pairs.items ++ map pair_of (map entry_of (drop l.entry-index l.entry-items)) ≡ map pair_of l.self
