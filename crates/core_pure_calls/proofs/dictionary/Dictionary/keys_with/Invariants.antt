use Rattle.std.proofs.Common.{◌≡◌, ◌++◌, drop, map}
use Rattle.term_core.specs.Term.{meaning_of}
use Rattle.core_pure_calls.specs.Dictionary.{keys_with}
use Rattle.core_pure_calls.specs.Entries.{entry_of}
use Rattle.core_pure_calls.proofs.dictionary.Dictionary.keys_with.Given as goal

-- the keys, with those of the entries that are left and have the value, are all that have it
abbrev pub invariant-loop-entry : goal.invariant-loop-entry
invariant-loop-entry l = map meaning_of l.keys.items ++ keys_with (meaning_of l.value) (map entry_of (drop l.entry-index l.entry-items)) ≡ keys_with (meaning_of l.value) l.self
