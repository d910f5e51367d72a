use Rattle.std.proofs.Common.{◌≡◌, drop, map}
use Rattle.term_core.specs.Term.{meaning_of}
use Rattle.core_pure_calls.specs.Dictionary.{value_of}
use Rattle.core_pure_calls.specs.Entries.{entry_of}
use Rattle.core_pure_calls.proofs.dictionary.Dictionary.value_of.Given as goal

-- the value among the entries that are left
abbrev pub invariant-loop-entry : goal.invariant-loop-entry
invariant-loop-entry l = value_of (meaning_of l.key) (map entry_of (drop l.entry-index l.entry-items)) ≡ value_of (meaning_of l.key) l.self
