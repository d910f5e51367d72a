use Rattle.std.proofs.Common.{◌≡◌, ◌++◌, drop, map}
use Rattle.term_core.specs.Term.{meaning_of}
use Rattle.core_pure_calls.specs.Dictionary.{above}
use Rattle.core_pure_calls.specs.Entries.{entry_of}
use Rattle.core_pure_calls.proofs.dictionary.Dictionary.push_above.Given as goal

-- the entries, with the greater ones of those that are left, are those that were there with all greater ones
abbrev pub invariant-loop-entry : goal.invariant-loop-entry
invariant-loop-entry l = map entry_of l.entries.items ++ above (meaning_of l.key) (map entry_of (drop l.entry-index l.entry-items)) ≡ map entry_of l.fn.entries.items ++ above (meaning_of l.key) l.self
