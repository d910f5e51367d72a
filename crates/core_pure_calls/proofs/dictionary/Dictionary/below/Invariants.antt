use Rattle.std.proofs.Common.{◌≡◌, ◌++◌, drop, map}
use Rattle.term_core.specs.Term.{meaning_of}
use Rattle.core_pure_calls.specs.Dictionary.{below}
use Rattle.core_pure_calls.specs.Entries.{entry_of}
use Rattle.core_pure_calls.proofs.dictionary.Dictionary.below.Given as goal

-- the copies, with the lesser ones of those that are left, are all lesser ones
abbrev pub invariant-loop-entry : goal.invariant-loop-entry
invariant-loop-entry l = map entry_of l.copied.items ++ below (meaning_of l.key) (map entry_of (drop l.entry-index l.entry-items)) ≡ below (meaning_of l.key) l.self
