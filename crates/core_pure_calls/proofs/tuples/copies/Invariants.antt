use Rattle.std.proofs.Common.{◌≡◌, ◌++◌, drop, map}
use Rattle.term_core.specs.Term.{meaning_of}
use Rattle.core_pure_calls.proofs.tuples.copies.Given as goal

-- the copies, and the terms that are left, are the terms
abbrev pub invariant-loop-term : goal.invariant-loop-term
invariant-loop-term l = map meaning_of l.copied.items ++ map meaning_of (drop l.term-index l.terms) ≡ map meaning_of l.terms
