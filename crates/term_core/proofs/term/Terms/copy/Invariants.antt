use Rattle.std.proofs.Common.{◌≡◌, ◌++◌, drop, map}
use Rattle.term_core.specs.Term.{meaning_of}
use Rattle.term_core.proofs.term.Terms.copy.Given as goal

-- the copied terms, and what is left to copy, are all of them
abbrev pub invariant-loop-part : goal.invariant-loop-part
invariant-loop-part l =
    map meaning_of l.items.items ++ map meaning_of (drop l.part-index l.part-items) ≡ map meaning_of l.self-inside.items.items
