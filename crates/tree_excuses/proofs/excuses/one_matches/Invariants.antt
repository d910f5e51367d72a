use Rattle.std.proofs.Common.{◌≡◌, drop, map}
use Rattle.std.specs.List.{list_any}
use Rattle.term_core.specs.Term.{meaning_of}
use Rattle.tree_excuses.specs.Patterns.{matches}
use Rattle.tree_excuses.proofs.excuses.one_matches.Given as goal

-- none so far matches the reason
abbrev pub invariant-loop-pattern : goal.invariant-loop-pattern
invariant-loop-pattern l =
    list_any (λ it. matches it (meaning_of l.reason)) (map meaning_of l.normal) ≡ list_any (λ it. matches it (meaning_of l.reason)) (map meaning_of (drop l.pattern-index l.normal))
