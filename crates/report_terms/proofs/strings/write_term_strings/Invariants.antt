use Rattle.std.proofs.Common.{◌≡◌, [], ◌++◌, false, drop}
use Rattle.std.specs.List.{flat_map}
use Rattle.term_core.specs.Term.{meaning_of}
use Rattle.term_core.specs.inside.Writing.{Owes}
use Rattle.report_terms.specs.Strings.{strings_of_terms, term_after_comma}
use Rattle.report_terms.proofs.strings.write_term_strings.Given as goal

-- the sink is sound, and the terms that are left are still to be written
abbrev pub invariant-loop-term : goal.invariant-loop-term
invariant-loop-term g l =
    (g.W.Sink.has_failed l.sink ≡ false) × Owes (g.W.Sink.contents l.fn.sink) (g.W.Sink.contents l.sink) (flat_map (λ t. term_after_comma (meaning_of t)) (drop l.term-index l.others) ++ []) (strings_of_terms l.fn.terms)
