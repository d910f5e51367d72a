use Rattle.std.proofs.Common.{List, ap, sym, ◌∙◌}
use Rattle.core_tree.specs.Tree.{pattern_of}
use Rattle.term_core.specs.Meaning.{Meaning, Tuple, meanings_of}
use Rattle.term_core.specs.Term.{meaning_of}
use Rattle.core_stack.proofs.Fitted.{tuple_fits}
use Rattle.core_stack.proofs.fitting.+fitting.Goals as goal

pub value_fits-returns-in-Tuple-value : goal.value_fits-returns-in-Tuple-value
value_fits-returns-in-Tuple-value t c =
    tuple_fits c.parts_fit.result (pattern_of c.args.pattern.now) c.in-Tuple.parts (meaning_of c.args.value.now) c.deref-in-Tuple-value.result.now _
    (ap pattern_of c.in-Tuple.is) (ap meaning_of c.in-Tuple-value.is ∙ sym (ap (λ (ms : List Meaning). Tuple (meanings_of ms)) c.deref-in-Tuple-value.ensures)) c.as_slice.ensures c.parts_fit.ensures
