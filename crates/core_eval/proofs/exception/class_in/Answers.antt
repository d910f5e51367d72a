use Rattle.std.proofs.Common.{◌∙◌, length, ap, sym, arith}
use Rattle.term_core.specs.Term.{meaning_of}
use Rattle.core_semantics.specs.Evaluation.{class_in}
use Rattle.core_eval.proofs.Errors.{no_trace}
use Rattle.core_eval.proofs.exception.class_in.Goals as goal

pub returns-then-len-ne2 : goal.returns-then-len-ne2
returns-then-len-ne2 c =
    sym (no_trace c.in-Tuple.parts.value (λ two. omega (arith, c.len.ensures, ap length c.deref.ensures, two))) ∙ sym (ap (λ t. class_in (meaning_of t)) c.in-Tuple.is)
