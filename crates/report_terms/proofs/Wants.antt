-- Memory ran out before anything of a text was written.
use Rattle.std.proofs.Common.{◌≡◌, ℕ, Bool, false, List, Option, sym, subst}
use Rattle.std.specs.Prelude.{Result, Err}
use Rattle.term_core.specs.inside.Writing.{owes_all}
use Rattle.report_explained.specs.Explained.{IsExplained}
use Rattle.report_explained.specs.declared.explain_fault.ExplainFault.{ExplainFault}
use Rattle.report_explained.specs.declared.explain_fault.ExplainFault.TheVariants.{Memory}
use Rattle.report_explained.proofs.Parts.{wants_memory}

pub lacks_memory : (now : Option (List ℕ)) (failed : Bool) (r : Result (Unit {0}) ExplainFault) (whole : List ℕ) → r ≡ Err Memory → failed ≡ false → IsExplained whole now now failed r
lacks_memory now failed r whole is sound =
    subst (λ (x : Result (Unit {0}) ExplainFault). IsExplained whole now now failed x) (sym is) (wants_memory now now failed whole whole sound (owes_all now whole))
