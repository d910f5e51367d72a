use Rattle.std.proofs.Common.{◌∷◌, ◌∙◌, [], inr, refl, arith, ap, length}
use Rattle.term_core.specs.Meaning as terms
use Rattle.term_reader.specs.inside.Marks.{InTuple}
use Rattle.term_reader.proofs.Marks.{steps, found, empty_tuple, goes_in, into_tuple, out_of_tuple}
use Rattle.term_reader.proofs.brackets.begin_tuple.Goals as goal

pub returns-in-None : goal.returns-in-None
returns-in-None c =
    let g = rw c.new-parts.ensures at c.go_in.ensures in
    goes_in (InTuple []) _ 123 _ _ _ (inr refl) c.in-None.ensures (into_tuple _) (out_of_tuple _) g

pub returns-in_ok-tuple-in-Some : goal.returns-in_ok-tuple-in-Some
returns-in_ok-tuple-in-Some c =
    let made = c.in_ok-tuple-in-Some.ensures ∙ ap (λ parts. terms.Tuple (terms.meanings_of parts)) c.new-parts.ensures in
    steps _ _ _ (123 ∷ 125 ∷ []) (ap (λ bs. 123 ∷ bs) c.in-Some.ensures) (omega (arith, ap length c.in-Some.ensures)) (λ left. found _ _ _ _ _ made (empty_tuple _ _))
