use Rattle.std.proofs.Common.{◌∷◌, [], inl, refl, arith, ap, length}
use Rattle.term_reader.specs.inside.Marks.{InList}
use Rattle.term_reader.proofs.Marks.{steps, nil_begins, goes_in, into_list, out_of_list}
use Rattle.term_reader.proofs.brackets.begin_list.Goals as goal

pub returns-in-Some : goal.returns-in-Some
returns-in-Some c = steps _ _ _ (91 ∷ 93 ∷ []) (ap (λ bs. 91 ∷ bs) c.in-Some.ensures) (omega (arith, ap length c.in-Some.ensures)) (λ left. nil_begins _ _)

pub returns-in-None : goal.returns-in-None
returns-in-None c =
    let g = rw c.new.ensures.items at c.go_in.ensures in
    goes_in (InList []) _ 91 _ _ _ (inl refl) c.in-None.ensures (into_list _) (out_of_list _) g
