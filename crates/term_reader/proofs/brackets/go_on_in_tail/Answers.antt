use Rattle.std.proofs.Common.{◌∷◌, [], ◌∙◌, ap, arith, refl}
use Rattle.term_core.specs.Term.{list_onto}
use Rattle.term_reader.proofs.Marks.{bad_continues, by_mark, no_mark_in_tail, steps, marked, found, tail_closes}
use Rattle.term_reader.proofs.brackets.go_on_in_tail.Goals as goal

pub returns-then-mark-ne93 : goal.returns-then-mark-ne93
returns-then-mark-ne93 c = bad_continues _ _ _ _ _ (omega arith) (by_mark _ _ _ _ (λ left m k. no_mark_in_tail _ _ _ _ _ left c.if-mark-ne93.true m k))

pub returns : goal.returns
returns c =
    let made = c.in_ok-list_onto.ensures ∙ ap (list_onto _) c.in_ok-end.ensures in
    steps _ _ _ (c.args.mark ∷ []) refl (omega arith) (λ left. marked _ _ _ 93 _ _ c.if-mark-ne93.false (found _ _ _ _ _ made (tail_closes _ _ _ _ _)))
