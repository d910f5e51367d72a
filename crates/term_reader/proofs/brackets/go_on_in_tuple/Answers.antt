use Rattle.std.proofs.Common.{◌∷◌, [], ◌∙◌, ap, arith, refl}
use Rattle.term_core.specs.Meaning as terms
use Rattle.term_reader.specs.inside.Marks.{InTuple}
use Rattle.term_reader.proofs.Marks.{bad_continues, by_mark, steps, marked, wanted, found, comma_in_tuple, tuple_ends, no_mark_in_tuple}
use Rattle.term_reader.proofs.brackets.go_on_in_tuple.Goals as goal

pub returns-then-mark-eq44 : goal.returns-then-mark-eq44
returns-then-mark-eq44 c =
    steps _ _ _ (c.args.mark ∷ []) refl (omega arith)
    (λ left. marked _ _ _ 44 _ _ c.if-mark-eq44.true (wanted _ (InTuple _) c.args.outer.items c.push-then-mark-eq44.new.self.items _ _ c.in_ok-push-2.ensures.items (ap InTuple c.in_ok-push.ensures.pushed) (comma_in_tuple _ _ _ _)))

pub returns-then-mark-ne125 : goal.returns-then-mark-ne125
returns-then-mark-ne125 c = bad_continues _ _ _ _ _ (omega arith) (by_mark _ _ _ _ (λ left m k. no_mark_in_tuple _ _ _ _ left c.if-mark-eq44.false c.if-mark-ne125.true m k))

pub returns : goal.returns
returns c =
    let made = c.in_ok-tuple.ensures ∙ ap (λ parts. terms.Tuple (terms.meanings_of parts)) c.in_ok-push-3.ensures.pushed in
    steps _ _ _ (c.args.mark ∷ []) refl (omega arith) (λ left. marked _ _ _ 125 _ _ c.if-mark-ne125.false (found _ _ _ _ _ made (tuple_ends _ _ _ _)))
