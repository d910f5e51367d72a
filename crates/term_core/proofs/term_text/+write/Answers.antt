use Rattle.std.proofs.Common.{[], ◌∷◌, ◌∙◌, ap, sym, map, arith}
use Rattle.std.proofs.lemmas.Result.{err_from_is_err_and}
use Rattle.term_core.specs.Meaning.{Meaning, Cons, node_count, sum_of_nodes, meanings_of}
use Rattle.term_core.specs.Term.{meaning_of}
use Rattle.term_core.specs.TermText.{text_of_term}
use Rattle.term_core.proofs.Texts.{marked, marked-drop, tuple_opens, list_opens, tail_goes_on, end_behind_bar, part_smaller, parts_left}
use Rattle.term_core.specs.inside.Writing.{owes_all, owes_less, owes_break_in, owes_same, writes_last, breaks_at}
use Rattle.term_core.proofs.term_text.+write.Goals as goal

pub write_behind-returns-in_err-write_all : goal.write_behind-returns-in_err-write_all
write_behind-returns-in_err-write_all g t c =
    let p = err_from_is_err_and c.from_residual.result c.from_residual.ensures.1 in
    breaks_at _ _ _ _ _ _ p.1 (owes_break_in _ _ _ _ (c.args.mark ∷ []) _ _ (owes_all _ _) c.in_err-write_all.ensures)

pub write_behind-returns : goal.write_behind-returns
write_behind-returns g t c =
    writes_last _ _ _ _ _ _ _ (owes_less _ _ _ (c.args.mark ∷ []) _ _ (owes_all _ _) c.in_ok-write_all.ensures.appends) c.write_term.ensures

pub write_last_tail-returns-in_err-write_behind : goal.write_last_tail-returns-in_err-write_behind
write_last_tail-returns-in_err-write_behind g t c =
    let p = err_from_is_err_and c.from_residual.result c.from_residual.ensures.1 in
    let o = owes_same _ _ _ _ _ (end_behind_bar c.args.tail.now c.in_default.not-Nil) (owes_all _ _) in
    breaks_at _ _ _ _ _ _ p.1 (owes_break_in _ _ _ _ (124 ∷ text_of_term (meaning_of c.args.tail.now)) (93 ∷ []) _ o c.in_err-write_behind.ensures)

pub write_last_tail-returns : goal.write_last_tail-returns
write_last_tail-returns g t c =
    let o = owes_same _ _ _ _ _ (end_behind_bar c.args.tail.now c.in_default.not-Nil) (owes_all _ _) in
    writes_last _ _ _ _ _ _ _ (owes_less _ _ _ (124 ∷ text_of_term (meaning_of c.args.tail.now)) (93 ∷ []) _ o c.in_ok-write_behind.ensures.appends) c.write_all-2.ensures

pub write_list-returns-in_err-write_behind : goal.write_list-returns-in_err-write_behind
write_list-returns-in_err-write_behind g t c =
    let p = err_from_is_err_and c.from_residual.result c.from_residual.ensures.1 in
    let o = owes_same _ _ _ _ _ (list_opens _ _ c.pair.view_is) (owes_all _ _) in
    breaks_at _ _ _ _ _ _ p.1 (owes_break_in _ _ _ _ (91 ∷ text_of_term (meaning_of c.pair.inside.head)) _ _ o c.in_err-write_behind.ensures)

pub write_list-loop-rest-init : goal.write_list-loop-rest-init
write_list-loop-rest-init g t c =
    let o = owes_same _ _ _ _ _ (list_opens _ _ c.pair.view_is) (owes_all _ _) in
    let w = c.in_ok-write_behind.ensures in
    (omega (arith, ap (λ (q : Meaning × Meaning). node_count q.1) c.pair.view_is), w.sound, owes_less _ _ _ (91 ∷ text_of_term (meaning_of c.pair.inside.head)) _ _ o w.appends)

pub write_list-returns-in_err-write_behind-2 : goal.write_list-returns-in_err-write_behind-2
write_list-returns-in_err-write_behind-2 g t c =
    let p = err_from_is_err_and c.from_residual-in_err-write_behind-2.result c.from_residual-in_err-write_behind-2.ensures.1 in
    let cell = ap meaning_of c.in-Cons.is ∙ sym (ap (λ (q : Meaning × Meaning). Cons q.0 q.1) (c.pair-in-Cons.view_is ∙ c.deref-pair.ensures)) in
    let o = owes_same _ _ _ _ _ (tail_goes_on _ (meaning_of c.pair-in-Cons.inside.head, meaning_of c.pair-in-Cons.inside.tail) cell) c.loop-rest.invariant.2 in
    breaks_at _ _ _ _ _ _ p.1 (owes_break_in _ _ _ _ (44 ∷ text_of_term (meaning_of c.pair-in-Cons.inside.head)) _ _ o c.in_err-write_behind-2.ensures)

pub write_list-loop-rest-preserved : goal.write_list-loop-rest-preserved
write_list-loop-rest-preserved g t c =
    let cell = ap meaning_of c.in-Cons.is ∙ sym (ap (λ (q : Meaning × Meaning). Cons q.0 q.1) (c.pair-in-Cons.view_is ∙ c.deref-pair.ensures)) in
    let o = owes_same _ _ _ _ _ (tail_goes_on _ (meaning_of c.pair-in-Cons.inside.head, meaning_of c.pair-in-Cons.inside.tail) cell) c.loop-rest.invariant.2 in
    let w = c.in_ok-write_behind-2.ensures in
    (omega (arith, ap node_count cell), w.sound, owes_less _ _ _ (44 ∷ text_of_term (meaning_of c.pair-in-Cons.inside.head)) _ _ o w.appends)

pub write_tuple-loop-part-init : goal.write_tuple-loop-part-init
write_tuple-loop-part-init g t c =
    let parts = ap (map meaning_of) c.deref-part-items.ensures.value ∙ c.parts.view_is in
    let some = parts_left _ _ _ parts c.deref-part-items.ensures.len c.if-is_empty.ensures in
    (c.requires, owes_same _ _ _ _ _ (tuple_opens c.args.parts.now some ∙ ap (λ ms. marked 123 (meanings_of ms)) (sym parts)) (owes_all _ _))

pub write_tuple-write_behind-requires : goal.write_tuple-write_behind-requires
write_tuple-write_behind-requires g t c κs within =
    let parts = ap (map meaning_of) c.deref-part-items.ensures.value ∙ c.parts.view_is in
    let small = part_smaller c.deref-part-items.result.now c.loop-part.part-index c.part-item.result c.loop-part-test.true in
    let same = ap (λ u. node_count (meaning_of u)) c.part-item.is in
    let all = ap sum_of_nodes parts in
    (omega (arith, small, same, all), (within, c.loop-part.invariant.0))

pub write_tuple-returns-in_err-write_behind : goal.write_tuple-returns-in_err-write_behind
write_tuple-returns-in_err-write_behind g t c =
    let p = err_from_is_err_and c.from_residual.result c.from_residual.ensures.1 in
    let o = owes_same _ _ _ _ _ (marked-drop c.loop-part.mark c.loop-part.part-index c.deref-part-items.result.now c.part-item.result c.loop-part-test.true c.part-item.is) c.loop-part.invariant.1 in
    breaks_at _ _ _ _ _ _ p.1 (owes_break_in _ _ _ _ (c.loop-part.mark ∷ text_of_term (meaning_of c.part-item.result)) _ _ o c.in_err-write_behind.ensures)

pub write_tuple-loop-part-preserved : goal.write_tuple-loop-part-preserved
write_tuple-loop-part-preserved g t c =
    let o = owes_same _ _ _ _ _ (marked-drop c.loop-part.mark c.loop-part.part-index c.deref-part-items.result.now c.part-item.result c.loop-part-test.true c.part-item.is) c.loop-part.invariant.1 in
    let w = c.in_ok-write_behind.ensures in
    (w.sound, owes_less _ _ _ (c.loop-part.mark ∷ text_of_term (meaning_of c.part-item.result)) _ _ o w.appends)
