use Rattle.std.proofs.Common.{◌≡◌, [], ◌++◌, ◌∙◌, ap, sym, append-nil, map}
use Rattle.std.specs.Prelude.{Err}
use Rattle.std.proofs.lemmas.Result.{err_from_is_err_and}
use Rattle.std.specs.List.{flat_map}
use Rattle.term_core.specs.Term.{meaning_of}
use Rattle.term_core.specs.inside.Writing.{owes_all, owes_less, owes_same, owes_item, owes_items_end, owes_nothing}
use Rattle.report_explained.proofs.Parts.{part_fails}
use Rattle.report_terms.specs.Strings.{string_of_term, strings_of_terms, term_after_comma}
use Rattle.report_terms.proofs.StringTexts.{strings-cons}
use Rattle.report_terms.proofs.strings.write_term_strings.Goals as goal

pub returns-in_err-write_term_string : goal.returns-in_err-write_term_string
returns-in_err-write_term_string g c =
    let p = err_from_is_err_and c.from_residual.result c.from_residual.ensures.1 in
    let others = flat_map (λ u. term_after_comma (meaning_of u)) c.in-Some.others.now in
    let opens : strings_of_terms c.args.terms.now ≡ string_of_term (meaning_of c.in-Some.first.now) ++ others = ap strings_of_terms (sym c.as_slice.ensures ∙ ap (map meaning_of) c.in-Some.ensures.cases.0) ∙ strings-cons c.in-Some.first.now c.in-Some.others.now in
    let o = owes_same _ _ _ _ _ opens (owes_all _ _) in
    part_fails _ _ (g.W.Sink.contents c.write_term_string.new.sink) (g.W.Sink.has_failed c.write_term_string.new.sink) c.from_residual.result c.in_err-write_term_string.field-0.0 (string_of_term (meaning_of c.in-Some.first.now)) others _ (p.1 ∙ ap Err p.2) o c.in_err-write_term_string.ensures

pub loop-term-init : goal.loop-term-init
loop-term-init g c =
    let others = flat_map (λ u. term_after_comma (meaning_of u)) c.in-Some.others.now in
    let opens : strings_of_terms c.args.terms.now ≡ string_of_term (meaning_of c.in-Some.first.now) ++ others = ap strings_of_terms (sym c.as_slice.ensures ∙ ap (map meaning_of) c.in-Some.ensures.cases.0) ∙ strings-cons c.in-Some.first.now c.in-Some.others.now in
    let o = owes_same _ _ _ _ _ opens (owes_all _ _) in
    let w = c.in_ok-write_term_string.ensures in
    (w.sound, owes_same _ _ _ _ _ (sym (append-nil _)) (owes_less _ _ _ (string_of_term (meaning_of c.in-Some.first.now)) _ _ o w.appends))

pub returns-in_err-write_term_after_comma : goal.returns-in_err-write_term_after_comma
returns-in_err-write_term_after_comma g c =
    let p = err_from_is_err_and c.from_residual-in_err-write_term_after_comma.result c.from_residual-in_err-write_term_after_comma.ensures.1 in
    let o = owes_item (λ t. term_after_comma (meaning_of t)) _ _ _ _ _ _ [] _ c.loop-term-test.true c.term-item.is c.loop-term.invariant.1 in
    part_fails _ _ _ _ _ _ _ _ _ (p.1 ∙ ap Err p.2) o c.in_err-write_term_after_comma.ensures

pub loop-term-preserved : goal.loop-term-preserved
loop-term-preserved g c =
    let w = c.in_ok-write_term_after_comma.ensures in
    let o = owes_item (λ t. term_after_comma (meaning_of t)) _ _ _ _ _ _ [] _ c.loop-term-test.true c.term-item.is c.loop-term.invariant.1 in
    (w.sound, owes_less _ _ _ _ _ _ o w.appends)

pub returns : goal.returns
returns g c =
    owes_nothing _ _ _ _ (owes_items_end (λ t. term_after_comma (meaning_of t)) _ _ _ _ [] _ c.loop-term-test.false c.loop-term.invariant.1) c.loop-term.invariant.0
