use Rattle.std.proofs.Common.{◌≡◌, [], ◌++◌, ◌∙◌, ap, sym, append-nil, map}
use Rattle.std.proofs.lemmas.Result.{err_from_is_err_and}
use Rattle.std.specs.List.{flat_map}
use Rattle.term_core.specs.Term.{meaning_of}
use Rattle.term_core.specs.TermText.{text_of_term}
use Rattle.term_core.specs.inside.Writing.{owes_all, owes_less, owes_break_in, owes_same, owes_item, breaks_at}
use Rattle.world_event_text.specs.CallText.{behind_comma, text_of_arguments}
use Rattle.world_event_text.proofs.CallTexts.{text_of_arguments-cons}
use Rattle.world_event_text.proofs.call_text.write_arguments.Goals as goal

pub returns-in_err-write_term : goal.returns-in_err-write_term
returns-in_err-write_term g c =
    let p = err_from_is_err_and c.from_residual.result c.from_residual.ensures.1 in
    let opens : text_of_arguments c.args.arguments.now ≡ text_of_term (meaning_of c.in-Some.first.now) ++ flat_map (λ u. behind_comma (meaning_of u)) c.in-Some.others.now = ap text_of_arguments (sym c.as_slice.ensures ∙ ap (map meaning_of) c.in-Some.ensures.cases.0) ∙ text_of_arguments-cons c.in-Some.first.now c.in-Some.others.now in
    let o = owes_same _ _ _ _ _ opens (owes_all _ _) in
    breaks_at _ _ _ _ _ _ p.1 (owes_break_in _ _ _ _ (text_of_term (meaning_of c.in-Some.first.now)) _ _ o c.in_err-write_term.ensures)

pub loop-argument-init : goal.loop-argument-init
loop-argument-init g c =
    let opens : text_of_arguments c.args.arguments.now ≡ text_of_term (meaning_of c.in-Some.first.now) ++ flat_map (λ u. behind_comma (meaning_of u)) c.in-Some.others.now = ap text_of_arguments (sym c.as_slice.ensures ∙ ap (map meaning_of) c.in-Some.ensures.cases.0) ∙ text_of_arguments-cons c.in-Some.first.now c.in-Some.others.now in
    let o = owes_same _ _ _ _ _ opens (owes_all _ _) in
    let w = c.in_ok-write_term.ensures in
    (w.sound, owes_same _ _ _ _ _ (sym (append-nil _)) (owes_less _ _ _ (text_of_term (meaning_of c.in-Some.first.now)) _ _ o w.appends))

pub returns-in_err-write_behind_comma : goal.returns-in_err-write_behind_comma
returns-in_err-write_behind_comma g c =
    let p = err_from_is_err_and c.from_residual-in_err-write_behind_comma.result c.from_residual-in_err-write_behind_comma.ensures.1 in
    let o = owes_item (λ t. behind_comma (meaning_of t)) _ _ _ _ _ _ [] _ c.loop-argument-test.true c.argument-item.is c.loop-argument.invariant.1 in
    breaks_at _ _ _ _ _ _ p.1 (owes_break_in _ _ _ _ _ _ _ o c.in_err-write_behind_comma.ensures)

pub loop-argument-preserved : goal.loop-argument-preserved
loop-argument-preserved g c =
    let w = c.in_ok-write_behind_comma.ensures in
    let o = owes_item (λ t. behind_comma (meaning_of t)) _ _ _ _ _ _ [] _ c.loop-argument-test.true c.argument-item.is c.loop-argument.invariant.1 in
    (w.sound, owes_less _ _ _ _ _ _ o w.appends)
