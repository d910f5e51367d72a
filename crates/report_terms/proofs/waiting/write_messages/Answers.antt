use Rattle.std.proofs.Common.{[], drop, sym, ap, ◌∙◌, append-nil, arith}
use Rattle.std.specs.Prelude.{Err}
use Rattle.std.specs.List.{flat_map}
use Rattle.std.proofs.lemmas.Option.{get_or_from_slice_get}
use Rattle.std.proofs.lemmas.Result.{err_from_is_err_and}
use Rattle.term_core.specs.Term.{meaning_of}
use Rattle.term_core.specs.inside.Writing.{owes_all, owes_less, owes_item, owes_items_end, owes_nothing, owes_same}
use Rattle.report_explained.proofs.Parts.{part_fails}
use Rattle.report_explained.proofs.WaitingTexts.{messages-there}
use Rattle.report_terms.specs.Strings.{string_of_term, term_after_comma}
use Rattle.report_terms.proofs.WaitingTexts.{messages-first, messages-none}
use Rattle.report_terms.proofs.waiting.write_messages.Goals as goal

pub returns-in_default : goal.returns-in_default
returns-in_default g c =
    owes_nothing _ _ _ _ (owes_same _ _ _ _ _ (messages-none c.args.mailbox.now c.in_default.ensures) (owes_all _ _)) c.requires

pub returns-in_err-write_term_string : goal.returns-in_err-write_term_string
returns-in_err-write_term_string g c =
    let p = err_from_is_err_and c.from_residual.result c.from_residual.ensures.1 in
    let o = owes_same _ _ _ _ _ (messages-first c.args.mailbox.now (meaning_of c.in-Some.first.now) c.in-Some.ensures) (owes_all _ _) in
    part_fails _ _ (g.W.Sink.contents c.write_term_string.new.sink) (g.W.Sink.has_failed c.write_term_string.new.sink) c.from_residual.result c.in_err-write_term_string.field-0.0 (string_of_term (meaning_of c.in-Some.first.now)) (flat_map term_after_comma (drop 1 c.args.mailbox.now)) _ (p.1 ∙ ap Err p.2) o c.in_err-write_term_string.ensures

pub loop-place-init : goal.loop-place-init
loop-place-init g c =
    let w = c.in_ok-write_term_string.ensures in
    let o = owes_same _ _ _ _ _ (messages-first c.args.mailbox.now (meaning_of c.in-Some.first.now) c.in-Some.ensures) (owes_all _ _) in
    (w.sound, owes_same _ _ _ _ _ (sym (append-nil _)) (owes_less _ _ _ (string_of_term (meaning_of c.in-Some.first.now)) _ _ o w.appends))

pub unreachable-requires : goal.unreachable-requires
unreachable-requires g c =
    messages-there c.args.mailbox.now c.loop-place.place (omega (arith, c.len-place-end.ensures, c.loop-place-test.true)) c.in_default-get.ensures

pub returns-in_err-write_term_after_comma : goal.returns-in_err-write_term_after_comma
returns-in_err-write_term_after_comma g c =
    let p = err_from_is_err_and c.from_residual-in_err-write_term_after_comma.result c.from_residual-in_err-write_term_after_comma.ensures.1 in
    let m = meaning_of c.in-Some-get.message.now in
    let at = sym (get_or_from_slice_get c.args.mailbox.now c.loop-place.place m m (sym c.in-Some-get.ensures)) in
    let o = owes_item term_after_comma c.args.mailbox.now c.loop-place.place m m _ _ [] _ (omega (arith, c.len-place-end.ensures, c.loop-place-test.true)) at c.loop-place.invariant.1 in
    part_fails _ _ _ _ _ _ _ _ _ (p.1 ∙ ap Err p.2) o c.in_err-write_term_after_comma.ensures

pub loop-place-preserved : goal.loop-place-preserved
loop-place-preserved g c =
    let w = c.in_ok-write_term_after_comma.ensures in
    let m = meaning_of c.in-Some-get.message.now in
    let at = sym (get_or_from_slice_get c.args.mailbox.now c.loop-place.place m m (sym c.in-Some-get.ensures)) in
    let o = owes_item term_after_comma c.args.mailbox.now c.loop-place.place m m _ _ [] _ (omega (arith, c.len-place-end.ensures, c.loop-place-test.true)) at c.loop-place.invariant.1 in
    (w.sound, owes_less _ _ _ _ _ _ o w.appends)

pub returns : goal.returns
returns g c =
    owes_nothing _ _ _ _ (owes_items_end term_after_comma c.args.mailbox.now c.loop-place.place _ _ [] _ (omega (arith, c.len-place-end.ensures, c.loop-place-test.false)) c.loop-place.invariant.1) c.loop-place.invariant.0
