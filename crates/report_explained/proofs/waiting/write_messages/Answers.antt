use Rattle.std.proofs.Common.{[], sym, append-nil, arith}
use Rattle.std.proofs.lemmas.Option.{get_or_from_slice_get}
use Rattle.std.proofs.lemmas.Result.{err_from_is_err_and}
use Rattle.term_core.specs.Term.{meaning_of}
use Rattle.term_core.specs.TermText.{text_of_term}
use Rattle.term_core.specs.inside.Writing.{owes_all, owes_less, owes_break_in, owes_item, owes_items_end, owes_nothing, owes_same, breaks_at}
use Rattle.world_event_text.specs.CallText.{behind_comma}
use Rattle.report_explained.proofs.WaitingTexts.{messages-first, messages-none, messages-there}
use Rattle.report_explained.proofs.waiting.write_messages.Goals as goal

pub returns-in_default : goal.returns-in_default
returns-in_default g c =
    owes_nothing _ _ _ _ (owes_same _ _ _ _ _ (messages-none c.args.mailbox.now c.in_default.ensures) (owes_all _ _)) c.requires

pub returns-in_err-write_term : goal.returns-in_err-write_term
returns-in_err-write_term g c =
    let p = err_from_is_err_and c.from_residual.result c.from_residual.ensures.1 in
    let o = owes_same _ _ _ _ _ (messages-first c.args.mailbox.now (meaning_of c.in-Some.first.now) c.in-Some.ensures) (owes_all _ _) in
    breaks_at _ _ _ _ _ _ p.1 (owes_break_in _ _ _ _ (text_of_term (meaning_of c.in-Some.first.now)) _ _ o c.in_err-write_term.ensures)

pub loop-place-init : goal.loop-place-init
loop-place-init g c =
    let w = c.in_ok-write_term.ensures in
    let o = owes_same _ _ _ _ _ (messages-first c.args.mailbox.now (meaning_of c.in-Some.first.now) c.in-Some.ensures) (owes_all _ _) in
    (w.sound, owes_same _ _ _ _ _ (sym (append-nil _)) (owes_less _ _ _ (text_of_term (meaning_of c.in-Some.first.now)) _ _ o w.appends))

pub unreachable-requires : goal.unreachable-requires
unreachable-requires g c =
    messages-there c.args.mailbox.now c.loop-place.place (omega (arith, c.len-place-end.ensures, c.loop-place-test.true)) c.in_default-get.ensures

pub returns-in_err-write_behind_comma : goal.returns-in_err-write_behind_comma
returns-in_err-write_behind_comma g c =
    let p = err_from_is_err_and c.from_residual-in_err-write_behind_comma.result c.from_residual-in_err-write_behind_comma.ensures.1 in
    let m = meaning_of c.in-Some-get.message.now in
    let at = sym (get_or_from_slice_get c.args.mailbox.now c.loop-place.place m m (sym c.in-Some-get.ensures)) in
    let o = owes_item behind_comma c.args.mailbox.now c.loop-place.place m m _ _ [] _ (omega (arith, c.len-place-end.ensures, c.loop-place-test.true)) at c.loop-place.invariant.1 in
    breaks_at _ _ _ _ _ _ p.1 (owes_break_in _ _ _ _ _ _ _ o c.in_err-write_behind_comma.ensures)

pub loop-place-preserved : goal.loop-place-preserved
loop-place-preserved g c =
    let w = c.in_ok-write_behind_comma.ensures in
    let m = meaning_of c.in-Some-get.message.now in
    let at = sym (get_or_from_slice_get c.args.mailbox.now c.loop-place.place m m (sym c.in-Some-get.ensures)) in
    let o = owes_item behind_comma c.args.mailbox.now c.loop-place.place m m _ _ [] _ (omega (arith, c.len-place-end.ensures, c.loop-place-test.true)) at c.loop-place.invariant.1 in
    (w.sound, owes_less _ _ _ _ _ _ o w.appends)

pub returns : goal.returns
returns g c =
    owes_nothing _ _ _ _ (owes_items_end behind_comma c.args.mailbox.now c.loop-place.place _ _ [] _ (omega (arith, c.len-place-end.ensures, c.loop-place-test.false)) c.loop-place.invariant.1) c.loop-place.invariant.0
