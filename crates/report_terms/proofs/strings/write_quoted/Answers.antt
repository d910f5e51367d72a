use Rattle.std.proofs.Common.{[], ◌∷◌, refl}
use Rattle.std.proofs.lemmas.Result.{err_from_is_err_and}
use Rattle.term_core.specs.inside.Writing.{owes_all, owes_less, owes_break_in, owes_item, owes_items_end, writes_last, breaks_at}
use Rattle.report_terms.specs.Strings.{escaped_byte}
use Rattle.report_terms.proofs.strings.write_quoted.Goals as goal

pub returns-in_err-write_all : goal.returns-in_err-write_all
returns-in_err-write_all g c =
    let p = err_from_is_err_and c.from_residual.result c.from_residual.ensures.1 in
    breaks_at _ _ _ _ _ _ p.1 (owes_break_in _ _ _ _ (34 ∷ []) _ _ (owes_all _ _) c.in_err-write_all.ensures)

pub loop-byte-init : goal.loop-byte-init
loop-byte-init g c =
    let w = c.in_ok-write_all.ensures in
    (w.sound, owes_less _ _ _ (34 ∷ []) _ _ (owes_all _ _) w.appends)

pub returns-in_err-write_escaped_byte : goal.returns-in_err-write_escaped_byte
returns-in_err-write_escaped_byte g c =
    let p = err_from_is_err_and c.from_residual-in_err-write_escaped_byte.result c.from_residual-in_err-write_escaped_byte.ensures.1 in
    let o = owes_item escaped_byte _ _ 0 _ _ _ (34 ∷ []) _ c.loop-byte-test.true refl c.loop-byte.invariant.1 in
    breaks_at _ _ _ _ _ _ p.1 (owes_break_in _ _ _ _ _ _ _ o c.in_err-write_escaped_byte.ensures)

pub loop-byte-preserved : goal.loop-byte-preserved
loop-byte-preserved g c =
    let w = c.in_ok-write_escaped_byte.ensures in
    let o = owes_item escaped_byte _ _ 0 _ _ _ (34 ∷ []) _ c.loop-byte-test.true refl c.loop-byte.invariant.1 in
    (w.sound, owes_less _ _ _ _ _ _ o w.appends)

pub returns : goal.returns
returns g c =
    writes_last _ _ _ _ _ _ _ (owes_items_end escaped_byte _ _ _ _ (34 ∷ []) _ c.loop-byte-test.false c.loop-byte.invariant.1) c.write_all-2.ensures
