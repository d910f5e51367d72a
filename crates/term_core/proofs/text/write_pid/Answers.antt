use Rattle.std.proofs.Common.{[], ◌∷◌, ◌∙◌, ap, sym, append-nil, refl}
use Rattle.std.proofs.lemmas.Result.{err_from_is_err_and}
use Rattle.std.specs.List.{flat_map}
use Rattle.term_core.specs.Text.{dotted}
use Rattle.term_core.specs.inside.Writing.{owes_all, owes_less, owes_break_in, owes_same, owes_item, owes_items_end, owes_nothing, breaks_at}
use Rattle.term_core.proofs.text.write_pid.Goals as goal

pub returns-in_err-write_all : goal.returns-in_err-write_all
returns-in_err-write_all g c =
    let p = err_from_is_err_and c.from_residual.result c.from_residual.ensures.1 in
    breaks_at _ _ _ _ _ _ p.1 (owes_break_in _ _ _ _ (80 ∷ []) _ _ (owes_all _ _) c.in_err-write_all.ensures)

pub loop-number-init : goal.loop-number-init
loop-number-init g c =
    let w = c.in_ok-write_all.ensures in
    let same = ap (flat_map dotted) (sym c.numbers-number-items.ensures) ∙ sym (append-nil _) in
    (w.sound, owes_same _ _ _ _ _ same (owes_less _ _ _ (80 ∷ []) _ _ (owes_all _ _) w.appends))

pub returns-in_err-write_dotted : goal.returns-in_err-write_dotted
returns-in_err-write_dotted g c =
    let p = err_from_is_err_and c.from_residual-in_err-write_dotted.result c.from_residual-in_err-write_dotted.ensures.1 in
    let o = owes_item dotted _ _ 0 _ _ _ [] _ c.loop-number-test.true refl c.loop-number.invariant.1 in
    breaks_at _ _ _ _ _ _ p.1 (owes_break_in _ _ _ _ _ _ _ o c.in_err-write_dotted.ensures)

pub loop-number-preserved : goal.loop-number-preserved
loop-number-preserved g c =
    let w = c.in_ok-write_dotted.ensures in
    let o = owes_item dotted _ _ 0 _ _ _ [] _ c.loop-number-test.true refl c.loop-number.invariant.1 in
    (w.sound, owes_less _ _ _ _ _ _ o w.appends)

pub returns : goal.returns
returns g c =
    owes_nothing _ _ _ _ (owes_items_end dotted _ _ _ _ [] _ c.loop-number-test.false c.loop-number.invariant.1) c.loop-number.invariant.0
