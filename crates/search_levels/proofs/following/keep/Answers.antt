use Rattle.std.proofs.Common.{inl, inr, ◌∙◌, refl, sym}
use Rattle.std.proofs.lemmas.Result.{on_ok_weaker}
use Rattle.search_levels.proofs.Noting.{is_empty}
use Rattle.search_levels.proofs.Thinning.{row_among}
use Rattle.search_levels.proofs.following.keep.Goals as goal

pub returns-then-has : goal.returns-then-has
returns-then-has c =
    inl (refl, (is_empty c.args.to.of.now.shown.items _ c.args.to.of.now.shown.ok.0 (sym c.if-is_empty.true ∙ c.is_empty.ensures), row_among c.args.kept.now.rows c.args.to.row.now (c.has.ensures c.if-has.true)))

pub returns : goal.returns
returns c = on_ok_weaker c.push.result (λ puts. inr (record { of = c.in_ok-copy.field-0; row = c.args.to.row.now }, record { step = c.in_ok-copy.ensures.step; shown = c.in_ok-copy.ensures.shown; row = refl }, puts)) c.push.ensures
