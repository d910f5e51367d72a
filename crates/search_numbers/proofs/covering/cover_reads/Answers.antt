use Rattle.std.proofs.Common.{◌≡◌, ◌∙◌, true, ap, subst}
use Rattle.world_records.specs.Places.{place_of}
use Rattle.search_numbers.specs.Stored.{covers}
use Rattle.search_numbers.proofs.Covers.{covers_itself, covers_on, places_taken}
use Rattle.search_numbers.proofs.covering.cover_reads.Goals as goal

pub loop-cell-init : goal.loop-cell-init
loop-cell-init c = (λ d there. absurd there, covers_itself _ _)

pub returns-in_err-cover-clause-more : goal.returns-in_err-cover-clause-more
returns-in_err-cover-clause-more c = covers_on _ _ _ _ _ _ c.loop-cell.invariant.1 c.cover.ensures.more

pub loop-cell-preserved : goal.loop-cell-preserved
loop-cell-preserved c = (
  places_taken c.loop-cell.store c.cover.new.store c.loop-cell.columns.items c.cover.new.columns.items c.args.cells.now c.loop-cell.cell-index c.cell-item.result c.loop-cell-test.true c.cell-item.is c.cover.ensures.more
      (subst (λ q. covers c.cover.new.store.places.items c.cover.new.columns.items q ≡ true) (c.in_ok-place_of.ensures ∙ ap place_of c.view_of.ensures) c.in_ok-cover.ensures.covers) c.loop-cell.invariant.0,
  covers_on _ _ _ _ _ _ c.loop-cell.invariant.1 c.cover.ensures.more,
)
