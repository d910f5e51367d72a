use Rattle.std.proofs.Common.{subst}
use Rattle.search_numbers.specs.inside.Covered.{CoversViews}
use Rattle.search_numbers.proofs.Covers.{covers_itself, covers_on, covers_taken}
use Rattle.search_numbers.proofs.covering.cover_changes.Goals as goal

pub loop-change-init : goal.loop-change-init
loop-change-init c = (λ d there. absurd there, covers_itself _ _)

pub returns-in_err-cover_views-clause-more : goal.returns-in_err-cover_views-clause-more
returns-in_err-cover_views-clause-more c = covers_on _ _ _ _ _ _ c.loop-change.invariant.1 c.cover_views.ensures.more

pub loop-change-preserved : goal.loop-change-preserved
loop-change-preserved c = (
  covers_taken c.loop-change.store c.cover_views.new.store c.loop-change.columns.items c.cover_views.new.columns.items c.args.changes.now c.loop-change.change-index c.change-item.result c.loop-change-test.true c.change-item.is c.cover_views.ensures.more
      (subst (CoversViews c.cover_views.new.store c.cover_views.new.columns.items) c.changed_cells.ensures c.in_ok-cover_views.ensures.covers) c.loop-change.invariant.0,
  covers_on _ _ _ _ _ _ c.loop-change.invariant.1 c.cover_views.ensures.more,
)
