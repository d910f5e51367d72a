use Rattle.std.proofs.Common.{subst, sym, take}
use Rattle.search_levels.specs.Arrivals.{Arrived}
use Rattle.search_levels.specs.inside.Following.{AreKept}
use Rattle.search_levels.specs.inside.Visits.{entry_of}
use Rattle.search_levels.proofs.Going.{taken}
use Rattle.search_levels.proofs.Thinning.{one_kept}
use Rattle.search_levels.proofs.following.keep_all.Goals as goal

pub loop-place-preserved : goal.loop-place-preserved
loop-place-preserved c =
    let rs = c.args.arrivals.now in
    let r : Arrived = entry_of c.at.result in
    let old = c.args.kept.now.rows in
    let new = c.keep.new.kept.rows in
    subst (λ done. AreKept done old new) (sym (taken rs c.loop-place.place r c.at.ensures)) (one_kept (take c.loop-place.place rs) old c.loop-place.kept.rows new r c.loop-place.invariant c.in_ok-keep.ensures)
