use Rattle.std.proofs.Common.{◌≤◌, arith, refl}
use Rattle.search_levels.proofs.Merging.{shared_more}
use Rattle.search_levels.proofs.share.shares.Goals as goal
use Rattle.search_levels.proofs.share.shares.Goals.{then-size-places, else-size-places}

pub loop-first-preserved : goal.loop-first-preserved
loop-first-preserved c =
    let last = c.if-size-places.last in
    let forward : c.loop-first.first ≤ last = elim c.if-size-places.branch [
      | then-size-places w ↦ omega (arith, w.last-is)
      | else-size-places w ↦ omega (arith, w.last-is, c.loop-first-test.true)
    ] in
    let within : last ≤ c.args.places = elim c.if-size-places.branch [
      | then-size-places w ↦ omega (arith, w.last-is, w.if-size-places.true)
      | else-size-places w ↦ omega (arith, w.last-is)
    ] in
    record {
      shared = rw c.in_ok-push.ensures.items (shared_more 0 c.loop-first.first last c.loop-first.shares.items c.loop-first.invariant.shared forward _ refl refl);
      within = within;
    }
