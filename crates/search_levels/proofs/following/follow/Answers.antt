use Rattle.std.proofs.Common.{◌∷◌, ◌++◌, [], arith, slice_range, subst, sym}
use Rattle.search_levels.specs.inside.Following.{AreFollowed, AreKnownArrivals}
use Rattle.search_levels.specs.inside.Visits.{Visit, entry_of}
use Rattle.search_levels.proofs.Going.{element, range_next}
use Rattle.search_levels.proofs.Thinning.{followed_more}
use Rattle.search_levels.proofs.following.follow.Goals as goal

pub follow_one-requires : goal.follow_one-requires
follow_one-requires g c = c.requires.read (entry_of c.at-from.result) (element c.args.level.now.rows c.loop-place.place (entry_of c.at-from.result) c.at-from.ensures)

pub loop-place-preserved : goal.loop-place-preserved
loop-place-preserved g c =
    let level = c.args.level.now.rows in
    let first = c.args.first in
    let place = c.loop-place.place in
    let x : Visit = entry_of c.at-from.result in
    let AreAll = AreKnownArrivals g.W.Worlds.agrees g.W.Worlds.is_of g.W.Worlds.follows c.args.worlds.now c.args.delivery in
    let new = c.follow_one.new.kept.rows in
    let more = followed_more AreAll c.loop-place.kept.rows new (slice_range level first place) c.loop-place.ends.items x c.in_ok-follow_one.field-0 c.loop-place.invariant.followed c.in_ok-follow_one.ensures in
    record {
      followed = rw c.in_ok-push.ensures.items (subst (λ xs. AreFollowed AreAll [] new 0 xs (c.loop-place.ends.items ++ c.in_ok-follow_one.field-0 ∷ [])) (sym (range_next level first place x c.loop-place.invariant.forward c.at-from.ensures)) more);
      forward = omega (arith, c.loop-place.invariant.forward);
    }
