use Rattle.std.proofs.Common.{[], IfOk, get_or, length, slice_range, subst}
use Rattle.std.proofs.lemmas.Option.{get_or_from_slice_get, slice_get-get_or}
use Rattle.search_levels.specs.declared.share.Share.{Share}
use Rattle.search_levels.specs.inside.Following.{AreFollowed, AreKnownArrivals}
use Rattle.search_levels.proofs.Merging.{share_at}
use Rattle.search_levels.proofs.following.follow_share.Goals as goal

pub follow-requires-clause-within : goal.follow-requires-clause-within
follow-requires-clause-within g c =
    let none : Share = record { first = 0; last = 0 } in
    (share_at 0 (length c.args.level.now.rows) c.args.shares.now c.args.i (get_or c.args.shares.now c.args.i none) c.requires.shares (slice_get-get_or c.args.shares.now c.args.i none c.requires.there)).1

pub follow-requires-clause-forward : goal.follow-requires-clause-forward
follow-requires-clause-forward g c =
    let none : Share = record { first = 0; last = 0 } in
    (share_at 0 (length c.args.level.now.rows) c.args.shares.now c.args.i (get_or c.args.shares.now c.args.i none) c.requires.shares (slice_get-get_or c.args.shares.now c.args.i none c.requires.there)).0

pub returns : goal.returns
returns g c = λ share is.
    let AreAll = AreKnownArrivals g.W.Worlds.agrees g.W.Worlds.is_of g.W.Worlds.follows c.args.worlds.now c.args.delivery in
    subst (λ (s : Share). IfOk c.follow.result (λ f. AreFollowed AreAll [] f.arrivals 0 (slice_range c.args.level.now.rows s.first s.last) f.ends.items)) (get_or_from_slice_get c.args.shares.now c.args.i share (record { first = 0; last = 0 }) is) c.follow.ensures
