use Rattle.std.proofs.Common.{subst}
use Rattle.std.proofs.lemmas.Option.{get_or_from_slice_get}
use Rattle.std.proofs.lemmas.Result.{IfOk-weaker}
use denote.Param.Send.{sendable}
use Rattle.std.proofs.Crossing.{crosses}
use Rattle.std.proofs.MapsCrossing as maps
use Rattle.search_levels.specs.inside.Following.{AreKnownArrivals, FollowsShare}
use Rattle.search_levels.proofs.Crossing.{followed_send}
use Rattle.search_levels.proofs.following.follow_all.Goals as goal

-- what follows a share of the states may be handed over
pub map_indices-requires-send-X : goal.map_indices-requires-send-X
map_indices-requires-send-X g c κs lives = search (followed_send, crosses, maps.crosses, sendable) depth 40 fits 20000

pub returns-clause-each : goal.returns-clause-each
returns-clause-each g c = IfOk-weaker c.map_indices.result _ _ (λ v each i r lt is.
    let Follows = FollowsShare (AreKnownArrivals g.W.Worlds.agrees g.W.Worlds.is_of g.W.Worlds.follows c.args.worlds.now c.args.delivery) c.args.level.now.rows c.args.shares.now i in
    subst Follows (get_or_from_slice_get v.items i r r is) ((each i r lt).1.met)) c.map_indices.ensures.each
