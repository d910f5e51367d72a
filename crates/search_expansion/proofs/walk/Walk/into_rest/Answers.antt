use Rattle.search_jobs.specs.Explorations.{exploration_in}
use Rattle.search_expansion.specs.inside.Frames.{nodes_of_frames}
use Rattle.search_expansion.specs.inside.Walks.{frames_in}
use Rattle.search_expansion.proofs.Pieces.{rest_more, rest_are_of}
use Rattle.search_expansion.proofs.walk.Walk.into_rest.Goals as goal

pub loop-alloc-smaller : goal.loop-alloc-smaller
loop-alloc-smaller c = c.in_ok-leave_next.ensures.fewer

pub loop-alloc-preserved : goal.loop-alloc-preserved
loop-alloc-preserved c =
    let e = exploration_in c.args.exploration in
    record {
      nodes = rest_more e c.loop-alloc.rest.items c.push.new.self.items (frames_in c.loop-alloc.walk) (frames_in c.leave_next.new.self) c.in_ok-leave_next.field-0 (nodes_of_frames (frames_in c.args.self)) c.loop-alloc.invariant.nodes c.in_ok-push.ensures.items c.in_ok-leave_next.ensures.nodes;
      are_of = rest_are_of e c.loop-alloc.rest.items c.push.new.self.items c.in_ok-leave_next.field-0 c.in_ok-push.ensures.items c.loop-alloc.invariant.are_of c.in_ok-leave_next.ensures.exploration;
      walk_of = c.in_ok-leave_next.ensures.of;
    }
