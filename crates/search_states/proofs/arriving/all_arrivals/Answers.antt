use Rattle.std.proofs.Common.{◌+◌, drop, get_or, refl, subst, sym}
use Rattle.std.proofs.lemmas.List.{drop_all, drop_more}
use Rattle.std.specs.List.{AllByRecursion}
use Rattle.search_numbers.proofs.Followed.{follows_on}
use Rattle.search_numbers.proofs.Listed.{enabled_at_later, knows_itself, knows_too}
use Rattle.search_numbers.specs.Knowing.{AreAt, IsThere}
use Rattle.search_numbers.specs.Rows.{numbers_in}
use Rattle.search_states.proofs.Following.{AreSoFar, all_so_far, none_so_far, one_more}
use Rattle.search_states.proofs.There.{are_there, one_more_read, still_is_there, still_read}
use Rattle.search_states.proofs.arriving.all_arrivals.Goals as goal
use Rattle.search_states.specs.inside.Keeping.{AreRead}
use Rattle.world_model.specs.Asking.{program_of}
use Rattle.world_model.specs.Run.{enabled_steps}

pub loop-at-init : goal.loop-at-init
loop-at-init g c =
    let first = g.L.Look.seen c.enabled.new.look in
    let numbers = numbers_in c.args.row.now in
    let places = c.as_slice-at-items.result.now in
    record {
      knows = c.enabled.ensures.knows;
      more = knows_itself first;
      so_far = λ later m h follows of.
          none_so_far first numbers later m h c.clear.new.self places c.clear.ensures
          (subst (AreAt first numbers (enabled_steps (program_of m) h)) (sym c.as_slice-at-items.ensures.value) (c.in_ok-enabled.ensures.enabled later.store m h follows of));
      there = subst (AllByRecursion (IsThere first numbers)) (sym c.as_slice-at-items.ensures.value) (are_there first numbers c.in_ok-enabled.enabled.items (still_read (g.L.Look.seen c.args.look.now) first numbers c.enabled.ensures.knows c.requires).1 c.in_ok-enabled.ensures.enabled);
      read = subst (AreRead first) (sym c.clear.ensures) tt;
    }

pub put_arrival-requires : goal.put_arrival-requires
put_arrival-requires g c κs =
    let first = g.L.Look.seen c.enabled.new.look in
    let old = g.L.Look.seen c.loop-at.look in
    let numbers = numbers_in c.args.row.now in
    let items = c.as_slice-at-items.result.now in
    let i = c.loop-at.at-index in (
      (refl, tt),
      (
        still_read (g.L.Look.seen c.args.look.now) old numbers c.loop-at.invariant.knows c.requires,
        still_is_there first old numbers (get_or items i 0) c.loop-at.invariant.more (subst (AllByRecursion (IsThere first numbers)) (drop_more items i 0 c.loop-at-test.true) c.loop-at.invariant.there).0,
      ),
    )

pub loop-at-preserved : goal.loop-at-preserved
loop-at-preserved g c =
    let first = g.L.Look.seen c.enabled.new.look in
    let old = g.L.Look.seen c.loop-at.look in
    let new = g.L.Look.seen c.put_arrival.new.look in
    let numbers = numbers_in c.args.row.now in
    let items = c.as_slice-at-items.result.now in
    let i = c.loop-at.at-index in
    let before = c.loop-at.invariant in
    let knows = c.put_arrival.ensures.knows in
    let put = c.in_ok-put_arrival.ensures.puts in
    let r = put.one in
    record {
      knows = knows_too (g.L.Look.seen c.args.look.now) old new before.knows knows;
      more = knows_too first old new before.more knows;
      so_far = λ later m h follows of.
          one_more first numbers later m h c.loop-at.into c.put_arrival.new.into r (get_or items i 0) (drop (i + 1) items)
          (subst (AreSoFar first numbers later m h c.loop-at.into) (drop_more items i 0 c.loop-at-test.true) (before.so_far later m h (follows_on later.store new.store old.store follows knows.follows) of)) put.put
          (λ step is.
          let one = put.is step (enabled_at_later first old numbers step (get_or items i 0) before.more is) in
          (one.0, one.1 later m h follows of));
      there = (subst (AllByRecursion (IsThere first numbers)) (drop_more items i 0 c.loop-at-test.true) before.there).1;
      read = one_more_read old old new numbers (get_or items i 0) c.loop-at.into c.put_arrival.new.into knows before.read put;
    }

pub returns-clause-arrivals : goal.returns-clause-arrivals
returns-clause-arrivals g c = λ later m h follows of.
    all_so_far (g.L.Look.seen c.enabled.new.look) (numbers_in c.args.row.now) later m h c.loop-at.into
    (subst (AreSoFar (g.L.Look.seen c.enabled.new.look) (numbers_in c.args.row.now) later m h c.loop-at.into) (drop_all c.loop-at.at-index c.as_slice-at-items.result.now c.loop-at-test.false) (c.loop-at.invariant.so_far later m h follows of))
