use Rattle.std.proofs.Common.{◌≡◌, ◌∙◌, ◌+◌, ◌-◌, ◌∷◌, ◌++◌, [], arith, refl, slice_range, subst, sym}
use Rattle.std.specs.List.{AllByRecursion}
use Rattle.search_levels.specs.Arrivals.{Arrived, of_module}
use Rattle.search_levels.specs.inside.Following.{ArriveAll, TakesInAll, TakesRows}
use Rattle.search_levels.specs.inside.Paths.{schedule_in}
use Rattle.search_levels.specs.inside.Visits.{entry_of}
use Rattle.search_levels.proofs.Going.{element, got_range, range_next, range_none}
use Rattle.search_levels.proofs.Merging.{arrive_last, more_notes, no_notes, takes_more, takes_none}
use Rattle.search_levels.proofs.Placed.{all_front, all_last}
use Rattle.world_identities.specs.Identities.{flags_in}
use Rattle.world_model.specs.Names.{IsAmong}
use Rattle.search_levels.proofs.expanding.arrive_at_all.Goals as goal

pub loop-place-init : goal.loop-place-init
loop-place-init g c =
    let flags = flags_in c.args.flags in
    let schedule = schedule_in c.args.from.now in
    let xs = c.args.arrivals.now in
    let old = c.args.level.now.rows in
    let begun = c.args.findings.now in
    let none : slice_range xs c.args.first c.args.first ≡ [] = range_none xs c.args.first in
    record {
      arrive = λ known m. subst (λ rs. ArriveAll (of_module (g.W.Worlds.agrees known) m) flags schedule rs old old begun begun) (sym none) (refl, refl);
      notes = λ known m. no_notes (of_module (g.W.Worlds.agrees known) m) flags schedule (slice_range xs c.args.first c.args.last) begun;
      of_known = λ known before each. before;
      rows = subst (λ rs. TakesRows old rs old) (sym none) (takes_none old);
      forward = omega arith;
      fewer = omega arith;
    }

pub loop-place-preserved : goal.loop-place-preserved
loop-place-preserved g c =
    let flags = flags_in c.args.flags in
    let schedule = schedule_in c.args.from.now in
    let xs = c.args.arrivals.now in
    let first = c.args.first in
    let place = c.loop-place.place in
    let done = slice_range xs first place in
    let all = slice_range xs first c.args.last in
    let r : Arrived = entry_of c.at.result in
    let old = c.args.level.now.rows in
    let mid = c.loop-place.level.rows in
    let new = c.arrive.new.level.rows in
    let inv = c.loop-place.invariant in
    let more : slice_range xs first (place + 1) ≡ done ++ r ∷ [] = range_next xs first place r inv.forward c.at.ensures in
    let there : IsAmong r all = element all (place - first) r (got_range xs first c.args.last place inv.forward c.loop-place-test.true ∙ c.at.ensures) in
    record {
      arrive = λ known m. subst (λ rs. ArriveAll (of_module (g.W.Worlds.agrees known) m) flags schedule rs old new c.args.findings.now c.arrive.new.findings) (sym more)
          (arrive_last (of_module (g.W.Worlds.agrees known) m) flags schedule done r old mid new c.args.findings.now c.loop-place.findings c.arrive.new.findings (inv.arrive known m) (c.in_ok-arrive.ensures.arrives known m) c.in_ok-arrive.ensures.rows);
      notes = λ known m. more_notes (of_module (g.W.Worlds.agrees known) m) flags schedule all r c.args.findings.now c.loop-place.findings c.arrive.new.findings there (inv.notes known m) (c.in_ok-arrive.ensures.notes known m);
      of_known = λ known before each.
          let es = subst (AllByRecursion (λ (x : Arrived). g.W.Worlds.is_of known x.row)) more each in
          c.in_ok-arrive.ensures.of_known known (inv.of_known known before (all_front (λ (x : Arrived). g.W.Worlds.is_of known x.row) done r es)) (all_last (λ (x : Arrived). g.W.Worlds.is_of known x.row) done r es);
      rows = subst (λ rs. TakesRows old rs new) (sym more) (takes_more old mid new done r inv.rows c.in_ok-arrive.ensures.rows);
      forward = omega (arith, inv.forward);
      fewer = omega (arith, inv.fewer, c.in_ok-arrive.ensures.fewer);
    }

pub returns-in_err-arrive-clause-notes : goal.returns-in_err-arrive-clause-notes
returns-in_err-arrive-clause-notes g c = λ known m.
    let xs = c.args.arrivals.now in
    let first = c.args.first in
    let place = c.loop-place.place in
    let all = slice_range xs first c.args.last in
    let r : Arrived = entry_of c.at.result in
    let there : IsAmong r all = element all (place - first) r (got_range xs first c.args.last place c.loop-place.invariant.forward c.loop-place-test.true ∙ c.at.ensures) in
    more_notes (of_module (g.W.Worlds.agrees known) m) (flags_in c.args.flags) (schedule_in c.args.from.now) all r c.args.findings.now c.loop-place.findings c.arrive.new.findings there (c.loop-place.invariant.notes known m) (c.in_err-arrive.ensures.notes known m)

-- where the loop ends all steps are taken
pub returns-clause-arrive : goal.returns-clause-arrive
returns-clause-arrive g c = λ known m.
    let place = c.loop-place.place in
    let is : place ≡ c.args.last = omega (arith, c.loop-place-test.false, c.loop-place.auto.place-end c.requires.forward) in
    subst (λ n. ArriveAll (of_module (g.W.Worlds.agrees known) m) (flags_in c.args.flags) (schedule_in c.args.from.now) (slice_range c.args.arrivals.now c.args.first n) c.args.level.now.rows c.loop-place.level.rows c.args.findings.now c.loop-place.findings) is (c.loop-place.invariant.arrive known m)

pub returns-clause-of_known : goal.returns-clause-of_known
returns-clause-of_known g c = λ known.
    let place = c.loop-place.place in
    let is : place ≡ c.args.last = omega (arith, c.loop-place-test.false, c.loop-place.auto.place-end c.requires.forward) in
    subst (λ n. TakesInAll (g.W.Worlds.is_of known) c.args.level.now.rows (slice_range c.args.arrivals.now c.args.first n) c.loop-place.level.rows) is (c.loop-place.invariant.of_known known)

pub returns-clause-rows : goal.returns-clause-rows
returns-clause-rows g c =
    let place = c.loop-place.place in
    let is : place ≡ c.args.last = omega (arith, c.loop-place-test.false, c.loop-place.auto.place-end c.requires.forward) in
    subst (λ n. TakesRows c.args.level.now.rows (slice_range c.args.arrivals.now c.args.first n) c.loop-place.level.rows) is c.loop-place.invariant.rows
