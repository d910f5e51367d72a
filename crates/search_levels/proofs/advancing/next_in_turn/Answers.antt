use Rattle.std.proofs.Common.{◌≡◌, ◌∷◌, ◌++◌, ◌+◌, [], arith, sym, subst, take, take_all}
use Rattle.search_levels.specs.Arrivals.{of_module}
use Rattle.search_levels.specs.inside.Visits.{entry_of}
use Rattle.search_levels.specs.inside.Expanding.{LevelSoFar}
use Rattle.search_levels.proofs.Going.{element, goes_on, level_more, level_none, taken}
use Rattle.search_levels.proofs.Known.{grows_on, stays}
use Rattle.search_levels.proofs.Noting as noting
use Rattle.world_identities.specs.Identities.{flags_in}
use Rattle.world_model.specs.Names.{IsAmong}
use Rattle.search_levels.proofs.advancing.next_in_turn.Goals as goal

pub loop-place-init : goal.loop-place-init
loop-place-init g c = record {
  so_far = λ known later m. subst (λ xs. LevelSoFar c.args.delivery (of_module (g.W.Worlds.agrees known) m) (flags_in c.args.flags) c.args.findings.now [] xs c.args.findings.now) (sym c.new-next.ensures) (level_none c.args.delivery (of_module (g.W.Worlds.agrees known) m) (flags_in c.args.flags) c.args.findings.now);
  notes = λ known later m. noting.level_none (of_module (g.W.Worlds.agrees known) m) (flags_in c.args.flags) c.args.delivery c.args.level.now.rows c.args.findings.now;
  of_known = λ x there. absurd (subst (IsAmong x) c.new-next.ensures there);
  grows = stays c.args.worlds.now;
  fewer = omega arith;
}

pub expand-requires : goal.expand-requires
expand-requires g c =
    let y = entry_of c.at.result in
    c.loop-place.invariant.grows.keeps y.row (c.requires y (element c.args.level.now.rows c.loop-place.place y c.at.ensures))

pub returns-in_err-expand-clause-grows : goal.returns-in_err-expand-clause-grows
returns-in_err-expand-clause-grows g c = grows_on c.loop-place.invariant.grows c.in_err-expand.ensures.grows

pub returns-in_err-expand-clause-notes : goal.returns-in_err-expand-clause-notes
returns-in_err-expand-clause-notes g c = λ known later m.
    let level = c.args.level.now.rows in
    let y = entry_of c.at.result in
    let there : IsAmong y level = element level c.loop-place.place y c.at.ensures in
    noting.level_more (of_module (g.W.Worlds.agrees known) m) (flags_in c.args.flags) c.args.delivery level y c.args.findings.now c.loop-place.findings c.expand.new.findings there (c.loop-place.invariant.notes known (c.in_err-expand.ensures.grows.passes known later) m) (c.in_err-expand.ensures.notes known later m)

pub loop-place-preserved : goal.loop-place-preserved
loop-place-preserved g c =
    let flags = flags_in c.args.flags in
    let begun = c.args.findings.now in
    let level = c.args.level.now.rows in
    let done = take c.loop-place.place level in
    let one = take (c.loop-place.place + 1) level in
    let y = entry_of c.at.result in
    let old = c.loop-place.next.rows in
    let new = c.expand.new.level.rows in
    let before = c.loop-place.findings in
    let after = c.expand.new.findings in
    let there : IsAmong y level = element level c.loop-place.place y c.at.ensures in
    let more : one ≡ done ++ y ∷ [] = taken level c.loop-place.place y c.at.ensures in
    record {
      so_far = λ known later m. subst (λ ys. LevelSoFar c.args.delivery (of_module (g.W.Worlds.agrees known) m) flags begun ys new after) (sym more) (level_more c.args.delivery (of_module (g.W.Worlds.agrees known) m) flags begun done y old new before after (c.loop-place.invariant.so_far known (c.in_ok-expand.ensures.grows.passes known later) m) (c.in_ok-expand.ensures.expands known later m));
      notes = λ known later m. noting.level_more (of_module (g.W.Worlds.agrees known) m) flags c.args.delivery level y begun before after there (c.loop-place.invariant.notes known (c.in_ok-expand.ensures.grows.passes known later) m) (c.in_ok-expand.ensures.notes known later m);
      of_known = c.in_ok-expand.ensures.of_known c.loop-place.invariant.of_known;
      grows = grows_on c.loop-place.invariant.grows c.in_ok-expand.ensures.grows;
      fewer = omega (arith, c.loop-place.invariant.fewer, c.in_ok-expand.ensures.fewer);
    }

pub returns-clause-goes_on : goal.returns-clause-goes_on
returns-clause-goes_on g c = λ known later m.
    let flags = flags_in c.args.flags in
    let begun = c.args.findings.now in
    let level = c.args.level.now.rows in
    let next = c.loop-place.next.rows in
    goes_on c.args.delivery (of_module (g.W.Worlds.agrees known) m) flags begun level next c.loop-place.findings
    (subst (λ ys. LevelSoFar c.args.delivery (of_module (g.W.Worlds.agrees known) m) flags begun ys next c.loop-place.findings) (take_all c.loop-place.place level (omega (arith, c.loop-place-test.false, c.len-place-end.ensures))) (c.loop-place.invariant.so_far known later m))
