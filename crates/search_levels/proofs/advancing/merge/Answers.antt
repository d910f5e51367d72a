use Rattle.std.proofs.Common.{◌≡◌, ◌∙◌, ◌∷◌, ◌++◌, ◌+◌, ◌-◌, ◌<◌, ◌≤◌, [], ℕ, Option, List, Some, arith, drop, length, refl, slice_get, slice_range, subst, sym, take}
use Rattle.std.proofs.lemmas.Option.{slice_get_read}
use Rattle.search_levels.specs.Arrivals.{Arrived, of_module}
use Rattle.search_levels.specs.inside.Expanding.{GoesFrom, LevelSoFar}
use Rattle.search_levels.specs.inside.Following.{AreFollowed, AreKnownArrivals, IsMerged}
use Rattle.search_levels.specs.inside.Visits.{Visit, entry_of}
use Rattle.search_levels.proofs.Going.{element, left_at, level_more, range_first, range_length, taken}
use Rattle.search_levels.proofs.Known.{grows_on, stays}
use Rattle.search_levels.proofs.Merging.{merged_next, ready, still_ready}
use Rattle.search_levels.proofs.Noting as noting
use Rattle.search_levels.proofs.Thinning.{followed_length}
use Rattle.world_identities.specs.Identities.{flags_in}
use Rattle.search_levels.proofs.advancing.merge.Goals as goal

-- the states that are left, and their ends, from one place on
module _ (AreAll : List ℕ → List Arrived → Type 0) (ks : List Arrived) (at first place last : ℕ) (level next : List Visit) (ends : List (Option ℕ)) where
  left_from : (x : Visit) (e : Option ℕ) → place < last → slice_get level place ≡ Some x → slice_get ends (place - first) ≡ Some e
      → IsMerged AreAll ks at (slice_range level place last) (drop (place - first) ends) next → IsMerged AreAll ks at (x ∷ slice_range level (place + 1) last) (e ∷ drop (place - first + 1) ends) next
  left_from x e lt is end merged =
      subst (λ xs. IsMerged AreAll ks at xs (e ∷ drop (place - first + 1) ends) next) (range_first level place last x lt is) (subst (λ es. IsMerged AreAll ks at (slice_range level place last) es next) (left_at ends (place - first) e end) merged)

-- each place of the share has its end
has_end : (AreAll : List ℕ → List Arrived → Type 0) (ks : List Arrived) (level : List Visit) (ends : List (Option ℕ)) (first place last : ℕ) → AreFollowed AreAll [] ks 0 (slice_range level first last) ends → first ≤ place → place < last → last ≤ length level → place - first < length ends
has_end AreAll ks level ends first place last are forward lt within =
    let long : length ends ≡ last - first = followed_length AreAll [] ks 0 (slice_range level first last) ends are ∙ range_length level first last (omega (arith, forward, lt)) within in
    omega (arith, long, forward, lt)

pub loop-place-init : goal.loop-place-init
loop-place-init g c =
    let AreAll = AreKnownArrivals g.W.Worlds.agrees g.W.Worlds.is_of g.W.Worlds.follows c.args.worlds.now c.args.delivery in
    let first = c.args.share.first in
    let ends = c.args.followed.now.ends.items in
    let none : first - first ≡ 0 = omega arith in
    record {
      goes_on = λ known later m begun before. before;
      notes = λ known later m. noting.level_none (of_module (g.W.Worlds.agrees known) m) (flags_in c.args.flags) c.args.delivery c.args.level.now.rows c.args.findings.now;
      of_known = λ read. read;
      grows = stays c.args.worlds.now;
      merged = subst (λ n. IsMerged AreAll c.args.followed.now.arrivals 0 (slice_range c.args.level.now.rows first c.args.share.last) (drop n ends) c.args.next.now.rows) (sym none) (record { rows = []; followed = c.requires.followed; have = λ row there. absurd there });
      forward = omega arith;
      fewer = omega arith;
    }

pub merge_one-requires-clause-read : goal.merge_one-requires-clause-read
merge_one-requires-clause-read g c =
    let x = entry_of c.at.result in
    c.loop-place.invariant.grows.keeps x.row (c.requires.read x (element c.args.level.now.rows c.loop-place.place x c.at.ensures))

pub index-requires : goal.index-requires
index-requires g c =
    let AreAll = AreKnownArrivals g.W.Worlds.agrees g.W.Worlds.is_of g.W.Worlds.follows c.args.worlds.now c.args.delivery in
    let within = has_end AreAll c.args.followed.now.arrivals c.args.level.now.rows c.args.followed.now.ends.items c.args.share.first c.loop-place.place c.args.share.last c.requires.followed c.loop-place.invariant.forward c.loop-place-test.true c.requires.within in
    omega (arith, within, c.args.followed.now.ends.ok.0)

pub merge_one-requires-clause-ready : goal.merge_one-requires-clause-ready
merge_one-requires-clause-ready g c =
    let before = c.args.worlds.now in
    let now = c.loop-place.worlds in
    let Agrees = g.W.Worlds.agrees in
    let IsOf = g.W.Worlds.is_of in
    let Follows = g.W.Worlds.follows in
    let AreAll = AreKnownArrivals Agrees IsOf Follows before c.args.delivery in
    let ks = c.args.followed.now.arrivals in
    let ends = c.args.followed.now.ends.items in
    let x = entry_of c.at.result in
    let e = c.index.result.now in
    let at = c.loop-place.place - c.args.share.first in
    let end : slice_get ends at ≡ Some e = slice_get_read ends (length ends) at e refl (has_end AreAll ks c.args.level.now.rows ends c.args.share.first c.loop-place.place c.args.share.last c.requires.followed c.loop-place.invariant.forward c.loop-place-test.true c.requires.within) c.index.ensures in
    still_ready Agrees IsOf Follows before now c.loop-place.invariant.grows c.args.delivery x ks c.loop-place.at e c.loop-place.next.rows
    (ready AreAll ks c.loop-place.at x (slice_range c.args.level.now.rows (c.loop-place.place + 1) c.args.share.last) e (drop (at + 1) ends) c.loop-place.next.rows (left_from AreAll ks c.loop-place.at c.args.share.first c.loop-place.place c.args.share.last c.args.level.now.rows c.loop-place.next.rows ends x e c.loop-place-test.true c.at.ensures end c.loop-place.invariant.merged))

pub loop-place-preserved : goal.loop-place-preserved
loop-place-preserved g c =
    let flags = flags_in c.args.flags in
    let d = c.args.delivery in
    let level = c.args.level.now.rows in
    let place = c.loop-place.place in
    let inv = c.loop-place.invariant in
    let ens = c.in_ok-at.ensures in
    let AreAll = AreKnownArrivals g.W.Worlds.agrees g.W.Worlds.is_of g.W.Worlds.follows c.args.worlds.now d in
    let ks = c.args.followed.now.arrivals in
    let ends = c.args.followed.now.ends.items in
    let x = entry_of c.at.result in
    let e = c.index.result.now in
    let i = place - c.args.share.first in
    let old = c.loop-place.next.rows in
    let new = c.merge_one.new.next.rows in
    let end : slice_get ends i ≡ Some e = slice_get_read ends (length ends) i e refl (has_end AreAll ks level ends c.args.share.first place c.args.share.last c.requires.followed inv.forward c.loop-place-test.true c.requires.within) c.index.ensures in
    let more : take (place + 1) level ≡ take place level ++ x ∷ [] = taken level place x c.at.ensures in
    let next : i + 1 ≡ place + 1 - c.args.share.first = omega (arith, inv.forward) in
    record {
      goes_on = λ known later m begun before. subst (λ ys. LevelSoFar d (of_module (g.W.Worlds.agrees known) m) flags begun ys new c.merge_one.new.findings) (sym more)
          (level_more d (of_module (g.W.Worlds.agrees known) m) flags begun (take place level) x old new c.loop-place.findings c.merge_one.new.findings (inv.goes_on known (ens.grows.passes known later) m begun before) (ens.expands known later m));
      notes = λ known later m. noting.level_more (of_module (g.W.Worlds.agrees known) m) flags d level x c.args.findings.now c.loop-place.findings c.merge_one.new.findings (element level place x c.at.ensures) (inv.notes known (ens.grows.passes known later) m) (ens.notes known later m);
      of_known = λ read. ens.of_known (inv.of_known read);
      grows = grows_on inv.grows ens.grows;
      merged = subst (λ n. IsMerged AreAll ks c.in_ok-at.at (slice_range level (place + 1) c.args.share.last) (drop n ends) new) next
          (subst (λ n. IsMerged AreAll ks n (slice_range level (place + 1) c.args.share.last) (drop (i + 1) ends) new) (sym ens.place)
          (merged_next AreAll ks c.loop-place.at x (slice_range level (place + 1) c.args.share.last) e (drop (i + 1) ends) old new (left_from AreAll ks c.loop-place.at c.args.share.first place c.args.share.last level old ends x e c.loop-place-test.true c.at.ensures end inv.merged) ens.rows));
      forward = omega (arith, inv.forward);
      fewer = omega (arith, inv.fewer, ens.fewer);
    }

pub returns-in_err-at-clause-notes : goal.returns-in_err-at-clause-notes
returns-in_err-at-clause-notes g c = λ known later m.
    let x = entry_of c.at.result in
    noting.level_more (of_module (g.W.Worlds.agrees known) m) (flags_in c.args.flags) c.args.delivery c.args.level.now.rows x c.args.findings.now c.loop-place.findings c.merge_one.new.findings (element c.args.level.now.rows c.loop-place.place x c.at.ensures)
    (c.loop-place.invariant.notes known (c.in_err-at.ensures.grows.passes known later) m) (c.in_err-at.ensures.notes known later m)

pub returns-in_err-at-clause-grows : goal.returns-in_err-at-clause-grows
returns-in_err-at-clause-grows g c = grows_on c.loop-place.invariant.grows c.in_err-at.ensures.grows

pub returns-clause-goes_on : goal.returns-clause-goes_on
returns-clause-goes_on g c = λ known later m.
    let place = c.loop-place.place in
    let is : place ≡ c.args.share.last = omega (arith, c.loop-place-test.false, c.loop-place.auto.place-end c.requires.forward) in
    subst (λ n. GoesFrom c.args.delivery (of_module (g.W.Worlds.agrees known) m) (flags_in c.args.flags) (take c.args.share.first c.args.level.now.rows) (take n c.args.level.now.rows) c.args.next.now.rows c.loop-place.next.rows c.args.findings.now c.loop-place.findings) is (c.loop-place.invariant.goes_on known later m)
