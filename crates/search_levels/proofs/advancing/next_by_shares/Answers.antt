use Rattle.std.proofs.Common.{◌≡◌, ◌∙◌, ◌+◌, ◌<◌, ◌≤◌, [], ℕ, List, Some, IfOk, ap, arith, drop, length, refl, slice_get, slice_range, subst, sym, take, take_all}
use Rattle.std.proofs.lemmas.List.{drop_all}
use Rattle.std.proofs.lemmas.Option.{slice_get_read}
use Rattle.search_levels.specs.Arrivals.{of_module}
use Rattle.search_levels.specs.inside.Expanding.{LevelSoFar}
use Rattle.search_levels.specs.inside.Following.{AreFollowed, AreKnownArrivals, AreShares}
use Rattle.search_levels.specs.declared.share.Share.{Share}
use Rattle.search_levels.proofs.Going.{goes_on, left_at, level_none}
use Rattle.search_levels.proofs.Known.{grows_on, stays}
use Rattle.search_levels.proofs.Merging.{still_followed}
use Rattle.search_levels.proofs.Noting as noting
use Rattle.world_identities.specs.Identities.{flags_in}
use Rattle.world_model.specs.Names.{IsAmong}
use Rattle.search_levels.proofs.advancing.next_by_shares.Goals as goal

-- one share, and those that are left
next_share : (at end i : ℕ) (shares : List Share) (share : Share) → slice_get shares i ≡ Some share → AreShares at end (drop i shares) → (share.first ≡ at) × (at ≤ share.last) × (share.last ≤ end) × AreShares share.last end (drop (i + 1) shares)
next_share at end i shares share is are = subst (AreShares at end) (left_at shares i share is) are

pub loop-i-init : goal.loop-i-init
loop-i-init g c = record {
  so_far = (0, subst (λ n. AreShares 0 n c.in_ok-shares.shares.items) c.len.ensures c.in_ok-shares.ensures, λ known later m. subst (λ xs. LevelSoFar c.args.delivery (of_module (g.W.Worlds.agrees known) m) (flags_in c.args.flags) c.args.findings.now [] xs c.args.findings.now) (sym c.new-next.ensures) (level_none c.args.delivery (of_module (g.W.Worlds.agrees known) m) (flags_in c.args.flags) c.args.findings.now));
  notes = λ known later m. noting.level_none (of_module (g.W.Worlds.agrees known) m) (flags_in c.args.flags) c.args.delivery c.args.level.now.rows c.args.findings.now;
  of_known = λ x there. absurd (subst (IsAmong x) c.new-next.ensures there);
  grows = stays c.args.worlds.now;
  fewer = omega arith;
}

pub index-requires : goal.index-requires
index-requires g c = omega (arith, c.in_ok-followed.ensures.count, ap length c.as_slice.ensures.value, c.loop-i-test.true, c.len-i-end.ensures, c.in_ok-shares.shares.ok.0)

pub merge-requires-clause-followed : goal.merge-requires-clause-followed
merge-requires-clause-followed g c =
    let i = c.loop-i.i in
    let shares = c.in_ok-shares.shares.items in
    let share = c.index-share.result.now in
    let level = c.args.level.now.rows in
    let followed = c.in_ok-followed.followed.items in
    let AreAll = AreKnownArrivals g.W.Worlds.agrees g.W.Worlds.is_of g.W.Worlds.follows c.args.worlds.now c.args.delivery in
    let within : i < length shares = omega (arith, c.loop-i-test.true, c.len-i-end.ensures, c.in_ok-shares.shares.ok.0) in
    let there : slice_get shares i ≡ Some share = slice_get_read shares (length shares) i share refl within c.index-share.ensures in
    let among : i < length followed = omega (arith, c.in_ok-followed.ensures.count, ap length c.as_slice.ensures.value, within, c.in_ok-followed.followed.ok.0) in
    let got = slice_get_read followed (length followed) i c.index.result.now refl among c.index.ensures in
    let within_slice : i < length c.as_slice.result.now = omega (arith, within, ap length c.as_slice.ensures.value) in
    let is = c.in_ok-followed.ensures.each i c.index.result.now within_slice got share (ap (λ xs. slice_get xs i) c.as_slice.ensures.value ∙ there) in
    still_followed g.W.Worlds.agrees g.W.Worlds.is_of g.W.Worlds.follows c.args.worlds.now c.loop-i.worlds c.loop-i.invariant.grows c.args.delivery [] c.in-Ok.part.arrivals 0 (slice_range level share.first share.last) c.in-Ok.part.ends.items
    (subst (λ r. IfOk r (λ f. AreFollowed AreAll [] f.arrivals 0 (slice_range level share.first share.last) f.ends.items)) c.in-Ok.is is)

pub returns-in_err-merge-clause-notes : goal.returns-in_err-merge-clause-notes
returns-in_err-merge-clause-notes g c = λ known later m.
    noting.level_both (of_module (g.W.Worlds.agrees known) m) (flags_in c.args.flags) c.args.delivery c.args.level.now.rows c.args.findings.now c.loop-i.findings c.merge.new.findings (c.loop-i.invariant.notes known (c.in_err-merge.ensures.grows.passes known later) m) (c.in_err-merge.ensures.notes known later m)

pub loop-i-preserved : goal.loop-i-preserved
loop-i-preserved g c =
    let d = c.args.delivery in
    let flags = flags_in c.args.flags in
    let level = c.args.level.now.rows in
    let i = c.loop-i.i in
    let shares = c.in_ok-shares.shares.items in
    let share = c.index-share.result.now in
    let inv = c.loop-i.invariant in
    let ens = c.in_ok-merge.ensures in
    let within : i < length shares = omega (arith, c.loop-i-test.true, c.len-i-end.ensures, c.in_ok-shares.shares.ok.0) in
    let there : slice_get shares i ≡ Some share = slice_get_read shares (length shares) i share refl within c.index-share.ensures in
    let next = next_share inv.so_far.0 (length level) i shares share there inv.so_far.1 in
    record {
      so_far = (
        share.last,
        next.3,
        λ known later m. ens.goes_on known later m c.args.findings.now (subst (λ n. LevelSoFar d (of_module (g.W.Worlds.agrees known) m) flags c.args.findings.now (take n level) c.loop-i.next.rows c.loop-i.findings) (sym next.0) (inv.so_far.2 known (ens.grows.passes known later) m)),
      );
      notes = λ known later m. noting.level_both (of_module (g.W.Worlds.agrees known) m) flags d level c.args.findings.now c.loop-i.findings c.merge.new.findings (inv.notes known (ens.grows.passes known later) m) (ens.notes known later m);
      of_known = ens.of_known inv.of_known;
      grows = grows_on inv.grows ens.grows;
      fewer = omega (arith, inv.fewer, ens.fewer);
    }

pub returns-in_err-merge-clause-grows : goal.returns-in_err-merge-clause-grows
returns-in_err-merge-clause-grows g c = grows_on c.loop-i.invariant.grows c.in_err-merge.ensures.grows

pub returns-clause-goes_on : goal.returns-clause-goes_on
returns-clause-goes_on g c = λ known later m.
    let d = c.args.delivery in
    let flags = flags_in c.args.flags in
    let level = c.args.level.now.rows in
    let so_far = c.loop-i.invariant.so_far in
    let shares = c.in_ok-shares.shares.items in
    let all : drop c.loop-i.i shares ≡ [] = drop_all c.loop-i.i shares (omega (arith, c.loop-i-test.false, c.len-i-end.ensures, c.in_ok-shares.shares.ok.0)) in
    let at : so_far.0 ≡ length level = subst (AreShares so_far.0 (length level)) all so_far.1 in
    goes_on d (of_module (g.W.Worlds.agrees known) m) flags c.args.findings.now level c.loop-i.next.rows c.loop-i.findings
    (subst (λ ys. LevelSoFar d (of_module (g.W.Worlds.agrees known) m) flags c.args.findings.now ys c.loop-i.next.rows c.loop-i.findings) (take_all so_far.0 level (omega (arith, at))) (so_far.2 known later m))
