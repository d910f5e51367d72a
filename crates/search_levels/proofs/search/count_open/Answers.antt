use Rattle.std.proofs.Common.{true, false, ◌≡◌, ◌∙◌, ◌∷◌, ◌++◌, ◌+◌, ◌≤◌, [], arith, sym, subst, take, take_all}
use Rattle.search_levels.specs.Arrivals.{has_step, of_module}
use Rattle.search_levels.specs.Known.{FromNowOn}
use Rattle.search_levels.specs.inside.Visits.{entry_of}
use Rattle.search_levels.specs.inside.Searching.{TellsOpen}
use Rattle.search_levels.proofs.Ending.{no_more, one_more}
use Rattle.search_levels.proofs.Going.{element, taken}
use Rattle.search_levels.proofs.Known.{grows_on, stays}
use Rattle.search_levels.proofs.search.count_open.Goals as goal
use Rattle.search_levels.proofs.search.count_open.Goals.{then-branch, else-branch}

pub loop-place-init : goal.loop-place-init
loop-place-init g c = record {
  tells = λ known later m a x there. absurd there;
  grows = stays c.args.worlds.now;
  few = omega arith;
}

pub goes_on-requires : goal.goes_on-requires
goes_on-requires g c =
    let y = entry_of c.at.result in
    c.loop-place.invariant.grows.keeps y.row (c.requires y (element c.args.level.now.rows c.loop-place.place y c.at.ensures))

pub loop-place-preserved : goal.loop-place-preserved
loop-place-preserved g c =
    let level = c.args.level.now.rows in
    let i = c.loop-place.place in
    let y = entry_of c.at.result in
    let done = take i level in
    let now = c.if-branch.count in
    let more : take (i + 1) level ≡ done ++ y ∷ [] = taken level i y c.at.ensures in
    let tells : FromNowOn g.W.Worlds.follows c.goes_on.new.self (λ known m. TellsOpen (of_module (g.W.Worlds.agrees known) m) (done ++ y ∷ []) now) = λ known later m. elim c.if-branch.branch [
      | then-branch w ↦ one_more (of_module (g.W.Worlds.agrees known) m) done y c.loop-place.count now w.count-is (λ a h p. subst (λ b. has_step b h ≡ true) p.0 (sym (c.in_ok-goes_on.ensures.goes_on known later m h p.1) ∙ w.if-branch.true))
      | else-branch w ↦ subst (TellsOpen (of_module (g.W.Worlds.agrees known) m) (done ++ y ∷ [])) (sym w.count-is) (no_more (of_module (g.W.Worlds.agrees known) m) done y c.loop-place.count (c.loop-place.invariant.tells known (c.in_ok-goes_on.ensures.grows.passes known later) m) (λ a h p. subst (λ b. has_step b h ≡ false) p.0 (sym (c.in_ok-goes_on.ensures.goes_on known later m h p.1) ∙ w.if-branch.false)))
    ] in
    let few : now ≤ i + 1 = elim c.if-branch.branch [
      | then-branch w ↦ omega (arith, w.count-is, c.loop-place.invariant.few)
      | else-branch w ↦ omega (arith, w.count-is, c.loop-place.invariant.few)
    ] in
    record {
      tells = λ known later m. subst (λ xs. TellsOpen (of_module (g.W.Worlds.agrees known) m) xs now) (sym more) (tells known later m);
      grows = grows_on c.loop-place.invariant.grows c.in_ok-goes_on.ensures.grows;
      few = few;
    }

pub returns-in_err-goes_on-clause-grows : goal.returns-in_err-goes_on-clause-grows
returns-in_err-goes_on-clause-grows g c = grows_on c.loop-place.invariant.grows c.in_err-goes_on.ensures.grows

pub returns-clause-tells : goal.returns-clause-tells
returns-clause-tells g c = λ known later m.
    let level = c.args.level.now.rows in
    subst (λ xs. TellsOpen (of_module (g.W.Worlds.agrees known) m) xs c.loop-place.count) (take_all c.loop-place.place level (omega (arith, c.loop-place-test.false, c.len-place-end.ensures))) (c.loop-place.invariant.tells known later m)
