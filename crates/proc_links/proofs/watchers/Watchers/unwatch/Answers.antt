use Rattle.std.proofs.Common.{ap, is_ok, rules}
use Rattle.proc_links.proofs.Watching.{same_watches, now_unwatched, watchers_over, watches_over}
use Rattle.proc_links.proofs.watchers.Watchers.unwatch.Goals as goal

pub returns : goal.returns
returns c =
    let old = c.args.self.now in
    let over = now_unwatched old record { watches = c.make_mut.follows.lender c.unwatch.new.self } _ c.unwatch.new.self c.args.reference.now c.args.target.now
    (same_watches _ _ c.in_ok-watches.ensures.value) c.unwatch.ensures.watchers c.unwatch.ensures.targets (c.make_mut.follows.holds c.unwatch.new.self (ap is_ok c.in_ok-watches.was)) in
    record {
      ok = over;
      watchers = λ v r reason told. watchers_over _ _ _ _ v over told;
      watches = λ v r reason told. watches_over _ _ _ _ v over told;
      err = search rules;
    }
