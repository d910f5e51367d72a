use Rattle.std.proofs.Common.{ap, is_ok, rules}
use Rattle.proc_links.proofs.Watching.{same_watches, now_watched, watchers_begun, watches_begun}
use Rattle.proc_links.proofs.watchers.Watchers.watch.Goals as goal

pub returns : goal.returns
returns c =
    let old = c.args.self.now in
    let begun = now_watched old record { watches = c.make_mut.follows.lender c.watch.new.self } _ c.watch.new.self c.args.reference.now c.args.target.now
    (same_watches _ _ c.in_ok-watches.ensures.value) c.in_ok-watch.ensures.watchers c.in_ok-watch.ensures.targets (c.make_mut.follows.holds c.watch.new.self (ap is_ok c.in_ok-watches.was)) in
    record {
      ok = begun;
      watchers = λ v told. watchers_begun _ _ _ _ v begun told;
      watches = λ v told. watches_begun _ _ _ _ v begun told;
      err = search rules;
    }
