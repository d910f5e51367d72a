use Rattle.std.proofs.Common.{◌≡◌, ◌∙◌, true, sym, subst}
use Rattle.proc_links.specs.inside.Watched.{AreSame}
use Rattle.proc_links.specs.Watchers.{IsUnchanged}
use Rattle.proc_links.specs.declared.watchers.Watches.{Watches}
use Rattle.proc_links.proofs.Alike.{watches_of_both}
use Rattle.proc_links.proofs.watchers.Watchers.is_same.Goals as goal

pub returns : goal.returns
returns c =
    let both : c.is_same.result ≡ true → IsUnchanged c.args.self.now c.args.other.now = λ e. watches_of_both c.args.self.now c.args.other.now (subst (λ (w : Watches). AreSame w c.args.other.now.watches.value) c.deref.ensures (subst (λ (w : Watches). AreSame c.deref.result.now w) c.deref-2.ensures (c.is_same.ensures e))) in
    record {
      same = λ e. both e;
      watchers = λ e v are p. sym ((both e).watchers p) ∙ are p;
      watches = λ e v are ref. sym ((both e).watches ref) ∙ are ref;
    }
