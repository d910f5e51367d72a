use Rattle.std.proofs.Common.{◌∙◌, sym}
use Rattle.proc_links.proofs.Alike.{targets_told}
use Rattle.proc_links.proofs.watchers.Watches.is_same.Goals as goal

pub returns : goal.returns
returns c = λ e. record {
  watchers = c.is_same.ensures c.if-not-is_same.false;
  targets = λ id. sym (targets_told c.args.self.now.targets c.args.other.now.targets (sym c.eq.ensures ∙ e) id);
}
