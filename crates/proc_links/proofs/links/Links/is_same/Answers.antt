use Rattle.std.proofs.Common.{◌∙◌, sym}
use Rattle.proc_links.proofs.Alike.{members_of_both}
use Rattle.proc_links.proofs.links.Links.is_same.Goals as goal

pub returns : goal.returns
returns c = record {
  same = λ e r. members_of_both c.deref.ensures c.deref-2.ensures (c.is_same.ensures e) r;
  agrees = λ e v are r. sym (members_of_both c.deref.ensures c.deref-2.ensures (c.is_same.ensures e) r) ∙ are r;
}
