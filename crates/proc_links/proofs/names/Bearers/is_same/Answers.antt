use Rattle.std.proofs.Common.{◌∙◌, sym}
use Rattle.proc_links.proofs.Alike.{not_off, borne_told}
use Rattle.proc_links.proofs.names.Bearers.is_same.Goals as goal

pub returns : goal.returns
returns c = λ e. record {
  holders = λ m. sym (borne_told c.args.self.now.holders c.args.other.now.holders (not_off _ c.if-ne.ensures) m);
  names = λ r. sym (borne_told c.args.self.now.names c.args.other.now.names (sym c.eq.ensures ∙ e) r);
}
