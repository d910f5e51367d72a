use Rattle.std.proofs.Common.{◌≡◌, ◌∙◌, true, sym, subst}
use Rattle.proc_links.specs.Bearers.{AreSame}
use Rattle.proc_links.specs.Names.{IsUnchanged}
use Rattle.proc_links.specs.declared.names.Bearers.{Bearers}
use Rattle.proc_links.proofs.Alike.{names_of_both}
use Rattle.proc_links.proofs.names.Names.is_same.Goals as goal

pub returns : goal.returns
returns c =
    let both : c.is_same.result ≡ true → IsUnchanged c.args.self.now c.args.other.now = λ e. names_of_both c.args.self.now c.args.other.now (subst (λ (b : Bearers). AreSame b c.args.other.now.bearers.value) c.deref.ensures (subst (λ (b : Bearers). AreSame c.deref.result.now b) c.deref-2.ensures (c.is_same.ensures e))) in
    record {
      same = λ e. both e;
      holders = λ e v are m. sym ((both e).holders m) ∙ are m;
      listed = λ e v are m. sym ((both e).holders m) ∙ are m;
      names = λ e v are r. sym ((both e).names r) ∙ are r;
    }
