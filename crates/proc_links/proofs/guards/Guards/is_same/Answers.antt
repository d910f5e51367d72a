use Rattle.std.proofs.Common.{◌≡◌, ◌∙◌, true, sym, ap}
use Rattle.proc_links.specs.Guards.{IsUnchanged}
use Rattle.proc_links.proofs.Alike.{guards_told, guards_of_both}
use Rattle.proc_links.proofs.guards.Guards.is_same.Goals as goal

pub returns : goal.returns
returns c =
    let both : c.eq.result ≡ true → IsUnchanged c.args.self.now c.args.other.now = λ e. guards_of_both c.args.self.now c.args.other.now (sym (ap (λ m. m.entries) c.deref.ensures) ∙ guards_told c.deref.result.now c.deref-2.result.now (sym c.eq.ensures ∙ e) ∙ ap (λ m. m.entries) c.deref-2.ensures) in
    record {
      same = λ e. both e;
      agrees = λ e v are ref. sym (both e ref) ∙ are ref;
    }
