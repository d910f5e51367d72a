use Rattle.std.proofs.Common.{◌≡◌, true, subst}
use Rattle.ets_tables.specs.Shelves.{AreSame}
use Rattle.ets_tables.specs.declared.shelves.Shelves.{Shelves}
use Rattle.ets_tables.proofs.Alike.{shelved_too}
use Rattle.ets_tables.proofs.registry.Registry.is_same.Goals as goal

pub returns : goal.returns
returns c =
    let one = c.args.self.now.shelves.value in
    let other = c.args.other.now.shelves.value in
    let both : c.is_same.result ≡ true → AreSame one other = λ e. subst (λ (s : Shelves). AreSame s other) c.deref.ensures (subst (λ (s : Shelves). AreSame c.deref.result.now s) c.deref-2.ensures (c.is_same.ensures e)) in
    record {
      same = λ e. both e;
      agrees = λ e v are. shelved_too one other v (both e) are;
    }
