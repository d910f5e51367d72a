use Rattle.std.proofs.Common.{◌≡◌, ◌∙◌, ap}
use Rattle.std.specs.List.{filter}
use Rattle.proc_links.specs.Links.{partners_in}
use Rattle.proc_links.proofs.Telling.{partners_are_told}
use Rattle.proc_links.proofs.links.Links.told.Goals as goal

pub returns : goal.returns
returns g c =
    let told : c.in_ok-told.told.items ≡ filter (g.L.Living.lives c.args.living.now) (partners_in c.args.self.now c.args.pid.now) = c.in_ok-told.ensures ∙ ap (filter (g.L.Living.lives c.args.living.now)) c.partners.ensures in
    record {
      told = told;
      cells = λ v reason agrees alive. partners_are_told v c.args.pid.now reason (g.L.Living.lives c.args.living.now) _ _ _ (agrees c.args.pid.now) alive told;
    }
