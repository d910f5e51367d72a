use Rattle.std.proofs.Common.{◌≡◌, ◌∙◌, ap, map}
use Rattle.std.specs.List.{filter}
use Rattle.world_model.specs.Names.{ref_of}
use Rattle.proc_links.specs.Watchers.{watchers_in}
use Rattle.proc_links.proofs.Telling.{watchers_are_told, refs_filtered}
use Rattle.proc_links.proofs.watchers.Watchers.told.Goals as goal

pub returns : goal.returns
returns g c =
    let lives = g.L.Living.lives c.args.living.now in
    let told : map ref_of c.in_ok-told.told.items ≡ filter (λ ref. lives ref.pid) (watchers_in c.args.self.now c.args.pid.now) =
    ap (map ref_of) c.in_ok-told.ensures ∙ refs_filtered lives _ ∙ ap (filter (λ ref. lives ref.pid)) c.watchers_of.ensures in
    record {
      told = told;
      cells = λ v reason agrees alive. watchers_are_told v c.args.pid.now reason lives _ _ _ (agrees c.args.pid.now) alive told;
    }
