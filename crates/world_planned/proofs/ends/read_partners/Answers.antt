use Rattle.std.proofs.Common.{◌∙◌, [], Bor, map, ap, refl, subst, sym}
use Rattle.std.proofs.lemmas.Iterator.Consumers.{YieldsList-end, YieldsList-from_rest}
use Rattle.term_core.specs.declared.pid.Pid.{Pid}
use Rattle.world_model.specs.Cells as cells
use Rattle.world_planned.specs.inside.Planned.{Adds}
use Rattle.world_planned.proofs.Adding.{adds_as, adds_none, adds_then}
use Rattle.world_planned.proofs.Ending.{map_more}
use Rattle.world_planned.proofs.ends.read_partners.Goals as goal

pub returns-in_default : goal.returns-in_default
returns-in_default c = adds_as _ _ _ _ _ _ (ap (map cells.Alive) c.in_default.ensures) refl (adds_none c.args.planned.now)

pub loop-partner-preserved : goal.loop-partner-preserved
loop-partner-preserved c =
    adds_as _ _ _ _ _ _ (sym (map_more cells.Alive (λ (x : Bor Pid). x.now) c.loop-partner.yielded c.in-Some-partner.partner)) refl
    (adds_then _ _ _ _ _ _ _ c.loop-partner.invariant c.in_ok-read_process.ensures)

pub returns : goal.returns
returns c =
    let all = YieldsList-end (YieldsList-from_rest c.in-Some.partners.now.keys cc) c.loop-partner.yielded _ c.loop-partner.yielded_by _ _ c.in-None.is c.next.ensures.steps in
    subst (λ qs. Adds (map cells.Alive qs) [] c.args.planned.now c.loop-partner.planned) (all.0 ∙ c.in-Some.ensures) c.loop-partner.invariant
