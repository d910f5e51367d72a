use Rattle.std.proofs.Common.{◌∷◌, ◌++◌, ◌∙◌, [], Bor, map, ap, refl, subst, sym}
use Rattle.std.proofs.lemmas.Iterator.Consumers.{YieldsList-end, YieldsList-from_rest}
use Rattle.term_core.specs.declared.pid.RefId.{RefId}
use Rattle.world_model.specs.Cells as cells
use Rattle.world_model.specs.Names.{Ref, ref_of}
use Rattle.world_planned.specs.inside.Planned.{Adds}
use Rattle.world_planned.proofs.Adding.{adds_as, adds_none, adds_then, map_both}
use Rattle.world_planned.proofs.Ending.{map_more}
use Rattle.world_planned.proofs.ends.read_makers.Goals as goal

pub returns-in_default : goal.returns-in_default
returns-in_default c = adds_as _ _ _ _ _ _ (ap (map (λ (ref : Ref). cells.Alive ref.pid)) c.in_default.ensures) refl (adds_none c.args.planned.now)

pub loop-reference-preserved : goal.loop-reference-preserved
loop-reference-preserved c =
    let now = λ (x : Bor RefId). x.now in
    let refs = map ref_of (map now c.loop-reference.yielded) in
    let id = c.in-Some-reference.reference in
    let all = ap (map (λ (ref : Ref). cells.Alive ref.pid)) (map_more ref_of now c.loop-reference.yielded id) ∙ map_both (λ (ref : Ref). cells.Alive ref.pid) refs (ref_of id.now ∷ []) in
    adds_as _ _ _ _ _ _ (ap (λ q. map (λ (ref : Ref). cells.Alive ref.pid) refs ++ cells.Alive q ∷ []) c.pid.ensures ∙ sym all) refl
    (adds_then _ _ _ _ _ _ _ c.loop-reference.invariant c.in_ok-read_process.ensures)

pub returns : goal.returns
returns c =
    let all = YieldsList-end (YieldsList-from_rest c.in-Some.references.now.keys cc) c.loop-reference.yielded _ c.loop-reference.yielded_by _ _ c.in-None.is c.next.ensures.steps in
    subst (λ refs. Adds (map (λ (ref : Ref). cells.Alive ref.pid) refs) [] c.args.planned.now c.loop-reference.planned) (ap (map ref_of) all.0 ∙ c.in-Some.ensures) c.loop-reference.invariant
