use Rattle.std.proofs.Common.{◌∙◌, Bor, map, ap, subst, sym}
use Rattle.term_core.specs.declared.pid.RefId.{RefId}
use Rattle.world_model.specs.Names.{ref_of}
use Rattle.world_model.specs.Changes.{AliveCleared, changed}
use Rattle.world_model.specs.Ends.{reads_of_tables, tables_pass}
use Rattle.std.proofs.lemmas.Iterator.Consumers.{YieldsList-end, YieldsList-from_rest}
use Rattle.world_planned.specs.inside.Planned.{Adds}
use Rattle.world_planned.proofs.Adding.{adds_as, adds_then}
use Rattle.world_planned.proofs.Ending.{map_more, reads_more, tables_more}
use Rattle.world_planned.proofs.tables.end_each.Goals as goal

pub loop-id-preserved : goal.loop-id-preserved
loop-id-preserved c = λ links w sees.
    let p = c.args.pid.now in
    let u = changed (AliveCleared p) w in
    let id = c.in-Some.id in
    let now = λ (x : Bor RefId). x.now in
    let more = map_more ref_of now c.loop-id.yielded id in
    let ts = map ref_of (map now c.loop-id.yielded) in
    adds_as _ _ _ _ _ _ (sym (ap (reads_of_tables w) more ∙ reads_more w ts (ref_of id.now)))
    (sym (ap (tables_pass u p) more ∙ tables_more u p ts (ref_of id.now)))
    (adds_then _ _ _ _ _ _ _ (c.loop-id.invariant links w sees) (c.in_ok-end_table.ensures links w sees))

pub returns : goal.returns
returns c = λ links w sees.
    let p = c.args.pid.now in
    let u = changed (AliveCleared p) w in
    let all = YieldsList-end (YieldsList-from_rest c.args.owned.now.keys cc) c.loop-id.yielded _ c.loop-id.yielded_by _ _ c.in-None.is c.next.ensures.steps in
    subst (λ ids. Adds (reads_of_tables w (map ref_of ids)) (tables_pass u p (map ref_of ids)) c.args.planned.now c.loop-id.planned) all.0 (c.loop-id.invariant links w sees)
