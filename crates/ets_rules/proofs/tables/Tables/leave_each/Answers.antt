use Rattle.std.proofs.Common.{[], ◌∷◌, ◌++◌, List, Bor, ap, map, sym, ◌∙◌}
use Rattle.std.proofs.lemmas.List.{append-nil}
use Rattle.term_core.specs.declared.pid.RefId.{RefId}
use Rattle.world_model.specs.Changes.{after}
use Rattle.world_model.specs.Ends.{tables_pass}
use Rattle.world_model.specs.Names.{Ref, ref_of}
use Rattle.ets_rules.specs.Tables.{told_in}
use Rattle.ets_rules.proofs.Passing.{map_more, step_left, step_told}
use Rattle.ets_tables.specs.Ends.{transfer_of}
use Rattle.ets_rules.proofs.tables.Tables.leave_each.Goals as goal

refs : List (Bor RefId) → List Ref
refs ids = map ref_of (map (λ x. x.now) ids)

pub loop-id-preserved-in-Continue-branch-2 : goal.loop-id-preserved-in-Continue-branch-2
unfolding refs
loop-id-preserved-in-Continue-branch-2 c =
    let p = c.args.pid.now in
    let t = ref_of c.in-Some.id.now in
    let ts = refs c.loop-id.yielded in
    let us = refs (c.loop-id.yielded ++ c.in-Some.id ∷ []) in
    let more = map_more ref_of (λ (x : Bor RefId). x.now) c.loop-id.yielded c.in-Some.id in
    record {
      ok = λ v hold alive w told. step_left v w p ts us t c.leave.new.changed more (c.in_ok-told.ensures.ok v hold alive (after (tables_pass v p ts) w) (c.loop-id.invariant.ok v hold alive w told));
      told = λ v hold alive. step_told v p ts us t c.loop-id.transfers.items (c.in-Some-told.transfer ∷ []) more (c.loop-id.invariant.told v hold alive) (c.in_ok-told.ensures.told v hold alive ∙ ap told_in c.in-Some-told.is)
          ∙ ap (map transfer_of) (sym c.in_ok-push.ensures.items);
    }

pub loop-id-preserved : goal.loop-id-preserved
unfolding refs
loop-id-preserved c =
    let p = c.args.pid.now in
    let t = ref_of c.in-Some.id.now in
    let ts = refs c.loop-id.yielded in
    let us = refs (c.loop-id.yielded ++ c.in-Some.id ∷ []) in
    let more = map_more ref_of (λ (x : Bor RefId). x.now) c.loop-id.yielded c.in-Some.id in
    record {
      ok = λ v hold alive w told. step_left v w p ts us t c.leave.new.changed more (c.in_ok-told.ensures.ok v hold alive (after (tables_pass v p ts) w) (c.loop-id.invariant.ok v hold alive w told));
      told = λ v hold alive. step_told v p ts us t c.loop-id.transfers.items [] more (c.loop-id.invariant.told v hold alive) (c.in_ok-told.ensures.told v hold alive ∙ ap told_in c.in_default.is)
          ∙ ap (map transfer_of) (append-nil c.loop-id.transfers.items);
    }
