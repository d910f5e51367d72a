use Rattle.std.proofs.Common.{◌∷◌, ◌∙◌, ap, option_map, sym}
use Rattle.ets_rules.specs.Tables.{held_in}
use Rattle.ets_store.specs.Tables.{settings_in}
use Rattle.world_model.specs.Names.{ref_of}
use Rattle.world_model.specs.Cells as cells
use Rattle.world_model.specs.Changes.{AliveCleared, changed}
use Rattle.world_model.specs.Ends.{alive_if, heir_read, table_passes}
use Rattle.world_planned.specs.inside.Seen.{lives_if}
use Rattle.world_planned.proofs.Adding.{adds_as, adds_at, adds_then, end_nil}
use Rattle.world_planned.proofs.Ending.{heir_is_read, says_of_heir}
use Rattle.world_planned.proofs.tables.end_table.Goals as goal

pub returns : goal.returns
returns c = λ links w sees.
    let p = c.args.pid.now in
    let t = ref_of c.args.id.now in
    let u = changed (AliveCleared p) w in
    let there = ap (option_map settings_in) c.get-table.ensures ∙ ap (λ ts. option_map settings_in (held_in ts t)) c.tables.ensures ∙ sees.tables t in
    let lives = says_of_heir _ u _ (c.is_left.ensures w sees.alive ∙ ap (lives_if u) c.heir_of-heir.ensures) in
    adds_at (λ o. cells.Table t ∷ heir_read o) (table_passes u p t) _ _ _ _ there
    (adds_as _ _ _ _ _ _ (ap (λ cs. cells.Table t ∷ cs) (end_nil _ ∙ ap alive_if c.heir_of-heir.ensures ∙ heir_is_read _)) (c.in_ok-changes.ensures u lives)
    (adds_then _ _ _ _ _ _ _ c.in_ok-read_reference.ensures (adds_then _ _ _ _ _ _ _ c.in_ok-read_heir.ensures (adds_then _ _ _ _ _ _ _ c.in_ok-change_tables.ensures c.in_ok-tell_owner.ensures))))
