use Rattle.std.proofs.Common.{◌∙◌, ap}
use Rattle.ets_rules.specs.Tables.{owned_in}
use Rattle.world_model.specs.Changes.{AliveCleared, changed}
use Rattle.world_model.specs.Ends.{reads_of_tables, tables_pass}
use Rattle.world_planned.proofs.Adding.{adds_at, adds_none}
use Rattle.world_planned.proofs.tables.end_tables.Goals as goal

pub returns-in_default : goal.returns-in_default
returns-in_default c = λ links w sees.
    adds_at (reads_of_tables w) (tables_pass (changed (AliveCleared c.args.pid.now) w) c.args.pid.now) _ _ _ _
    (c.in_default.ensures ∙ ap (λ ts. owned_in ts c.args.pid.now) c.tables.ensures ∙ sees.owned c.args.pid.now) (adds_none c.args.planned.now)

pub returns : goal.returns
returns c = λ links w sees.
    adds_at (reads_of_tables w) (tables_pass (changed (AliveCleared c.args.pid.now) w) c.args.pid.now) _ _ _ _
    (c.in-Some.ensures ∙ ap (λ ts. owned_in ts c.args.pid.now) c.tables.ensures ∙ sees.owned c.args.pid.now) (c.in_ok-end_each.ensures links w sees)
