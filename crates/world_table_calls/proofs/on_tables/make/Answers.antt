use Rattle.std.proofs.Common.{refl, map, ◌∙◌, ap}
use Rattle.ets_calls.specs.Options.{option_in}
use Rattle.world_model.specs.NewTables.{made}
use Rattle.world_model.specs.Tables.{handle_of, table_of}
use Rattle.world_planned.proofs.Adding.{adds_as}
use Rattle.world_table_calls.proofs.on_tables.make.Goals as goal

pub returns : goal.returns
returns c =
    let p = c.args.caller.now in
    let name = c.args.name.now in
    let os = map option_in c.args.options.items in
    record {
      reply = λ m v told none. record {
        goes_on = refl;
        is_served = none;
        answers = c.in_ok-handle.ensures.handle ∙ ap (λ t. handle_of t (table_of p name os)) (c.in_ok-id.ensures m v told);
      };
      adds = λ m v told. adds_as _ _ _ _ _ _ refl (c.in_ok-handle.ensures.changes ∙ ap (λ t. made p t name os) (c.in_ok-id.ensures m v told)) c.in_ok-change_tables.ensures;
    }
