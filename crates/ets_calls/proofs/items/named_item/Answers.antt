use Rattle.world_model.specs.Calls.{known_items}
use Rattle.ets_calls.proofs.Named.{absent}
use Rattle.ets_calls.proofs.items.named_item.Goals as goal

pub returns-in_default : goal.returns-in_default
returns-in_default c =
    let not = c.in_default in
    absent c.args.name.now known_items (not.not-owner, (not.not-heir, (not.not-name, (not.not-size, (not.not-named_table, (not.not-type, (not.not-keypos, (not.not-protection, tt))))))))
