use Rattle.world_model.specs.Tables.{plain_options}
use Rattle.ets_calls.proofs.Named.{absent}
use Rattle.ets_calls.proofs.options.named_option.Goals as goal

pub returns-in_default : goal.returns-in_default
returns-in_default c =
    let not = c.in_default in
    absent c.args.text.now plain_options (not.not-set, (not.not-ordered_set, (not.not-bag, (not.not-duplicate_bag, (not.not-public, (not.not-protected, (not.not-private, (not.not-named_table, (not.not-compressed, tt)))))))))
