use Rattle.ets_rules.proofs.Applied.{rewrites_any, rewrites_as}
use Rattle.ets_rules.proofs.tables.Tables.rewrite.Goals as goal

pub returns-in-Stores : goal.returns-in-Stores
returns-in-Stores c = rewrites_as c.store_copy.result c.args.id.now c.args.key.now c.args.change.now _ c.args.self.now c.store_copy.new.self c.in-Stores.is c.store_copy.ensures

pub returns-in-Removes : goal.returns-in-Removes
returns-in-Removes c = rewrites_any c.erase.result c.args.id.now c.args.key.now c.args.change.now _ c.args.self.now c.erase.new.self c.in-Removes.is c.erase.ensures

pub returns-in-Clears : goal.returns-in-Clears
returns-in-Clears c = rewrites_any c.delete_key.result c.args.id.now c.args.key.now c.args.change.now _ c.args.self.now c.delete_key.new.self c.in-Clears.is c.delete_key.ensures
