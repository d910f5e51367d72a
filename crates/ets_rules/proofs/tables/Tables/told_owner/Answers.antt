use Rattle.std.proofs.Common.{◌∙◌, ap}
use Rattle.world_model.specs.TableRules.{told_owner}
use Rattle.ets_rules.proofs.tables.Tables.told_owner.Goals as goal

pub returns : goal.returns
returns c = λ v hold. c.owner_of_found.ensures ∙ ap (told_owner c.args.rule) (c.find.ensures.found v hold)
