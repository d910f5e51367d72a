use Rattle.std.proofs.lemmas.Result.{on_ok_weaker}
use Rattle.ets_store.specs.Tables.{heir_in}
use Rattle.world_model.specs.Names.{ref_of}
use Rattle.ets_rules.proofs.Adding.{adds_as, set_none, set_some}
use Rattle.ets_rules.proofs.owning.entrust_all.Goals as goal

pub returns-then-is_empty : goal.returns-then-is_empty
returns-then-is_empty c = on_ok_weaker c.touch.result (λ adds. adds_as _ _ _ _ (set_none (ref_of c.args.id.now) heir_in c.args.heirs.now c.if-is_empty.ensures) adds) c.touch.ensures

pub returns : goal.returns
returns c = on_ok_weaker c.entrust_each.result (λ adds. adds_as _ _ _ _ (set_some (ref_of c.args.id.now) heir_in c.args.heirs.now c.if-is_empty.ensures) adds) c.entrust_each.ensures
