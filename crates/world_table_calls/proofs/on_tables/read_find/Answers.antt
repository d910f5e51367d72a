use Rattle.std.proofs.Common.{[], ap, subst, sym}
use Rattle.std.proofs.lemmas.Result.{on_ok_weaker}
use Rattle.ets_calls.specs.Arguments.{argument_in}
use Rattle.ets_rules.specs.Tables.{IsFoundBy}
use Rattle.world_model.specs.TableAccess.{reads_of_find}
use Rattle.world_planned.specs.inside.Planned.{Adds}
use Rattle.world_table_calls.proofs.on_tables.read_find.Goals as goal

pub returns-in-ByName : goal.returns-in-ByName
returns-in-ByName c = on_ok_weaker c.read_named.result (λ adds v meant by.
    let is = ap argument_in c.in-ByName.is in
    subst (λ a. Adds (reads_of_find v a) [] c.args.planned.now c.read_named.new.planned) (sym is) (adds v meant (subst (λ a. IsFoundBy v a c.args.found) is by))) c.read_named.ensures
