use Rattle.std.proofs.Common.{ap, sym, ◌∙◌}
use Rattle.std.specs.Prelude.{option_copied, option_map}
use Rattle.ets_answers.proofs.Lines.{if_ok}
use Rattle.ets_store.specs.Tables.{settings_in}
use Rattle.world_model.specs.Ends.{table_passes}
use Rattle.world_model.specs.Names.{ref_of}
use Rattle.ets_rules.proofs.leaving.pass_on.Goals as goal

pub returns-in-None : goal.returns-in-None
returns-in-None c = if_ok c.stays_gone.result (λ left is v says.
    is v c.args.pid.now ∙ ap (λ o. table_passes v c.args.pid.now (ref_of c.args.id.now) (option_map settings_in (option_copied o))) (sym c.in-None.is)) c.stays_gone.ensures
