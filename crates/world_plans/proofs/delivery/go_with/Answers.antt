use Rattle.std.proofs.Common.{sym, subst}
use Rattle.std.specs.Prelude.{OnOk}
use Rattle.core_tree.specs.Syntax.{ModuleTree}
use Rattle.proc_signals.specs.Signal.{signal_of}
use Rattle.proc_signals.specs.declared.signal.Signal.{Signal}
use Rattle.world_model.specs.Cells.{Contents}
use Rattle.world_model.specs.Signals.{goes_with, reads_of_fate}
use Rattle.world_records.specs.Records.{Agrees}
use Rattle.world_planned.specs.inside.Planned.{Adds}
use Rattle.world_plans.proofs.delivery.go_with.Goals as goal

pub returns-in-LinkExit : goal.returns-in-LinkExit
returns-in-LinkExit c =
    let p = c.args.from.now in
    let q = c.args.to.now in
    subst (λ (s : Signal). OnOk c.unpair.result ((m : ModuleTree) (v : Contents) → Agrees m c.args.records.now v → Adds (reads_of_fate v p q (signal_of s)) (goes_with v p q (signal_of s)) c.args.planned.now c.unpair.new.planned))
    (sym c.in-LinkExit.is) c.unpair.ensures

pub returns-in-Guarded : goal.returns-in-Guarded
returns-in-Guarded c =
    let p = c.args.from.now in
    let q = c.args.to.now in
    subst (λ (s : Signal). OnOk c.pass.result ((m : ModuleTree) (v : Contents) → Agrees m c.args.records.now v → Adds (reads_of_fate v p q (signal_of s)) (goes_with v p q (signal_of s)) c.args.planned.now c.pass.new.planned))
    (sym c.in-Guarded.is) c.pass.ensures
