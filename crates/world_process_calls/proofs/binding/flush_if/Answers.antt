use Rattle.std.proofs.Common.{sym, subst}
use Rattle.std.specs.Prelude.{OnOk}
use Rattle.core_tree.specs.Syntax.{ModuleTree}
use Rattle.proc_calls.specs.Arguments.{flushes}
use Rattle.world_model.specs.Names.{ref_of}
use Rattle.world_model.specs.Cells.{Contents}
use Rattle.world_model.specs.Changes.{is_of_watch}
use Rattle.world_model.specs.Mailboxes.{mailbox_in, selected_of}
use Rattle.world_model.specs.ProcessLines.{flushed, reads_to_flush}
use Rattle.world_records.specs.Records.{Agrees}
use Rattle.world_planned.specs.inside.Planned.{Adds}
use Rattle.world_process_calls.proofs.binding.flush_if.Goals as goal

pub returns-in-Flushes : goal.returns-in-Flushes
returns-in-Flushes c =
    let p = c.args.caller.now in
    let ref = ref_of c.args.reference.now in
    subst (λ f. OnOk c.flush.result ((m : ModuleTree) (v : Contents) → Agrees m c.args.records.now v →
    Adds (reads_to_flush (flushes f) p (selected_of (is_of_watch ref) (mailbox_in v p))) (flushed (flushes f) p (selected_of (is_of_watch ref) (mailbox_in v p))) c.args.planned.now c.flush.new.planned)) (sym c.in-Flushes.is) c.flush.ensures
