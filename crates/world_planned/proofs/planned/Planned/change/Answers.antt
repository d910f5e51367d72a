use Rattle.std.proofs.Common.{◌∙◌, ap, sym}
use Rattle.world_records.specs.Changes.{all_changes_in}
use Rattle.world_records.specs.Cells.{cells_in}
use Rattle.world_planned.proofs.Adding.{end_nil, one_change}
use Rattle.world_planned.proofs.planned.Planned.change.Goals as goal

pub returns : goal.returns
returns c = record {
  more_reads = sym (end_nil (cells_in c.args.self.now.reads.items));
  more_changes = ap all_changes_in c.in_ok-push.ensures.items ∙ one_change c.args.self.now.changes.items c.args.change;
}
