use Rattle.std.proofs.Common.{◌∙◌, Some, None, ap, map, subst, sym}
use Rattle.world_model.specs.Changes.{cell_of}
use Rattle.world_model.specs.Independence.{some_meet}
use Rattle.world_footprints.specs.Deeds.{deed_in}
use Rattle.world_footprints.specs.Plans.{first_changes}
use Rattle.world_footprints.specs.Footprints.{written_in}
use Rattle.world_footprints.specs.Views.{AreWritten}
use Rattle.world_footprints.proofs.Writing.{some_written}
use Rattle.world_footprints.proofs.meeting.writes_meet_deed.Goals as goal

pub returns-in-Some : goal.returns-in-Some
returns-in-Some c =
    let written = map cell_of (first_changes c.args.step.now (deed_in c.args.deed.now)) in
    c.writes_meet_views.ensures ∙ sym (some_written (written_in c.args.writer.now) c.in-Some.views written (subst (λ o. AreWritten o written) c.in-Some.is c.first_cells.ensures))

pub returns-in-None : goal.returns-in-None
returns-in-None c =
    let written = map cell_of (first_changes c.args.step.now (deed_in c.args.deed.now)) in
    sym (ap (some_meet (written_in c.args.writer.now)) (subst (λ o. AreWritten o written) c.in-None.is c.first_cells.ensures))
