use Rattle.std.proofs.Common.{map, subst}
use Rattle.world_model.specs.Changes.{cell_of}
use Rattle.world_model.specs.Names.{IsAmong}
use Rattle.world_footprints.specs.Deeds.{deed_in}
use Rattle.world_footprints.specs.Plans.{first_changes}
use Rattle.world_footprints.specs.Views.{AreWritten}
use Rattle.world_footprints.proofs.Writing.{covers_written}
use Rattle.world_footprints.proofs.mask.mask_of_deed.Goals as goal

pub returns-in-Some : goal.returns-in-Some
returns-in-Some c = covers_written c.with_views.result c.in-Some.views _ (subst (λ o. AreWritten o (map cell_of (first_changes c.args.step.now (deed_in c.args.deed.now)))) c.in-Some.is c.first_cells.ensures) c.with_views.ensures.set

pub returns-in-None : goal.returns-in-None
returns-in-None c = λ d there. absurd (subst (IsAmong d) (subst (λ o. AreWritten o (map cell_of (first_changes c.args.step.now (deed_in c.args.deed.now)))) c.in-None.is c.first_cells.ensures) there)
