use Rattle.std.proofs.Common.{map, subst}
use Rattle.std.proofs.lemmas.Result.{on_ok_weaker}
use Rattle.world_model.specs.Changes.{cell_of}
use Rattle.world_model.specs.Names.{IsAmong}
use Rattle.world_footprints.specs.Deeds.{deed_in}
use Rattle.world_footprints.specs.Plans.{first_changes}
use Rattle.world_footprints.specs.Views.{AreWritten}
use Rattle.search_numbers.proofs.Covers.{covers_itself, covers_written}
use Rattle.search_numbers.proofs.covering.cover_deed.Goals as goal

pub returns-in-Some-clause-covers : goal.returns-in-Some-clause-covers
returns-in-Some-clause-covers c =
    on_ok_weaker c.cover_views.result
    (λ covered. covers_written c.cover_views.new.store c.cover_views.new.columns.items c.in-Some.views _
    (subst (λ o. AreWritten o (map cell_of (first_changes c.args.step.now (deed_in c.args.deed.now)))) c.in-Some.is c.first_cells.ensures) covered)
    c.cover_views.ensures.covers

pub returns-in-None-clause-covers : goal.returns-in-None-clause-covers
returns-in-None-clause-covers c = λ d there. absurd (subst (IsAmong d) (subst (λ o. AreWritten o (map cell_of (first_changes c.args.step.now (deed_in c.args.deed.now)))) c.in-None.is c.first_cells.ensures) there)

pub returns-in-None-clause-more : goal.returns-in-None-clause-more
returns-in-None-clause-more c = covers_itself _ _
