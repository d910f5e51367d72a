use Rattle.std.proofs.Common.{option_map, subst, sym}
use Rattle.world_footprints.specs.Deeds.{deed_in}
use Rattle.world_footprints.specs.Plans.{written_by}
use Rattle.world_footprints.specs.inside.Masks.{Covers, place_in_mask}
use Rattle.world_records.specs.Changes.{all_changes_in}
use Rattle.world_footprints.proofs.Masks.{covers_both}
use Rattle.world_footprints.proofs.mask.mask_of_written.Goals as goal

pub returns-in-Some : goal.returns-in-Some
returns-in-Some c =
    subst (λ o. Covers c.with_changes.result (written_by c.args.step.now (option_map deed_in o) (all_changes_in c.args.changes.now))) (sym c.in-Some.is)
    (covers_both c.with_changes.result _ _ (λ d there. c.with_changes.ensures.kept (place_in_mask d) (c.mask_of_deed.ensures d there)) c.with_changes.ensures.set)
