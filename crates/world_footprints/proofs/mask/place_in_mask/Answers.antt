use Rattle.std.proofs.Common.{[], ◌∙◌, ap, sym}
use Rattle.world_footprints.specs.Views.{view_in}
use Rattle.world_footprints.specs.inside.Masks.{place_in_mask}
use Rattle.world_footprints.proofs.mask.place_in_mask.Goals as goal

-- all holders are where that of any name is
pub returns-in-Holders-clause-value : goal.returns-in-Holders-clause-value
returns-in-Holders-clause-value c = sym (c.place_of_name-in-Holders.ensures.value []) ∙ ap (λ cell. place_in_mask (view_in cell)) (sym c.in-Holders.is)
