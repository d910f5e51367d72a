-- Where an identity would be put in among findings that are stored in order.
use Rattle.std.specs.List.Sorted.{IsPartitionPoint}
use Rattle.std.specs.Prelude.{◌≡◌, ℕ, List}
use Rattle.std.specs.declared.cmp.Ordering.TheVariants.{Less, Greater}
use Rattle.world_model.specs.Shown.{Identity}
use Rattle.world_identities.specs.Order.{order_of_identities}
use Rattle.tree_findings.specs.Found.{finding_in}
use Rattle.tree_findings.specs.declared.finding.Finding.{Finding}

-- those before this place come before the identity, and those from this place on come after it
abbrev pub IsPlaceFor : Identity → List Finding → ℕ → Type 0
IsPlaceFor i fs at = IsPartitionPoint (λ f. order_of_identities (finding_in f).identity i ≡ Less) (λ f. order_of_identities (finding_in f).identity i ≡ Greater) fs at
