-- Equal values feed a hasher alike.
use Rattle.std.specs.Prelude.{◌≡◌, IsTrue}
use Rattle.std.proofs.Common.{ap}
use Rattle.std.specs.declared.cmp.Ordering.{Ordering}
use Rattle.std.specs.declared.cmp.Ordering.TheVariants.{Equal}
use Rattle.std.specs.Ordering.{eq_by_cmp}
use Rattle.std.specs.Cmp.{Equal-is}
use Rattle.std.specs.Hash.{HashWrites}

-- where Equal is the same, whatever is fed is fed alike
pub fed_alike : {K : Type 0} {R : K → K → Ordering} (writes : K → HashWrites) → ((a b : K) → R a b ≡ Equal → a ≡ b) → (a b : K) → IsTrue (eq_by_cmp R a b) → writes a ≡ writes b
fed_alike {K} {R} writes same a b e = ap writes (same a b ((Equal-is (R a b)).0 e))
