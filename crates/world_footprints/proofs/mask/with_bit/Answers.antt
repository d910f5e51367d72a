use Rattle.std.proofs.Common.{w64}
use Rattle.std.proofs.lemmas.Nat.Bits.{bit_at_set_same}
use Rattle.world_footprints.proofs.Masks.{bit_kept}
use Rattle.world_footprints.proofs.mask.with_bit.Goals as goal

pub returns-clause-set : goal.returns-clause-set
returns-clause-set c = bit_at_set_same w64 c.args.mask c.args.place c.requires

pub returns-clause-kept : goal.returns-clause-kept
returns-clause-kept c = λ i. bit_kept c.args.mask _ i
