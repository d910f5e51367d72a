use Rattle.std.proofs.lemmas.Int.{quot-rem, rem_below}
use Rattle.core_pure_calls.proofs.laws.division_leaves_a_remainder.Goals as goal

pub returns-clause-whole : goal.returns-clause-whole
returns-clause-whole c = λ a b. quot-rem a b

pub returns-clause-less : goal.returns-clause-less
returns-clause-less c = λ a b h. rem_below a b h
