use Rattle.std.proofs.Common.{arith}
use Rattle.std.proofs.lemmas.Bool.Decides.{Decides-eqb}
use Rattle.std.proofs.lemmas.Slice.Eq.{slice_eq-Decides}
use Rattle.search_levels.specs.inside.Visits.{entry_of}
use Rattle.search_levels.proofs.Going.{element}
use Rattle.search_levels.proofs.indexed.Indexed.has.Goals as goal

pub at-requires : goal.at-requires
at-requires g c = omega (arith, c.if-place-len.true, c.len.ensures)

pub returns-then-eq : goal.returns-then-eq
returns-then-eq g c = λ e. (entry_of c.at.result, element c.args.self.now.rows c.in-Some.place (entry_of c.at.result) c.at.ensures, (slice_eq-Decides Decides-eqb c.at.result.row.now c.args.row.now c.eq.result c.eq.ensures).0 c.if-eq.true)
