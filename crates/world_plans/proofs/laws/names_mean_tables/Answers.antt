use Rattle.std.proofs.Common.{refl, sym, subst}
use Rattle.std.specs.Prelude.{IsSome}
use Rattle.world_model.proofs.Named.{names_mean_theirs}
use Rattle.world_plans.proofs.laws.names_mean_tables.Goals as goal

pub returns : goal.returns
returns c = λ a h is name t means. subst IsSome (sym (names_mean_theirs a h name t is means).1) refl
