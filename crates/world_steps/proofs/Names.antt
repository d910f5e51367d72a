-- The names of tables in the world of a run.
use Rattle.std.proofs.Common.{sym, refl, subst}
use Rattle.std.specs.Prelude.{IsSome}
use Rattle.world_model.specs.Events.{History}
use Rattle.world_model.specs.Requests.{Program}
use Rattle.world_model.specs.Run.{IsRun}
use Rattle.world_model.specs.World.{contents}
use Rattle.world_model.proofs.Named.{names_mean_theirs}
use Rattle.world_planned.specs.Replies.{NamesMeanTables}

-- each name that means a table means one that is there
pub names_mean : (a : Program) (h : History) → IsRun a h → NamesMeanTables (contents h)
names_mean a h run name t means = subst IsSome (sym (names_mean_theirs a h name t run means).1) refl
