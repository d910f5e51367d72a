-- Processes that are the same.
use Rattle.std.proofs.Common.{◌≡◌, true, refl}
use Rattle.std.proofs.lemmas.Slice.Eq.{bytes_eq-Decides}
use Rattle.std.specs.Result.{OnErr}
use Rattle.std.specs.declared.result.Result.{Result}
use Rattle.std.specs.declared.result.Result.TheVariants.{Ok, Err}
use Rattle.world_model.specs.Names.{Pid, same_pid}

pub pids_same : (p q : Pid) → same_pid p q ≡ true → p ≡ q
pids_same p q e = (bytes_eq-Decides p q).0 e

pub pid_itself : (p : Pid) → same_pid p p ≡ true
pid_itself p = (bytes_eq-Decides p p).1 refl

pub on_err : {A E P : Type 0} (r : Result A E) → P → OnErr r P
on_err (Ok x) p = tt
on_err (Err e) p = p
