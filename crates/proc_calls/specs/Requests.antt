-- What a call asks of processes, as it is held, together with the call of the explored world that it is.
use Rattle.std.specs.Prelude.{◌≡◌, true}
use Rattle.world_model.specs.Calls as calls
use Rattle.world_model.specs.Calls.{Call, is_of_tables}
use Rattle.proc_calls.specs.Calls.{call_in}
use Rattle.proc_calls.specs.declared.request.ProcessRequest.{ProcessRequest}
use Rattle.proc_calls.specs.declared.request.ProcessRequest.TheVariants.{Asks, Misfit, Other}

-- a call is read as a request: as the same call of processes with the same arguments, as one with another number of arguments than it has, or as one of tables
abbrev pub IsReadAs : Call → ProcessRequest → Type 0
IsReadAs call (Asks of) = call ≡ call_in of
IsReadAs call Misfit = call ≡ calls.Misfit
IsReadAs call Other = is_of_tables call ≡ true
