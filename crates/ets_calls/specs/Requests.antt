-- What a call asks of tables, as it is held, together with the call of the explored world that it is.
use Rattle.std.specs.Prelude.{◌≡◌, false, map, option_map}
use Rattle.world_model.specs.Calls as calls
use Rattle.world_model.specs.Calls.{Call, is_of_tables}
use Rattle.ets_calls.specs.Arguments.{argument_in}
use Rattle.ets_calls.specs.Calls.{call_in}
use Rattle.ets_calls.specs.Options.{option_in}
use Rattle.ets_calls.specs.declared.request.TableRequest.{TableRequest}
use Rattle.ets_calls.specs.declared.request.TableRequest.TheVariants.{OnTable, New, Other}

-- a call is read as a request: as the same call of tables with the same arguments, or as none of tables
abbrev pub IsReadAs : Call → TableRequest → Type 0
IsReadAs call (OnTable argument of) = call ≡ calls.OnTable (argument_in argument) (call_in of)
IsReadAs call (New name options) = call ≡ calls.New name (option_map (λ os. map option_in os.items) options)
IsReadAs call Other = is_of_tables call ≡ false
