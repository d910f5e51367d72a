-- Calls of processes as they are held, in the words of the explored world.
use Rattle.std.specs.Prelude.{option_map}
use Rattle.term_core.specs.Term.{meaning_of}
use Rattle.world_model.specs.Calls as calls
use Rattle.proc_calls.specs.Arguments.{destination_in, is_process, flushes, traps, is_named, way_in, origin_in}
use Rattle.proc_calls.specs.declared.call.ProcessCall.{ProcessCall}
use Rattle.proc_calls.specs.declared.call.ProcessCall.TheVariants.{Spawn, Send, SendExit, Link, Unlink, Monitor, MonitorName, Demonitor, Flag, Register, Unregister, WhereIs, Registered, IsAlive, ProcessInfo, MakeRef, MakeAlias, Unalias, StartTimer, CancelTimer, ReadTimer}
use Rattle.world_model.specs.Names.{ref_of}

abbrev pub call_in : ProcessCall → calls.Call
call_in (Spawn way origin) = calls.Spawn (way_in way) (option_map origin_in origin)
call_in (Send to message) = calls.Send (destination_in to) (meaning_of message)
call_in (SendExit to reason) = calls.SendExit to (meaning_of reason)
call_in (Link to) = calls.Link to
call_in (Unlink from) = calls.Unlink from
call_in (Monitor type whom alias) = calls.Monitor (is_process type) whom alias
call_in (MonitorName type name alias) = calls.MonitorName (is_process type) name alias
call_in (Demonitor reference flushing) = calls.Demonitor (option_map ref_of reference) (option_map flushes flushing)
call_in (Flag trapping) = calls.Flag (option_map traps trapping)
call_in (Register name whom) = calls.Register name whom
call_in (Unregister name) = calls.Unregister name
call_in (WhereIs name) = calls.WhereIs name
call_in Registered = calls.Registered
call_in (IsAlive whom) = calls.IsAlive whom
call_in (ProcessInfo whom item) = calls.ProcessInfo whom item
call_in MakeRef = calls.MakeRef
call_in (MakeAlias end) = calls.MakeAlias end
call_in (Unalias reference) = calls.Unalias (option_map ref_of reference)
call_in (StartTimer naming time to message) = calls.StartTimer (is_named naming) time to (meaning_of message)
call_in (CancelTimer reference) = calls.CancelTimer (option_map ref_of reference)
call_in (ReadTimer reference) = calls.ReadTimer (option_map ref_of reference)
