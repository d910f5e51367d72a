-- What the signals of the code mean.
use Rattle.term_core.specs.Term.{meaning_of}
use Rattle.world_model.specs.Events as events
use Rattle.world_model.specs.Names.{ref_of}
use Rattle.proc_signals.specs.declared.signal.Signal.{Signal}
use Rattle.proc_signals.specs.declared.signal.Signal.TheVariants.{Message, Exit, LinkExit, Down, Guarded, Elapsed}

-- a signal, with what its terms mean
abbrev pub signal_of : Signal → events.Signal
signal_of (Message message) = events.Message (meaning_of message)
signal_of (Exit reason) = events.Exit (meaning_of reason)
signal_of (LinkExit reason) = events.LinkExit (meaning_of reason)
signal_of (Down reference reason) = events.Down (ref_of reference) (meaning_of reason)
signal_of (Guarded reference message) = events.Guarded (ref_of reference) (meaning_of message)
signal_of (Elapsed reference message) = events.Elapsed (ref_of reference) (meaning_of message)
