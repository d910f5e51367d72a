-- What becomes of a signal where it takes effect.
use Rattle.std.specs.Prelude.{◌≡◌, Bool, true, false}
use Rattle.term_core.specs.Term.{meaning_of}
use Rattle.world_model.specs.Cells.{Contents, Trap}
use Rattle.world_model.specs.Events.{Fate, Signal, Arrives, IsIgnored, IsDropped, Kills}
use Rattle.world_model.specs.Names.{Pid}
use Rattle.world_model.specs.Signals.{fate_of}
use Rattle.proc_links.specs.Guards.{AreGuards}
use Rattle.proc_links.specs.Links.{AreLinks}
use Rattle.proc_links.specs.Process.{are_trapped}
use Rattle.proc_links.specs.Watchers.{AreWatches}
use Rattle.proc_links.specs.declared.effect.Effect.{Effect}
use Rattle.proc_links.specs.declared.effect.Effect.TheVariants.{Ends, Ignored, Dropped, Put}
use Rattle.proc_links.specs.declared.effect.Sender.{Sender}
use Rattle.proc_links.specs.declared.guards.Guards.{Guards}
use Rattle.proc_links.specs.declared.links.Links.{Links}
use Rattle.proc_links.specs.declared.process.Exits.{Exits}
use Rattle.proc_links.specs.declared.watchers.Watchers.{Watchers}
use Rattle.proc_links.specs.declared.effect.Sender.TheVariants.{Itself, Another}

abbrev pub fate_in : Effect → Fate
fate_in (Ends reason) = Kills (meaning_of reason)
fate_in Ignored = IsIgnored
fate_in Dropped = IsDropped
fate_in (Put message) = Arrives (meaning_of message)

-- a signal from one process to another has this effect, whatever contents say the links, the watches, the guards and whether exits are trapped
abbrev pub IsEffectOf : Links → Watchers → Guards → Exits → Pid → Pid → Signal → Effect → Type 0
IsEffectOf links watchers guards exits s r signal effect = (v : Contents) → AreLinks links v → AreWatches watchers v → AreGuards guards v → v (Trap r) ≡ are_trapped exits → fate_in effect ≡ fate_of v s r signal

-- whether a signal is one to oneself
abbrev pub is_own : Sender → Bool
is_own Itself = true
is_own Another = false
