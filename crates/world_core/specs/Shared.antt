-- The events that worlds share, as a history.
use Rattle.std.specs.Prelude.{[]}
use Rattle.world_model.specs.Events.{History}
use Rattle.world_core.specs.declared.events.Events.{Events}
use Rattle.world_core.specs.declared.events.Events.TheVariants.{Nothing, Then}

-- the events, the latest first
abbrev pub events_in : Events → History
events_in Nothing = []
events_in (Then link) = link.value
