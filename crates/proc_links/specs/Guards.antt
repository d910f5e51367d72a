-- What lets in the messages that are sent to references.
use Rattle.std.specs.Ordering.{int_eq}
use Rattle.std.specs.Prelude.{◌≡◌, ◌&&◌, Bool, true, false, Option, option_map}
use Rattle.std.specs.BTreeMap.{get}
use Rattle.term_core.specs.StepOrder.{order_of_reference_ids}
use Rattle.world_model.specs.Cells as cells
use Rattle.world_model.specs.Cells.{Contents}
use Rattle.world_model.specs.Guards as guards
use Rattle.world_model.specs.Names.{Ref, same_name, same_pid}
use Rattle.world_model.specs.declared.alias.AliasEnd.{AliasEnd}
use Rattle.world_model.specs.declared.alias.AliasEnd.TheVariants.{ByUnalias, WithWatch, ByReply}
use Rattle.proc_links.specs.declared.guards.Guard.{Guard}
use Rattle.proc_links.specs.declared.guards.Guard.TheVariants.{Alias, Timer, NamedWatch, NamedAlias}
use Rattle.proc_links.specs.declared.guards.Guards.{Guards}

-- a guard, in the words of the world
abbrev pub guard_of : Guard → guards.Guard
guard_of (Alias pid end) = guards.Alias pid end
guard_of (Timer pid time) = guards.Timer pid time
guard_of (NamedWatch name) = guards.NamedWatch name
guard_of (NamedAlias name pid end) = guards.NamedAlias name pid end

-- when two aliases end alike, and two guards are the same
abbrev pub same_end : AliasEnd → AliasEnd → Bool
same_end ByUnalias ByUnalias = true
same_end WithWatch WithWatch = true
same_end ByReply ByReply = true
same_end a b = false

abbrev pub same_guard : guards.Guard → guards.Guard → Bool
same_guard (guards.Alias p end) (guards.Alias q other) = same_pid p q && same_end end other
same_guard (guards.Timer p time) (guards.Timer q other) = same_pid p q && int_eq time other
same_guard (guards.NamedWatch name) (guards.NamedWatch other) = same_name name other
same_guard (guards.NamedAlias name p end) (guards.NamedAlias other q how) = same_name name other && (same_pid p q && same_end end how)
same_guard a b = false

-- what lets messages in that are sent to a reference
abbrev pub guard_in : Guards → Ref → Option guards.Guard
guard_in guards ref = option_map guard_of (get order_of_reference_ids guards.guards.value (ref.pid, ref.number))

-- the guards are what the contents say
abbrev pub AreGuards : Guards → Contents → Type 0
AreGuards guards v = (ref : Ref) → guard_in guards ref ≡ v (cells.Guard ref)

-- each reference has the guard that it had
abbrev pub IsUnchanged : Guards → Guards → Type 0
IsUnchanged old new = (ref : Ref) → guard_in new ref ≡ guard_in old ref
