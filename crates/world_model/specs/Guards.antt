-- What is kept of a reference besides the process that it watches: the alias or the timer that lets in messages that are sent to it, and the name by which its watch was made (Erlang manual, `alias/1`, `monitor/3`, `start_timer/3`).
use Rattle.std.specs.Prelude.{ℤ, Bool, true, false, ◌&&◌, Option, Some, None}
use Rattle.world_model.specs.Names.{Name, Pid, same_pid}
use Rattle.world_model.specs.declared.alias.AliasEnd.{AliasEnd}
use Rattle.world_model.specs.declared.alias.AliasEnd.TheVariants.{ByUnalias, WithWatch, ByReply}

pub data Guard : Type 0 where
  -- of a process, and when it ends
  Alias : (p : Pid) (end : AliasEnd) → Guard
  -- of a message for a process, in so many milliseconds
  Timer : (to : Pid) (time : ℤ) → Guard
  -- of a watch by name, which lets nothing in, and of such a watch with an alias
  NamedWatch : (name : Name) → Guard
  NamedAlias : (name : Name) (p : Pid) (end : AliasEnd) → Guard

-- what is left of a guard where the watch of its reference ends
abbrev pub unwatched_alias : Pid → AliasEnd → Option Guard
unwatched_alias p ByUnalias = Some (Alias p ByUnalias)
unwatched_alias p WithWatch = None
unwatched_alias p ByReply = None

abbrev pub unwatched : Guard → Option Guard
unwatched (Alias p end) = unwatched_alias p end
unwatched (Timer to time) = Some (Timer to time)
unwatched (NamedWatch name) = None
unwatched (NamedAlias name p end) = unwatched_alias p end

-- the name by which its watch was made
abbrev pub watch_name : Option Guard → Option Name
watch_name None = None
watch_name (Some (Alias p end)) = None
watch_name (Some (Timer to time)) = None
watch_name (Some (NamedWatch name)) = Some name
watch_name (Some (NamedAlias name p end)) = Some name

-- what is left of it where its alias ends alone
abbrev pub unaliased : Option Name → Option Guard
unaliased None = None
unaliased (Some name) = Some (NamedWatch name)

-- the process that a reference is an alias of
abbrev pub aliased : Option Guard → Option Pid
aliased None = None
aliased (Some (Alias p end)) = Some p
aliased (Some (Timer to time)) = None
aliased (Some (NamedWatch name)) = None
aliased (Some (NamedAlias name p end)) = Some p

-- whether it is an alias of this process
abbrev pub is_alias_of : Pid → Option Guard → Bool
is_alias_of p None = false
is_alias_of p (Some (Alias q end)) = same_pid p q
is_alias_of p (Some (Timer to time)) = false
is_alias_of p (Some (NamedWatch name)) = false
is_alias_of p (Some (NamedAlias name q end)) = same_pid p q

-- whether a message that comes through it ends it
abbrev pub is_of_reply : AliasEnd → Bool
is_of_reply ByUnalias = false
is_of_reply WithWatch = false
is_of_reply ByReply = true

abbrev pub ends_by_reply : Pid → Option Guard → Bool
ends_by_reply p None = false
ends_by_reply p (Some (Alias q end)) = same_pid p q && is_of_reply end
ends_by_reply p (Some (Timer to time)) = false
ends_by_reply p (Some (NamedWatch name)) = false
ends_by_reply p (Some (NamedAlias name q end)) = same_pid p q && is_of_reply end

-- the process that a timer is for, and its time
abbrev pub timer_in : Option Guard → Option (Pid × ℤ)
timer_in None = None
timer_in (Some (Alias p end)) = None
timer_in (Some (Timer to time)) = Some (to, time)
timer_in (Some (NamedWatch name)) = None
timer_in (Some (NamedAlias name p end)) = None
