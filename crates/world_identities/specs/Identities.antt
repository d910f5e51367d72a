-- What a schedule shows, as it is stored, in the words of the explored world.
use Rattle.term_core.specs.Term.{meaning_of}
use Rattle.world_model.specs.Shown as shown
use Rattle.world_identities.specs.declared.flags.Flags.{Flags}
use Rattle.world_identities.specs.declared.identity.Identity.{Identity}
use Rattle.world_identities.specs.declared.identity.Identity.TheVariants.{End, Deadlock, Runaway, Refusal, Unread}

-- what a schedule shows
abbrev pub identity_in : Identity → shown.Identity
identity_in (End p reason) = shown.End p (meaning_of reason)
identity_in (Deadlock ps) = shown.Deadlock ps.items
identity_in (Runaway p) = shown.Runaway p
identity_in (Refusal p request kind arguments rule owner) = shown.RefusedCall p request kind arguments.value rule owner
identity_in (Unread ps) = shown.Unread ps.items

-- what counts as an error
abbrev pub flags_in : Flags → shown.Flags
flags_in flags = record { allow_deadlock = flags.allow_deadlock; strict_access = flags.strict_access; idle_servers = flags.idle_servers }
