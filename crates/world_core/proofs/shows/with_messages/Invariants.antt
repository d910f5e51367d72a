use Rattle.std.proofs.Common.{◌≡◌, ◌++◌, drop}
use Rattle.std.specs.List.{filter}
use Rattle.world_core.specs.inside.Showing.{has_unread}
use Rattle.world_core.proofs.shows.with_messages.Given as goal

-- those so far, and those among the processes that are left
abbrev pub invariant-loop-pid : goal.invariant-loop-pid
invariant-loop-pid l = l.unread.items ++ filter (has_unread l.mailboxes) (drop l.pid-index l.pids) ≡ filter (has_unread l.mailboxes) l.pids
