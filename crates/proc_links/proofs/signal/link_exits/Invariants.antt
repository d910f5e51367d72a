use Rattle.std.proofs.Common.{◌≡◌, map, take}
use Rattle.term_core.specs.Term.{meaning_of}
use Rattle.world_model.specs.Events as events
use Rattle.proc_links.specs.Put.{put_of}
use Rattle.proc_links.proofs.signal.link_exits.Given as goal

-- those before this one are informed
abbrev pub invariant-loop-pid : goal.invariant-loop-pid
invariant-loop-pid l = map put_of l.told.items ≡ map (λ q. (q, events.LinkExit (meaning_of l.reason))) (take l.pid-index l.pids)
