use Rattle.std.proofs.Common.{[], map}
use Rattle.proc_links.specs.Put.{put_of, puts_by}
use Rattle.world_planned.specs.inside.Planned.{Adds}
use Rattle.world_planned.proofs.ends.put.Given as goal

-- those before this one are put
abbrev pub invariant-loop-to : goal.invariant-loop-to
invariant-loop-to l = Adds [] (puts_by l.pid (map put_of l.yielded)) l.fn.planned l.planned
