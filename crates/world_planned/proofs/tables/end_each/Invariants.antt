use Rattle.std.proofs.Common.{map}
use Rattle.world_model.specs.Names.{ref_of}
use Rattle.proc_links.specs.declared.links.Links.{Links}
use Rattle.world_model.specs.Cells.{Contents}
use Rattle.world_model.specs.Changes.{AliveCleared, changed}
use Rattle.world_model.specs.Ends.{reads_of_tables, tables_pass}
use Rattle.world_planned.specs.inside.Planned.{Adds}
use Rattle.world_planned.specs.inside.Seen.{SeesEnd}
use Rattle.world_planned.proofs.tables.end_each.Given as goal

-- those before this one went
abbrev pub invariant-loop-id : goal.invariant-loop-id
invariant-loop-id l = (links : Links) (w : Contents) → SeesEnd l.records links w
    → Adds (reads_of_tables w (map ref_of (map (λ x. x.now) l.yielded))) (tables_pass (changed (AliveCleared l.pid) w) l.pid (map ref_of (map (λ x. x.now) l.yielded))) l.fn.planned l.planned
