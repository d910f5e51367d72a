use Rattle.std.proofs.Common.{[], map, take}
use Rattle.world_model.specs.Names.{ref_of}
use Rattle.term_core.specs.Term.{meaning_of}
use Rattle.world_model.specs.Cells as cells
use Rattle.world_planned.specs.inside.Planned.{Adds}
use Rattle.world_table_calls.proofs.on_tables.read_keys.Given as goal

-- the rows of those before this one are read
abbrev pub invariant-loop-key : goal.invariant-loop-key
invariant-loop-key l = Adds (map (cells.Row (ref_of l.id)) (map meaning_of (take l.key-index l.keys))) [] l.fn.planned l.planned
