-- The states of a level.
use Rattle.search_levels.specs.Rows.{Entry}
use Rattle.search_levels.specs.declared.path.Path.{Path}
use Rattle.search_levels.specs.declared.rows.Seen.{Seen}

-- a schedule, and the row of the world that it leads to
abbrev pub Visit : Type 0
Visit = Entry Path

-- what is seen at a place of rows
abbrev pub entry_of : {X : Type 0} → Seen X → Entry X
entry_of seen = record { of = seen.of.now; row = seen.row.now }
