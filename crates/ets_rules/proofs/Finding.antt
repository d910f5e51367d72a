-- What an argument finds, and who is told of a refusal there.
use Rattle.std.proofs.Common.{◌≡◌, Option, Some, None, option_map}
use Rattle.std.specs.Prelude.{IfSome}
use Rattle.ets_rules.proofs.Holding.{holds_rows}
use Rattle.ets_rules.specs.Tables.{Hold, IsFoundBy, found_of, held_in}
use Rattle.ets_rules.specs.declared.found.FoundTable.{FoundTable}
use Rattle.ets_rules.specs.declared.tables.Tables.{Tables}
use Rattle.world_model.specs.Calls.{TableArgument}
use Rattle.world_model.specs.Cells.{Contents}
use Rattle.world_model.specs.Names.{ref_of}
use Rattle.world_model.specs.TableAccess.{find}

-- what is found among tables that are held has the rows of the contents
pub found_by : (tables : Tables) (v : Contents) (argument : TableArgument) (found : Option FoundTable) → Hold tables v → option_map found_of found ≡ find v argument
    → IfSome found (λ f. held_in tables (ref_of f.id.now) ≡ Some f.table.now) → IsFoundBy v argument found
found_by tables v argument None hold finds held = record { finds = finds; has_rows = record {} }
found_by tables v argument (Some f) hold finds held = record { finds = finds; has_rows = holds_rows tables v (ref_of f.id.now) f.table.now hold held }
