-- Why a call is refused, and what is asked of the contents when a step is planned.
use Rattle.std.specs.Prelude.{◌≡◌, Some, IsSome}
use Rattle.world_model.specs.Cells.{Contents, Table, TableName}
use Rattle.world_model.specs.Events as events
use Rattle.world_model.specs.Names.{Name, Ref}
use Rattle.world_planned.specs.declared.reply.Refusal.{Refusal}
use Rattle.world_planned.specs.declared.reply.Refusal.TheVariants.{BadArgument, NoProcess, ByRule}

-- each name that means a table means one that is there, as in all that happens
abbrev pub NamesMeanTables : Contents → Type 0
NamesMeanTables v = (name : Name) (t : Ref) → v (TableName name) ≡ Some t → IsSome (v (Table t))

-- why a call is refused
abbrev pub refusal_in : Refusal → events.Refusal
refusal_in BadArgument = events.Badarg
refusal_in NoProcess = events.NoProcess
refusal_in (ByRule rule owner) = events.ByRule rule owner
