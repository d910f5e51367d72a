-- What histories say of finding: which argument finds a table, and what an argument finds after every event (ets manual, `new/2`: named_table).
use Rattle.std.specs.Option.{option_or}
use Rattle.std.specs.Prelude.{◌∷◌, ◌≡◌, Bool, false, if◌then◌else◌, Option, None, Some, option_map}
use Rattle.term_core.specs.declared.step.Step.{Step}
use Rattle.term_core.specs.declared.step.Step.TheVariants.{Turn}
use Rattle.world_model.specs.Calls.{TableArgument, ByName, ByReference, Call, New, call_of}
use Rattle.world_model.specs.Events.{Deed, Event, History, Served}
use Rattle.world_model.specs.TableAccess.{Found, as_found}
use Rattle.world_model.specs.Names.{Pid, Ref, same_name, same_ref}
use Rattle.world_model.specs.ProcessLines.{next_ref}
use Rattle.world_model.specs.Requests.{Program}
use Rattle.world_model.specs.Run.{IsRun}
use Rattle.world_model.specs.Tables as tables
use Rattle.world_model.specs.Tables.{table_of}
use Rattle.world_model.specs.World.{contents, found, table}

-- what finds a table: its name where it was made so, else the reference of its creation
abbrev pub argument_for : Ref → tables.Table → TableArgument
argument_for t state = if state.is_named then ByName state.name else ByReference t

-- each table that is there is found by that argument
abbrev pub TablesAreFound : Type 0
TablesAreFound = (a : Program) (h : History) (t : Ref) (state : tables.Table) → IsRun a h → table h t ≡ Some state → found h (argument_for t state) ≡ Some (record { ref = t; table = state })

-- and what is found is a table that is there, by its argument
abbrev pub FoundAreThere : Type 0
FoundAreThere = (a : Program) (h : History) (argument : TableArgument) (f : Found) → IsRun a h → found h argument ≡ Some f → (table h f.ref ≡ Some f.table) × (argument_for f.ref f.table ≡ argument)

-- ---- after an event

abbrev pub same_argument : TableArgument → TableArgument → Bool
same_argument (ByName name) (ByName other) = same_name name other
same_argument (ByReference t) (ByReference other) = same_ref t other
same_argument argument other = false

-- the table that an event makes to be found by this argument: a served `new/2` makes one
abbrev pub made_by_call : History → Pid → Call → TableArgument → Option Ref
made_by_call h p (New (Some name) (Some os)) argument = if same_argument (argument_for (next_ref (contents h) p) (table_of p name os)) argument then Some (next_ref (contents h) p) else None
made_by_call h p call argument = None

abbrev pub made_in : History → Step → Deed → TableArgument → Option Ref
made_in h (Turn p) (Served kind arguments answer) argument = made_by_call h p (call_of kind arguments) argument
made_in h step deed argument = None

-- a table as it is, if it is there
abbrev pub if_there : History → Option Ref → Option Found
if_there h None = None
if_there h (Some t) = as_found t (table h t)

-- an argument finds the table that the event makes for it; else the one that it found before, unless that table is gone
abbrev pub FoundIsTold : Type 0
FoundIsTold = (a : Program) (h : History) (e : Event) (argument : TableArgument) → IsRun a (e ∷ h) → found (e ∷ h) argument ≡ if_there (e ∷ h) (option_or (made_in h e.step e.deed argument) (option_map (λ f. f.ref) (found h argument)))
