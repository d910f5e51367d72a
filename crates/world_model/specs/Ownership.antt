-- How a table passes, inherits and goes (ets manual, `give_away/3`, `setopts/2`, `delete/1`).
use Rattle.std.specs.Prelude.{if◌then◌else◌, ◌∷◌, Bool, Option, Some, None, List, [], map}
use Rattle.term_core.specs.Meaning.{Meaning}
use Rattle.world_model.specs.Cells.{Table, Contents, Alive}
use Rattle.world_model.specs.Changes.{Change, OwnerSet, OwnedRemoved, OwnedAdded, SignalPut, CellTouched, HeirSet, TableRemoved, RowsCleared}
use Rattle.world_model.specs.Ends.{name_freed}
use Rattle.world_model.specs.Events.{Message}
use Rattle.world_model.specs.TableAccess.{Found}
use Rattle.world_model.specs.Names.{Pid, same_pid, Ref}
use Rattle.world_model.specs.Signals.{transfer_message}
use Rattle.world_model.specs.Tables as tables
use Rattle.world_model.specs.Tables.{handle_of, Heir}
use Rattle.world_model.specs.declared.rule.Rule.{Rule}
use Rattle.world_model.specs.declared.rule.Rule.TheVariants.{OwnTarget, DeadTarget, BadOption}

-- ---- owners and heirs

abbrev pub gift_rule : tables.Table → Pid → Bool → Option Rule
gift_rule table to lives = if lives then (if same_pid to table.owner then Some OwnTarget else None) else Some DeadTarget

abbrev pub target_rule : Contents → tables.Table → Option Pid → Option Rule
target_rule v table None = Some DeadTarget
target_rule v table (Some to) = gift_rule table to (v (Alive to))

-- the table passes, and its new owner is informed
abbrev pub gives_to : Found → Option Pid → Meaning → List Change
gives_to f None gift = []
gives_to f (Some to) gift = OwnerSet f.ref to ∷ OwnedRemoved f.table.owner f.ref ∷ OwnedAdded to f.ref ∷ SignalPut f.table.owner to (Message (transfer_message (handle_of f.ref f.table) f.table.owner gift)) ∷ []

abbrev pub heirs_rule : Option (List Heir) → Option Rule
heirs_rule None = Some BadOption
heirs_rule (Some heirs) = None

-- each heir in turn, so that the last counts; and no heir changes nothing
abbrev pub heirs_set : Ref → List Heir → List Change
heirs_set t [] = CellTouched (Table t) ∷ []
heirs_set t (heir ∷ heirs) = map (HeirSet t) (heir ∷ heirs)

-- it is destroyed, with all its rows
abbrev pub destroyed : Found → List Change
destroyed f = TableRemoved f.ref ∷ RowsCleared f.ref ∷ OwnedRemoved f.table.owner f.ref ∷ name_freed f.table
