-- A new table (ets manual, `new/2`): why it is refused, and what makes it.
use Rattle.std.specs.Prelude.{◌∷◌, if◌then◌else◌, Bool, Option, false, None, true, Some, List, [], option_map}
use Rattle.world_model.specs.Cells.{Cell, TableName}
use Rattle.world_model.specs.Changes.{Change, TableNameSet, TableSet, OwnedAdded}
use Rattle.world_model.specs.Events.{Refusal, ByRule}
use Rattle.world_model.specs.Names.{Name, Ref, Pid}
use Rattle.world_model.specs.ProcessLines.{CallLine, serves_unless}
use Rattle.world_model.specs.Tables.{TableOption, is_named, table_of, handle_of}
use Rattle.world_model.specs.Terms.{ok}
use Rattle.world_model.specs.declared.rule.Rule.{Rule}
use Rattle.world_model.specs.declared.rule.Rule.TheVariants.{NameTaken, BadOption}

abbrev pub name_taken : Bool → Option Ref → Option Rule
name_taken false t = None
name_taken true None = None
name_taken true (Some t) = Some NameTaken

-- of a new table: its options, and where it is to be found by its name whether that is free
abbrev pub new_rule : Option (List TableOption) → Option Ref → Option Rule
new_rule None t = Some BadOption
new_rule (Some os) t = name_taken (is_named os) t

abbrev pub by_rule : Option Pid → Rule → Refusal
by_rule owner rule = ByRule rule owner

-- one that is made without a name to be found by reads no name
abbrev pub new_reads : Name → Option (List TableOption) → List Cell
new_reads name None = TableName name ∷ []
new_reads name (Some os) = if is_named os then TableName name ∷ [] else []

abbrev pub means_if : Bool → Name → Ref → List Change
means_if named name t = if named then TableNameSet name t ∷ [] else []

abbrev pub made : Pid → Ref → Name → List TableOption → List Change
made p t name os = TableSet t (table_of p name os) ∷ OwnedAdded p t ∷ means_if (is_named os) name t

-- what a refused call says, and what a table that is made is found by: its name is looked at only where it is to be found by that
abbrev pub new_line : Pid → Ref → Name → Option (List TableOption) → Option Rule → CallLine
new_line p t name None rule = serves_unless (option_map (by_rule None) rule) (new_reads name None) ok []
new_line p t name (Some os) rule = serves_unless (option_map (by_rule None) rule) (new_reads name (Some os)) (handle_of t (table_of p name os)) (made p t name os)
