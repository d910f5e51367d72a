-- The texts of calls and of the rules that refuse them, as bytes.
use Rattle.std.specs.Prelude.{ℕ, List, [], ◌∷◌, ◌++◌, Option, Some, None, codes}
use Rattle.std.specs.Fmt.{decimal}
use Rattle.term_core.specs.Meaning.{Meaning}
use Rattle.term_core.specs.Text.{text_of_pid}
use Rattle.term_core.specs.TermText.{text_of_term}
use Rattle.core_calls.specs.declared.call.CallKind.{CallKind}
use Rattle.core_calls.specs.Calls.{signature}
use Rattle.world_model.specs.Names.{Pid}
use Rattle.world_model.specs.declared.rule.Rule.{Rule}
use Rattle.world_model.specs.declared.rule.Rule.TheVariants.{BadTable, NoTable, PrivateRead, PrivateWrite, ProtectedWrite, NotOwner, BadName, BadOption, NameTaken, NotObject, ShortObject, BadPosition, NoKey, NotInteger, BagRefused, DeadTarget, OwnTarget, BadItem, CounterRange}
use Rattle.world_identities.specs.Order.{number_of_rule}

-- ---- calls

-- an argument after a comma
abbrev pub behind_comma : Meaning → List ℕ
behind_comma argument = codes "," ++ text_of_term argument

-- the arguments with commas between them
abbrev pub text_of_arguments : List Meaning → List ℕ
text_of_arguments [] = []
text_of_arguments (a ∷ []) = text_of_term a
text_of_arguments (a ∷ b ∷ arguments) = text_of_term a ++ (codes "," ++ text_of_arguments (b ∷ arguments))

-- `mod:fun(args)`, the names without quotes
abbrev pub text_of_call : CallKind → List Meaning → List ℕ
text_of_call kind arguments = (signature kind).module_name ++ (codes ":" ++ ((signature kind).function_name ++ (codes "(" ++ (text_of_arguments arguments ++ codes ")"))))

-- ---- rules

-- the name of a rule
abbrev pub name_of_rule : Rule → List ℕ
name_of_rule BadTable = codes "BadTable"
name_of_rule NoTable = codes "NoTable"
name_of_rule PrivateRead = codes "PrivateRead"
name_of_rule PrivateWrite = codes "PrivateWrite"
name_of_rule ProtectedWrite = codes "ProtectedWrite"
name_of_rule NotOwner = codes "NotOwner"
name_of_rule BadName = codes "BadName"
name_of_rule BadOption = codes "BadOption"
name_of_rule NameTaken = codes "NameTaken"
name_of_rule NotObject = codes "NotObject"
name_of_rule ShortObject = codes "ShortObject"
name_of_rule BadPosition = codes "BadPosition"
name_of_rule NoKey = codes "NoKey"
name_of_rule NotInteger = codes "NotInteger"
name_of_rule BagRefused = codes "BagRefused"
name_of_rule DeadTarget = codes "DeadTarget"
name_of_rule OwnTarget = codes "OwnTarget"
name_of_rule BadItem = codes "BadItem"
name_of_rule CounterRange = codes "CounterRange"

-- a rule by its number and its name
abbrev pub text_of_rule : Rule → List ℕ
text_of_rule rule = decimal (number_of_rule rule) ++ (codes " " ++ name_of_rule rule)

-- the owner of a table that is reported
abbrev pub text_of_told_owner : Pid → List ℕ
text_of_told_owner owner = codes ", owner " ++ text_of_pid owner

-- the owner of a table, where it is reported
abbrev pub text_of_owner : Option Pid → List ℕ
text_of_owner None = []
text_of_owner (Some owner) = text_of_told_owner owner

-- the error of a call of a table, with the one rule that refuses it, and with the owner where it is reported
abbrev pub text_of_broken_rule : Rule → Option Pid → List ℕ
text_of_broken_rule rule owner = codes "badarg (" ++ (text_of_rule rule ++ (text_of_owner owner ++ codes ")"))
