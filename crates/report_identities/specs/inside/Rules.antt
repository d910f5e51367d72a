-- The texts of rules.
use Rattle.std.specs.Prelude.{ℕ, List, codes}
use Rattle.world_model.specs.declared.rule.Rule.{Rule}
use Rattle.world_model.specs.declared.rule.Rule.TheVariants.{BadTable, NoTable, PrivateRead, PrivateWrite, ProtectedWrite, NotOwner, BadName, BadOption, NameTaken, NotObject, ShortObject, BadPosition, NoKey, NotInteger, BagRefused, DeadTarget, OwnTarget, BadItem, CounterRange}

-- the number and the name of a rule, written out
abbrev pub words_of : Rule → List ℕ
words_of BadTable = codes "1 BadTable"
words_of NoTable = codes "2 NoTable"
words_of PrivateRead = codes "3 PrivateRead"
words_of PrivateWrite = codes "4 PrivateWrite"
words_of ProtectedWrite = codes "5 ProtectedWrite"
words_of NotOwner = codes "6 NotOwner"
words_of BadName = codes "7 BadName"
words_of BadOption = codes "8 BadOption"
words_of NameTaken = codes "9 NameTaken"
words_of NotObject = codes "10 NotObject"
words_of ShortObject = codes "11 ShortObject"
words_of BadPosition = codes "12 BadPosition"
words_of NoKey = codes "13 NoKey"
words_of NotInteger = codes "14 NotInteger"
words_of BagRefused = codes "15 BagRefused"
words_of DeadTarget = codes "16 DeadTarget"
words_of OwnTarget = codes "17 OwnTarget"
words_of BadItem = codes "18 BadItem"
words_of CounterRange = codes "19 CounterRange"
