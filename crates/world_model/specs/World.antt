-- What a history leaves in each cell, and what it says.
use Rattle.std.specs.FinMap.{FinMap, empty}
use Rattle.std.specs.Prelude.{◌∷◌, [], None, false, Bool, ℕ, List, Option, option_map}
use Rattle.term_core.specs.Meaning.{Meaning}
use Rattle.term_core.specs.Order.{order_of_lists}
use Rattle.term_core.specs.declared.step.Step.{Step}
use Rattle.core_semantics.specs.Ask.{is_first}
use Rattle.core_semantics.specs.Asked.{Answered}
use Rattle.world_model.specs.Calls.{Call, TableArgument, TableCall}
use Rattle.world_model.specs.Cells.{Table, Row, Rows, Contents, Machine, Alive, Trap, Taken, Mailed, Front, Tail, Links, Watch, Watchers, Guard, Holder, Holders, NameOf, TableName, Owned}
use Rattle.world_model.specs.Changes.{after}
use Rattle.world_model.specs.Events.{Deed, History, Signal, Refusal}
use Rattle.world_model.specs.Guards as guards
use Rattle.world_model.specs.TableAccess.{Found, find}
use Rattle.world_model.specs.TableRules.{table_rule}
use Rattle.world_model.specs.Lines.{line}
use Rattle.world_model.specs.Mailboxes.{mailbox_in}
use Rattle.world_model.specs.Names.{Name, Ref, Pid}
use Rattle.world_model.specs.Requests.{Main}
use Rattle.world_model.specs.Rows.{Key, Object, Rows as RowsOf}
use Rattle.world_model.specs.Signals.{waiting_in}
use Rattle.world_model.specs.Steps.{changes_by}
use Rattle.world_model.specs.Tables as tables
use Rattle.world_model.specs.Tables.{Heir}
use Rattle.world_model.specs.declared.rule.Rule.{Rule}
use Rattle.world_model.specs.declared.table.Kind.{Kind}
use Rattle.world_model.specs.declared.table.Protection.{Protection}

-- in the beginning the first process lives, and all else is empty
abbrev pub beginning : Contents
beginning (Machine p) = record { origin = Main; turns = 0; answers = []; ended = None }
beginning (Alive p) = is_first p
beginning (Trap p) = false
beginning (Taken p) = []
beginning (Mailed p) = []
beginning (Front s r) = 0
beginning (Tail s r) = []
beginning (Links p) = []
beginning (Watchers p) = []
beginning (Watch ref) = None
beginning (Guard ref) = None
beginning (Holder name) = None
beginning Holders = empty
beginning (NameOf p) = None
beginning (TableName name) = None
beginning (Table t) = None
beginning (Row t key) = []
beginning (Rows t) = empty
beginning (Owned p) = []

-- contents after a step that did this
abbrev pub grown : Contents → Step → Deed → Contents
grown v step deed = after (changes_by v step deed) v

-- what a history leaves: in each cell what the latest event that changes it left there
unfoldable pub contents : History → Contents
contents [] = beginning
contents (e ∷ h) = grown (contents h) e.step e.deed

-- ---- what it says of processes

-- whether a process lives
abbrev pub alive : History → Pid → Bool
alive h p = contents h (Alive p)

-- how many turns it took
abbrev pub turns : History → Pid → ℕ
turns h p = (contents h (Machine p)).turns

-- what it was answered in them, in order
abbrev pub answers : History → Pid → List Answered
answers h p = (contents h (Machine p)).answers

-- whether it traps exits
abbrev pub traps : History → Pid → Bool
traps h p = contents h (Trap p)

-- the signals on their way from one process to another, the oldest first
abbrev pub waiting : History → Pid → Pid → List Signal
waiting h s r = waiting_in (contents h) s r

-- its messages, the oldest first
abbrev pub mailbox : History → Pid → List Meaning
mailbox h p = mailbox_in (contents h) p

-- the processes that it is linked to
abbrev pub linked : History → Pid → List Pid
linked h p = contents h (Links p)

-- the process that a watch is for, and the watches of a process
abbrev pub watched : History → Ref → Option Pid
watched h ref = contents h (Watch ref)

abbrev pub watches_of : History → Pid → List Ref
watches_of h p = contents h (Watchers p)

-- what lets messages in that are sent to a reference
abbrev pub guarded : History → Ref → Option guards.Guard
guarded h ref = contents h (Guard ref)

-- who holds a name, each name that has a holder with that, and the name of a process
abbrev pub holder : History → Name → Option Pid
holder h name = contents h (Holder name)

abbrev pub holders : History → FinMap order_of_lists Pid
holders h = contents h Holders

abbrev pub name_of : History → Pid → Option Name
name_of h p = contents h (NameOf p)

-- ---- what it says of tables

-- the table that an argument finds
abbrev pub found : History → TableArgument → Option Found
found h argument = find (contents h) argument

-- a table by the reference of its creation
abbrev pub table : History → Ref → Option tables.Table
table h t = contents h (Table t)

abbrev pub owner : History → Ref → Option Pid
owner h t = option_map (λ table. table.owner) (table h t)

-- the tables of a process
abbrev pub tables_of : History → Pid → List Ref
tables_of h p = contents h (Owned p)

-- the kind, the protection and the position of the keys
abbrev pub settings : History → Ref → Option (Kind × Protection × ℕ)
settings h t = option_map (λ table. (table.kind, table.protection, table.position)) (table h t)

abbrev pub heir : History → Ref → Option Heir
heir h t = option_map (λ table. table.heir) (table h t)

-- the objects under a key
abbrev pub rows : History → Ref → Key → List Object
rows h t key = contents h (Row t key)

-- all rows: each key that has objects, with these, in the order of keys
abbrev pub all_rows : History → Ref → RowsOf
all_rows h t = contents h (Rows t)

-- the one rule by which a call of a table is refused; none where it is served
abbrev pub rule_of : History → Pid → TableArgument → TableCall → Option Rule
rule_of h p argument call = table_rule (contents h) p argument call

-- why a call is refused; nothing where it is served
abbrev pub refusal_of : History → Pid → Call → Option Refusal
refusal_of h p call = (line (contents h) p call).refusal

-- the answer where it is served
abbrev pub answer_of : History → Pid → Call → Meaning
answer_of h p call = (line (contents h) p call).answer
