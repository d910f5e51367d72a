-- What the end of a process reports to others about its tables (ets manual, `new/2`: heir).
use Rattle.std.specs.Prelude.{◌∷◌, ◌++◌, [], List}
use Rattle.term_core.specs.Meaning.{Meaning}
use Rattle.term_core.specs.Term.{meaning_of}
use Rattle.world_model.specs.Cells.{Contents, Owned}
use Rattle.world_model.specs.Changes.{Change, SignalPut}
use Rattle.world_model.specs.Ends.{tables_pass}
use Rattle.world_model.specs.Events.{Message}
use Rattle.world_model.specs.Names.{Pid}
use Rattle.ets_tables.specs.declared.transfers.Transfer.{Transfer}

-- the message that a change puts, and who it is for
abbrev pub transfer_in : Change → List (Pid × Meaning)
transfer_in (SignalPut s r (Message message)) = (r, message) ∷ []
transfer_in k = []

-- the messages that changes put, in order
abbrev pub transfers_in : List Change → List (Pid × Meaning)
transfers_in [] = []
transfers_in (k ∷ ks) = transfer_in k ++ transfers_in ks

abbrev pub transfer_of : Transfer → Pid × Meaning
transfer_of t = (t.to, meaning_of t.message)

-- what becomes of the tables of a process that ends, one after the other in the order of their references
abbrev pub tables_left : Contents → Pid → List Change
tables_left v p = tables_pass v p (v (Owned p))
