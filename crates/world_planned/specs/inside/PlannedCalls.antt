-- What is planned of a call: its reply, the cells that it reads, and what it changes.
use Rattle.std.specs.Prelude.{◌≡◌, List, [], Some, None}
use Rattle.term_core.specs.Meaning.{Meaning}
use Rattle.term_core.specs.Term.{meaning_of}
use Rattle.core_tree.specs.Syntax.{ModuleTree}
use Rattle.world_model.specs.Calls.{Call}
use Rattle.world_model.specs.Cells.{Contents}
use Rattle.world_model.specs.Changes.{Change, AliveCleared, changed}
use Rattle.world_model.specs.Ends.{left_by}
use Rattle.world_model.specs.Events as events
use Rattle.world_model.specs.Lines.{line}
use Rattle.world_model.specs.Names.{Pid}
use Rattle.world_model.specs.Steps.{ends_itself, reads_of_call}
use Rattle.world_records.specs.Records.{Agrees}
use Rattle.world_records.specs.declared.records.Records.{Records}
use Rattle.world_planned.specs.Replies.{NamesMeanTables, refusal_in}
use Rattle.world_planned.specs.inside.Planned.{Adds}
use Rattle.world_planned.specs.declared.planned.Planned.{Planned}
use Rattle.world_planned.specs.declared.reply.Refusal.{Refusal}
use Rattle.world_planned.specs.declared.reply.Reply.{Reply}
use Rattle.world_planned.specs.declared.reply.Reply.TheVariants.{Served, Refused, Ends}

-- a call of a process does not end it, and is served with the answer of its line
pub record IsServed (v : Contents) (p : Pid) (call : Call) (answer : Meaning) : Type 0 where
  pub goes_on : ends_itself v p call ≡ None
  pub is_served : (line v p call).refusal ≡ None
  pub answers : answer ≡ (line v p call).answer

-- it is refused as its line says
pub record IsRefused (v : Contents) (p : Pid) (call : Call) (refusal : events.Refusal) : Type 0 where
  pub goes_on : ends_itself v p call ≡ None
  pub is_refused : (line v p call).refusal ≡ Some refusal

abbrev pub IsReply : Contents → Pid → Call → Reply → Type 0
IsReply v p call (Served answer) = IsServed v p call (meaning_of answer)
IsReply v p call (Refused refusal) = IsRefused v p call (refusal_in refusal)
IsReply v p call (Ends reason) = ends_itself v p call ≡ Some (meaning_of reason)

-- what the call changes: what its line says, or where it is refused nothing, or where it ends its caller what that leaves
abbrev pub changes_of_reply : Contents → Pid → Call → Reply → List Change
changes_of_reply v p call (Served answer) = (line v p call).changes
changes_of_reply v p call (Refused refusal) = []
changes_of_reply v p call (Ends reason) = left_by (changed (AliveCleared p) v) p (meaning_of reason)

-- the reply is that of the call, and what the call reads and changes is planned
pub record IsPlanned (v : Contents) (p : Pid) (call : Call) (reply : Reply) (old new : Planned) : Type 0 where
  pub reply_is : IsReply v p call reply
  pub adds : Adds (reads_of_call v p call) (changes_of_reply v p call reply) old new

-- so it is, whatever contents the records agree with
abbrev pub Plans : Pid → Call → Records → Reply → Planned → Planned → Type 0
Plans p call records reply old new = (m : ModuleTree) (v : Contents) → Agrees m records v → NamesMeanTables v → IsPlanned v p call reply old new
