-- What a process asks of the world, and what it is answered, as contracts see them.
use Rattle.term_core.specs.Term.{meaning_of}
use Rattle.core_eval.specs.declared.request.Request.{Request}
use Rattle.core_eval.specs.declared.request.Request.TheVariants as requests
use Rattle.core_eval.specs.declared.request.Answer.{Answer}
use Rattle.core_eval.specs.declared.request.Answer.TheVariants as answers
use Rattle.core_semantics.specs.Asked.{Answered, Value, Raise, Message, TimedOut}
use Rattle.core_eval.specs.Told.{Told, Call, Receive, End, Runaway}

-- what a request says, without where it lies in memory
abbrev pub told_by : Request → Told
told_by (requests.Call kind arguments) = Call kind arguments.value
told_by (requests.Receive waits) = Receive waits
told_by (requests.End reason) = End (meaning_of reason)
told_by requests.Runaway = Runaway

-- an answer, without where it lies in memory
abbrev pub answered_of : Answer → Answered
answered_of (answers.Value value) = Value (meaning_of value)
answered_of (answers.Raise reason) = Raise (meaning_of reason)
answered_of (answers.Message message) = Message (meaning_of message)
answered_of answers.TimedOut = TimedOut
