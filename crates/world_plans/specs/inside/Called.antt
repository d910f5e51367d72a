-- What a call did.
use Rattle.std.specs.Prelude.{List}
use Rattle.core_calls.specs.declared.call.CallKind.{CallKind}
use Rattle.term_core.specs.Meaning.{Meaning}
use Rattle.term_core.specs.Term.{meaning_of}
use Rattle.world_model.specs.Events as events
use Rattle.world_planned.specs.Replies.{refusal_in}
use Rattle.world_planned.specs.declared.reply.Reply.{Reply}
use Rattle.world_planned.specs.declared.reply.Reply.TheVariants.{Served, Refused, Ends}

-- by what it resulted in
abbrev pub deed_of_reply : CallKind → List Meaning → Reply → events.Deed
deed_of_reply kind arguments (Served answer) = events.Served kind arguments (meaning_of answer)
deed_of_reply kind arguments (Refused refusal) = events.Refused kind arguments (refusal_in refusal)
deed_of_reply kind arguments (Ends reason) = events.EndedItself kind arguments (meaning_of reason)
