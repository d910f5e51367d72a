use Rattle.std.proofs.Common.{◌∙◌, Bor, ap}
use Rattle.term_core.specs.Term.{meaning_of}
use Rattle.term_core.specs.declared.term.Term.{Term}
use Rattle.world_model.specs.Shown.{are_some}
use Rattle.world_core.proofs.Showing.{has_one}
use Rattle.world_core.proofs.shows.has_messages.Goals as goal

pub returns-in-Some : goal.returns-in-Some
returns-in-Some c = c.is_some.ensures ∙ has_one c.get.result (λ (message : Bor Term). meaning_of message.now) c.in-Some.mailbox.now c.get.ensures ∙ ap are_some c.in-Some.ensures
