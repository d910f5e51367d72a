use Rattle.std.proofs.Common.{◌<◌, ◌∙◌, ap, length, option_map, rules, sym}
use Rattle.term_core.specs.Term.{meaning_of}
use Rattle.proc_mailboxes.proofs.Cells.{is_there, picks_follow}
use Rattle.proc_mailboxes.specs.Mailboxes.{messages_in}
use Rattle.proc_mailboxes.proofs.mailboxes.Mailboxes.take.Goals as goal

pub returns-clause-picks : goal.returns-clause-picks
returns-clause-picks g c = λ v told.
    let within : c.in-Some.place < length (messages_in c.args.self.now c.args.pid.now) = search rules in
    picks_follow (g.S.Selector.takes c.args.selector.now) c.args.pid.now c.args.self.now _ c.in-Some.place (option_map meaning_of c.in_ok-taken.taken)
    (sym c.in-Some.is ∙ c.in_ok-place.ensures.found) within c.in_ok-taken.ensures.message c.in_ok-taken.ensures.rest v told

pub returns-clause-none : goal.returns-clause-none
returns-clause-none g c = λ none.
    let within : c.in-Some.place < length (messages_in c.args.self.now c.args.pid.now) = search rules in
    absurd (is_there (messages_in c.args.self.now c.args.pid.now) c.in-Some.place (sym (ap (option_map meaning_of) none) ∙ c.in_ok-taken.ensures.message) within)
