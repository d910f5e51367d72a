use Rattle.std.proofs.Common.{◌≡◌, ◌++◌, ap, codes, rules}
use Rattle.term_core.specs.Text.{text_of_pid}
use Rattle.report_identities.proofs.IdentityTexts.{nothing_behind}
use Rattle.report_identities.proofs.reader.read_behind_process.Goals as goal

pub returns-in-Some : goal.returns-in-Some
returns-in-Some c = rw c.in-Some.ensures c.read_end.ensures

pub returns-in-Some-behind_words : goal.returns-in-Some-behind_words
returns-in-Some-behind_words c = rw c.in-Some-behind_words.ensures c.read_refused_call.ensures

pub returns-then-eq : goal.returns-then-eq
returns-then-eq c =
    let e : c.args.rest.now ≡ codes " runs away" = search rules in
    (c.requires.numbers, ap (λ w. text_of_pid c.args.pid ++ w) e)

pub returns-else-eq : goal.returns-else-eq
returns-else-eq c =
    let other : c.args.rest.now ≡ codes " runs away" → ⊥ = search rules in
    nothing_behind c.args.pid c.args.rest.now c.requires.numbers c.requires.blank c.in_default.ensures c.in_default-behind_words.ensures other
