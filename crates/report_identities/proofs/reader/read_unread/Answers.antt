use Rattle.std.proofs.Common.{◌≡◌, ◌∙◌, ◌<◌, ◌++◌, length, ap, codes, rules}
use Rattle.std.proofs.lemmas.Result.{err_from_is_err_and}
use Rattle.report_identities.specs.inside.Reading.{text_of_processes}
use Rattle.report_identities.proofs.IdentityTexts.{no_unread, refused_unread}
use Rattle.report_identities.proofs.Marks.{nothing}
use Rattle.report_identities.proofs.reader.read_unread.Goals as goal

pub returns-in_err-pids : goal.returns-in_err-pids
returns-in_err-pids c =
    let p = err_from_is_err_and c.from_residual.result c.from_residual.ensures.1 in
    rw (p.1, p.2) (refused_unread c.args.text.now _ c.in_err-pids.ensures)

pub returns-then-is_empty : goal.returns-then-is_empty
returns-then-is_empty c =
    let none : length c.in_ok-pids.pids.items ≡ 0 = search rules in
    no_unread c.args.text.now (c.in_ok-pids.ensures.1 ∙ ap text_of_processes (nothing _ none))

pub returns : goal.returns
returns c =
    let some : 0 < length c.in_ok-pids.pids.items = search rules in
    ((some, c.in_ok-pids.ensures.0), ap (λ w. codes "unread messages of" ++ w) c.in_ok-pids.ensures.1)
