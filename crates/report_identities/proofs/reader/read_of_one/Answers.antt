use Rattle.std.proofs.Common.{◌∙◌, ◌++◌, ap₂, sym, subst}
use Rattle.std.proofs.lemmas.Result.{err_from_is_err_and}
use Rattle.term_core.proofs.Pieces.{front-append-behind}
use Rattle.report_identities.specs.inside.Reading.{ReadsIdentity}
use Rattle.report_identities.proofs.IdentityTexts.{refused_process}
use Rattle.report_identities.proofs.Marks.{rest_begins}
use Rattle.report_identities.proofs.reader.read_of_one.Goals as goal

pub returns-in_err-pid : goal.returns-in_err-pid
returns-in_err-pid c =
    let p = err_from_is_err_and c.from_residual.result c.from_residual.ensures.1 in
    let only = rw c.split_before.ensures.before at c.in_err-pid.ensures in
    rw (p.1, p.2) (refused_process c.args.text.now _ c.requires.deadlock c.requires.unread only)

pub read_behind_process-requires-clause-blank : goal.read_behind_process-requires-clause-blank
read_behind_process-requires-clause-blank c = rw c.split_before.ensures.rest (rest_begins 32 c.args.text.now)

pub returns : goal.returns
returns c =
    let whole = ap₂ ◌++◌ (sym c.in_ok-pid.ensures.1 ∙ c.split_before.ensures.before) c.split_before.ensures.rest ∙ front-append-behind 32 c.args.text.now in
    subst (λ w. ReadsIdentity w c.read_behind_process.result) whole c.read_behind_process.ensures
