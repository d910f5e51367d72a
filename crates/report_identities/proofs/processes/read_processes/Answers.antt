use Rattle.std.proofs.Common.{rules}
use Rattle.std.proofs.lemmas.Result.{err_from_is_err_and}
use Rattle.report_identities.proofs.ProcessTexts.{next_word, no_blank, reads_more}
use Rattle.report_identities.proofs.processes.read_processes.Goals as goal

pub returns-then-blank-ne32 : goal.returns-then-blank-ne32
returns-then-blank-ne32 c = λ ps h e.
    let r = rw c.in-Some.ensures.cases.0 at c.processes.invariant in
    absurd (no_blank _ _ _ _ r (search rules) ps h e)

pub returns-in_err-pid : goal.returns-in_err-pid
returns-in_err-pid c =
    let p = err_from_is_err_and c.from_residual.result c.from_residual.ensures.1 in
    let r = rw (c.in-Some.ensures.cases.0, c.if-blank-ne32.false) at c.processes.invariant in
    let only = rw c.split_before.ensures.before at c.in_err-pid.ensures in
    rw (p.1, p.2) (λ ps h e. next_word _ _ _ _ r only ps h e)

pub processes-preserved : goal.processes-preserved
processes-preserved c =
    let r = rw (c.in-Some.ensures.cases.0, c.if-blank-ne32.false) at c.processes.invariant in
    let pid = rw c.split_before.ensures.before at c.in_ok-pid.ensures in
    rw (c.in_ok-push.ensures.items, c.split_before.ensures.rest) (reads_more _ _ _ _ r pid.0 pid.1)
