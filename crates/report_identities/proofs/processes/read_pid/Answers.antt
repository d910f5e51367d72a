use Rattle.std.proofs.lemmas.Result.{err_from_is_err_and}
use Rattle.term_core.specs.Meaning as terms
use Rattle.report_identities.proofs.ArgumentTexts.{no_pid, only_memory, same_term}
use Rattle.report_identities.proofs.processes.read_pid.Goals as goal

pub returns-in_err-term : goal.returns-in_err-term
returns-in_err-term c =
    let p = err_from_is_err_and c.from_residual.result c.from_residual.ensures.1 in
    rw (p.1, p.2) (λ q l e. only_memory _ (c.in_err-term.ensures (terms.Pid q) l e))

pub returns : goal.returns
returns c = λ q l e. absurd (no_pid _ q c.in_default.not-Pid (same_term _ _ (terms.Pid q) c.in_ok-term.ensures.0 l c.in_ok-term.ensures.1 e))
