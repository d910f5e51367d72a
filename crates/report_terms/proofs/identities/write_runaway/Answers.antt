use Rattle.std.proofs.Common.{◌++◌, ap, ◌∙◌, codes}
use Rattle.std.specs.Prelude.{Err}
use Rattle.std.proofs.lemmas.Result.{err_from_is_err_and}
use Rattle.term_core.specs.inside.Writing.{owes_all, owes_last, owes_less}
use Rattle.report_explained.specs.declared.explain_fault.ExplainFault.TheVariants.{Write}
use Rattle.report_explained.proofs.Parts.{last_fails, part_fails}
use Rattle.report_terms.specs.Strings.{string_of_pid}
use Rattle.report_terms.proofs.identities.write_runaway.Goals as goal

pub returns-in_err-write_all : goal.returns-in_err-write_all
returns-in_err-write_all g c =
    let p = err_from_is_err_and c.from_residual.result c.from_residual.ensures.1 in
    let o0 = owes_all _ _ in
    part_fails _ _ (g.W.Sink.contents c.write_all.new.sink) (g.W.Sink.has_failed c.write_all.new.sink) c.from_residual.result Write (codes "{runs_away,") (string_of_pid c.args.pid.now ++ codes "}") _ (p.1 ∙ ap Err p.2) o0 c.in_err-write_all.ensures

pub returns-in_err-write_pid_string : goal.returns-in_err-write_pid_string
returns-in_err-write_pid_string g c =
    let p = err_from_is_err_and c.from_residual-in_err-write_pid_string.result c.from_residual-in_err-write_pid_string.ensures.1 in
    let o0 = owes_all _ _ in
    let o1 = owes_less _ _ _ (codes "{runs_away,") (string_of_pid c.args.pid.now ++ codes "}") _ o0 c.in_ok-write_all.ensures.appends in
    part_fails _ _ (g.W.Sink.contents c.write_pid_string.new.sink) (g.W.Sink.has_failed c.write_pid_string.new.sink) c.from_residual-in_err-write_pid_string.result Write (string_of_pid c.args.pid.now) (codes "}") _ (p.1 ∙ ap Err p.2) o1 c.in_err-write_pid_string.ensures

pub returns-in_err-write_all-2 : goal.returns-in_err-write_all-2
returns-in_err-write_all-2 g c =
    let p = err_from_is_err_and c.from_residual-in_err-write_all-2.result c.from_residual-in_err-write_all-2.ensures.1 in
    let o0 = owes_all _ _ in
    let o1 = owes_less _ _ _ (codes "{runs_away,") (string_of_pid c.args.pid.now ++ codes "}") _ o0 c.in_ok-write_all.ensures.appends in
    let o2 = owes_less _ _ _ (string_of_pid c.args.pid.now) (codes "}") _ o1 c.in_ok-write_pid_string.ensures.appends in
    last_fails _ _ (g.W.Sink.contents c.write_all-2.new.sink) (g.W.Sink.has_failed c.write_all-2.new.sink) c.from_residual-in_err-write_all-2.result Write (codes "}") _ (p.1 ∙ ap Err p.2) o2 c.in_err-write_all-2.ensures

pub returns : goal.returns
returns g c =
    let o0 = owes_all _ _ in
    let o1 = owes_less _ _ _ (codes "{runs_away,") (string_of_pid c.args.pid.now ++ codes "}") _ o0 c.in_ok-write_all.ensures.appends in
    let o2 = owes_less _ _ _ (string_of_pid c.args.pid.now) (codes "}") _ o1 c.in_ok-write_pid_string.ensures.appends in
    owes_last _ _ _ _ (codes "}") _ o2 c.in_ok-write_all-2.ensures
