use Rattle.std.proofs.Common.{◌++◌, ap, ◌∙◌, codes}
use Rattle.std.specs.Prelude.{Err}
use Rattle.std.proofs.lemmas.Result.{err_from_is_err_and}
use Rattle.term_core.specs.inside.Writing.{owes_all, owes_last, owes_less}
use Rattle.report_explained.specs.declared.explain_fault.ExplainFault.TheVariants.{Write}
use Rattle.report_explained.proofs.Parts.{last_fails, part_fails}
use Rattle.report_terms.specs.Strings.{strings_of_pids}
use Rattle.report_terms.proofs.identities.write_processes.Goals as goal

pub returns-in_err-write_all : goal.returns-in_err-write_all
returns-in_err-write_all g c =
    let p = err_from_is_err_and c.from_residual.result c.from_residual.ensures.1 in
    let o0 = owes_all _ _ in
    part_fails _ _ (g.W.Sink.contents c.write_all.new.sink) (g.W.Sink.has_failed c.write_all.new.sink) c.from_residual.result Write c.args.beginning.now (strings_of_pids c.args.processes.now ++ codes "]}") _ (p.1 ∙ ap Err p.2) o0 c.in_err-write_all.ensures

pub returns-in_err-write_pid_strings : goal.returns-in_err-write_pid_strings
returns-in_err-write_pid_strings g c =
    let p = err_from_is_err_and c.from_residual-in_err-write_pid_strings.result c.from_residual-in_err-write_pid_strings.ensures.1 in
    let o0 = owes_all _ _ in
    let o1 = owes_less _ _ _ c.args.beginning.now (strings_of_pids c.args.processes.now ++ codes "]}") _ o0 c.in_ok-write_all.ensures.appends in
    part_fails _ _ (g.W.Sink.contents c.write_pid_strings.new.sink) (g.W.Sink.has_failed c.write_pid_strings.new.sink) c.from_residual-in_err-write_pid_strings.result Write (strings_of_pids c.args.processes.now) (codes "]}") _ (p.1 ∙ ap Err p.2) o1 c.in_err-write_pid_strings.ensures

pub returns-in_err-write_all-2 : goal.returns-in_err-write_all-2
returns-in_err-write_all-2 g c =
    let p = err_from_is_err_and c.from_residual-in_err-write_all-2.result c.from_residual-in_err-write_all-2.ensures.1 in
    let o0 = owes_all _ _ in
    let o1 = owes_less _ _ _ c.args.beginning.now (strings_of_pids c.args.processes.now ++ codes "]}") _ o0 c.in_ok-write_all.ensures.appends in
    let o2 = owes_less _ _ _ (strings_of_pids c.args.processes.now) (codes "]}") _ o1 c.in_ok-write_pid_strings.ensures.appends in
    last_fails _ _ (g.W.Sink.contents c.write_all-2.new.sink) (g.W.Sink.has_failed c.write_all-2.new.sink) c.from_residual-in_err-write_all-2.result Write (codes "]}") _ (p.1 ∙ ap Err p.2) o2 c.in_err-write_all-2.ensures

pub returns : goal.returns
returns g c =
    let o0 = owes_all _ _ in
    let o1 = owes_less _ _ _ c.args.beginning.now (strings_of_pids c.args.processes.now ++ codes "]}") _ o0 c.in_ok-write_all.ensures.appends in
    let o2 = owes_less _ _ _ (strings_of_pids c.args.processes.now) (codes "]}") _ o1 c.in_ok-write_pid_strings.ensures.appends in
    owes_last _ _ _ _ (codes "]}") _ o2 c.in_ok-write_all-2.ensures
