use Rattle.std.proofs.Common.{ap, sym, ◌∙◌}
use Rattle.std.specs.Prelude.{Err}
use Rattle.std.proofs.lemmas.Result.{err_from_is_err_and}
use Rattle.term_core.specs.Term.{meaning_of}
use Rattle.term_core.specs.inside.Writing.{owes_all, owes_last, owes_same}
use Rattle.report_explained.specs.declared.explain_fault.ExplainFault.TheVariants.{Write}
use Rattle.report_explained.proofs.Parts.{last_fails}
use Rattle.report_terms.specs.Strings.{quoted, string_of_term}
use Rattle.report_terms.proofs.Wants.{lacks_memory}
use Rattle.report_terms.proofs.strings.write_term_string.Goals as goal

pub returns-in_err-text : goal.returns-in_err-text
returns-in_err-text g c =
    let p = err_from_is_err_and c.from_residual.result c.from_residual.ensures.1 in
    lacks_memory (g.W.Sink.contents c.args.sink.now) (g.W.Sink.has_failed c.args.sink.now) c.from_residual.result (string_of_term (meaning_of c.args.term.now)) (p.1 ∙ ap Err (p.2 ∙ c.in_err-text.ensures.memory)) c.requires

pub returns-in_err-write_quoted : goal.returns-in_err-write_quoted
returns-in_err-write_quoted g c =
    let p = err_from_is_err_and c.from_residual-in_err-write_quoted.result c.from_residual-in_err-write_quoted.ensures.1 in
    let o0 = owes_same _ _ _ _ _ (sym (ap quoted (c.as_slice.ensures.value ∙ c.in_ok-text.ensures.text))) (owes_all _ _) in
    last_fails _ _ (g.W.Sink.contents c.write_quoted.new.sink) (g.W.Sink.has_failed c.write_quoted.new.sink) c.from_residual-in_err-write_quoted.result Write (quoted c.as_slice.result.now) _ (p.1 ∙ ap Err p.2) o0 c.in_err-write_quoted.ensures

pub returns : goal.returns
returns g c =
    let o0 = owes_same _ _ _ _ _ (sym (ap quoted (c.as_slice.ensures.value ∙ c.in_ok-text.ensures.text))) (owes_all _ _) in
    owes_last _ _ _ _ (quoted c.as_slice.result.now) _ o0 c.in_ok-write_quoted.ensures
