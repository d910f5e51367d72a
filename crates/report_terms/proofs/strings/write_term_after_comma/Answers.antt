use Rattle.std.proofs.Common.{ap, ◌∙◌, codes}
use Rattle.std.specs.Prelude.{Err}
use Rattle.std.proofs.lemmas.Result.{err_from_is_err_and}
use Rattle.term_core.specs.inside.Writing.{owes_all, owes_last, owes_less}
use Rattle.term_core.specs.Term.{meaning_of}
use Rattle.report_explained.specs.declared.explain_fault.ExplainFault.TheVariants.{Write}
use Rattle.report_explained.proofs.Parts.{last_fails, part_fails}
use Rattle.report_terms.specs.Strings.{string_of_term}
use Rattle.report_terms.proofs.strings.write_term_after_comma.Goals as goal

pub returns-in_err-write_all : goal.returns-in_err-write_all
returns-in_err-write_all g c =
    let p = err_from_is_err_and c.from_residual.result c.from_residual.ensures.1 in
    let o0 = owes_all _ _ in
    part_fails _ _ (g.W.Sink.contents c.write_all.new.sink) (g.W.Sink.has_failed c.write_all.new.sink) c.from_residual.result Write (codes ",") (string_of_term (meaning_of c.args.term.now)) _ (p.1 ∙ ap Err p.2) o0 c.in_err-write_all.ensures

pub returns-in_err-write_term_string : goal.returns-in_err-write_term_string
returns-in_err-write_term_string g c =
    let p = err_from_is_err_and c.from_residual-in_err-write_term_string.result c.from_residual-in_err-write_term_string.ensures.1 in
    let o0 = owes_all _ _ in
    let o1 = owes_less _ _ _ (codes ",") (string_of_term (meaning_of c.args.term.now)) _ o0 c.in_ok-write_all.ensures.appends in
    last_fails _ _ (g.W.Sink.contents c.write_term_string.new.sink) (g.W.Sink.has_failed c.write_term_string.new.sink) c.from_residual-in_err-write_term_string.result c.in_err-write_term_string.field-0.0 (string_of_term (meaning_of c.args.term.now)) _ (p.1 ∙ ap Err p.2) o1 c.in_err-write_term_string.ensures

pub returns : goal.returns
returns g c =
    let o0 = owes_all _ _ in
    let o1 = owes_less _ _ _ (codes ",") (string_of_term (meaning_of c.args.term.now)) _ o0 c.in_ok-write_all.ensures.appends in
    owes_last _ _ _ _ (string_of_term (meaning_of c.args.term.now)) _ o1 c.in_ok-write_term_string.ensures
