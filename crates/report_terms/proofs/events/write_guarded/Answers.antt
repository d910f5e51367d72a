use Rattle.std.proofs.Common.{◌++◌, ap, ◌∙◌, codes}
use Rattle.std.specs.Prelude.{Err}
use Rattle.std.proofs.lemmas.Result.{err_from_is_err_and}
use Rattle.term_core.specs.inside.Writing.{owes_all, owes_last, owes_less}
use Rattle.term_core.specs.Term.{meaning_of}
use Rattle.proc_links.specs.Effects.{fate_in}
use Rattle.world_model.specs.Names.{ref_of}
use Rattle.report_explained.specs.declared.explain_fault.ExplainFault.TheVariants.{Write}
use Rattle.report_explained.proofs.Parts.{last_fails, part_fails}
use Rattle.report_terms.specs.Strings.{string_of_reference, term_after_comma}
use Rattle.report_terms.specs.EventTerms.{fate_as_term}
use Rattle.report_terms.proofs.events.write_guarded.Goals as goal

pub returns-in_err-write_all : goal.returns-in_err-write_all
returns-in_err-write_all g c =
    let p = err_from_is_err_and c.from_residual.result c.from_residual.ensures.1 in
    let o0 = owes_all _ _ in
    part_fails _ _ (g.W.Sink.contents c.write_all.new.sink) (g.W.Sink.has_failed c.write_all.new.sink) c.from_residual.result Write c.args.beginning.now (string_of_reference (ref_of c.args.reference.now) ++ (term_after_comma (meaning_of c.args.message.now) ++ (codes "," ++ (fate_as_term (fate_in c.args.effect.now) ++ codes "}")))) _ (p.1 ∙ ap Err p.2) o0 c.in_err-write_all.ensures

pub returns-in_err-write_reference_string : goal.returns-in_err-write_reference_string
returns-in_err-write_reference_string g c =
    let p = err_from_is_err_and c.from_residual-in_err-write_reference_string.result c.from_residual-in_err-write_reference_string.ensures.1 in
    let o0 = owes_all _ _ in
    let o1 = owes_less _ _ _ c.args.beginning.now (string_of_reference (ref_of c.args.reference.now) ++ (term_after_comma (meaning_of c.args.message.now) ++ (codes "," ++ (fate_as_term (fate_in c.args.effect.now) ++ codes "}")))) _ o0 c.in_ok-write_all.ensures.appends in
    part_fails _ _ (g.W.Sink.contents c.write_reference_string.new.sink) (g.W.Sink.has_failed c.write_reference_string.new.sink) c.from_residual-in_err-write_reference_string.result Write (string_of_reference (ref_of c.args.reference.now)) (term_after_comma (meaning_of c.args.message.now) ++ (codes "," ++ (fate_as_term (fate_in c.args.effect.now) ++ codes "}"))) _ (p.1 ∙ ap Err p.2) o1 c.in_err-write_reference_string.ensures

pub returns-in_err-write_term_after_comma : goal.returns-in_err-write_term_after_comma
returns-in_err-write_term_after_comma g c =
    let p = err_from_is_err_and c.from_residual-in_err-write_term_after_comma.result c.from_residual-in_err-write_term_after_comma.ensures.1 in
    let o0 = owes_all _ _ in
    let o1 = owes_less _ _ _ c.args.beginning.now (string_of_reference (ref_of c.args.reference.now) ++ (term_after_comma (meaning_of c.args.message.now) ++ (codes "," ++ (fate_as_term (fate_in c.args.effect.now) ++ codes "}")))) _ o0 c.in_ok-write_all.ensures.appends in
    let o2 = owes_less _ _ _ (string_of_reference (ref_of c.args.reference.now)) (term_after_comma (meaning_of c.args.message.now) ++ (codes "," ++ (fate_as_term (fate_in c.args.effect.now) ++ codes "}"))) _ o1 c.in_ok-write_reference_string.ensures.appends in
    part_fails _ _ (g.W.Sink.contents c.write_term_after_comma.new.sink) (g.W.Sink.has_failed c.write_term_after_comma.new.sink) c.from_residual-in_err-write_term_after_comma.result c.in_err-write_term_after_comma.field-0.0 (term_after_comma (meaning_of c.args.message.now)) (codes "," ++ (fate_as_term (fate_in c.args.effect.now) ++ codes "}")) _ (p.1 ∙ ap Err p.2) o2 c.in_err-write_term_after_comma.ensures

pub returns-in_err-write_all-2 : goal.returns-in_err-write_all-2
returns-in_err-write_all-2 g c =
    let p = err_from_is_err_and c.from_residual-in_err-write_all-2.result c.from_residual-in_err-write_all-2.ensures.1 in
    let o0 = owes_all _ _ in
    let o1 = owes_less _ _ _ c.args.beginning.now (string_of_reference (ref_of c.args.reference.now) ++ (term_after_comma (meaning_of c.args.message.now) ++ (codes "," ++ (fate_as_term (fate_in c.args.effect.now) ++ codes "}")))) _ o0 c.in_ok-write_all.ensures.appends in
    let o2 = owes_less _ _ _ (string_of_reference (ref_of c.args.reference.now)) (term_after_comma (meaning_of c.args.message.now) ++ (codes "," ++ (fate_as_term (fate_in c.args.effect.now) ++ codes "}"))) _ o1 c.in_ok-write_reference_string.ensures.appends in
    let o3 = owes_less _ _ _ (term_after_comma (meaning_of c.args.message.now)) (codes "," ++ (fate_as_term (fate_in c.args.effect.now) ++ codes "}")) _ o2 c.in_ok-write_term_after_comma.ensures.appends in
    part_fails _ _ (g.W.Sink.contents c.write_all-2.new.sink) (g.W.Sink.has_failed c.write_all-2.new.sink) c.from_residual-in_err-write_all-2.result Write (codes ",") (fate_as_term (fate_in c.args.effect.now) ++ codes "}") _ (p.1 ∙ ap Err p.2) o3 c.in_err-write_all-2.ensures

pub returns-in_err-write_effect : goal.returns-in_err-write_effect
returns-in_err-write_effect g c =
    let p = err_from_is_err_and c.from_residual-in_err-write_effect.result c.from_residual-in_err-write_effect.ensures.1 in
    let o0 = owes_all _ _ in
    let o1 = owes_less _ _ _ c.args.beginning.now (string_of_reference (ref_of c.args.reference.now) ++ (term_after_comma (meaning_of c.args.message.now) ++ (codes "," ++ (fate_as_term (fate_in c.args.effect.now) ++ codes "}")))) _ o0 c.in_ok-write_all.ensures.appends in
    let o2 = owes_less _ _ _ (string_of_reference (ref_of c.args.reference.now)) (term_after_comma (meaning_of c.args.message.now) ++ (codes "," ++ (fate_as_term (fate_in c.args.effect.now) ++ codes "}"))) _ o1 c.in_ok-write_reference_string.ensures.appends in
    let o3 = owes_less _ _ _ (term_after_comma (meaning_of c.args.message.now)) (codes "," ++ (fate_as_term (fate_in c.args.effect.now) ++ codes "}")) _ o2 c.in_ok-write_term_after_comma.ensures.appends in
    let o4 = owes_less _ _ _ (codes ",") (fate_as_term (fate_in c.args.effect.now) ++ codes "}") _ o3 c.in_ok-write_all-2.ensures.appends in
    part_fails _ _ (g.W.Sink.contents c.write_effect.new.sink) (g.W.Sink.has_failed c.write_effect.new.sink) c.from_residual-in_err-write_effect.result c.in_err-write_effect.field-0.0 (fate_as_term (fate_in c.args.effect.now)) (codes "}") _ (p.1 ∙ ap Err p.2) o4 c.in_err-write_effect.ensures

pub returns-in_err-write_all-3 : goal.returns-in_err-write_all-3
returns-in_err-write_all-3 g c =
    let p = err_from_is_err_and c.from_residual-in_err-write_all-3.result c.from_residual-in_err-write_all-3.ensures.1 in
    let o0 = owes_all _ _ in
    let o1 = owes_less _ _ _ c.args.beginning.now (string_of_reference (ref_of c.args.reference.now) ++ (term_after_comma (meaning_of c.args.message.now) ++ (codes "," ++ (fate_as_term (fate_in c.args.effect.now) ++ codes "}")))) _ o0 c.in_ok-write_all.ensures.appends in
    let o2 = owes_less _ _ _ (string_of_reference (ref_of c.args.reference.now)) (term_after_comma (meaning_of c.args.message.now) ++ (codes "," ++ (fate_as_term (fate_in c.args.effect.now) ++ codes "}"))) _ o1 c.in_ok-write_reference_string.ensures.appends in
    let o3 = owes_less _ _ _ (term_after_comma (meaning_of c.args.message.now)) (codes "," ++ (fate_as_term (fate_in c.args.effect.now) ++ codes "}")) _ o2 c.in_ok-write_term_after_comma.ensures.appends in
    let o4 = owes_less _ _ _ (codes ",") (fate_as_term (fate_in c.args.effect.now) ++ codes "}") _ o3 c.in_ok-write_all-2.ensures.appends in
    let o5 = owes_less _ _ _ (fate_as_term (fate_in c.args.effect.now)) (codes "}") _ o4 c.in_ok-write_effect.ensures.appends in
    last_fails _ _ (g.W.Sink.contents c.write_all-3.new.sink) (g.W.Sink.has_failed c.write_all-3.new.sink) c.from_residual-in_err-write_all-3.result Write (codes "}") _ (p.1 ∙ ap Err p.2) o5 c.in_err-write_all-3.ensures

pub returns : goal.returns
returns g c =
    let o0 = owes_all _ _ in
    let o1 = owes_less _ _ _ c.args.beginning.now (string_of_reference (ref_of c.args.reference.now) ++ (term_after_comma (meaning_of c.args.message.now) ++ (codes "," ++ (fate_as_term (fate_in c.args.effect.now) ++ codes "}")))) _ o0 c.in_ok-write_all.ensures.appends in
    let o2 = owes_less _ _ _ (string_of_reference (ref_of c.args.reference.now)) (term_after_comma (meaning_of c.args.message.now) ++ (codes "," ++ (fate_as_term (fate_in c.args.effect.now) ++ codes "}"))) _ o1 c.in_ok-write_reference_string.ensures.appends in
    let o3 = owes_less _ _ _ (term_after_comma (meaning_of c.args.message.now)) (codes "," ++ (fate_as_term (fate_in c.args.effect.now) ++ codes "}")) _ o2 c.in_ok-write_term_after_comma.ensures.appends in
    let o4 = owes_less _ _ _ (codes ",") (fate_as_term (fate_in c.args.effect.now) ++ codes "}") _ o3 c.in_ok-write_all-2.ensures.appends in
    let o5 = owes_less _ _ _ (fate_as_term (fate_in c.args.effect.now)) (codes "}") _ o4 c.in_ok-write_effect.ensures.appends in
    owes_last _ _ _ _ (codes "}") _ o5 c.in_ok-write_all-3.ensures
