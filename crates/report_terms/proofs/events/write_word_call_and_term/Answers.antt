use Rattle.std.proofs.Common.{◌++◌, ap, ◌∙◌, codes}
use Rattle.std.specs.Prelude.{Err}
use Rattle.std.proofs.lemmas.Result.{err_from_is_err_and}
use Rattle.term_core.specs.inside.Writing.{owes_all, owes_last, owes_less}
use Rattle.term_core.specs.Term.{meaning_of}
use Rattle.report_explained.specs.declared.explain_fault.ExplainFault.TheVariants.{Write}
use Rattle.report_explained.proofs.Parts.{last_fails, part_fails}
use Rattle.report_terms.specs.Strings.{string_of_term}
use Rattle.report_terms.specs.CallTerms.{call_as_term}
use Rattle.report_terms.proofs.events.write_word_call_and_term.Goals as goal

pub returns-in_err-write_all : goal.returns-in_err-write_all
returns-in_err-write_all g c =
    let p = err_from_is_err_and c.from_residual.result c.from_residual.ensures.1 in
    let o0 = owes_all _ _ in
    part_fails _ _ (g.W.Sink.contents c.write_all.new.sink) (g.W.Sink.has_failed c.write_all.new.sink) c.from_residual.result Write (codes "{") (c.args.word.now ++ (codes "," ++ (call_as_term c.args.kind c.args.arguments.now ++ (codes "," ++ (string_of_term (meaning_of c.args.term.now) ++ codes "}"))))) _ (p.1 ∙ ap Err p.2) o0 c.in_err-write_all.ensures

pub returns-in_err-write_all-2 : goal.returns-in_err-write_all-2
returns-in_err-write_all-2 g c =
    let p = err_from_is_err_and c.from_residual-in_err-write_all-2.result c.from_residual-in_err-write_all-2.ensures.1 in
    let o0 = owes_all _ _ in
    let o1 = owes_less _ _ _ (codes "{") (c.args.word.now ++ (codes "," ++ (call_as_term c.args.kind c.args.arguments.now ++ (codes "," ++ (string_of_term (meaning_of c.args.term.now) ++ codes "}"))))) _ o0 c.in_ok-write_all.ensures.appends in
    part_fails _ _ (g.W.Sink.contents c.write_all-2.new.sink) (g.W.Sink.has_failed c.write_all-2.new.sink) c.from_residual-in_err-write_all-2.result Write c.args.word.now (codes "," ++ (call_as_term c.args.kind c.args.arguments.now ++ (codes "," ++ (string_of_term (meaning_of c.args.term.now) ++ codes "}")))) _ (p.1 ∙ ap Err p.2) o1 c.in_err-write_all-2.ensures

pub returns-in_err-write_all-3 : goal.returns-in_err-write_all-3
returns-in_err-write_all-3 g c =
    let p = err_from_is_err_and c.from_residual-in_err-write_all-3.result c.from_residual-in_err-write_all-3.ensures.1 in
    let o0 = owes_all _ _ in
    let o1 = owes_less _ _ _ (codes "{") (c.args.word.now ++ (codes "," ++ (call_as_term c.args.kind c.args.arguments.now ++ (codes "," ++ (string_of_term (meaning_of c.args.term.now) ++ codes "}"))))) _ o0 c.in_ok-write_all.ensures.appends in
    let o2 = owes_less _ _ _ c.args.word.now (codes "," ++ (call_as_term c.args.kind c.args.arguments.now ++ (codes "," ++ (string_of_term (meaning_of c.args.term.now) ++ codes "}")))) _ o1 c.in_ok-write_all-2.ensures.appends in
    part_fails _ _ (g.W.Sink.contents c.write_all-3.new.sink) (g.W.Sink.has_failed c.write_all-3.new.sink) c.from_residual-in_err-write_all-3.result Write (codes ",") (call_as_term c.args.kind c.args.arguments.now ++ (codes "," ++ (string_of_term (meaning_of c.args.term.now) ++ codes "}"))) _ (p.1 ∙ ap Err p.2) o2 c.in_err-write_all-3.ensures

pub returns-in_err-write_call : goal.returns-in_err-write_call
returns-in_err-write_call g c =
    let p = err_from_is_err_and c.from_residual-in_err-write_call.result c.from_residual-in_err-write_call.ensures.1 in
    let o0 = owes_all _ _ in
    let o1 = owes_less _ _ _ (codes "{") (c.args.word.now ++ (codes "," ++ (call_as_term c.args.kind c.args.arguments.now ++ (codes "," ++ (string_of_term (meaning_of c.args.term.now) ++ codes "}"))))) _ o0 c.in_ok-write_all.ensures.appends in
    let o2 = owes_less _ _ _ c.args.word.now (codes "," ++ (call_as_term c.args.kind c.args.arguments.now ++ (codes "," ++ (string_of_term (meaning_of c.args.term.now) ++ codes "}")))) _ o1 c.in_ok-write_all-2.ensures.appends in
    let o3 = owes_less _ _ _ (codes ",") (call_as_term c.args.kind c.args.arguments.now ++ (codes "," ++ (string_of_term (meaning_of c.args.term.now) ++ codes "}"))) _ o2 c.in_ok-write_all-3.ensures.appends in
    part_fails _ _ (g.W.Sink.contents c.write_call.new.sink) (g.W.Sink.has_failed c.write_call.new.sink) c.from_residual-in_err-write_call.result c.in_err-write_call.field-0.0 (call_as_term c.args.kind c.args.arguments.now) (codes "," ++ (string_of_term (meaning_of c.args.term.now) ++ codes "}")) _ (p.1 ∙ ap Err p.2) o3 c.in_err-write_call.ensures

pub returns-in_err-write_all-4 : goal.returns-in_err-write_all-4
returns-in_err-write_all-4 g c =
    let p = err_from_is_err_and c.from_residual-in_err-write_all-4.result c.from_residual-in_err-write_all-4.ensures.1 in
    let o0 = owes_all _ _ in
    let o1 = owes_less _ _ _ (codes "{") (c.args.word.now ++ (codes "," ++ (call_as_term c.args.kind c.args.arguments.now ++ (codes "," ++ (string_of_term (meaning_of c.args.term.now) ++ codes "}"))))) _ o0 c.in_ok-write_all.ensures.appends in
    let o2 = owes_less _ _ _ c.args.word.now (codes "," ++ (call_as_term c.args.kind c.args.arguments.now ++ (codes "," ++ (string_of_term (meaning_of c.args.term.now) ++ codes "}")))) _ o1 c.in_ok-write_all-2.ensures.appends in
    let o3 = owes_less _ _ _ (codes ",") (call_as_term c.args.kind c.args.arguments.now ++ (codes "," ++ (string_of_term (meaning_of c.args.term.now) ++ codes "}"))) _ o2 c.in_ok-write_all-3.ensures.appends in
    let o4 = owes_less _ _ _ (call_as_term c.args.kind c.args.arguments.now) (codes "," ++ (string_of_term (meaning_of c.args.term.now) ++ codes "}")) _ o3 c.in_ok-write_call.ensures.appends in
    part_fails _ _ (g.W.Sink.contents c.write_all-4.new.sink) (g.W.Sink.has_failed c.write_all-4.new.sink) c.from_residual-in_err-write_all-4.result Write (codes ",") (string_of_term (meaning_of c.args.term.now) ++ codes "}") _ (p.1 ∙ ap Err p.2) o4 c.in_err-write_all-4.ensures

pub returns-in_err-write_term_string : goal.returns-in_err-write_term_string
returns-in_err-write_term_string g c =
    let p = err_from_is_err_and c.from_residual-in_err-write_term_string.result c.from_residual-in_err-write_term_string.ensures.1 in
    let o0 = owes_all _ _ in
    let o1 = owes_less _ _ _ (codes "{") (c.args.word.now ++ (codes "," ++ (call_as_term c.args.kind c.args.arguments.now ++ (codes "," ++ (string_of_term (meaning_of c.args.term.now) ++ codes "}"))))) _ o0 c.in_ok-write_all.ensures.appends in
    let o2 = owes_less _ _ _ c.args.word.now (codes "," ++ (call_as_term c.args.kind c.args.arguments.now ++ (codes "," ++ (string_of_term (meaning_of c.args.term.now) ++ codes "}")))) _ o1 c.in_ok-write_all-2.ensures.appends in
    let o3 = owes_less _ _ _ (codes ",") (call_as_term c.args.kind c.args.arguments.now ++ (codes "," ++ (string_of_term (meaning_of c.args.term.now) ++ codes "}"))) _ o2 c.in_ok-write_all-3.ensures.appends in
    let o4 = owes_less _ _ _ (call_as_term c.args.kind c.args.arguments.now) (codes "," ++ (string_of_term (meaning_of c.args.term.now) ++ codes "}")) _ o3 c.in_ok-write_call.ensures.appends in
    let o5 = owes_less _ _ _ (codes ",") (string_of_term (meaning_of c.args.term.now) ++ codes "}") _ o4 c.in_ok-write_all-4.ensures.appends in
    part_fails _ _ (g.W.Sink.contents c.write_term_string.new.sink) (g.W.Sink.has_failed c.write_term_string.new.sink) c.from_residual-in_err-write_term_string.result c.in_err-write_term_string.field-0.0 (string_of_term (meaning_of c.args.term.now)) (codes "}") _ (p.1 ∙ ap Err p.2) o5 c.in_err-write_term_string.ensures

pub returns-in_err-write_all-5 : goal.returns-in_err-write_all-5
returns-in_err-write_all-5 g c =
    let p = err_from_is_err_and c.from_residual-in_err-write_all-5.result c.from_residual-in_err-write_all-5.ensures.1 in
    let o0 = owes_all _ _ in
    let o1 = owes_less _ _ _ (codes "{") (c.args.word.now ++ (codes "," ++ (call_as_term c.args.kind c.args.arguments.now ++ (codes "," ++ (string_of_term (meaning_of c.args.term.now) ++ codes "}"))))) _ o0 c.in_ok-write_all.ensures.appends in
    let o2 = owes_less _ _ _ c.args.word.now (codes "," ++ (call_as_term c.args.kind c.args.arguments.now ++ (codes "," ++ (string_of_term (meaning_of c.args.term.now) ++ codes "}")))) _ o1 c.in_ok-write_all-2.ensures.appends in
    let o3 = owes_less _ _ _ (codes ",") (call_as_term c.args.kind c.args.arguments.now ++ (codes "," ++ (string_of_term (meaning_of c.args.term.now) ++ codes "}"))) _ o2 c.in_ok-write_all-3.ensures.appends in
    let o4 = owes_less _ _ _ (call_as_term c.args.kind c.args.arguments.now) (codes "," ++ (string_of_term (meaning_of c.args.term.now) ++ codes "}")) _ o3 c.in_ok-write_call.ensures.appends in
    let o5 = owes_less _ _ _ (codes ",") (string_of_term (meaning_of c.args.term.now) ++ codes "}") _ o4 c.in_ok-write_all-4.ensures.appends in
    let o6 = owes_less _ _ _ (string_of_term (meaning_of c.args.term.now)) (codes "}") _ o5 c.in_ok-write_term_string.ensures.appends in
    last_fails _ _ (g.W.Sink.contents c.write_all-5.new.sink) (g.W.Sink.has_failed c.write_all-5.new.sink) c.from_residual-in_err-write_all-5.result Write (codes "}") _ (p.1 ∙ ap Err p.2) o6 c.in_err-write_all-5.ensures

pub returns : goal.returns
returns g c =
    let o0 = owes_all _ _ in
    let o1 = owes_less _ _ _ (codes "{") (c.args.word.now ++ (codes "," ++ (call_as_term c.args.kind c.args.arguments.now ++ (codes "," ++ (string_of_term (meaning_of c.args.term.now) ++ codes "}"))))) _ o0 c.in_ok-write_all.ensures.appends in
    let o2 = owes_less _ _ _ c.args.word.now (codes "," ++ (call_as_term c.args.kind c.args.arguments.now ++ (codes "," ++ (string_of_term (meaning_of c.args.term.now) ++ codes "}")))) _ o1 c.in_ok-write_all-2.ensures.appends in
    let o3 = owes_less _ _ _ (codes ",") (call_as_term c.args.kind c.args.arguments.now ++ (codes "," ++ (string_of_term (meaning_of c.args.term.now) ++ codes "}"))) _ o2 c.in_ok-write_all-3.ensures.appends in
    let o4 = owes_less _ _ _ (call_as_term c.args.kind c.args.arguments.now) (codes "," ++ (string_of_term (meaning_of c.args.term.now) ++ codes "}")) _ o3 c.in_ok-write_call.ensures.appends in
    let o5 = owes_less _ _ _ (codes ",") (string_of_term (meaning_of c.args.term.now) ++ codes "}") _ o4 c.in_ok-write_all-4.ensures.appends in
    let o6 = owes_less _ _ _ (string_of_term (meaning_of c.args.term.now)) (codes "}") _ o5 c.in_ok-write_term_string.ensures.appends in
    owes_last _ _ _ _ (codes "}") _ o6 c.in_ok-write_all-5.ensures
