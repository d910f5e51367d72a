use Rattle.std.proofs.Common.{◌++◌, ap, ◌∙◌, codes}
use Rattle.std.specs.Prelude.{Err}
use Rattle.std.proofs.lemmas.Result.{err_from_is_err_and}
use Rattle.term_core.specs.inside.Writing.{owes_all, owes_last, owes_less}
use Rattle.report_explained.specs.declared.explain_fault.ExplainFault.TheVariants.{Write}
use Rattle.report_explained.proofs.Parts.{last_fails, part_fails}
use Rattle.report_terms.specs.Strings.{strings_of_terms}
use Rattle.report_terms.specs.CallTerms.{names_of_call}
use Rattle.report_terms.proofs.calls.write_call.Goals as goal

pub returns-in_err-write_all : goal.returns-in_err-write_all
returns-in_err-write_all g c =
    let p = err_from_is_err_and c.from_residual.result c.from_residual.ensures.1 in
    let o0 = owes_all _ _ in
    part_fails _ _ (g.W.Sink.contents c.write_all.new.sink) (g.W.Sink.has_failed c.write_all.new.sink) c.from_residual.result Write (codes "{call,") (names_of_call c.args.kind ++ (codes ",[" ++ (strings_of_terms c.args.arguments.now ++ codes "]}"))) _ (p.1 ∙ ap Err p.2) o0 c.in_err-write_all.ensures

pub returns-in_err-write_names : goal.returns-in_err-write_names
returns-in_err-write_names g c =
    let p = err_from_is_err_and c.from_residual-in_err-write_names.result c.from_residual-in_err-write_names.ensures.1 in
    let o0 = owes_all _ _ in
    let o1 = owes_less _ _ _ (codes "{call,") (names_of_call c.args.kind ++ (codes ",[" ++ (strings_of_terms c.args.arguments.now ++ codes "]}"))) _ o0 c.in_ok-write_all.ensures.appends in
    part_fails _ _ (g.W.Sink.contents c.write_names.new.sink) (g.W.Sink.has_failed c.write_names.new.sink) c.from_residual-in_err-write_names.result Write (names_of_call c.args.kind) (codes ",[" ++ (strings_of_terms c.args.arguments.now ++ codes "]}")) _ (p.1 ∙ ap Err p.2) o1 c.in_err-write_names.ensures

pub returns-in_err-write_all-2 : goal.returns-in_err-write_all-2
returns-in_err-write_all-2 g c =
    let p = err_from_is_err_and c.from_residual-in_err-write_all-2.result c.from_residual-in_err-write_all-2.ensures.1 in
    let o0 = owes_all _ _ in
    let o1 = owes_less _ _ _ (codes "{call,") (names_of_call c.args.kind ++ (codes ",[" ++ (strings_of_terms c.args.arguments.now ++ codes "]}"))) _ o0 c.in_ok-write_all.ensures.appends in
    let o2 = owes_less _ _ _ (names_of_call c.args.kind) (codes ",[" ++ (strings_of_terms c.args.arguments.now ++ codes "]}")) _ o1 c.in_ok-write_names.ensures.appends in
    part_fails _ _ (g.W.Sink.contents c.write_all-2.new.sink) (g.W.Sink.has_failed c.write_all-2.new.sink) c.from_residual-in_err-write_all-2.result Write (codes ",[") (strings_of_terms c.args.arguments.now ++ codes "]}") _ (p.1 ∙ ap Err p.2) o2 c.in_err-write_all-2.ensures

pub returns-in_err-write_term_strings : goal.returns-in_err-write_term_strings
returns-in_err-write_term_strings g c =
    let p = err_from_is_err_and c.from_residual-in_err-write_term_strings.result c.from_residual-in_err-write_term_strings.ensures.1 in
    let o0 = owes_all _ _ in
    let o1 = owes_less _ _ _ (codes "{call,") (names_of_call c.args.kind ++ (codes ",[" ++ (strings_of_terms c.args.arguments.now ++ codes "]}"))) _ o0 c.in_ok-write_all.ensures.appends in
    let o2 = owes_less _ _ _ (names_of_call c.args.kind) (codes ",[" ++ (strings_of_terms c.args.arguments.now ++ codes "]}")) _ o1 c.in_ok-write_names.ensures.appends in
    let o3 = owes_less _ _ _ (codes ",[") (strings_of_terms c.args.arguments.now ++ codes "]}") _ o2 c.in_ok-write_all-2.ensures.appends in
    part_fails _ _ (g.W.Sink.contents c.write_term_strings.new.sink) (g.W.Sink.has_failed c.write_term_strings.new.sink) c.from_residual-in_err-write_term_strings.result c.in_err-write_term_strings.field-0.0 (strings_of_terms c.args.arguments.now) (codes "]}") _ (p.1 ∙ ap Err p.2) o3 c.in_err-write_term_strings.ensures

pub returns-in_err-write_all-3 : goal.returns-in_err-write_all-3
returns-in_err-write_all-3 g c =
    let p = err_from_is_err_and c.from_residual-in_err-write_all-3.result c.from_residual-in_err-write_all-3.ensures.1 in
    let o0 = owes_all _ _ in
    let o1 = owes_less _ _ _ (codes "{call,") (names_of_call c.args.kind ++ (codes ",[" ++ (strings_of_terms c.args.arguments.now ++ codes "]}"))) _ o0 c.in_ok-write_all.ensures.appends in
    let o2 = owes_less _ _ _ (names_of_call c.args.kind) (codes ",[" ++ (strings_of_terms c.args.arguments.now ++ codes "]}")) _ o1 c.in_ok-write_names.ensures.appends in
    let o3 = owes_less _ _ _ (codes ",[") (strings_of_terms c.args.arguments.now ++ codes "]}") _ o2 c.in_ok-write_all-2.ensures.appends in
    let o4 = owes_less _ _ _ (strings_of_terms c.args.arguments.now) (codes "]}") _ o3 c.in_ok-write_term_strings.ensures.appends in
    last_fails _ _ (g.W.Sink.contents c.write_all-3.new.sink) (g.W.Sink.has_failed c.write_all-3.new.sink) c.from_residual-in_err-write_all-3.result Write (codes "]}") _ (p.1 ∙ ap Err p.2) o4 c.in_err-write_all-3.ensures

pub returns : goal.returns
returns g c =
    let o0 = owes_all _ _ in
    let o1 = owes_less _ _ _ (codes "{call,") (names_of_call c.args.kind ++ (codes ",[" ++ (strings_of_terms c.args.arguments.now ++ codes "]}"))) _ o0 c.in_ok-write_all.ensures.appends in
    let o2 = owes_less _ _ _ (names_of_call c.args.kind) (codes ",[" ++ (strings_of_terms c.args.arguments.now ++ codes "]}")) _ o1 c.in_ok-write_names.ensures.appends in
    let o3 = owes_less _ _ _ (codes ",[") (strings_of_terms c.args.arguments.now ++ codes "]}") _ o2 c.in_ok-write_all-2.ensures.appends in
    let o4 = owes_less _ _ _ (strings_of_terms c.args.arguments.now) (codes "]}") _ o3 c.in_ok-write_term_strings.ensures.appends in
    owes_last _ _ _ _ (codes "]}") _ o4 c.in_ok-write_all-3.ensures
