use Rattle.std.proofs.Common.{◌++◌, ap, ◌∙◌, codes}
use Rattle.std.specs.Prelude.{Err}
use Rattle.std.proofs.lemmas.Result.{err_from_is_err_and}
use Rattle.term_core.specs.inside.Writing.{owes_all, owes_last, owes_less}
use Rattle.std.specs.Fmt.{decimal}
use Rattle.world_footprints.specs.Deeds.{deed_in}
use Rattle.report_explained.specs.declared.explain_fault.ExplainFault.TheVariants.{Write}
use Rattle.report_explained.proofs.Parts.{last_fails, part_fails}
use Rattle.report_terms.specs.Strings.{string_of_step}
use Rattle.report_terms.specs.EventTerms.{deed_as_term}
use Rattle.report_terms.proofs.events.write_event_line.Goals as goal

pub returns-in_err-write_all : goal.returns-in_err-write_all
returns-in_err-write_all g c =
    let p = err_from_is_err_and c.from_residual.result c.from_residual.ensures.1 in
    let o0 = owes_all _ _ in
    part_fails _ _ (g.W.Sink.contents c.write_all.new.sink) (g.W.Sink.has_failed c.write_all.new.sink) c.from_residual.result Write (codes "{event,") (decimal c.args.number ++ (codes "," ++ (string_of_step c.args.event.now.step ++ (codes "," ++ (deed_as_term (deed_in c.args.event.now.deed) ++ codes "}.\n"))))) _ (p.1 ∙ ap Err p.2) o0 c.in_err-write_all.ensures

pub returns-in_err-write_number : goal.returns-in_err-write_number
returns-in_err-write_number g c =
    let p = err_from_is_err_and c.from_residual-in_err-write_number.result c.from_residual-in_err-write_number.ensures.1 in
    let o0 = owes_all _ _ in
    let o1 = owes_less _ _ _ (codes "{event,") (decimal c.args.number ++ (codes "," ++ (string_of_step c.args.event.now.step ++ (codes "," ++ (deed_as_term (deed_in c.args.event.now.deed) ++ codes "}.\n"))))) _ o0 c.in_ok-write_all.ensures.appends in
    part_fails _ _ (g.W.Sink.contents c.write_number.new.sink) (g.W.Sink.has_failed c.write_number.new.sink) c.from_residual-in_err-write_number.result Write (decimal c.args.number) (codes "," ++ (string_of_step c.args.event.now.step ++ (codes "," ++ (deed_as_term (deed_in c.args.event.now.deed) ++ codes "}.\n")))) _ (p.1 ∙ ap Err p.2) o1 c.in_err-write_number.ensures

pub returns-in_err-write_all-2 : goal.returns-in_err-write_all-2
returns-in_err-write_all-2 g c =
    let p = err_from_is_err_and c.from_residual-in_err-write_all-2.result c.from_residual-in_err-write_all-2.ensures.1 in
    let o0 = owes_all _ _ in
    let o1 = owes_less _ _ _ (codes "{event,") (decimal c.args.number ++ (codes "," ++ (string_of_step c.args.event.now.step ++ (codes "," ++ (deed_as_term (deed_in c.args.event.now.deed) ++ codes "}.\n"))))) _ o0 c.in_ok-write_all.ensures.appends in
    let o2 = owes_less _ _ _ (decimal c.args.number) (codes "," ++ (string_of_step c.args.event.now.step ++ (codes "," ++ (deed_as_term (deed_in c.args.event.now.deed) ++ codes "}.\n")))) _ o1 c.in_ok-write_number.ensures.appends in
    part_fails _ _ (g.W.Sink.contents c.write_all-2.new.sink) (g.W.Sink.has_failed c.write_all-2.new.sink) c.from_residual-in_err-write_all-2.result Write (codes ",") (string_of_step c.args.event.now.step ++ (codes "," ++ (deed_as_term (deed_in c.args.event.now.deed) ++ codes "}.\n"))) _ (p.1 ∙ ap Err p.2) o2 c.in_err-write_all-2.ensures

pub returns-in_err-write_step_string : goal.returns-in_err-write_step_string
returns-in_err-write_step_string g c =
    let p = err_from_is_err_and c.from_residual-in_err-write_step_string.result c.from_residual-in_err-write_step_string.ensures.1 in
    let o0 = owes_all _ _ in
    let o1 = owes_less _ _ _ (codes "{event,") (decimal c.args.number ++ (codes "," ++ (string_of_step c.args.event.now.step ++ (codes "," ++ (deed_as_term (deed_in c.args.event.now.deed) ++ codes "}.\n"))))) _ o0 c.in_ok-write_all.ensures.appends in
    let o2 = owes_less _ _ _ (decimal c.args.number) (codes "," ++ (string_of_step c.args.event.now.step ++ (codes "," ++ (deed_as_term (deed_in c.args.event.now.deed) ++ codes "}.\n")))) _ o1 c.in_ok-write_number.ensures.appends in
    let o3 = owes_less _ _ _ (codes ",") (string_of_step c.args.event.now.step ++ (codes "," ++ (deed_as_term (deed_in c.args.event.now.deed) ++ codes "}.\n"))) _ o2 c.in_ok-write_all-2.ensures.appends in
    part_fails _ _ (g.W.Sink.contents c.write_step_string.new.sink) (g.W.Sink.has_failed c.write_step_string.new.sink) c.from_residual-in_err-write_step_string.result Write (string_of_step c.args.event.now.step) (codes "," ++ (deed_as_term (deed_in c.args.event.now.deed) ++ codes "}.\n")) _ (p.1 ∙ ap Err p.2) o3 c.in_err-write_step_string.ensures

pub returns-in_err-write_all-3 : goal.returns-in_err-write_all-3
returns-in_err-write_all-3 g c =
    let p = err_from_is_err_and c.from_residual-in_err-write_all-3.result c.from_residual-in_err-write_all-3.ensures.1 in
    let o0 = owes_all _ _ in
    let o1 = owes_less _ _ _ (codes "{event,") (decimal c.args.number ++ (codes "," ++ (string_of_step c.args.event.now.step ++ (codes "," ++ (deed_as_term (deed_in c.args.event.now.deed) ++ codes "}.\n"))))) _ o0 c.in_ok-write_all.ensures.appends in
    let o2 = owes_less _ _ _ (decimal c.args.number) (codes "," ++ (string_of_step c.args.event.now.step ++ (codes "," ++ (deed_as_term (deed_in c.args.event.now.deed) ++ codes "}.\n")))) _ o1 c.in_ok-write_number.ensures.appends in
    let o3 = owes_less _ _ _ (codes ",") (string_of_step c.args.event.now.step ++ (codes "," ++ (deed_as_term (deed_in c.args.event.now.deed) ++ codes "}.\n"))) _ o2 c.in_ok-write_all-2.ensures.appends in
    let o4 = owes_less _ _ _ (string_of_step c.args.event.now.step) (codes "," ++ (deed_as_term (deed_in c.args.event.now.deed) ++ codes "}.\n")) _ o3 c.in_ok-write_step_string.ensures.appends in
    part_fails _ _ (g.W.Sink.contents c.write_all-3.new.sink) (g.W.Sink.has_failed c.write_all-3.new.sink) c.from_residual-in_err-write_all-3.result Write (codes ",") (deed_as_term (deed_in c.args.event.now.deed) ++ codes "}.\n") _ (p.1 ∙ ap Err p.2) o4 c.in_err-write_all-3.ensures

pub returns-in_err-write_deed : goal.returns-in_err-write_deed
returns-in_err-write_deed g c =
    let p = err_from_is_err_and c.from_residual-in_err-write_deed.result c.from_residual-in_err-write_deed.ensures.1 in
    let o0 = owes_all _ _ in
    let o1 = owes_less _ _ _ (codes "{event,") (decimal c.args.number ++ (codes "," ++ (string_of_step c.args.event.now.step ++ (codes "," ++ (deed_as_term (deed_in c.args.event.now.deed) ++ codes "}.\n"))))) _ o0 c.in_ok-write_all.ensures.appends in
    let o2 = owes_less _ _ _ (decimal c.args.number) (codes "," ++ (string_of_step c.args.event.now.step ++ (codes "," ++ (deed_as_term (deed_in c.args.event.now.deed) ++ codes "}.\n")))) _ o1 c.in_ok-write_number.ensures.appends in
    let o3 = owes_less _ _ _ (codes ",") (string_of_step c.args.event.now.step ++ (codes "," ++ (deed_as_term (deed_in c.args.event.now.deed) ++ codes "}.\n"))) _ o2 c.in_ok-write_all-2.ensures.appends in
    let o4 = owes_less _ _ _ (string_of_step c.args.event.now.step) (codes "," ++ (deed_as_term (deed_in c.args.event.now.deed) ++ codes "}.\n")) _ o3 c.in_ok-write_step_string.ensures.appends in
    let o5 = owes_less _ _ _ (codes ",") (deed_as_term (deed_in c.args.event.now.deed) ++ codes "}.\n") _ o4 c.in_ok-write_all-3.ensures.appends in
    part_fails _ _ (g.W.Sink.contents c.write_deed.new.sink) (g.W.Sink.has_failed c.write_deed.new.sink) c.from_residual-in_err-write_deed.result c.in_err-write_deed.field-0.0 (deed_as_term (deed_in c.args.event.now.deed)) (codes "}.\n") _ (p.1 ∙ ap Err p.2) o5 c.in_err-write_deed.ensures

pub returns-in_err-write_all-4 : goal.returns-in_err-write_all-4
returns-in_err-write_all-4 g c =
    let p = err_from_is_err_and c.from_residual-in_err-write_all-4.result c.from_residual-in_err-write_all-4.ensures.1 in
    let o0 = owes_all _ _ in
    let o1 = owes_less _ _ _ (codes "{event,") (decimal c.args.number ++ (codes "," ++ (string_of_step c.args.event.now.step ++ (codes "," ++ (deed_as_term (deed_in c.args.event.now.deed) ++ codes "}.\n"))))) _ o0 c.in_ok-write_all.ensures.appends in
    let o2 = owes_less _ _ _ (decimal c.args.number) (codes "," ++ (string_of_step c.args.event.now.step ++ (codes "," ++ (deed_as_term (deed_in c.args.event.now.deed) ++ codes "}.\n")))) _ o1 c.in_ok-write_number.ensures.appends in
    let o3 = owes_less _ _ _ (codes ",") (string_of_step c.args.event.now.step ++ (codes "," ++ (deed_as_term (deed_in c.args.event.now.deed) ++ codes "}.\n"))) _ o2 c.in_ok-write_all-2.ensures.appends in
    let o4 = owes_less _ _ _ (string_of_step c.args.event.now.step) (codes "," ++ (deed_as_term (deed_in c.args.event.now.deed) ++ codes "}.\n")) _ o3 c.in_ok-write_step_string.ensures.appends in
    let o5 = owes_less _ _ _ (codes ",") (deed_as_term (deed_in c.args.event.now.deed) ++ codes "}.\n") _ o4 c.in_ok-write_all-3.ensures.appends in
    let o6 = owes_less _ _ _ (deed_as_term (deed_in c.args.event.now.deed)) (codes "}.\n") _ o5 c.in_ok-write_deed.ensures.appends in
    last_fails _ _ (g.W.Sink.contents c.write_all-4.new.sink) (g.W.Sink.has_failed c.write_all-4.new.sink) c.from_residual-in_err-write_all-4.result Write (codes "}.\n") _ (p.1 ∙ ap Err p.2) o6 c.in_err-write_all-4.ensures

pub returns : goal.returns
returns g c =
    let o0 = owes_all _ _ in
    let o1 = owes_less _ _ _ (codes "{event,") (decimal c.args.number ++ (codes "," ++ (string_of_step c.args.event.now.step ++ (codes "," ++ (deed_as_term (deed_in c.args.event.now.deed) ++ codes "}.\n"))))) _ o0 c.in_ok-write_all.ensures.appends in
    let o2 = owes_less _ _ _ (decimal c.args.number) (codes "," ++ (string_of_step c.args.event.now.step ++ (codes "," ++ (deed_as_term (deed_in c.args.event.now.deed) ++ codes "}.\n")))) _ o1 c.in_ok-write_number.ensures.appends in
    let o3 = owes_less _ _ _ (codes ",") (string_of_step c.args.event.now.step ++ (codes "," ++ (deed_as_term (deed_in c.args.event.now.deed) ++ codes "}.\n"))) _ o2 c.in_ok-write_all-2.ensures.appends in
    let o4 = owes_less _ _ _ (string_of_step c.args.event.now.step) (codes "," ++ (deed_as_term (deed_in c.args.event.now.deed) ++ codes "}.\n")) _ o3 c.in_ok-write_step_string.ensures.appends in
    let o5 = owes_less _ _ _ (codes ",") (deed_as_term (deed_in c.args.event.now.deed) ++ codes "}.\n") _ o4 c.in_ok-write_all-3.ensures.appends in
    let o6 = owes_less _ _ _ (deed_as_term (deed_in c.args.event.now.deed)) (codes "}.\n") _ o5 c.in_ok-write_deed.ensures.appends in
    owes_last _ _ _ _ (codes "}.\n") _ o6 c.in_ok-write_all-4.ensures
