use Rattle.std.proofs.Common.{◌++◌, ap, ◌∙◌, codes}
use Rattle.std.specs.Prelude.{Err}
use Rattle.std.proofs.lemmas.Result.{err_from_is_err_and}
use Rattle.term_core.specs.inside.Writing.{owes_all, owes_last, owes_less, owes_same}
use Rattle.std.specs.Fmt.{decimal}
use Rattle.tree_findings.specs.Found.{finding_in}
use Rattle.world_identities.specs.Identities.{identity_in}
use Rattle.report_explained.specs.declared.explain_fault.ExplainFault.TheVariants.{Write}
use Rattle.report_explained.proofs.Parts.{last_fails, part_fails}
use Rattle.report_terms.specs.Strings.{string_of_schedule}
use Rattle.report_terms.specs.IdentityTerms.{identity_as_term}
use Rattle.report_terms.proofs.ReportTexts.{finding-schedule}
use Rattle.report_terms.proofs.report.write_finding_line.Goals as goal

pub returns-in_err-write_all : goal.returns-in_err-write_all
returns-in_err-write_all g c =
    let p = err_from_is_err_and c.from_residual.result c.from_residual.ensures.1 in
    let o0 = owes_same _ _ _ _ _ (finding-schedule c.args.kind.now c.args.number (finding_in c.args.finding.now) c.as_slice-schedule.result.now c.as_slice-schedule.ensures.value) (owes_all _ _) in
    part_fails _ _ (g.W.Sink.contents c.write_all.new.sink) (g.W.Sink.has_failed c.write_all.new.sink) c.from_residual.result Write (codes "{") (c.args.kind.now ++ (codes "," ++ (decimal c.args.number ++ (codes "," ++ (identity_as_term (identity_in c.args.finding.now.identity) ++ (codes "," ++ (string_of_schedule c.as_slice-schedule.result.now ++ codes "}.\n"))))))) _ (p.1 ∙ ap Err p.2) o0 c.in_err-write_all.ensures

pub returns-in_err-write_all-2 : goal.returns-in_err-write_all-2
returns-in_err-write_all-2 g c =
    let p = err_from_is_err_and c.from_residual-in_err-write_all-2.result c.from_residual-in_err-write_all-2.ensures.1 in
    let o0 = owes_same _ _ _ _ _ (finding-schedule c.args.kind.now c.args.number (finding_in c.args.finding.now) c.as_slice-schedule.result.now c.as_slice-schedule.ensures.value) (owes_all _ _) in
    let o1 = owes_less _ _ _ (codes "{") (c.args.kind.now ++ (codes "," ++ (decimal c.args.number ++ (codes "," ++ (identity_as_term (identity_in c.args.finding.now.identity) ++ (codes "," ++ (string_of_schedule c.as_slice-schedule.result.now ++ codes "}.\n"))))))) _ o0 c.in_ok-write_all.ensures.appends in
    part_fails _ _ (g.W.Sink.contents c.write_all-2.new.sink) (g.W.Sink.has_failed c.write_all-2.new.sink) c.from_residual-in_err-write_all-2.result Write c.args.kind.now (codes "," ++ (decimal c.args.number ++ (codes "," ++ (identity_as_term (identity_in c.args.finding.now.identity) ++ (codes "," ++ (string_of_schedule c.as_slice-schedule.result.now ++ codes "}.\n")))))) _ (p.1 ∙ ap Err p.2) o1 c.in_err-write_all-2.ensures

pub returns-in_err-write_all-3 : goal.returns-in_err-write_all-3
returns-in_err-write_all-3 g c =
    let p = err_from_is_err_and c.from_residual-in_err-write_all-3.result c.from_residual-in_err-write_all-3.ensures.1 in
    let o0 = owes_same _ _ _ _ _ (finding-schedule c.args.kind.now c.args.number (finding_in c.args.finding.now) c.as_slice-schedule.result.now c.as_slice-schedule.ensures.value) (owes_all _ _) in
    let o1 = owes_less _ _ _ (codes "{") (c.args.kind.now ++ (codes "," ++ (decimal c.args.number ++ (codes "," ++ (identity_as_term (identity_in c.args.finding.now.identity) ++ (codes "," ++ (string_of_schedule c.as_slice-schedule.result.now ++ codes "}.\n"))))))) _ o0 c.in_ok-write_all.ensures.appends in
    let o2 = owes_less _ _ _ c.args.kind.now (codes "," ++ (decimal c.args.number ++ (codes "," ++ (identity_as_term (identity_in c.args.finding.now.identity) ++ (codes "," ++ (string_of_schedule c.as_slice-schedule.result.now ++ codes "}.\n")))))) _ o1 c.in_ok-write_all-2.ensures.appends in
    part_fails _ _ (g.W.Sink.contents c.write_all-3.new.sink) (g.W.Sink.has_failed c.write_all-3.new.sink) c.from_residual-in_err-write_all-3.result Write (codes ",") (decimal c.args.number ++ (codes "," ++ (identity_as_term (identity_in c.args.finding.now.identity) ++ (codes "," ++ (string_of_schedule c.as_slice-schedule.result.now ++ codes "}.\n"))))) _ (p.1 ∙ ap Err p.2) o2 c.in_err-write_all-3.ensures

pub returns-in_err-write_number : goal.returns-in_err-write_number
returns-in_err-write_number g c =
    let p = err_from_is_err_and c.from_residual-in_err-write_number.result c.from_residual-in_err-write_number.ensures.1 in
    let o0 = owes_same _ _ _ _ _ (finding-schedule c.args.kind.now c.args.number (finding_in c.args.finding.now) c.as_slice-schedule.result.now c.as_slice-schedule.ensures.value) (owes_all _ _) in
    let o1 = owes_less _ _ _ (codes "{") (c.args.kind.now ++ (codes "," ++ (decimal c.args.number ++ (codes "," ++ (identity_as_term (identity_in c.args.finding.now.identity) ++ (codes "," ++ (string_of_schedule c.as_slice-schedule.result.now ++ codes "}.\n"))))))) _ o0 c.in_ok-write_all.ensures.appends in
    let o2 = owes_less _ _ _ c.args.kind.now (codes "," ++ (decimal c.args.number ++ (codes "," ++ (identity_as_term (identity_in c.args.finding.now.identity) ++ (codes "," ++ (string_of_schedule c.as_slice-schedule.result.now ++ codes "}.\n")))))) _ o1 c.in_ok-write_all-2.ensures.appends in
    let o3 = owes_less _ _ _ (codes ",") (decimal c.args.number ++ (codes "," ++ (identity_as_term (identity_in c.args.finding.now.identity) ++ (codes "," ++ (string_of_schedule c.as_slice-schedule.result.now ++ codes "}.\n"))))) _ o2 c.in_ok-write_all-3.ensures.appends in
    part_fails _ _ (g.W.Sink.contents c.write_number.new.sink) (g.W.Sink.has_failed c.write_number.new.sink) c.from_residual-in_err-write_number.result Write (decimal c.args.number) (codes "," ++ (identity_as_term (identity_in c.args.finding.now.identity) ++ (codes "," ++ (string_of_schedule c.as_slice-schedule.result.now ++ codes "}.\n")))) _ (p.1 ∙ ap Err p.2) o3 c.in_err-write_number.ensures

pub returns-in_err-write_all-4 : goal.returns-in_err-write_all-4
returns-in_err-write_all-4 g c =
    let p = err_from_is_err_and c.from_residual-in_err-write_all-4.result c.from_residual-in_err-write_all-4.ensures.1 in
    let o0 = owes_same _ _ _ _ _ (finding-schedule c.args.kind.now c.args.number (finding_in c.args.finding.now) c.as_slice-schedule.result.now c.as_slice-schedule.ensures.value) (owes_all _ _) in
    let o1 = owes_less _ _ _ (codes "{") (c.args.kind.now ++ (codes "," ++ (decimal c.args.number ++ (codes "," ++ (identity_as_term (identity_in c.args.finding.now.identity) ++ (codes "," ++ (string_of_schedule c.as_slice-schedule.result.now ++ codes "}.\n"))))))) _ o0 c.in_ok-write_all.ensures.appends in
    let o2 = owes_less _ _ _ c.args.kind.now (codes "," ++ (decimal c.args.number ++ (codes "," ++ (identity_as_term (identity_in c.args.finding.now.identity) ++ (codes "," ++ (string_of_schedule c.as_slice-schedule.result.now ++ codes "}.\n")))))) _ o1 c.in_ok-write_all-2.ensures.appends in
    let o3 = owes_less _ _ _ (codes ",") (decimal c.args.number ++ (codes "," ++ (identity_as_term (identity_in c.args.finding.now.identity) ++ (codes "," ++ (string_of_schedule c.as_slice-schedule.result.now ++ codes "}.\n"))))) _ o2 c.in_ok-write_all-3.ensures.appends in
    let o4 = owes_less _ _ _ (decimal c.args.number) (codes "," ++ (identity_as_term (identity_in c.args.finding.now.identity) ++ (codes "," ++ (string_of_schedule c.as_slice-schedule.result.now ++ codes "}.\n")))) _ o3 c.in_ok-write_number.ensures.appends in
    part_fails _ _ (g.W.Sink.contents c.write_all-4.new.sink) (g.W.Sink.has_failed c.write_all-4.new.sink) c.from_residual-in_err-write_all-4.result Write (codes ",") (identity_as_term (identity_in c.args.finding.now.identity) ++ (codes "," ++ (string_of_schedule c.as_slice-schedule.result.now ++ codes "}.\n"))) _ (p.1 ∙ ap Err p.2) o4 c.in_err-write_all-4.ensures

pub returns-in_err-write_identity : goal.returns-in_err-write_identity
returns-in_err-write_identity g c =
    let p = err_from_is_err_and c.from_residual-in_err-write_identity.result c.from_residual-in_err-write_identity.ensures.1 in
    let o0 = owes_same _ _ _ _ _ (finding-schedule c.args.kind.now c.args.number (finding_in c.args.finding.now) c.as_slice-schedule.result.now c.as_slice-schedule.ensures.value) (owes_all _ _) in
    let o1 = owes_less _ _ _ (codes "{") (c.args.kind.now ++ (codes "," ++ (decimal c.args.number ++ (codes "," ++ (identity_as_term (identity_in c.args.finding.now.identity) ++ (codes "," ++ (string_of_schedule c.as_slice-schedule.result.now ++ codes "}.\n"))))))) _ o0 c.in_ok-write_all.ensures.appends in
    let o2 = owes_less _ _ _ c.args.kind.now (codes "," ++ (decimal c.args.number ++ (codes "," ++ (identity_as_term (identity_in c.args.finding.now.identity) ++ (codes "," ++ (string_of_schedule c.as_slice-schedule.result.now ++ codes "}.\n")))))) _ o1 c.in_ok-write_all-2.ensures.appends in
    let o3 = owes_less _ _ _ (codes ",") (decimal c.args.number ++ (codes "," ++ (identity_as_term (identity_in c.args.finding.now.identity) ++ (codes "," ++ (string_of_schedule c.as_slice-schedule.result.now ++ codes "}.\n"))))) _ o2 c.in_ok-write_all-3.ensures.appends in
    let o4 = owes_less _ _ _ (decimal c.args.number) (codes "," ++ (identity_as_term (identity_in c.args.finding.now.identity) ++ (codes "," ++ (string_of_schedule c.as_slice-schedule.result.now ++ codes "}.\n")))) _ o3 c.in_ok-write_number.ensures.appends in
    let o5 = owes_less _ _ _ (codes ",") (identity_as_term (identity_in c.args.finding.now.identity) ++ (codes "," ++ (string_of_schedule c.as_slice-schedule.result.now ++ codes "}.\n"))) _ o4 c.in_ok-write_all-4.ensures.appends in
    part_fails _ _ (g.W.Sink.contents c.write_identity.new.sink) (g.W.Sink.has_failed c.write_identity.new.sink) c.from_residual-in_err-write_identity.result c.in_err-write_identity.field-0.0 (identity_as_term (identity_in c.args.finding.now.identity)) (codes "," ++ (string_of_schedule c.as_slice-schedule.result.now ++ codes "}.\n")) _ (p.1 ∙ ap Err p.2) o5 c.in_err-write_identity.ensures

pub returns-in_err-write_all-5 : goal.returns-in_err-write_all-5
returns-in_err-write_all-5 g c =
    let p = err_from_is_err_and c.from_residual-in_err-write_all-5.result c.from_residual-in_err-write_all-5.ensures.1 in
    let o0 = owes_same _ _ _ _ _ (finding-schedule c.args.kind.now c.args.number (finding_in c.args.finding.now) c.as_slice-schedule.result.now c.as_slice-schedule.ensures.value) (owes_all _ _) in
    let o1 = owes_less _ _ _ (codes "{") (c.args.kind.now ++ (codes "," ++ (decimal c.args.number ++ (codes "," ++ (identity_as_term (identity_in c.args.finding.now.identity) ++ (codes "," ++ (string_of_schedule c.as_slice-schedule.result.now ++ codes "}.\n"))))))) _ o0 c.in_ok-write_all.ensures.appends in
    let o2 = owes_less _ _ _ c.args.kind.now (codes "," ++ (decimal c.args.number ++ (codes "," ++ (identity_as_term (identity_in c.args.finding.now.identity) ++ (codes "," ++ (string_of_schedule c.as_slice-schedule.result.now ++ codes "}.\n")))))) _ o1 c.in_ok-write_all-2.ensures.appends in
    let o3 = owes_less _ _ _ (codes ",") (decimal c.args.number ++ (codes "," ++ (identity_as_term (identity_in c.args.finding.now.identity) ++ (codes "," ++ (string_of_schedule c.as_slice-schedule.result.now ++ codes "}.\n"))))) _ o2 c.in_ok-write_all-3.ensures.appends in
    let o4 = owes_less _ _ _ (decimal c.args.number) (codes "," ++ (identity_as_term (identity_in c.args.finding.now.identity) ++ (codes "," ++ (string_of_schedule c.as_slice-schedule.result.now ++ codes "}.\n")))) _ o3 c.in_ok-write_number.ensures.appends in
    let o5 = owes_less _ _ _ (codes ",") (identity_as_term (identity_in c.args.finding.now.identity) ++ (codes "," ++ (string_of_schedule c.as_slice-schedule.result.now ++ codes "}.\n"))) _ o4 c.in_ok-write_all-4.ensures.appends in
    let o6 = owes_less _ _ _ (identity_as_term (identity_in c.args.finding.now.identity)) (codes "," ++ (string_of_schedule c.as_slice-schedule.result.now ++ codes "}.\n")) _ o5 c.in_ok-write_identity.ensures.appends in
    part_fails _ _ (g.W.Sink.contents c.write_all-5.new.sink) (g.W.Sink.has_failed c.write_all-5.new.sink) c.from_residual-in_err-write_all-5.result Write (codes ",") (string_of_schedule c.as_slice-schedule.result.now ++ codes "}.\n") _ (p.1 ∙ ap Err p.2) o6 c.in_err-write_all-5.ensures

pub returns-in_err-write_schedule_string : goal.returns-in_err-write_schedule_string
returns-in_err-write_schedule_string g c =
    let p = err_from_is_err_and c.from_residual-in_err-write_schedule_string.result c.from_residual-in_err-write_schedule_string.ensures.1 in
    let o0 = owes_same _ _ _ _ _ (finding-schedule c.args.kind.now c.args.number (finding_in c.args.finding.now) c.as_slice-schedule.result.now c.as_slice-schedule.ensures.value) (owes_all _ _) in
    let o1 = owes_less _ _ _ (codes "{") (c.args.kind.now ++ (codes "," ++ (decimal c.args.number ++ (codes "," ++ (identity_as_term (identity_in c.args.finding.now.identity) ++ (codes "," ++ (string_of_schedule c.as_slice-schedule.result.now ++ codes "}.\n"))))))) _ o0 c.in_ok-write_all.ensures.appends in
    let o2 = owes_less _ _ _ c.args.kind.now (codes "," ++ (decimal c.args.number ++ (codes "," ++ (identity_as_term (identity_in c.args.finding.now.identity) ++ (codes "," ++ (string_of_schedule c.as_slice-schedule.result.now ++ codes "}.\n")))))) _ o1 c.in_ok-write_all-2.ensures.appends in
    let o3 = owes_less _ _ _ (codes ",") (decimal c.args.number ++ (codes "," ++ (identity_as_term (identity_in c.args.finding.now.identity) ++ (codes "," ++ (string_of_schedule c.as_slice-schedule.result.now ++ codes "}.\n"))))) _ o2 c.in_ok-write_all-3.ensures.appends in
    let o4 = owes_less _ _ _ (decimal c.args.number) (codes "," ++ (identity_as_term (identity_in c.args.finding.now.identity) ++ (codes "," ++ (string_of_schedule c.as_slice-schedule.result.now ++ codes "}.\n")))) _ o3 c.in_ok-write_number.ensures.appends in
    let o5 = owes_less _ _ _ (codes ",") (identity_as_term (identity_in c.args.finding.now.identity) ++ (codes "," ++ (string_of_schedule c.as_slice-schedule.result.now ++ codes "}.\n"))) _ o4 c.in_ok-write_all-4.ensures.appends in
    let o6 = owes_less _ _ _ (identity_as_term (identity_in c.args.finding.now.identity)) (codes "," ++ (string_of_schedule c.as_slice-schedule.result.now ++ codes "}.\n")) _ o5 c.in_ok-write_identity.ensures.appends in
    let o7 = owes_less _ _ _ (codes ",") (string_of_schedule c.as_slice-schedule.result.now ++ codes "}.\n") _ o6 c.in_ok-write_all-5.ensures.appends in
    part_fails _ _ (g.W.Sink.contents c.write_schedule_string.new.sink) (g.W.Sink.has_failed c.write_schedule_string.new.sink) c.from_residual-in_err-write_schedule_string.result Write (string_of_schedule c.as_slice-schedule.result.now) (codes "}.\n") _ (p.1 ∙ ap Err p.2) o7 c.in_err-write_schedule_string.ensures

pub returns-in_err-write_all-6 : goal.returns-in_err-write_all-6
returns-in_err-write_all-6 g c =
    let p = err_from_is_err_and c.from_residual-in_err-write_all-6.result c.from_residual-in_err-write_all-6.ensures.1 in
    let o0 = owes_same _ _ _ _ _ (finding-schedule c.args.kind.now c.args.number (finding_in c.args.finding.now) c.as_slice-schedule.result.now c.as_slice-schedule.ensures.value) (owes_all _ _) in
    let o1 = owes_less _ _ _ (codes "{") (c.args.kind.now ++ (codes "," ++ (decimal c.args.number ++ (codes "," ++ (identity_as_term (identity_in c.args.finding.now.identity) ++ (codes "," ++ (string_of_schedule c.as_slice-schedule.result.now ++ codes "}.\n"))))))) _ o0 c.in_ok-write_all.ensures.appends in
    let o2 = owes_less _ _ _ c.args.kind.now (codes "," ++ (decimal c.args.number ++ (codes "," ++ (identity_as_term (identity_in c.args.finding.now.identity) ++ (codes "," ++ (string_of_schedule c.as_slice-schedule.result.now ++ codes "}.\n")))))) _ o1 c.in_ok-write_all-2.ensures.appends in
    let o3 = owes_less _ _ _ (codes ",") (decimal c.args.number ++ (codes "," ++ (identity_as_term (identity_in c.args.finding.now.identity) ++ (codes "," ++ (string_of_schedule c.as_slice-schedule.result.now ++ codes "}.\n"))))) _ o2 c.in_ok-write_all-3.ensures.appends in
    let o4 = owes_less _ _ _ (decimal c.args.number) (codes "," ++ (identity_as_term (identity_in c.args.finding.now.identity) ++ (codes "," ++ (string_of_schedule c.as_slice-schedule.result.now ++ codes "}.\n")))) _ o3 c.in_ok-write_number.ensures.appends in
    let o5 = owes_less _ _ _ (codes ",") (identity_as_term (identity_in c.args.finding.now.identity) ++ (codes "," ++ (string_of_schedule c.as_slice-schedule.result.now ++ codes "}.\n"))) _ o4 c.in_ok-write_all-4.ensures.appends in
    let o6 = owes_less _ _ _ (identity_as_term (identity_in c.args.finding.now.identity)) (codes "," ++ (string_of_schedule c.as_slice-schedule.result.now ++ codes "}.\n")) _ o5 c.in_ok-write_identity.ensures.appends in
    let o7 = owes_less _ _ _ (codes ",") (string_of_schedule c.as_slice-schedule.result.now ++ codes "}.\n") _ o6 c.in_ok-write_all-5.ensures.appends in
    let o8 = owes_less _ _ _ (string_of_schedule c.as_slice-schedule.result.now) (codes "}.\n") _ o7 c.in_ok-write_schedule_string.ensures.appends in
    last_fails _ _ (g.W.Sink.contents c.write_all-6.new.sink) (g.W.Sink.has_failed c.write_all-6.new.sink) c.from_residual-in_err-write_all-6.result Write (codes "}.\n") _ (p.1 ∙ ap Err p.2) o8 c.in_err-write_all-6.ensures

pub returns : goal.returns
returns g c =
    let o0 = owes_same _ _ _ _ _ (finding-schedule c.args.kind.now c.args.number (finding_in c.args.finding.now) c.as_slice-schedule.result.now c.as_slice-schedule.ensures.value) (owes_all _ _) in
    let o1 = owes_less _ _ _ (codes "{") (c.args.kind.now ++ (codes "," ++ (decimal c.args.number ++ (codes "," ++ (identity_as_term (identity_in c.args.finding.now.identity) ++ (codes "," ++ (string_of_schedule c.as_slice-schedule.result.now ++ codes "}.\n"))))))) _ o0 c.in_ok-write_all.ensures.appends in
    let o2 = owes_less _ _ _ c.args.kind.now (codes "," ++ (decimal c.args.number ++ (codes "," ++ (identity_as_term (identity_in c.args.finding.now.identity) ++ (codes "," ++ (string_of_schedule c.as_slice-schedule.result.now ++ codes "}.\n")))))) _ o1 c.in_ok-write_all-2.ensures.appends in
    let o3 = owes_less _ _ _ (codes ",") (decimal c.args.number ++ (codes "," ++ (identity_as_term (identity_in c.args.finding.now.identity) ++ (codes "," ++ (string_of_schedule c.as_slice-schedule.result.now ++ codes "}.\n"))))) _ o2 c.in_ok-write_all-3.ensures.appends in
    let o4 = owes_less _ _ _ (decimal c.args.number) (codes "," ++ (identity_as_term (identity_in c.args.finding.now.identity) ++ (codes "," ++ (string_of_schedule c.as_slice-schedule.result.now ++ codes "}.\n")))) _ o3 c.in_ok-write_number.ensures.appends in
    let o5 = owes_less _ _ _ (codes ",") (identity_as_term (identity_in c.args.finding.now.identity) ++ (codes "," ++ (string_of_schedule c.as_slice-schedule.result.now ++ codes "}.\n"))) _ o4 c.in_ok-write_all-4.ensures.appends in
    let o6 = owes_less _ _ _ (identity_as_term (identity_in c.args.finding.now.identity)) (codes "," ++ (string_of_schedule c.as_slice-schedule.result.now ++ codes "}.\n")) _ o5 c.in_ok-write_identity.ensures.appends in
    let o7 = owes_less _ _ _ (codes ",") (string_of_schedule c.as_slice-schedule.result.now ++ codes "}.\n") _ o6 c.in_ok-write_all-5.ensures.appends in
    let o8 = owes_less _ _ _ (string_of_schedule c.as_slice-schedule.result.now) (codes "}.\n") _ o7 c.in_ok-write_schedule_string.ensures.appends in
    owes_last _ _ _ _ (codes "}.\n") _ o8 c.in_ok-write_all-6.ensures
