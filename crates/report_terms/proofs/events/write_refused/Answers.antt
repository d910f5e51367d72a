use Rattle.std.proofs.Common.{◌++◌, ap, ◌∙◌, codes}
use Rattle.std.specs.Prelude.{Err}
use Rattle.std.proofs.lemmas.Result.{err_from_is_err_and}
use Rattle.term_core.specs.inside.Writing.{owes_all, owes_last, owes_less}
use Rattle.world_planned.specs.Replies.{refusal_in}
use Rattle.report_explained.specs.declared.explain_fault.ExplainFault.TheVariants.{Write}
use Rattle.report_explained.proofs.Parts.{last_fails, part_fails}
use Rattle.report_terms.specs.CallTerms.{call_as_term}
use Rattle.report_terms.specs.EventTerms.{refusal_as_term}
use Rattle.report_terms.proofs.events.write_refused.Goals as goal

pub returns-in_err-write_all : goal.returns-in_err-write_all
returns-in_err-write_all g c =
    let p = err_from_is_err_and c.from_residual.result c.from_residual.ensures.1 in
    let o0 = owes_all _ _ in
    part_fails _ _ (g.W.Sink.contents c.write_all.new.sink) (g.W.Sink.has_failed c.write_all.new.sink) c.from_residual.result Write (codes "{refused,") (call_as_term c.args.kind c.args.arguments.now ++ (codes "," ++ (refusal_as_term (refusal_in c.args.refusal.now) ++ codes "}"))) _ (p.1 ∙ ap Err p.2) o0 c.in_err-write_all.ensures

pub returns-in_err-write_call : goal.returns-in_err-write_call
returns-in_err-write_call g c =
    let p = err_from_is_err_and c.from_residual-in_err-write_call.result c.from_residual-in_err-write_call.ensures.1 in
    let o0 = owes_all _ _ in
    let o1 = owes_less _ _ _ (codes "{refused,") (call_as_term c.args.kind c.args.arguments.now ++ (codes "," ++ (refusal_as_term (refusal_in c.args.refusal.now) ++ codes "}"))) _ o0 c.in_ok-write_all.ensures.appends in
    part_fails _ _ (g.W.Sink.contents c.write_call.new.sink) (g.W.Sink.has_failed c.write_call.new.sink) c.from_residual-in_err-write_call.result c.in_err-write_call.field-0.0 (call_as_term c.args.kind c.args.arguments.now) (codes "," ++ (refusal_as_term (refusal_in c.args.refusal.now) ++ codes "}")) _ (p.1 ∙ ap Err p.2) o1 c.in_err-write_call.ensures

pub returns-in_err-write_all-2 : goal.returns-in_err-write_all-2
returns-in_err-write_all-2 g c =
    let p = err_from_is_err_and c.from_residual-in_err-write_all-2.result c.from_residual-in_err-write_all-2.ensures.1 in
    let o0 = owes_all _ _ in
    let o1 = owes_less _ _ _ (codes "{refused,") (call_as_term c.args.kind c.args.arguments.now ++ (codes "," ++ (refusal_as_term (refusal_in c.args.refusal.now) ++ codes "}"))) _ o0 c.in_ok-write_all.ensures.appends in
    let o2 = owes_less _ _ _ (call_as_term c.args.kind c.args.arguments.now) (codes "," ++ (refusal_as_term (refusal_in c.args.refusal.now) ++ codes "}")) _ o1 c.in_ok-write_call.ensures.appends in
    part_fails _ _ (g.W.Sink.contents c.write_all-2.new.sink) (g.W.Sink.has_failed c.write_all-2.new.sink) c.from_residual-in_err-write_all-2.result Write (codes ",") (refusal_as_term (refusal_in c.args.refusal.now) ++ codes "}") _ (p.1 ∙ ap Err p.2) o2 c.in_err-write_all-2.ensures

pub returns-in_err-write_refusal : goal.returns-in_err-write_refusal
returns-in_err-write_refusal g c =
    let p = err_from_is_err_and c.from_residual-in_err-write_refusal.result c.from_residual-in_err-write_refusal.ensures.1 in
    let o0 = owes_all _ _ in
    let o1 = owes_less _ _ _ (codes "{refused,") (call_as_term c.args.kind c.args.arguments.now ++ (codes "," ++ (refusal_as_term (refusal_in c.args.refusal.now) ++ codes "}"))) _ o0 c.in_ok-write_all.ensures.appends in
    let o2 = owes_less _ _ _ (call_as_term c.args.kind c.args.arguments.now) (codes "," ++ (refusal_as_term (refusal_in c.args.refusal.now) ++ codes "}")) _ o1 c.in_ok-write_call.ensures.appends in
    let o3 = owes_less _ _ _ (codes ",") (refusal_as_term (refusal_in c.args.refusal.now) ++ codes "}") _ o2 c.in_ok-write_all-2.ensures.appends in
    part_fails _ _ (g.W.Sink.contents c.write_refusal.new.sink) (g.W.Sink.has_failed c.write_refusal.new.sink) c.from_residual-in_err-write_refusal.result Write (refusal_as_term (refusal_in c.args.refusal.now)) (codes "}") _ (p.1 ∙ ap Err p.2) o3 c.in_err-write_refusal.ensures

pub returns-in_err-write_all-3 : goal.returns-in_err-write_all-3
returns-in_err-write_all-3 g c =
    let p = err_from_is_err_and c.from_residual-in_err-write_all-3.result c.from_residual-in_err-write_all-3.ensures.1 in
    let o0 = owes_all _ _ in
    let o1 = owes_less _ _ _ (codes "{refused,") (call_as_term c.args.kind c.args.arguments.now ++ (codes "," ++ (refusal_as_term (refusal_in c.args.refusal.now) ++ codes "}"))) _ o0 c.in_ok-write_all.ensures.appends in
    let o2 = owes_less _ _ _ (call_as_term c.args.kind c.args.arguments.now) (codes "," ++ (refusal_as_term (refusal_in c.args.refusal.now) ++ codes "}")) _ o1 c.in_ok-write_call.ensures.appends in
    let o3 = owes_less _ _ _ (codes ",") (refusal_as_term (refusal_in c.args.refusal.now) ++ codes "}") _ o2 c.in_ok-write_all-2.ensures.appends in
    let o4 = owes_less _ _ _ (refusal_as_term (refusal_in c.args.refusal.now)) (codes "}") _ o3 c.in_ok-write_refusal.ensures.appends in
    last_fails _ _ (g.W.Sink.contents c.write_all-3.new.sink) (g.W.Sink.has_failed c.write_all-3.new.sink) c.from_residual-in_err-write_all-3.result Write (codes "}") _ (p.1 ∙ ap Err p.2) o4 c.in_err-write_all-3.ensures

pub returns : goal.returns
returns g c =
    let o0 = owes_all _ _ in
    let o1 = owes_less _ _ _ (codes "{refused,") (call_as_term c.args.kind c.args.arguments.now ++ (codes "," ++ (refusal_as_term (refusal_in c.args.refusal.now) ++ codes "}"))) _ o0 c.in_ok-write_all.ensures.appends in
    let o2 = owes_less _ _ _ (call_as_term c.args.kind c.args.arguments.now) (codes "," ++ (refusal_as_term (refusal_in c.args.refusal.now) ++ codes "}")) _ o1 c.in_ok-write_call.ensures.appends in
    let o3 = owes_less _ _ _ (codes ",") (refusal_as_term (refusal_in c.args.refusal.now) ++ codes "}") _ o2 c.in_ok-write_all-2.ensures.appends in
    let o4 = owes_less _ _ _ (refusal_as_term (refusal_in c.args.refusal.now)) (codes "}") _ o3 c.in_ok-write_refusal.ensures.appends in
    owes_last _ _ _ _ (codes "}") _ o4 c.in_ok-write_all-3.ensures
