use Rattle.std.proofs.Common.{◌++◌, ap, ◌∙◌, codes}
use Rattle.std.specs.Prelude.{Err}
use Rattle.std.proofs.lemmas.Result.{err_from_is_err_and}
use Rattle.term_core.specs.inside.Writing.{owes_all, owes_last, owes_less}
use Rattle.std.specs.Fmt.{decimal}
use Rattle.report_explained.specs.declared.explain_fault.ExplainFault.TheVariants.{Write}
use Rattle.report_explained.proofs.Parts.{last_fails, part_fails}
use Rattle.report_terms.specs.Strings.{string_of_pid}
use Rattle.report_terms.specs.CallTerms.{call_as_term, rule_as_term}
use Rattle.report_terms.proofs.identities.write_refused_call.Goals as goal

pub returns-in_err-write_all : goal.returns-in_err-write_all
returns-in_err-write_all g c =
    let p = err_from_is_err_and c.from_residual.result c.from_residual.ensures.1 in
    let o0 = owes_all _ _ in
    part_fails _ _ (g.W.Sink.contents c.write_all.new.sink) (g.W.Sink.has_failed c.write_all.new.sink) c.from_residual.result Write (codes "{refused,") (string_of_pid c.args.pid.now ++ (codes "," ++ (decimal c.args.request ++ (codes "," ++ (call_as_term c.args.kind c.args.arguments.now ++ (codes "," ++ (rule_as_term c.args.rule c.args.owner.now ++ codes "}"))))))) _ (p.1 ∙ ap Err p.2) o0 c.in_err-write_all.ensures

pub returns-in_err-write_pid_string : goal.returns-in_err-write_pid_string
returns-in_err-write_pid_string g c =
    let p = err_from_is_err_and c.from_residual-in_err-write_pid_string.result c.from_residual-in_err-write_pid_string.ensures.1 in
    let o0 = owes_all _ _ in
    let o1 = owes_less _ _ _ (codes "{refused,") (string_of_pid c.args.pid.now ++ (codes "," ++ (decimal c.args.request ++ (codes "," ++ (call_as_term c.args.kind c.args.arguments.now ++ (codes "," ++ (rule_as_term c.args.rule c.args.owner.now ++ codes "}"))))))) _ o0 c.in_ok-write_all.ensures.appends in
    part_fails _ _ (g.W.Sink.contents c.write_pid_string.new.sink) (g.W.Sink.has_failed c.write_pid_string.new.sink) c.from_residual-in_err-write_pid_string.result Write (string_of_pid c.args.pid.now) (codes "," ++ (decimal c.args.request ++ (codes "," ++ (call_as_term c.args.kind c.args.arguments.now ++ (codes "," ++ (rule_as_term c.args.rule c.args.owner.now ++ codes "}")))))) _ (p.1 ∙ ap Err p.2) o1 c.in_err-write_pid_string.ensures

pub returns-in_err-write_all-2 : goal.returns-in_err-write_all-2
returns-in_err-write_all-2 g c =
    let p = err_from_is_err_and c.from_residual-in_err-write_all-2.result c.from_residual-in_err-write_all-2.ensures.1 in
    let o0 = owes_all _ _ in
    let o1 = owes_less _ _ _ (codes "{refused,") (string_of_pid c.args.pid.now ++ (codes "," ++ (decimal c.args.request ++ (codes "," ++ (call_as_term c.args.kind c.args.arguments.now ++ (codes "," ++ (rule_as_term c.args.rule c.args.owner.now ++ codes "}"))))))) _ o0 c.in_ok-write_all.ensures.appends in
    let o2 = owes_less _ _ _ (string_of_pid c.args.pid.now) (codes "," ++ (decimal c.args.request ++ (codes "," ++ (call_as_term c.args.kind c.args.arguments.now ++ (codes "," ++ (rule_as_term c.args.rule c.args.owner.now ++ codes "}")))))) _ o1 c.in_ok-write_pid_string.ensures.appends in
    part_fails _ _ (g.W.Sink.contents c.write_all-2.new.sink) (g.W.Sink.has_failed c.write_all-2.new.sink) c.from_residual-in_err-write_all-2.result Write (codes ",") (decimal c.args.request ++ (codes "," ++ (call_as_term c.args.kind c.args.arguments.now ++ (codes "," ++ (rule_as_term c.args.rule c.args.owner.now ++ codes "}"))))) _ (p.1 ∙ ap Err p.2) o2 c.in_err-write_all-2.ensures

pub returns-in_err-write_number : goal.returns-in_err-write_number
returns-in_err-write_number g c =
    let p = err_from_is_err_and c.from_residual-in_err-write_number.result c.from_residual-in_err-write_number.ensures.1 in
    let o0 = owes_all _ _ in
    let o1 = owes_less _ _ _ (codes "{refused,") (string_of_pid c.args.pid.now ++ (codes "," ++ (decimal c.args.request ++ (codes "," ++ (call_as_term c.args.kind c.args.arguments.now ++ (codes "," ++ (rule_as_term c.args.rule c.args.owner.now ++ codes "}"))))))) _ o0 c.in_ok-write_all.ensures.appends in
    let o2 = owes_less _ _ _ (string_of_pid c.args.pid.now) (codes "," ++ (decimal c.args.request ++ (codes "," ++ (call_as_term c.args.kind c.args.arguments.now ++ (codes "," ++ (rule_as_term c.args.rule c.args.owner.now ++ codes "}")))))) _ o1 c.in_ok-write_pid_string.ensures.appends in
    let o3 = owes_less _ _ _ (codes ",") (decimal c.args.request ++ (codes "," ++ (call_as_term c.args.kind c.args.arguments.now ++ (codes "," ++ (rule_as_term c.args.rule c.args.owner.now ++ codes "}"))))) _ o2 c.in_ok-write_all-2.ensures.appends in
    part_fails _ _ (g.W.Sink.contents c.write_number.new.sink) (g.W.Sink.has_failed c.write_number.new.sink) c.from_residual-in_err-write_number.result Write (decimal c.args.request) (codes "," ++ (call_as_term c.args.kind c.args.arguments.now ++ (codes "," ++ (rule_as_term c.args.rule c.args.owner.now ++ codes "}")))) _ (p.1 ∙ ap Err p.2) o3 c.in_err-write_number.ensures

pub returns-in_err-write_all-3 : goal.returns-in_err-write_all-3
returns-in_err-write_all-3 g c =
    let p = err_from_is_err_and c.from_residual-in_err-write_all-3.result c.from_residual-in_err-write_all-3.ensures.1 in
    let o0 = owes_all _ _ in
    let o1 = owes_less _ _ _ (codes "{refused,") (string_of_pid c.args.pid.now ++ (codes "," ++ (decimal c.args.request ++ (codes "," ++ (call_as_term c.args.kind c.args.arguments.now ++ (codes "," ++ (rule_as_term c.args.rule c.args.owner.now ++ codes "}"))))))) _ o0 c.in_ok-write_all.ensures.appends in
    let o2 = owes_less _ _ _ (string_of_pid c.args.pid.now) (codes "," ++ (decimal c.args.request ++ (codes "," ++ (call_as_term c.args.kind c.args.arguments.now ++ (codes "," ++ (rule_as_term c.args.rule c.args.owner.now ++ codes "}")))))) _ o1 c.in_ok-write_pid_string.ensures.appends in
    let o3 = owes_less _ _ _ (codes ",") (decimal c.args.request ++ (codes "," ++ (call_as_term c.args.kind c.args.arguments.now ++ (codes "," ++ (rule_as_term c.args.rule c.args.owner.now ++ codes "}"))))) _ o2 c.in_ok-write_all-2.ensures.appends in
    let o4 = owes_less _ _ _ (decimal c.args.request) (codes "," ++ (call_as_term c.args.kind c.args.arguments.now ++ (codes "," ++ (rule_as_term c.args.rule c.args.owner.now ++ codes "}")))) _ o3 c.in_ok-write_number.ensures.appends in
    part_fails _ _ (g.W.Sink.contents c.write_all-3.new.sink) (g.W.Sink.has_failed c.write_all-3.new.sink) c.from_residual-in_err-write_all-3.result Write (codes ",") (call_as_term c.args.kind c.args.arguments.now ++ (codes "," ++ (rule_as_term c.args.rule c.args.owner.now ++ codes "}"))) _ (p.1 ∙ ap Err p.2) o4 c.in_err-write_all-3.ensures

pub returns-in_err-write_call : goal.returns-in_err-write_call
returns-in_err-write_call g c =
    let p = err_from_is_err_and c.from_residual-in_err-write_call.result c.from_residual-in_err-write_call.ensures.1 in
    let o0 = owes_all _ _ in
    let o1 = owes_less _ _ _ (codes "{refused,") (string_of_pid c.args.pid.now ++ (codes "," ++ (decimal c.args.request ++ (codes "," ++ (call_as_term c.args.kind c.args.arguments.now ++ (codes "," ++ (rule_as_term c.args.rule c.args.owner.now ++ codes "}"))))))) _ o0 c.in_ok-write_all.ensures.appends in
    let o2 = owes_less _ _ _ (string_of_pid c.args.pid.now) (codes "," ++ (decimal c.args.request ++ (codes "," ++ (call_as_term c.args.kind c.args.arguments.now ++ (codes "," ++ (rule_as_term c.args.rule c.args.owner.now ++ codes "}")))))) _ o1 c.in_ok-write_pid_string.ensures.appends in
    let o3 = owes_less _ _ _ (codes ",") (decimal c.args.request ++ (codes "," ++ (call_as_term c.args.kind c.args.arguments.now ++ (codes "," ++ (rule_as_term c.args.rule c.args.owner.now ++ codes "}"))))) _ o2 c.in_ok-write_all-2.ensures.appends in
    let o4 = owes_less _ _ _ (decimal c.args.request) (codes "," ++ (call_as_term c.args.kind c.args.arguments.now ++ (codes "," ++ (rule_as_term c.args.rule c.args.owner.now ++ codes "}")))) _ o3 c.in_ok-write_number.ensures.appends in
    let o5 = owes_less _ _ _ (codes ",") (call_as_term c.args.kind c.args.arguments.now ++ (codes "," ++ (rule_as_term c.args.rule c.args.owner.now ++ codes "}"))) _ o4 c.in_ok-write_all-3.ensures.appends in
    part_fails _ _ (g.W.Sink.contents c.write_call.new.sink) (g.W.Sink.has_failed c.write_call.new.sink) c.from_residual-in_err-write_call.result c.in_err-write_call.field-0.0 (call_as_term c.args.kind c.args.arguments.now) (codes "," ++ (rule_as_term c.args.rule c.args.owner.now ++ codes "}")) _ (p.1 ∙ ap Err p.2) o5 c.in_err-write_call.ensures

pub returns-in_err-write_all-4 : goal.returns-in_err-write_all-4
returns-in_err-write_all-4 g c =
    let p = err_from_is_err_and c.from_residual-in_err-write_all-4.result c.from_residual-in_err-write_all-4.ensures.1 in
    let o0 = owes_all _ _ in
    let o1 = owes_less _ _ _ (codes "{refused,") (string_of_pid c.args.pid.now ++ (codes "," ++ (decimal c.args.request ++ (codes "," ++ (call_as_term c.args.kind c.args.arguments.now ++ (codes "," ++ (rule_as_term c.args.rule c.args.owner.now ++ codes "}"))))))) _ o0 c.in_ok-write_all.ensures.appends in
    let o2 = owes_less _ _ _ (string_of_pid c.args.pid.now) (codes "," ++ (decimal c.args.request ++ (codes "," ++ (call_as_term c.args.kind c.args.arguments.now ++ (codes "," ++ (rule_as_term c.args.rule c.args.owner.now ++ codes "}")))))) _ o1 c.in_ok-write_pid_string.ensures.appends in
    let o3 = owes_less _ _ _ (codes ",") (decimal c.args.request ++ (codes "," ++ (call_as_term c.args.kind c.args.arguments.now ++ (codes "," ++ (rule_as_term c.args.rule c.args.owner.now ++ codes "}"))))) _ o2 c.in_ok-write_all-2.ensures.appends in
    let o4 = owes_less _ _ _ (decimal c.args.request) (codes "," ++ (call_as_term c.args.kind c.args.arguments.now ++ (codes "," ++ (rule_as_term c.args.rule c.args.owner.now ++ codes "}")))) _ o3 c.in_ok-write_number.ensures.appends in
    let o5 = owes_less _ _ _ (codes ",") (call_as_term c.args.kind c.args.arguments.now ++ (codes "," ++ (rule_as_term c.args.rule c.args.owner.now ++ codes "}"))) _ o4 c.in_ok-write_all-3.ensures.appends in
    let o6 = owes_less _ _ _ (call_as_term c.args.kind c.args.arguments.now) (codes "," ++ (rule_as_term c.args.rule c.args.owner.now ++ codes "}")) _ o5 c.in_ok-write_call.ensures.appends in
    part_fails _ _ (g.W.Sink.contents c.write_all-4.new.sink) (g.W.Sink.has_failed c.write_all-4.new.sink) c.from_residual-in_err-write_all-4.result Write (codes ",") (rule_as_term c.args.rule c.args.owner.now ++ codes "}") _ (p.1 ∙ ap Err p.2) o6 c.in_err-write_all-4.ensures

pub returns-in_err-write_rule : goal.returns-in_err-write_rule
returns-in_err-write_rule g c =
    let p = err_from_is_err_and c.from_residual-in_err-write_rule.result c.from_residual-in_err-write_rule.ensures.1 in
    let o0 = owes_all _ _ in
    let o1 = owes_less _ _ _ (codes "{refused,") (string_of_pid c.args.pid.now ++ (codes "," ++ (decimal c.args.request ++ (codes "," ++ (call_as_term c.args.kind c.args.arguments.now ++ (codes "," ++ (rule_as_term c.args.rule c.args.owner.now ++ codes "}"))))))) _ o0 c.in_ok-write_all.ensures.appends in
    let o2 = owes_less _ _ _ (string_of_pid c.args.pid.now) (codes "," ++ (decimal c.args.request ++ (codes "," ++ (call_as_term c.args.kind c.args.arguments.now ++ (codes "," ++ (rule_as_term c.args.rule c.args.owner.now ++ codes "}")))))) _ o1 c.in_ok-write_pid_string.ensures.appends in
    let o3 = owes_less _ _ _ (codes ",") (decimal c.args.request ++ (codes "," ++ (call_as_term c.args.kind c.args.arguments.now ++ (codes "," ++ (rule_as_term c.args.rule c.args.owner.now ++ codes "}"))))) _ o2 c.in_ok-write_all-2.ensures.appends in
    let o4 = owes_less _ _ _ (decimal c.args.request) (codes "," ++ (call_as_term c.args.kind c.args.arguments.now ++ (codes "," ++ (rule_as_term c.args.rule c.args.owner.now ++ codes "}")))) _ o3 c.in_ok-write_number.ensures.appends in
    let o5 = owes_less _ _ _ (codes ",") (call_as_term c.args.kind c.args.arguments.now ++ (codes "," ++ (rule_as_term c.args.rule c.args.owner.now ++ codes "}"))) _ o4 c.in_ok-write_all-3.ensures.appends in
    let o6 = owes_less _ _ _ (call_as_term c.args.kind c.args.arguments.now) (codes "," ++ (rule_as_term c.args.rule c.args.owner.now ++ codes "}")) _ o5 c.in_ok-write_call.ensures.appends in
    let o7 = owes_less _ _ _ (codes ",") (rule_as_term c.args.rule c.args.owner.now ++ codes "}") _ o6 c.in_ok-write_all-4.ensures.appends in
    part_fails _ _ (g.W.Sink.contents c.write_rule.new.sink) (g.W.Sink.has_failed c.write_rule.new.sink) c.from_residual-in_err-write_rule.result Write (rule_as_term c.args.rule c.args.owner.now) (codes "}") _ (p.1 ∙ ap Err p.2) o7 c.in_err-write_rule.ensures

pub returns-in_err-write_all-5 : goal.returns-in_err-write_all-5
returns-in_err-write_all-5 g c =
    let p = err_from_is_err_and c.from_residual-in_err-write_all-5.result c.from_residual-in_err-write_all-5.ensures.1 in
    let o0 = owes_all _ _ in
    let o1 = owes_less _ _ _ (codes "{refused,") (string_of_pid c.args.pid.now ++ (codes "," ++ (decimal c.args.request ++ (codes "," ++ (call_as_term c.args.kind c.args.arguments.now ++ (codes "," ++ (rule_as_term c.args.rule c.args.owner.now ++ codes "}"))))))) _ o0 c.in_ok-write_all.ensures.appends in
    let o2 = owes_less _ _ _ (string_of_pid c.args.pid.now) (codes "," ++ (decimal c.args.request ++ (codes "," ++ (call_as_term c.args.kind c.args.arguments.now ++ (codes "," ++ (rule_as_term c.args.rule c.args.owner.now ++ codes "}")))))) _ o1 c.in_ok-write_pid_string.ensures.appends in
    let o3 = owes_less _ _ _ (codes ",") (decimal c.args.request ++ (codes "," ++ (call_as_term c.args.kind c.args.arguments.now ++ (codes "," ++ (rule_as_term c.args.rule c.args.owner.now ++ codes "}"))))) _ o2 c.in_ok-write_all-2.ensures.appends in
    let o4 = owes_less _ _ _ (decimal c.args.request) (codes "," ++ (call_as_term c.args.kind c.args.arguments.now ++ (codes "," ++ (rule_as_term c.args.rule c.args.owner.now ++ codes "}")))) _ o3 c.in_ok-write_number.ensures.appends in
    let o5 = owes_less _ _ _ (codes ",") (call_as_term c.args.kind c.args.arguments.now ++ (codes "," ++ (rule_as_term c.args.rule c.args.owner.now ++ codes "}"))) _ o4 c.in_ok-write_all-3.ensures.appends in
    let o6 = owes_less _ _ _ (call_as_term c.args.kind c.args.arguments.now) (codes "," ++ (rule_as_term c.args.rule c.args.owner.now ++ codes "}")) _ o5 c.in_ok-write_call.ensures.appends in
    let o7 = owes_less _ _ _ (codes ",") (rule_as_term c.args.rule c.args.owner.now ++ codes "}") _ o6 c.in_ok-write_all-4.ensures.appends in
    let o8 = owes_less _ _ _ (rule_as_term c.args.rule c.args.owner.now) (codes "}") _ o7 c.in_ok-write_rule.ensures.appends in
    last_fails _ _ (g.W.Sink.contents c.write_all-5.new.sink) (g.W.Sink.has_failed c.write_all-5.new.sink) c.from_residual-in_err-write_all-5.result Write (codes "}") _ (p.1 ∙ ap Err p.2) o8 c.in_err-write_all-5.ensures

pub returns : goal.returns
returns g c =
    let o0 = owes_all _ _ in
    let o1 = owes_less _ _ _ (codes "{refused,") (string_of_pid c.args.pid.now ++ (codes "," ++ (decimal c.args.request ++ (codes "," ++ (call_as_term c.args.kind c.args.arguments.now ++ (codes "," ++ (rule_as_term c.args.rule c.args.owner.now ++ codes "}"))))))) _ o0 c.in_ok-write_all.ensures.appends in
    let o2 = owes_less _ _ _ (string_of_pid c.args.pid.now) (codes "," ++ (decimal c.args.request ++ (codes "," ++ (call_as_term c.args.kind c.args.arguments.now ++ (codes "," ++ (rule_as_term c.args.rule c.args.owner.now ++ codes "}")))))) _ o1 c.in_ok-write_pid_string.ensures.appends in
    let o3 = owes_less _ _ _ (codes ",") (decimal c.args.request ++ (codes "," ++ (call_as_term c.args.kind c.args.arguments.now ++ (codes "," ++ (rule_as_term c.args.rule c.args.owner.now ++ codes "}"))))) _ o2 c.in_ok-write_all-2.ensures.appends in
    let o4 = owes_less _ _ _ (decimal c.args.request) (codes "," ++ (call_as_term c.args.kind c.args.arguments.now ++ (codes "," ++ (rule_as_term c.args.rule c.args.owner.now ++ codes "}")))) _ o3 c.in_ok-write_number.ensures.appends in
    let o5 = owes_less _ _ _ (codes ",") (call_as_term c.args.kind c.args.arguments.now ++ (codes "," ++ (rule_as_term c.args.rule c.args.owner.now ++ codes "}"))) _ o4 c.in_ok-write_all-3.ensures.appends in
    let o6 = owes_less _ _ _ (call_as_term c.args.kind c.args.arguments.now) (codes "," ++ (rule_as_term c.args.rule c.args.owner.now ++ codes "}")) _ o5 c.in_ok-write_call.ensures.appends in
    let o7 = owes_less _ _ _ (codes ",") (rule_as_term c.args.rule c.args.owner.now ++ codes "}") _ o6 c.in_ok-write_all-4.ensures.appends in
    let o8 = owes_less _ _ _ (rule_as_term c.args.rule c.args.owner.now) (codes "}") _ o7 c.in_ok-write_rule.ensures.appends in
    owes_last _ _ _ _ (codes "}") _ o8 c.in_ok-write_all-5.ensures
