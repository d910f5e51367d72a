use Rattle.std.proofs.Common.{sym, arith}
use Rattle.std.proofs.lemmas.Result.{err_from_is_err_and}
use Rattle.core_scopes.specs.inside.Environment.{setting_in}
use Rattle.core_scopes.proofs.Gathering.{body_next, body_fails, bodies_out, bodies_done}
use Rattle.core_scopes.proofs.functions.check_bodies.Goals as goal

pub returns-in_default : goal.returns-in_default
returns-in_default c = bodies_out (setting_in c.args.setting.now) c.args.setting.now.definitions.now.entries c.bodies.i c.args.count _ c.bodies.invariant (sym c.in_default.ensures.entry)

pub returns-in_err-check_definition : goal.returns-in_err-check_definition
returns-in_err-check_definition c =
    let p = err_from_is_err_and c.from_residual.result c.from_residual.ensures.1 in
    rw (p.1, p.2) (body_fails (setting_in c.args.setting.now) c.args.setting.now.definitions.now.entries c.bodies.i c.args.count _ c.bodies.invariant (c.in-Some.function.now, c.in-Some.definition.now) _ (omega arith) (sym c.in-Some.ensures.entry) c.in_err-check_definition.ensures)

pub bodies-preserved : goal.bodies-preserved
bodies-preserved c =
    body_next (setting_in c.args.setting.now) c.args.setting.now.definitions.now.entries c.bodies.i c.args.count _ c.bodies.invariant (c.in-Some.function.now, c.in-Some.definition.now) (omega arith) (sym c.in-Some.ensures.entry) c.in_ok-check_definition.ensures

pub returns : goal.returns
returns c = bodies_done (setting_in c.args.setting.now) c.args.setting.now.definitions.now.entries c.bodies.i c.args.count _ c.bodies.invariant (omega arith)
