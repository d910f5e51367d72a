use Rattle.std.proofs.Common.{◌+◌, [], ◌∷◌, refl, sym, ap, subst, ◌∙◌}
use Rattle.core_eval.specs.Requests.{answered_of}
use Rattle.proc_machines.specs.Courses.{StandsAs, turns_of, standing_of}
use Rattle.proc_machines.proofs.Agreeing.{agrees_turned}
use Rattle.proc_machines.proofs.processes.Processes.turn.Goals as goal

pub returns-clause-ok : goal.returns-clause-ok
returns-clause-ok c = λ m v told.
    agrees_turned m c.args.self.now (record { program = c.args.self.now.program; courses = c.put.new.self; living = c.args.self.now.living; trapping = c.args.self.now.trapping }) v c.args.pid.now
    (answered_of c.args.answer ∷ []) c.in_ok-course.course refl (λ _. refl) (λ _. refl) c.in_ok-put.ensures.ok
    (c.in_ok-course.ensures.turns ∙ ap (λ o. turns_of o + 1) c.of.ensures)
    (λ course stands. c.in_ok-course.ensures.stands m c.args.pid.now course (subst (λ o. StandsAs m c.args.pid.now course (standing_of o)) (sym c.of.ensures) stands))
    (λ none. c.in_ok-course.ensures.gone (ap standing_of c.of.ensures ∙ none)) told
