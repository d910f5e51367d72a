use Rattle.core_eval.specs.Requests.{answered_of}
use Rattle.proc_machines.proofs.Agreeing.{ran_on}
use Rattle.proc_machines.proofs.course.resumed.Goals as goal

pub returns : goal.returns
returns c = λ m p course told.
    ran_on m p course c.args.machine.now c.in_ok-machine.machine c.resume.new.self (answered_of c.args.answer) c.in_ok-machine.ensures.same c.in_ok-resume.ensures.lives c.in_ok-resume.ensures.program c.in_ok-resume.ensures.goes_on told
