use Rattle.std.proofs.Common.{◌∙◌, ap, sym}
use Rattle.core_semantics.specs.Applications.{setting_of}
use Rattle.core_eval.specs.Requests.{told_by}
use Rattle.core_eval.specs.Standing.{stands_at}
use Rattle.core_eval.specs.Told.{told}
use Rattle.core_eval.proofs.Stops.{standing-none}
use Rattle.core_eval.proofs.machine.Machine.request.Goals as goal

pub returns : goal.returns
returns c = sym (standing-none (setting_of c.self.inside.program.now c.self.inside.pid) c.self.inside.stack c.self.inside.dictionary (told_by c.self.inside.request)) ∙ ap (λ m. told (stands_at m)) c.self.view_is
