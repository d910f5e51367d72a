use Rattle.world_identities.specs.Identities.{flags_in}
use Rattle.world_model.specs.Asking.{program_of}
use Rattle.search_samples.proofs.Walking.{no_samples}
use Rattle.search_samples.proofs.sample.shown_by_samples.Goals as goal

pub loop-run-init : goal.loop-run-init
loop-run-init c = no_samples (flags_in c.args.samples.now.flags) c.args.samples.now.delivery (program_of c.args.program.now) c.args.samples.now.depth c.new-findings.result c.new-findings.ensures
