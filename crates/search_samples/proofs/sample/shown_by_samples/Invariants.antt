use Rattle.search_samples.specs.Samples.{AreOfSamples}
use Rattle.world_identities.specs.Identities.{flags_in}
use Rattle.world_model.specs.Asking.{program_of}
use Rattle.search_samples.proofs.sample.shown_by_samples.Given as goal

-- so many schedules were followed
abbrev pub invariant-loop-run : goal.invariant-loop-run
invariant-loop-run l = AreOfSamples (flags_in l.fn.samples.flags) l.fn.samples.delivery (program_of l.fn.program) l.fn.samples.depth l._run l.findings
