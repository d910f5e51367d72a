use Rattle.std.proofs.Common.{◌≡◌, ◌∙◌, ap, sym, Err}
use Rattle.world_core.specs.declared.fault.WorldFault.{WorldFault}
use Rattle.world_core.proofs.Runs.{goes_on, stopped}
use Rattle.world_core.proofs.world.World.advance.Goals as goal

pub returns-in-Err-clause-advanced : goal.returns-in-Err-clause-advanced
returns-in-Err-clause-advanced c =
    stopped c.args.self.now c.loop-index.self c.step.new.self c.args.steps.now c.loop-index.index c.index-steps-index.result c.in-Err.fault c.loop-index-test.true (sym c.index-steps-index.is)
    c.loop-index.invariant.runs c.loop-index.invariant.program c.loop-index.invariant.sound
    (λ e. c.in-Err.ensures.not_enabled (ap (λ f. Err f) e)) (λ e. c.in-Err.ensures.unchanged (ap (λ f. Err f) e)) (λ e. c.in-Err.ensures.spent (ap (λ f. Err f) e)) c.in-Err.ensures.kept

pub loop-index-preserved : goal.loop-index-preserved
loop-index-preserved c = record {
  runs = goes_on c.args.self.now c.loop-index.self c.step.new.self c.args.steps.now c.loop-index.index c.index-steps-index.result c.loop-index-test.true (sym c.index-steps-index.is) c.loop-index.invariant.runs c.loop-index.invariant.program c.in-Ok.ensures.ok;
  program = c.in-Ok.ensures.program ∙ c.loop-index.invariant.program;
  sound = c.in-Ok.ensures.lives;
}
