use Rattle.std.proofs.Common.{rules, ◌≡◌, true, false, sym, ◌∙◌}
use Rattle.tree_coverage.specs.Covers.{is_one_of}
use Rattle.search_job_lines.proofs.Checks.{all_enabled, first_awake, one_checked}
use Rattle.search_job_lines.proofs.check.first_awake.Goals as goal

pub returns-then-not-is_one_of : goal.returns-then-not-is_one_of
returns-then-not-is_one_of c = λ a h are.
    let other : c.is_one_of.result ≡ false = search rules in
    first_awake a h c.args.enabled.now c.args.steps.now c.loop-step.rest.now are c.loop-step.invariant c.in-Some.step.now c.in-Some.later.now c.in-Some.ensures.cases.0 (sym c.is_one_of.ensures ∙ other)

pub loop-step-preserved : goal.loop-step-preserved
loop-step-preserved c =
    let is : c.is_one_of.result ≡ true = search rules in
    one_checked c.args.enabled.now c.args.steps.now c.loop-step.rest.now c.in-Some.later.now c.in-Some.step.now c.in-Some.ensures.cases.0 (sym c.is_one_of.ensures ∙ is) c.loop-step.invariant

pub returns : goal.returns
returns c = λ a h are. all_enabled a h c.args.enabled.now c.args.steps.now c.loop-step.rest.now are c.loop-step.invariant c.in_default.ensures.cases
