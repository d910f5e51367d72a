use Rattle.std.proofs.Common.{◌≡◌, ◌∙◌, ◌+◌, ◌∷◌, [], List, ap, length, length-append, subst, sym, arith}
use Rattle.core_tree.specs.Syntax.{ModuleTree}
use Rattle.search_samples.specs.inside.Walks.{IsFollowed}
use Rattle.search_samples.proofs.Chosen.{may_be_taken}
use Rattle.search_samples.proofs.Walking.{at_an_end, at_the_depth, enabled_there, ends, starts, world_goes_on}
use Rattle.term_core.specs.declared.step.Step.{Step}
use Rattle.tree_findings.specs.Laws.{AddsSchedule}
use Rattle.world_core.specs.Seen.{Seen, program_in}
use Rattle.world_identities.specs.Identities.{flags_in}
use Rattle.world_model.specs.Asking.{program_of}
use Rattle.world_model.specs.Run.{enabled_steps}
use Rattle.world_model.specs.Shown.{shown}
use Rattle.search_samples.proofs.following.follow.Goals as goal

pub steps-init : goal.steps-init
steps-init c =
    let flags = flags_in c.args.samples.now.flags in
    let d = c.args.samples.now.delivery in
    let m = c.args.program.now in
    let world = c.in_ok-world.world in
    let of : world.program ≡ m = ap (λ (w : Seen). w.program) c.in_ok-world.ensures in
    record {
      followed =
          subst (λ (s : List Step). IsFollowed flags d (program_of m) s world.history c.args.findings.now c.visit.new.findings) (sym c.new-schedule.ensures.items)
          (starts flags d m world c.args.findings.now c.visit.new.findings c.in_ok-world.ensures c.in_ok-enabled.ensures.adds);
      program = of;
      lives = c.in_ok-enabled.ensures.lives;
      enabled = c.in_ok-enabled.ensures.enabled ∙ ap (λ (p : ModuleTree). enabled_steps (program_of p) world.history) of;
      short = omega (arith, ap length c.new-schedule.ensures.items);
    }

pub returns-in_default-clause-adds : goal.returns-in_default-clause-adds
returns-in_default-clause-adds c =
    let walk = c.steps.invariant in
    let a = program_of c.args.program.now in
    let d = c.args.samples.now.delivery in
    let n = c.args.samples.now.depth in
    let s = c.steps.schedule.items in
    let h = c.steps.world.history in
    ends (flags_in c.args.samples.now.flags) d a n s h c.args.findings.now c.steps.findings walk.followed (at_an_end d a n s h c.steps.enabled.items walk.short walk.enabled (sym c.as_slice.ensures.value ∙ c.in_default.ensures))

pub drawn-requires : goal.drawn-requires
drawn-requires c = c.steps.invariant.lives

pub take-requires : goal.take-requires
take-requires c =
    let walk = c.steps.invariant in
    let m = c.args.program.now in
    let d = c.args.samples.now.delivery in
    let world = c.steps.world in
    let x = c.in-Some.step.now in
    enabled_there d m world x walk.program (may_be_taken d (program_of m) world.history c.as_slice.result.now x (c.as_slice.ensures.value ∙ walk.enabled) c.in-Some.ensures)

pub steps-preserved : goal.steps-preserved
steps-preserved c =
    let walk = c.steps.invariant in
    let m = c.args.program.now in
    let d = c.args.samples.now.delivery in
    let world = c.steps.world in
    let after = c.take.new.world in
    let x = c.in-Some.step.now in
    let s = c.steps.schedule.items in
    let more = c.take.new.schedule.items in
    let of : after.program ≡ m = c.take.ensures.program ∙ walk.program in
    let longer : length more ≡ length s + 1 = ap length c.in_ok-take.ensures.schedule ∙ length-append s (x ∷ []) in
    record {
      followed =
          world_goes_on (flags_in c.args.samples.now.flags) d m s more x world after c.args.findings.now c.steps.findings c.visit-in-steps.new.findings walk.followed walk.program
          (may_be_taken d (program_of m) world.history c.as_slice.result.now x (c.as_slice.ensures.value ∙ walk.enabled) c.in-Some.ensures) c.in_ok-take.ensures.event c.take.ensures.program c.in_ok-take.ensures.schedule
          (subst (λ (t : List Step). AddsSchedule (flags_in c.args.samples.now.flags) t (shown (program_in after) after.history) c.steps.findings c.visit-in-steps.new.findings) c.as_slice-in-steps.ensures.value c.in_ok-enabled-2.ensures.adds);
      program = of;
      lives = c.in_ok-enabled-2.ensures.lives;
      enabled = c.in_ok-enabled-2.ensures.enabled ∙ ap (λ (p : ModuleTree). enabled_steps (program_of p) after.history) of;
      short = omega (arith, longer, c.steps-test.true);
    }

pub returns-clause-adds : goal.returns-clause-adds
returns-clause-adds c =
    let walk = c.steps.invariant in
    let a = program_of c.args.program.now in
    let d = c.args.samples.now.delivery in
    let n = c.args.samples.now.depth in
    let s = c.steps.schedule.items in
    let h = c.steps.world.history in
    ends (flags_in c.args.samples.now.flags) d a n s h c.args.findings.now c.steps.findings walk.followed (at_the_depth d a n s h walk.short (omega arith))
