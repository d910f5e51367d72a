use Rattle.std.proofs.Common.{◌≡◌, ◌∙◌, ◌++◌, List, ap, map, subst}
use Rattle.term_core.specs.declared.step.Step.{Step}
use Rattle.tree_findings.specs.Laws.{AddsSchedule}
use Rattle.world_core.specs.Seen.{program_in}
use Rattle.world_identities.specs.Identities.{flags_in, identity_in}
use Rattle.world_model.specs.Shown.{Identity, shown, shown_at_rest, shown_last}
use Rattle.search_samples.proofs.following.visit.Goals as goal

pub returns-clause-adds : goal.returns-clause-adds
returns-clause-adds c =
    let world = c.args.world.now in
    let h = world.history in
    let same : map identity_in c.as_slice-2.result.now ≡ shown (program_in world) h =
    ap (map identity_in) c.as_slice-2.ensures.value
    ∙ c.in_ok-shown.ensures.shown
    ∙ ap (λ (steps : List Step). shown_last h ++ shown_at_rest steps h) (c.as_slice.ensures.value ∙ c.in_ok-enabled.ensures.listed) in
    subst (λ (told : List Identity). AddsSchedule (flags_in c.args.flags) c.args.schedule.now told c.args.findings.now c.note.new.self) same c.in_ok-note.ensures.among
