use Rattle.std.proofs.Common.{◌≡◌, ◌∙◌, [], map, refl, sym, ap, subst, arith}
use Rattle.world_identities.specs.Identities.{identity_in, flags_in}
use Rattle.search_levels.specs.inside.Paths.{schedule_in}
use Rattle.tree_findings.specs.Laws.{AddsSchedule}
use Rattle.tree_findings.proofs.Schedules.{adds_schedule}
use Rattle.search_levels.proofs.Noting.{no_element}
use Rattle.search_levels.proofs.expanding.note.Goals as goal

pub returns-then-shown-eq0-clause-ok : goal.returns-then-shown-eq0-clause-ok
returns-then-shown-eq0-clause-ok c =
    let flags = flags_in c.args.flags in
    let path = schedule_in c.args.path.now in
    let old = c.args.findings.now in
    let none : c.args.shown.now ≡ [] = no_element c.args.shown.now (omega (arith, c.if-shown-eq0.true)) in
    subst (λ is. AddsSchedule flags path is old old) (sym (ap (map identity_in) none)) (adds_schedule flags path [] old old refl)

pub returns-clause-ok : goal.returns-clause-ok
returns-clause-ok c =
    let flags = flags_in c.args.flags in
    subst (λ s. AddsSchedule flags s (map identity_in c.args.shown.now) c.args.findings.now c.note.new.self) (c.as_slice.ensures.value ∙ c.in_ok-schedule.ensures) c.in_ok-note.ensures.among
