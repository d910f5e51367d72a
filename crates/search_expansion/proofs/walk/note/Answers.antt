use Rattle.std.proofs.Common.{◌≡◌, [], map, refl, sym, ap, subst, arith}
use Rattle.world_identities.specs.Identities.{identity_in, flags_in}
use Rattle.tree_findings.specs.Laws.{AddsSchedule}
use Rattle.tree_findings.proofs.Schedules.{adds_schedule}
use Rattle.search_jobs.proofs.Lists.{none_left}
use Rattle.search_expansion.proofs.walk.note.Goals as goal

pub returns-then-shown-eq0 : goal.returns-then-shown-eq0
returns-then-shown-eq0 c =
    let flags = flags_in c.args.flags in
    let path = c.args.path.now in
    let old = c.args.findings.now in
    let none : c.args.shown.now ≡ [] = none_left c.args.shown.now (omega (arith, c.if-shown-eq0.true)) in
    subst (λ is. AddsSchedule flags path is old old) (sym (ap (map identity_in) none)) (adds_schedule flags path [] old old refl)

pub returns : goal.returns
returns c = c.in_ok-note.ensures.among
