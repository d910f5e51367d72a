use Rattle.std.proofs.Common.{List, ◌≡◌, ◌∙◌, ◌∷◌, ◌++◌, [], ap, map, refl, subst, sym}
use Rattle.std.proofs.lemmas.Result.{on_ok_weaker}
use Rattle.search_levels.specs.Arrivals.{of_module}
use Rattle.search_levels.specs.inside.Paths.{schedule_in}
use Rattle.search_levels.specs.inside.Visits.{Visit, entry_of}
use Rattle.search_levels.proofs.Arriving.{arrives_at}
use Rattle.search_levels.proofs.Merging.{put_last}
use Rattle.search_levels.proofs.Noting.{is_empty, one_arrival}
use Rattle.search_levels.proofs.Putting.{is_there, puts_after, takes_last}
use Rattle.term_core.specs.declared.step.Step.{Step}
use Rattle.tree_findings.proofs.Schedules.{adds_schedule}
use Rattle.tree_findings.specs.Laws.{AddsSchedule}
use Rattle.world_identities.specs.Identities.{flags_in, identity_in}
use Rattle.search_levels.proofs.expanding.arrive.Goals as goal

-- the schedule goes on by a step, or by a copy of it
goes_on_by : (longer schedule : List Step) (step copied : Step) → longer ≡ schedule ++ copied ∷ [] → copied ≡ step → longer ≡ schedule ++ step ∷ []
goes_on_by longer schedule step copied is same = is ∙ ap (λ s. schedule ++ s ∷ []) same

pub returns-then-is_empty-clause-arrives : goal.returns-then-is_empty-clause-arrives
returns-then-is_empty-clause-arrives g c = λ known m.
    let Agrees = of_module (g.W.Worlds.agrees known) m in
    let flags = flags_in c.args.flags in
    let from = schedule_in c.args.from.now in
    let schedule = from ++ c.args.to.of.now.step ∷ [] in
    let level = c.args.level.now.rows in
    let findings = c.args.findings.now in
    let there = c.has-is_there.ensures c.if-is_there.true in
    let none : c.args.to.of.now.shown.items ≡ [] = is_empty c.args.to.of.now.shown.items _ c.args.to.of.now.shown.ok.0 (sym c.if-is_empty.true ∙ c.is_empty.ensures) in
    let adds = subst (λ is. AddsSchedule flags schedule is findings findings) (sym (ap (map identity_in) none)) (adds_schedule flags schedule [] findings findings refl) in
    arrives_at Agrees flags from schedule (entry_of c.args.to) level level findings findings refl (is_there Agrees level schedule c.args.to.row.now there.0 there.1 there.2) adds

pub returns-then-is_there-2-clause-arrives : goal.returns-then-is_there-2-clause-arrives
returns-then-is_there-2-clause-arrives g c = λ known m.
    let Agrees = of_module (g.W.Worlds.agrees known) m in
    let flags = flags_in c.args.flags in
    let schedule = schedule_in c.in_ok-path.path in
    let level = c.args.level.now.rows in
    let old = c.args.findings.now in
    let new = c.note.new.findings in
    let there = c.has-is_there.ensures c.if-is_there-2.true in
    let adds = subst (λ is. AddsSchedule flags schedule (map identity_in is) old new) c.as_slice.ensures.value c.in_ok-note.ensures.ok in
    arrives_at Agrees flags (schedule_in c.args.from.now) schedule (entry_of c.args.to) level level old new (goes_on_by _ (schedule_in c.args.from.now) _ _ c.in_ok-path.ensures c.in_ok-copy.ensures) (is_there Agrees level schedule c.args.to.row.now there.0 there.1 there.2) adds

pub returns-then-is_there-2-clause-notes : goal.returns-then-is_there-2-clause-notes
returns-then-is_there-2-clause-notes g c = λ known m.
    let flags = flags_in c.args.flags in
    let schedule = schedule_in c.in_ok-path.path in
    let old = c.args.findings.now in
    let new = c.note.new.findings in
    let adds = subst (λ is. AddsSchedule flags schedule (map identity_in is) old new) c.as_slice.ensures.value c.in_ok-note.ensures.ok in
    one_arrival (of_module (g.W.Worlds.agrees known) m) flags (schedule_in c.args.from.now) (entry_of c.args.to) schedule old new (goes_on_by _ (schedule_in c.args.from.now) _ _ c.in_ok-path.ensures c.in_ok-copy.ensures) adds

pub returns-clause-arrives : goal.returns-clause-arrives
returns-clause-arrives g c =
    let flags = flags_in c.args.flags in
    let path = c.in_ok-path.path in
    let visit : Visit = record { of = path; row = c.args.to.row.now } in
    let level = c.args.level.now.rows in
    let more = c.put.new.self.rows in
    let old = c.args.findings.now in
    let new = c.note.new.findings in
    let adds = subst (λ is. AddsSchedule flags (schedule_in path) (map identity_in is) old new) c.as_slice.ensures.value c.in_ok-note.ensures.ok in
    on_ok_weaker c.put.result (λ puts known m.
    arrives_at (of_module (g.W.Worlds.agrees known) m) flags (schedule_in c.args.from.now) (schedule_in path) (entry_of c.args.to) level more old new (goes_on_by _ (schedule_in c.args.from.now) _ _ c.in_ok-path.ensures c.in_ok-copy.ensures) (puts_after (of_module (g.W.Worlds.agrees known) m) level more visit puts) adds) c.put.ensures.puts

pub returns-clause-notes : goal.returns-clause-notes
returns-clause-notes g c = λ known m.
    let flags = flags_in c.args.flags in
    let schedule = schedule_in c.in_ok-path.path in
    let old = c.args.findings.now in
    let new = c.note.new.findings in
    let adds = subst (λ is. AddsSchedule flags schedule (map identity_in is) old new) c.as_slice.ensures.value c.in_ok-note.ensures.ok in
    one_arrival (of_module (g.W.Worlds.agrees known) m) flags (schedule_in c.args.from.now) (entry_of c.args.to) schedule old new (goes_on_by _ (schedule_in c.args.from.now) _ _ c.in_ok-path.ensures c.in_ok-copy.ensures) adds

pub returns-clause-of_known : goal.returns-clause-of_known
returns-clause-of_known g c =
    let visit : Visit = record { of = c.in_ok-path.path; row = c.args.to.row.now } in
    on_ok_weaker c.put.result (λ puts known. takes_last (g.W.Worlds.is_of known) c.args.level.now.rows c.put.new.self.rows visit puts) c.put.ensures.puts

pub returns-clause-rows : goal.returns-clause-rows
returns-clause-rows g c =
    let visit : Visit = record { of = c.in_ok-path.path; row = c.args.to.row.now } in
    on_ok_weaker c.put.result (λ puts. put_last c.args.level.now.rows c.put.new.self.rows visit puts) c.put.ensures.puts
