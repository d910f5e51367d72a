use Rattle.std.proofs.Common.{◌≡◌, ◌∙◌, ◌-◌, List, filter, map, sym, ap, subst}
use Rattle.term_core.specs.declared.step.Step.{Step}
use Rattle.world_identities.specs.Identities.{flags_in, identity_in}
use Rattle.tree_findings.specs.Laws.{AddsSchedule}
use Rattle.world_model.specs.Asking.{program_of}
use Rattle.world_model.specs.Run.{is_enabled}
use Rattle.world_model.specs.World.{contents}
use Rattle.tree_coverage.specs.Jobs.{Job}
use Rattle.search_jobs.specs.Explorations.{ExplorationSeen, program_in}
use Rattle.search_agenda.specs.Plans.{IsWorld, steps_in}
use Rattle.search_expansion.specs.inside.Frames.{own_node}
use Rattle.search_expansion.proofs.Beginning.{first_adds, first_cut, first_frames, first_nodes, first_on}
use Rattle.search_expansion.proofs.Walking.{is_run_of}
use Rattle.search_expansion.proofs.walk.Walk.visit_first.Goals as goal

pub returns-clause-begins : goal.returns-clause-begins
returns-clause-begins c =
    let e = c.args.job.now.exploration in
    let name = c.args.job.now.name in
    let w = c.in_ok-world.world in
    let m = c.args.self.now.program.now in
    let at = c.in_ok-world.ensures.at in
    let module_is : w.program ≡ m = c.in_ok-world.ensures.module in
    let named = c.name.view_is ∙ c.name-name.ensures in
    let path_is = c.in_ok-path.ensures ∙ c.as_slice-2.ensures.value ∙ ap (λ (x : Job). x.prefix) named in
    let world : IsWorld w.program w.history c.in_ok-records.records = record {
      agrees = c.in_ok-records.ensures.alike w.program (contents w.history) (c.records.ensures at.lives);
      is_run = is_run_of (program_in e) w.program name.prefix w.history at.program at.runs;
    } in
    let here : IsWorld m w.history c.in_ok-records.records = subst (λ p. IsWorld p w.history c.in_ok-records.records) module_is world in
    let agenda = c.in_ok-agenda.ensures m w.history here in
    let standing = c.in_ok-slept.ensures (program_of m) w.history agenda in
    let sleeps = standing.steps ∙ ap (filter (is_enabled (program_of m) w.history)) (c.as_slice.ensures.value ∙ ap (λ (x : Job). x.slept) named) in
    let slept = steps_in c.in_ok-slept.slept.items in
    let left = c.exploration-exploration.result.depth - c.len.result in
    let left_is : left ≡ e.depth - c.len-2.result = (λ i. ap (λ (x : ExplorationSeen). x.depth) c.exploration-exploration.ensures i - (c.len.ensures ∙ sym c.len-2.ensures) i) in
    let flags = flags_in c.exploration-exploration.result.flags in
    let opens = c.in_ok-open.ensures m w.history (record { world = here; agenda = agenda; slept = standing.plans }) in
    let adds = subst (λ (p : List Step). AddsSchedule flags p (map identity_in c.in_ok-shown.shown.items) c.args.findings.now c.note.new.findings) c.as_slice-4.ensures.value
    (subst (λ is. AddsSchedule flags c.as_slice-4.result.now (map identity_in is) c.args.findings.now c.note.new.findings) c.as_slice-3.ensures.value c.in_ok-note.ensures) in
    record {
      node = own_node (record { program = program_of m; history = w.history; slept = slept; left = left });
      nodes = first_nodes e name w m c.in_ok-path.path.items slept c.len-2.result left at c.in_ok-world.ensures.short module_is path_is sleeps (c.len-2.ensures ∙ c.in_ok-path.path.ok.0) left_is c.new-frames.result.items c.open.new.frames.items c.new-frames.ensures.items opens;
      found = first_adds e name w m c.in_ok-path.path.items slept c.len-2.result left at c.in_ok-world.ensures.short module_is path_is sleeps (c.len-2.ensures ∙ c.in_ok-path.path.ok.0) left_is flags c.args.findings.now c.note.new.findings (map identity_in c.in_ok-shown.shown.items)
          (sym (ap (λ (x : ExplorationSeen). x.flags) c.exploration-exploration.ensures)) c.in_ok-shown.ensures.shown adds;
      walk = first_on e name w m c.in_ok-path.path.items slept c.len-2.result left at c.in_ok-world.ensures.short module_is path_is sleeps (c.len-2.ensures ∙ c.in_ok-path.path.ok.0) left_is c.new-frames.result.items c.open.new.frames.items c.new-frames.ensures.items opens;
      are_of = first_frames e name w m c.in_ok-path.path.items slept c.len-2.result left at c.in_ok-world.ensures.short module_is path_is sleeps (c.len-2.ensures ∙ c.in_ok-path.path.ok.0) left_is c.new-frames.result.items c.open.new.frames.items c.new-frames.ensures.items opens;
      cut_is = first_cut e name w m c.in_ok-path.path.items slept c.len-2.result left at c.in_ok-world.ensures.short module_is path_is sleeps (c.len-2.ensures ∙ c.in_ok-path.path.ok.0) left_is c.is_cut-is_cut.result (c.is_cut-is_cut.ensures (program_of m) w.history agenda);
    }
