use Rattle.std.proofs.Common.{◌≡◌, ◌∙◌, ◌-◌, List, Some, length, map, slice_index_or, sym, subst}
use Rattle.std.proofs.lemmas.Option.{get_or_from_slice_get}
use Rattle.std.specs.List.{slice_get}
use Rattle.term_core.specs.declared.step.Step.{Step}
use Rattle.world_identities.specs.Identities.{flags_in, identity_in}
use Rattle.tree_findings.specs.Laws.{AddsSchedule}
use Rattle.search_expansion.proofs.Visiting.{next_on, next_visits}
use Rattle.search_expansion.proofs.walk.Walk.visit_next.Goals as goal

pub returns-clause-walk : goal.returns-clause-walk
returns-clause-walk c =
    let w = c.args.self.now in
    let frame = c.in-Some.frame.now in
    let fs = w.frames.items in
    let found : Some frame ≡ slice_get fs (length fs - 1) = c.in-Some.ensures.value ∙ (λ i. slice_get (c.deref.ensures.value i) (length (c.deref.ensures.value i) - 1)) in
    let looked : frame ≡ slice_index_or fs (length fs - 1) frame = sym (get_or_from_slice_get fs (length fs - 1) frame frame (sym found)) in
    next_on w.program.now w.path.items c.follow.new.path.items fs c.visit_child.new.frames.items c.requires.more frame looked c.requires.walk c.in_ok-follow.ensures
    c.len.result (c.len.ensures ∙ c.follow.new.path.ok.0) c.in_ok-is_cut.is_cut c.in_ok-shown.shown.items c.visit_child.new.shown.items (λ h e. c.in_ok-shown.ensures w.program.now h e) c.in_ok-is_cut.ensures

pub returns-clause-visits : goal.returns-clause-visits
returns-clause-visits c =
    let w = c.args.self.now in
    let frame = c.in-Some.frame.now in
    let fs = w.frames.items in
    let found : Some frame ≡ slice_get fs (length fs - 1) = c.in-Some.ensures.value ∙ (λ i. slice_get (c.deref.ensures.value i) (length (c.deref.ensures.value i) - 1)) in
    let looked : frame ≡ slice_index_or fs (length fs - 1) frame = sym (get_or_from_slice_get fs (length fs - 1) frame frame (sym found)) in
    let flags = flags_in c.args.flags in
    let adds = subst (λ (p : List Step). AddsSchedule flags p (map identity_in c.visit_child.new.shown.items) c.args.findings.now c.note.new.findings) c.as_slice-2.ensures.value
    (subst (λ is. AddsSchedule flags c.as_slice-2.result.now (map identity_in is) c.args.findings.now c.note.new.findings) c.as_slice.ensures.value c.in_ok-note.ensures) in
    next_visits w.program.now w.path.items c.follow.new.path.items fs c.visit_child.new.frames.items c.requires.more frame looked c.requires.walk c.in_ok-follow.ensures
    c.len.result (c.len.ensures ∙ c.follow.new.path.ok.0) c.in_ok-is_cut.is_cut c.in_ok-shown.shown.items c.visit_child.new.shown.items (λ h e. c.in_ok-shown.ensures w.program.now h e) c.in_ok-is_cut.ensures
    flags c.args.findings.now c.note.new.findings adds
