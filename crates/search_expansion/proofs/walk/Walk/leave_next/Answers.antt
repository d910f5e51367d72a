use Rattle.std.proofs.Common.{◌≡◌, ◌∙◌, ◌-◌, ◌++◌, List, Some, length, slice_index_or, ap, sym, subst}
use Rattle.std.proofs.lemmas.Option.{get_or_from_slice_get}
use Rattle.std.specs.List.{slice_get}
use Rattle.term_core.specs.declared.step.Step.{Step}
use Rattle.tree_coverage.specs.Jobs.{Job}
use Rattle.world_model.specs.Events.{History}
use Rattle.search_jobs.specs.Explorations.{JobSeen, exploration_in, nodes_of}
use Rattle.search_jobs.specs.Reached.{IsJob}
use Rattle.search_agenda.specs.Plans.{steps_in}
use Rattle.search_expansion.specs.inside.Frames.{nodes_of_frames}
use Rattle.search_expansion.specs.inside.Walks.{IsFrame, all_seen_on}
use Rattle.search_expansion.proofs.Visiting.{leaves_a_job, leaves_fewer, leaves_nodes, leaves_of, leaves_on}
use Rattle.search_expansion.proofs.walk.Walk.leave_next.Goals as goal

pub of_node-requires : goal.of_node-requires
of_node-requires c =
    let w = c.args.self.now in
    let e = exploration_in c.args.exploration in
    let frame = c.in-Some.frame.now in
    let fs = w.frames.items in
    let found : Some frame ≡ slice_get fs (length fs - 1) = c.in-Some.ensures.value ∙ (λ i. slice_get (c.deref.ensures.value i) (length (c.deref.ensures.value i) - 1)) in
    let looked : frame ≡ slice_index_or fs (length fs - 1) frame = sym (get_or_from_slice_get fs (length fs - 1) frame frame (sym found)) in
    let slept = c.in_ok-slept.slept.items in
    let sleeps = λ (h : History) (is : IsFrame w.program.now h frame) (more : frame.left ≡ 0 → ⊥). c.in_ok-slept.ensures ∙ ap steps_in c.as_slice.ensures.value ∙ c.in_ok-asleep.ensures.steps w.program.now h is more in
    let prefix_is = c.in_ok-prefix.ensures ∙ c.as_slice-2.ensures.value in
    subst (λ (p : List Step). IsJob e (record { prefix = p; slept = slept })) (sym prefix_is)
    (leaves_a_job w.program.now w.path.items c.follow.new.path.items fs c.pass_child.new.frames.items c.requires.more frame looked c.requires.of.walk c.in_ok-follow.ensures
    c.in_ok-pass_child.ensures e c.requires.of.program c.requires.of.are_of slept sleeps)

pub returns-clause-of : goal.returns-clause-of
returns-clause-of c =
    let w = c.args.self.now in
    let e = exploration_in c.args.exploration in
    let frame = c.in-Some.frame.now in
    let fs = w.frames.items in
    let found : Some frame ≡ slice_get fs (length fs - 1) = c.in-Some.ensures.value ∙ (λ i. slice_get (c.deref.ensures.value i) (length (c.deref.ensures.value i) - 1)) in
    let looked : frame ≡ slice_index_or fs (length fs - 1) frame = sym (get_or_from_slice_get fs (length fs - 1) frame frame (sym found)) in
    let slept = c.in_ok-slept.slept.items in
    let sleeps = λ (h : History) (is : IsFrame w.program.now h frame) (more : frame.left ≡ 0 → ⊥). c.in_ok-slept.ensures ∙ ap steps_in c.as_slice.ensures.value ∙ c.in_ok-asleep.ensures.steps w.program.now h is more in
    record {
      program = c.requires.of.program;
      walk = leaves_on w.program.now w.path.items c.follow.new.path.items fs c.pass_child.new.frames.items c.requires.more frame looked c.requires.of.walk c.in_ok-follow.ensures
          c.in_ok-pass_child.ensures e c.requires.of.program c.requires.of.are_of slept sleeps;
      are_of = leaves_of w.program.now w.path.items c.follow.new.path.items fs c.pass_child.new.frames.items c.requires.more frame looked c.requires.of.walk c.in_ok-follow.ensures
          c.in_ok-pass_child.ensures e c.requires.of.program c.requires.of.are_of slept sleeps;
    }

pub returns-clause-nodes : goal.returns-clause-nodes
returns-clause-nodes c =
    let w = c.args.self.now in
    let e = exploration_in c.args.exploration in
    let frame = c.in-Some.frame.now in
    let fs = w.frames.items in
    let found : Some frame ≡ slice_get fs (length fs - 1) = c.in-Some.ensures.value ∙ (λ i. slice_get (c.deref.ensures.value i) (length (c.deref.ensures.value i) - 1)) in
    let looked : frame ≡ slice_index_or fs (length fs - 1) frame = sym (get_or_from_slice_get fs (length fs - 1) frame frame (sym found)) in
    let slept = c.in_ok-slept.slept.items in
    let sleeps = λ (h : History) (is : IsFrame w.program.now h frame) (more : frame.left ≡ 0 → ⊥). c.in_ok-slept.ensures ∙ ap steps_in c.as_slice.ensures.value ∙ c.in_ok-asleep.ensures.steps w.program.now h is more in
    let prefix_is = c.in_ok-prefix.ensures ∙ c.as_slice-2.ensures.value in
    leaves_nodes w.program.now w.path.items c.follow.new.path.items fs c.pass_child.new.frames.items c.requires.more frame looked c.requires.of.walk c.in_ok-follow.ensures
    c.in_ok-pass_child.ensures e c.requires.of.program c.requires.of.are_of slept sleeps
    ∙ ap (λ (n : Job). nodes_of e n ++ nodes_of_frames (all_seen_on w.program.now c.follow.new.path.items c.pass_child.new.frames.items))
    (ap (λ (p : List Step). record { prefix = p; slept = slept }) (sym prefix_is) ∙ sym (ap (λ (j : JobSeen). j.name) c.of_node.ensures))

pub returns-clause-fewer : goal.returns-clause-fewer
returns-clause-fewer c =
    let w = c.args.self.now in
    let e = exploration_in c.args.exploration in
    let frame = c.in-Some.frame.now in
    let fs = w.frames.items in
    let found : Some frame ≡ slice_get fs (length fs - 1) = c.in-Some.ensures.value ∙ (λ i. slice_get (c.deref.ensures.value i) (length (c.deref.ensures.value i) - 1)) in
    let looked : frame ≡ slice_index_or fs (length fs - 1) frame = sym (get_or_from_slice_get fs (length fs - 1) frame frame (sym found)) in
    let slept = c.in_ok-slept.slept.items in
    let sleeps = λ (h : History) (is : IsFrame w.program.now h frame) (more : frame.left ≡ 0 → ⊥). c.in_ok-slept.ensures ∙ ap steps_in c.as_slice.ensures.value ∙ c.in_ok-asleep.ensures.steps w.program.now h is more in
    leaves_fewer w.program.now w.path.items c.follow.new.path.items fs c.pass_child.new.frames.items c.requires.more frame looked c.requires.of.walk c.in_ok-follow.ensures
    c.in_ok-pass_child.ensures e c.requires.of.program c.requires.of.are_of slept sleeps
