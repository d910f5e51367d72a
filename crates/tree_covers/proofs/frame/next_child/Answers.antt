use Rattle.std.proofs.Common.{◌≡◌, ◌∙◌, ◌∷◌, ◌++◌, [], List, Some, reverse, sym, ap, subst}
use Rattle.core_tree.specs.Syntax.{ModuleTree}
use Rattle.tree_coverage.specs.Jobs.{asleep_below}
use Rattle.term_core.specs.declared.step.Step.{Step}
use Rattle.world_core.specs.Seen.{Seen, program_in}
use Rattle.world_model.specs.Run.{extended, next_event}
use Rattle.tree_covers.specs.Faults.{sleeping}
use Rattle.tree_covers.specs.inside.Frames.{AreFramesOf, FrameSeen}
use Rattle.tree_covers.proofs.FrameLaws.{other_child, others_enabled, pushed_are_of}
use Rattle.tree_covers.proofs.frame.next_child.Goals as goal

pub invariant_of-push : goal.invariant_of-push
invariant_of-push c =
    let w = c.frame.inside.world in
    record { node = c.frame.invariant.node; enabled = others_enabled (program_in w) w.history c.frame.inside.after.items c.pop.new.self.items c.frame.inside.next c.in-Some.following c.in-Some.ensures.items c.frame.invariant.enabled }

pub returns-clause-places : goal.returns-clause-places
returns-clause-places c =
    let w = c.frame.inside.world in
    let s = c.frame.inside.next in
    let v = c.in_ok-node.node in
    let happens : extended w.history (next_event (program_in w) w.history s) ≡ Some v.history = subst (λ (x : Seen). extended x.history (next_event (program_in x) x.history s) ≡ Some v.history) c.in_ok-copy.ensures.copied c.in_ok-node.ensures.history in
    let asleep : v.slept ≡ sleeping c.frame.inside.left (asleep_below (program_in w) w.history c.frame.inside.slept.items s) = c.in_ok-node.ensures.slept ∙ c.in_ok-asleep.ensures ∙ ap (λ (steps : List Step). sleeping c.frame.inside.left (asleep_below (program_in w) w.history steps s)) c.as_slice.ensures.value in
    rw (← c.frame.view_is) (other_child w.program c.frame.inside.left w.history c.frame.inside.slept.items c.push.new.self.items c.frame.inside.after.items c.pop.new.self.items s c.in-Some.following v c.args.frames.now.items c.push-2.new.self.items
    c.in-Some.ensures.items c.in_ok-push.ensures.items c.in_ok-push-2.ensures.items happens asleep c.in_ok-node.ensures.left)

pub returns-clause-are_of : goal.returns-clause-are_of
returns-clause-are_of c = λ m is all.
    let w = c.frame.inside.world in
    let same : w.program ≡ m = ap (λ (f : FrameSeen). f.program) c.frame.view_is ∙ is in
    subst (AreFramesOf m) (sym c.in_ok-push-2.ensures.items) (pushed_are_of m c.args.frames.now.items (record { program = w.program; history = w.history; slept = c.push.new.self.items; line = c.in-Some.following ∷ reverse c.pop.new.self.items; left = c.frame.inside.left }) same all)
