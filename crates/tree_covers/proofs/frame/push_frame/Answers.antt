use Rattle.std.proofs.Common.{◌≡◌, ◌∙◌, ◌∷◌, sym, subst, reverse}
use Rattle.world_core.specs.Seen.{program_in}
use Rattle.world_model.specs.Asking.{program_of}
use Rattle.tree_covers.specs.inside.Frames.{AreEnabled, NodeSeen}
use Rattle.tree_covers.proofs.FrameLaws.{line_reversed, pushed_places}
use Rattle.tree_covers.proofs.frame.push_frame.Goals as goal

pub invariant_of-push : goal.invariant_of-push
invariant_of-push c =
    let w = c.node.inside.world in
    let is : c.args.line.items ≡ c.in-Some.next ∷ reverse c.pop.new.self.items = line_reversed c.args.line.items c.pop.new.self.items c.in-Some.next (sym c.reverse.ensures.items ∙ c.in-Some.ensures.items) in
    let able : AreEnabled (program_in w) w.history c.args.line.items = subst (λ (v : NodeSeen). AreEnabled (program_of v.program) v.history c.args.line.items) (sym c.node.view_is) c.requires in
    record { node = c.node.invariant; enabled = subst (AreEnabled (program_in w) w.history) is able }

pub returns-clause-places : goal.returns-clause-places
returns-clause-places c =
    let w = c.node.inside.world in
    let is : c.args.line.items ≡ c.in-Some.next ∷ reverse c.pop.new.self.items = line_reversed c.args.line.items c.pop.new.self.items c.in-Some.next (sym c.reverse.ensures.items ∙ c.in-Some.ensures.items) in
    rw (← c.node.view_is) (pushed_places w.program w.history c.node.inside.slept.items (c.in-Some.next ∷ reverse c.pop.new.self.items) c.args.line.items c.node.inside.left c.args.frames.now.items c.push.new.self.items c.if-left-eq0.false is c.in_ok-push.ensures.items)
