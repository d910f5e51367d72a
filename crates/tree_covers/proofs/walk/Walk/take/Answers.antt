use Rattle.std.proofs.Common.{◌≡◌, ◌∙◌, sym, ap}
use Rattle.tree_covers.proofs.FrameLaws.{popped_are_of, taken}
use Rattle.tree_covers.specs.inside.Frames.{WalkSeen, place_of}
use Rattle.tree_covers.proofs.walk.Walk.take.Goals as goal

pub invariant_of-self-in_err-node : goal.invariant_of-self-in_err-node
invariant_of-self-in_err-node c =
    let m = c.self.inside.program.now in
    let both = popped_are_of m c.self.inside.frames.items c.pop.new.self.items c.in-Some.frame c.in-Some.ensures.items c.self.invariant.frames_are_of in
    record { root_is_of = c.self.invariant.root_is_of; frames_are_of = c.in_err-node.ensures.are_of m both.0 both.1 }

pub invariant_of-self-2 : goal.invariant_of-self-2
invariant_of-self-2 c =
    let m = c.self.inside.program.now in
    let both = popped_are_of m c.self.inside.frames.items c.pop.new.self.items c.in-Some.frame c.in-Some.ensures.items c.self.invariant.frames_are_of in
    record { root_is_of = c.self.invariant.root_is_of; frames_are_of = c.in_ok-node.ensures.are_of m both.0 both.1 }

pub returns-clause-next : goal.returns-clause-next
returns-clause-next c =
    ap (λ (w : WalkSeen). w.ahead) (sym c.self.view_is)
    ∙ taken c.self.inside.frames.items c.pop.new.self.items c.next_child.new.frames.items c.in-Some.frame (place_of c.in_ok-node.node) c.self.inside.root c.in-Some.ensures.items c.in_ok-node.ensures.places

pub returns-clause-is_of : goal.returns-clause-is_of
returns-clause-is_of c =
    let m = c.self.inside.program.now in
    let both = popped_are_of m c.self.inside.frames.items c.pop.new.self.items c.in-Some.frame c.in-Some.ensures.items c.self.invariant.frames_are_of in
    c.in_ok-node.ensures.program ∙ both.0 ∙ ap (λ (w : WalkSeen). w.program) c.self.view_is
