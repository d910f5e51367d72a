use Rattle.std.proofs.Common.{◌≡◌, ◌∙◌, ◌∷◌, List, ap, sym}
use Rattle.term_core.specs.Term.{meaning_of}
use Rattle.core_stack.specs.Holes.{Hole, scope}
use Rattle.core_stack.specs.Matching.{lookup}
use Rattle.core_stack.specs.inside.Frames.{hole_of}
use Rattle.core_stack.specs.inside.Layers.{holes_in}
use Rattle.core_stack.proofs.Binding.{found_on_top, not_on_top}
use Rattle.core_stack.proofs.layers.Layers.lookup.Goals as goal

pub returns-in-Some : goal.returns-in-Some
returns-in-Some c =
    let top : holes_in c.loop-left.left.now ≡ hole_of c.layer.inside.frame ∷ holes_in c.layer.inside.below = ap holes_in c.in-On.is ∙ sym (c.layer.view_is ∙ c.deref-layer.ensures) in
    sym (ap (λ (hs : List Hole). lookup c.args.name.now (scope hs)) top ∙ found_on_top c.args.name.now (hole_of c.layer.inside.frame) (holes_in c.layer.inside.below) (meaning_of c.in-Some.value.now) (sym c.in-Some.ensures)) ∙ c.loop-left.invariant

pub loop-left-preserved : goal.loop-left-preserved
loop-left-preserved c =
    let top : holes_in c.loop-left.left.now ≡ hole_of c.layer.inside.frame ∷ holes_in c.layer.inside.below = ap holes_in c.in-On.is ∙ sym (c.layer.view_is ∙ c.deref-layer.ensures) in
    sym (ap (λ (hs : List Hole). lookup c.args.name.now (scope hs)) top ∙ not_on_top c.args.name.now (hole_of c.layer.inside.frame) (holes_in c.layer.inside.below) (sym c.in_default-lookup.ensures) (sym c.hides_below.ensures ∙ c.if-hides_below.false)) ∙ c.loop-left.invariant
