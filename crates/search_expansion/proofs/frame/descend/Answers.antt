use Rattle.std.proofs.Common.{◌≡◌, ◌∙◌, ℕ, ◌-◌, ◌∷◌, ◌++◌, [], ap, length, slice_index_or, slice_set, sym, subst}
use Rattle.core_tree.specs.Syntax.{ModuleTree}
use Rattle.world_model.specs.Events.{History}
use Rattle.search_expansion.specs.inside.Walks.{IsFrame, IsNextNode, Passes}
use Rattle.search_expansion.specs.declared.frame.Frame.{Frame}
use Rattle.search_expansion.proofs.Stacks.{gone_on, of_last, of_taken, popped_off}
use Rattle.search_expansion.proofs.frame.descend.Goals as goal

pub returns-then-has_others-clause-passes : goal.returns-then-has_others-clause-passes
returns-then-has_others-clause-passes c = λ below top is.
    let old = c.args.frames.now.items in
    let frame = c.in-Some.frame.now in
    let counted = c.args.frames.now.ok.0 in
    let looked : frame ≡ slice_index_or old (length old - 1) frame = c.in-Some.ensures.value ∙ ap (λ (k : ℕ). slice_index_or old (k - 1) frame) counted in
    subst (Passes below top) (sym (ap (λ (k : ℕ). slice_set old (k - 1) c.fork_node.new.self) counted)) (gone_on old below top frame c.fork_node.new.self is looked c.in_ok-node.ensures.others)

pub returns-then-has_others-clause-node : goal.returns-then-has_others-clause-node
returns-then-has_others-clause-node c = λ below top is.
    let old = c.args.frames.now.items in
    let frame = c.in-Some.frame.now in
    let counted = c.args.frames.now.ok.0 in
    let looked : frame ≡ slice_index_or old (length old - 1) frame = c.in-Some.ensures.value ∙ ap (λ (k : ℕ). slice_index_or old (k - 1) frame) counted in
    of_last (λ (f : Frame). (m : ModuleTree) (h : History) → IsFrame m h f → IsNextNode m h f c.in_ok-node.node) old below top frame is looked c.in_ok-node.ensures.node

pub returns-clause-passes : goal.returns-clause-passes
returns-clause-passes c = λ below top is.
    let old = c.args.frames.now.items in
    let frame = c.in-Some.frame.now in
    let counted = c.args.frames.now.ok.0 in
    let looked : frame ≡ slice_index_or old (length old - 1) frame = c.in-Some.ensures.value ∙ ap (λ (k : ℕ). slice_index_or old (k - 1) frame) counted in
    let popped : slice_set old (length old - 1) frame ≡ c.pop.new.self.items ++ c.in-Some-pop.frame ∷ [] = ap (λ (k : ℕ). slice_set old (k - 1) frame) (sym counted) ∙ c.in-Some-pop.ensures.items in
    popped_off old below c.pop.new.self.items top frame c.in-Some-pop.frame is looked popped (c.has_others.ensures.none c.if-has_others.false)

pub returns-clause-node : goal.returns-clause-node
returns-clause-node c = λ below top is.
    let old = c.args.frames.now.items in
    let frame = c.in-Some.frame.now in
    let counted = c.args.frames.now.ok.0 in
    let looked : frame ≡ slice_index_or old (length old - 1) frame = c.in-Some.ensures.value ∙ ap (λ (k : ℕ). slice_index_or old (k - 1) frame) counted in
    let popped : slice_set old (length old - 1) frame ≡ c.pop.new.self.items ++ c.in-Some-pop.frame ∷ [] = ap (λ (k : ℕ). slice_set old (k - 1) frame) (sym counted) ∙ c.in-Some-pop.ensures.items in
    of_taken (λ (f : Frame). (m : ModuleTree) (h : History) → IsFrame m h f → IsNextNode m h f c.in_ok-node-2.node) old below c.pop.new.self.items top frame c.in-Some-pop.frame is looked popped c.in_ok-node-2.ensures
