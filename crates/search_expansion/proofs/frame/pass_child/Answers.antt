use Rattle.std.proofs.Common.{◌≡◌, ◌∙◌, ℕ, ◌-◌, ◌∷◌, ◌++◌, [], ap, length, slice_index_or, slice_set, sym, subst}
use Rattle.search_expansion.specs.inside.Walks.{Passes}
use Rattle.search_expansion.proofs.Stacks.{gone_on, popped_off}
use Rattle.search_expansion.proofs.frame.pass_child.Goals as goal

pub returns-then-has_others : goal.returns-then-has_others
returns-then-has_others c = λ below top is.
    let old = c.args.frames.now.items in
    let frame = c.in-Some.frame.now in
    let counted = c.args.frames.now.ok.0 in
    let looked : frame ≡ slice_index_or old (length old - 1) frame = c.in-Some.ensures.value ∙ ap (λ (k : ℕ). slice_index_or old (k - 1) frame) counted in
    subst (Passes below top) (sym (ap (λ (k : ℕ). slice_set old (k - 1) c.go_on.new.self) counted)) (gone_on old below top frame c.go_on.new.self is looked c.in_ok-go_on.ensures)

pub returns : goal.returns
returns c = λ below top is.
    let old = c.args.frames.now.items in
    let frame = c.in-Some.frame.now in
    let counted = c.args.frames.now.ok.0 in
    let looked : frame ≡ slice_index_or old (length old - 1) frame = c.in-Some.ensures.value ∙ ap (λ (k : ℕ). slice_index_or old (k - 1) frame) counted in
    let popped : slice_set old (length old - 1) frame ≡ c.pop.new.self.items ++ c.in-Some-pop.frame ∷ [] = ap (λ (k : ℕ). slice_set old (k - 1) frame) (sym counted) ∙ c.in-Some-pop.ensures.items in
    popped_off old below c.pop.new.self.items top frame c.in-Some-pop.frame is looked popped (c.has_others.ensures.none c.if-has_others.false)
