use Rattle.std.proofs.Common.{◌∙◌, sym, arith}
use Rattle.term_core.specs.Term.{meaning_of}
use Rattle.core_stack.specs.inside.Layers.{holes_in}
use Rattle.core_stack.proofs.Binding.{found_in_frame, not_in_frame, hidden_by_frame}
use Rattle.core_stack.proofs.stack.Stack.lookup.Goals as goal

pub returns-in-Some : goal.returns-in-Some
returns-in-Some c =
    sym (found_in_frame c.self.inside.top.items (holes_in c.self.inside.below) c.loop-left.left c.index-frame.result.now (omega arith) c.loop-left.invariant.0 c.index-frame.ensures c.args.name.now (meaning_of c.in-Some.value.now) (sym c.in-Some.ensures)) ∙ c.loop-left.invariant.1

pub returns-then-hides_below : goal.returns-then-hides_below
returns-then-hides_below c =
    sym (hidden_by_frame c.self.inside.top.items (holes_in c.self.inside.below) c.loop-left.left c.index-frame.result.now (omega arith) c.loop-left.invariant.0 c.index-frame.ensures c.args.name.now (sym c.in_default.ensures) (sym c.hides_below.ensures ∙ c.if-hides_below.true)) ∙ c.loop-left.invariant.1

pub loop-left-preserved : goal.loop-left-preserved
loop-left-preserved c =
    (omega arith, sym (not_in_frame c.self.inside.top.items (holes_in c.self.inside.below) c.loop-left.left c.index-frame.result.now (omega arith) c.loop-left.invariant.0 c.index-frame.ensures c.args.name.now (sym c.in_default.ensures) (sym c.hides_below.ensures ∙ c.if-hides_below.false)) ∙ c.loop-left.invariant.1)
