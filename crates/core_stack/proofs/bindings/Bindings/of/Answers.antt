use Rattle.std.proofs.Common.{◌∙◌, [], ap, sym, rules}
use Rattle.core_stack.specs.Matching.{bound}
use Rattle.core_stack.proofs.Binding.{values_of, values_of-reversed, none_left}
use Rattle.core_stack.proofs.bindings.Bindings.of.Goals as goal

pub loop-value-init : goal.loop-value-init
loop-value-init c =
    ap (λ before. bound c.args.variables.now (values_of c.reverse.new.self.items) before) c.in_ok-bindings.ensures
    ∙ ap (λ ms. bound c.args.variables.now ms []) (values_of-reversed c.into_vec-later.result.items c.reverse.new.self.items c.args.values c.into_vec-later.ensures c.reverse.ensures.items)

pub returns : goal.returns
returns c =
    sym (none_left c.loop-value.left.now c.loop-value.later.items c.loop-value.bindings (sym c.is_empty.ensures ∙ c.if-is_empty.false) (search rules)) ∙ c.loop-value.invariant
