use Rattle.std.proofs.Common.{◌∙◌, ap, sym}
use Rattle.std.specs.Prelude.{reverse}
use Rattle.core_stack.proofs.Alike.{bindings_told}
use Rattle.core_stack.proofs.bindings.Bindings.is_same.Goals as goal

pub returns : goal.returns
returns c = λ e. sym c.self.view_is ∙ ap reverse (bindings_told c.self.inside.0.items c.other.inside.0.items (sym c.eq.ensures ∙ e)) ∙ c.other.view_is
