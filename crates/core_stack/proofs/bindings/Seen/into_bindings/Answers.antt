use Rattle.std.proofs.Common.{◌∙◌, map, ap}
use Rattle.std.specs.Prelude.{reverse}
use Rattle.std.proofs.lemmas.List.{reverse-reverse}
use Rattle.core_stack.specs.inside.Bindings.{binding_of}
use Rattle.core_stack.proofs.Binding.{map-reverse}
use Rattle.core_stack.proofs.bindings.Seen.into_bindings.Goals as goal

pub returns : goal.returns
returns c =
    ap (λ bs. reverse (map binding_of bs)) c.reverse.ensures.items
    ∙ ap reverse (map-reverse binding_of c.self.inside.0.items)
    ∙ reverse-reverse (map binding_of c.self.inside.0.items)
    ∙ c.self.view_is
