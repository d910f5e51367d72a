use Rattle.std.proofs.Common.{◌∙◌, sym}
use Rattle.std.specs.Cmp.Derive.Mapped.{pointwise-map}
use Rattle.std.specs.Cmp.Lexicographic.{pointwise}
use Rattle.term_core.specs.Term.{meaning_of}
use Rattle.world_model.specs.Names.{same_term}
use Rattle.proc_signals.proofs.messages.Messages.is_same.Goals as goal

pub returns : goal.returns
returns c =
    c.eq.ensures ∙ sym (pointwise-map meaning_of same_term c.self.inside.items.items c.other.inside.items.items) ∙ (λ i. pointwise same_term (c.self.view_is i) (c.other.view_is i))
