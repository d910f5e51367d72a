-- Mailboxes that are compared message by message.
use Rattle.std.specs.Cmp.{IsEquivalence}
use Rattle.std.specs.Cmp.Lexicographic.{pointwise, lists_equiv}
use Rattle.std.proofs.lemmas.Cmp.{eq_by_cmp_equiv}
use Rattle.std.specs.Prelude.{Bool, List}
use Rattle.term_core.specs.Meaning.{Meaning}
use Rattle.term_core.specs.inside.OrderLaws.{terms_total}
use Rattle.world_model.specs.Names.{same_term}

-- two lists of messages are as long, and the same message by message
abbrev pub same_messages : List Meaning → List Meaning → Bool
same_messages = pointwise same_term

pub messages_equal : IsEquivalence same_messages
messages_equal = lists_equiv (eq_by_cmp_equiv terms_total)
