use Rattle.core_reader.proofs.TextLaws.{said_once}
use Rattle.core_reader.proofs.laws.texts_say_one_module.Goals as goal

pub returns : goal.returns
returns c = said_once c.tokens_are_unique.ensures c.tokens_spell_one_module.ensures
