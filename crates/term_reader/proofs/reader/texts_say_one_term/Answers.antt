use Rattle.std.proofs.Common.{sym, ◌∙◌}
use Rattle.term_reader.proofs.OneTerm.{term_injective}
use Rattle.term_reader.proofs.reader.texts_say_one_term.Goals as goal

pub returns : goal.returns
returns c = λ text term other l j e f. term_injective term other l j (sym e ∙ f)
