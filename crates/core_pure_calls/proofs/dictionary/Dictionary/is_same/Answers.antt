use Rattle.std.proofs.Common.{◌∙◌, sym}
use Rattle.core_pure_calls.proofs.Alike.{entries_told}
use Rattle.core_pure_calls.proofs.dictionary.Dictionary.is_same.Goals as goal

pub returns : goal.returns
returns c = λ e. sym c.entries.ensures ∙ entries_told c.entries.result.now c.entries-2.result.now (sym c.eq.ensures ∙ e) ∙ c.entries-2.ensures
