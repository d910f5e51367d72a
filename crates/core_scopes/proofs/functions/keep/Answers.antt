use Rattle.std.proofs.Common.{◌∙◌}
use Rattle.indexmap.proofs.CallerLemmas.{insert_entry-new}
use Rattle.core_tree.specs.Functions.{same_function}
use Rattle.core_scopes.proofs.Gathering.{not_found}
use Rattle.core_scopes.proofs.functions.keep.Goals as goal

pub returns-in_ok-insert-clause-new : goal.returns-in_ok-insert-clause-new
returns-in_ok-insert-clause-new c = λ absent. c.in_ok-insert.ensures.entries ∙ insert_entry-new same_function c.args.definitions.now c.args.defined.function c.args.defined.definition (not_found c.args.definitions.now.entries c.args.defined.function absent)
