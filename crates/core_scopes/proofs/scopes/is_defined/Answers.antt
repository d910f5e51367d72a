use Rattle.std.proofs.Common.{◌∙◌}
use Rattle.core_scopes.proofs.Gathering.{found_is_defined}
use Rattle.core_scopes.proofs.scopes.is_defined.Goals as goal

pub returns : goal.returns
returns c = c.contains_key.ensures ∙ found_is_defined c.args.definitions.now.entries c.args.name.now
