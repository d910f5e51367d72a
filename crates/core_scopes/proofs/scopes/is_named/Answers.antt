use Rattle.std.proofs.Common.{◌∙◌}
use Rattle.core_scopes.proofs.Binding.{among_shown}
use Rattle.core_scopes.proofs.scopes.is_named.Goals as goal

pub returns : goal.returns
returns c = c.contains.ensures ∙ among_shown c.args.names.now.keys c.args.name.now
