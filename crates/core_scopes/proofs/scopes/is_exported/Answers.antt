use Rattle.std.proofs.Common.{◌∙◌}
use Rattle.core_scopes.proofs.Gathering.{among_exported}
use Rattle.core_scopes.proofs.scopes.is_exported.Goals as goal

pub returns : goal.returns
returns c = c.contains.ensures ∙ among_exported c.args.setting.now.exported.now.keys c.args.function.now
