use Rattle.core_scopes.proofs.Gathering.{functions_give}
use Rattle.core_scopes.proofs.functions.check_functions.Goals as goal

pub returns : goal.returns
returns c =
    functions_give c.args.exports.now c.args.gathered.now.second c.args.gathered.now.definitions.entries c.in_ok-exported.exported.keys c.check_kept.result c.in_ok-check_exports.ensures c.in_ok-exported.ensures.names c.check_kept.ensures
