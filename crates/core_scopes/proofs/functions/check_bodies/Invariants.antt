use Rattle.std.proofs.Common.{◌≡◌, map, drop, take}
use Rattle.core_tree.specs.Definitions.{definition_of}
use Rattle.core_scopes.specs.inside.Environment.{setting_in, check_bodies}
use Rattle.core_scopes.proofs.functions.check_bodies.Given as goal

abbrev pub invariant-bodies : goal.invariant-bodies
invariant-bodies l =
    check_bodies (setting_in l.setting) (drop l.i (take l.count (map definition_of l.setting.definitions.now.entries))) ≡ check_bodies (setting_in l.setting) (take l.count (map definition_of l.setting.definitions.now.entries))
