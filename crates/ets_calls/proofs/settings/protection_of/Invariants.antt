use Rattle.std.proofs.Common.{◌≡◌, drop, map}
use Rattle.world_model.specs.Tables.{last_asked, protection_in}
use Rattle.world_model.specs.declared.table.Protection.TheVariants.{Protected}
use Rattle.ets_calls.specs.Options.{option_in}
use Rattle.ets_calls.proofs.settings.protection_of.Given as goal

-- what the options that are left ask for, after those so far
abbrev pub invariant-loop-option : goal.invariant-loop-option
invariant-loop-option l = last_asked protection_in l.protection (map option_in (drop l.option-index l.options)) ≡ last_asked protection_in Protected (map option_in l.options)
