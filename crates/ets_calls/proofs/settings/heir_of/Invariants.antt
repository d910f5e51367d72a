use Rattle.std.proofs.Common.{◌≡◌, drop, map, None}
use Rattle.world_model.specs.Tables.{last_asked, heir_in}
use Rattle.ets_store.specs.Tables as held
use Rattle.ets_calls.specs.Options.{option_in}
use Rattle.ets_calls.proofs.settings.heir_of.Given as goal

-- what the options that are left ask for, after those so far
abbrev pub invariant-loop-option : goal.invariant-loop-option
invariant-loop-option l = last_asked heir_in (held.heir_in l.heir) (map option_in (drop l.option-index l.options)) ≡ last_asked heir_in None (map option_in l.options)
