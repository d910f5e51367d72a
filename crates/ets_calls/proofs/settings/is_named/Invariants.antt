use Rattle.std.proofs.Common.{◌≡◌, drop, map}
use Rattle.world_model.specs.Tables.{is_named}
use Rattle.ets_calls.specs.Options.{option_in}
use Rattle.ets_calls.proofs.settings.is_named.Given as goal

-- none of the options so far names it
abbrev pub invariant-loop-option : goal.invariant-loop-option
invariant-loop-option l = is_named (map option_in (drop l.option-index l.options)) ≡ is_named (map option_in l.options)
