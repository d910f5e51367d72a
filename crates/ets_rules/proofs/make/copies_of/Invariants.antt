use Rattle.std.proofs.Common.{◌≡◌, map, take}
use Rattle.ets_calls.specs.Options.{option_in}
use Rattle.ets_rules.proofs.make.copies_of.Given as goal

-- those before this one are copied
abbrev pub invariant-loop-option : goal.invariant-loop-option
invariant-loop-option l = map option_in l.copies.items ≡ map option_in (take l.option-index l.options)
