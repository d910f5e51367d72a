-- What a result says of a call.
use Rattle.std.specs.Prelude.{Option, Some, None, Result, Ok, Err}
use Rattle.world_model.specs.declared.rule.Rule.{Rule}

-- the rule that it is refused by, if it is
abbrev pub refused_by : {A : Type 0} → Result A Rule → Option Rule
refused_by (Ok x) = None
refused_by (Err rule) = Some rule
