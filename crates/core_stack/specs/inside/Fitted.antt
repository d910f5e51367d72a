-- What the code answers of the first items of a list.
use Rattle.std.specs.Prelude.{Bool, false, Option, Some, None}
use Rattle.term_core.specs.Meaning.{Meaning}

-- what is asked of this tail, and false where the first items do not match
abbrev pub behind_items : Option Meaning → (Meaning → Bool) → Bool
behind_items None behind = false
behind_items (Some tail) behind = behind tail
