-- What the code answers of a match.
use Rattle.std.specs.Prelude.{◌≡◌, Bool, Option, Some, None, if◌then◌else◌}
use Rattle.term_core.specs.Meaning.{Meaning}
use Rattle.core_tree.specs.Syntax.{Patterns}
use Rattle.core_stack.specs.Matching.{Environment, match_items}

-- whether there is a match, and then what is bound
abbrev pub IsMatch : Bool → Environment → Option Environment → Type 0
IsMatch found bindings wanted = wanted ≡ (if found then Some bindings else None)

-- what matches after the first items of a list, which left this tail, if they matched
abbrev pub behind_items : Option Meaning → (Meaning → Environment → Option Environment) → Environment → Option Environment
behind_items None behind bindings = None
behind_items (Some tail) behind bindings = behind tail bindings

-- whatever comes after the items of a list, they match as it does at the tail that they leave, if there is one, with what is bound then
abbrev pub MatchesItems : Patterns → Meaning → Option Meaning → Environment → Environment → Type 0
MatchesItems patterns value rest old new = (behind : Meaning → Environment → Option Environment) → match_items patterns behind value old ≡ behind_items rest behind new
