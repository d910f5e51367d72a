-- How many applications of its own functions a process may make between two requests.
use Rattle.std.specs.Prelude.{ℕ, ℤ, pos, negsuc, ◌&&◌, List, [], ◌∷◌, Option, Some, None, if◌then◌else◌, nat_le, codes}
use Rattle.core_tree.specs.Syntax.{AttributeTree, ModuleTree}
use Rattle.core_tree.specs.Constant.{Constant, Constants}
use Rattle.core_tree.specs.Constant as constants
use Rattle.term_core.specs.Kinds.{same_text}
use Rattle.core_semantics.specs.Outcomes.{limit}

-- so many, where a module says nothing of it
abbrev pub usual_limit : ℕ
usual_limit = 10000

-- the name of the attribute by which a module says it
abbrev pub limit_name : List ℕ
limit_name = codes "explore_applications"

-- a number that can be said, from 1 to the limit of all modules
abbrev pub number_allowed : ℤ → Option ℕ
number_allowed (pos n) = if nat_le 1 n && nat_le n limit then Some n else None
number_allowed (negsuc n) = None

abbrev pub number_of : Constant → Option ℕ
number_of (constants.Integer n) = number_allowed n
number_of c = None

-- one alone
abbrev pub number_alone : Constants → Option ℕ
number_alone (constants.Also c constants.NoMore) = number_of c
number_alone cs = None

-- as the compiler writes the value of an attribute: a list of it
abbrev pub number_said : Constant → Option ℕ
number_said (constants.List cs) = number_alone cs
number_said c = None

-- what an attribute says
abbrev pub said_by : AttributeTree → Option ℕ
said_by a = if same_text a.name limit_name then number_said a.value else None

abbrev pub said_or : Option ℕ → ℕ → ℕ
said_or None n = n
said_or (Some m) n = m

-- the first that says a number decides
abbrev pub allowed_by : List AttributeTree → ℕ
allowed_by [] = usual_limit
allowed_by (a ∷ others) = said_or (said_by a) (allowed_by others)

-- the most applications of this module between two requests
abbrev pub allowed : ModuleTree → ℕ
allowed m = allowed_by m.attributes
