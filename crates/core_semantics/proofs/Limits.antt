-- No module allows more applications than the limit.
use Rattle.std.proofs.Common.{◌≡◌, ℕ, ◌≤◌, ◌&&◌, Bool, true, false, List, [], ◌∷◌, Option, Some, None, if◌then◌else◌, refl, arith}
use Rattle.std.specs.Prelude.{ℤ, pos, negsuc, nat_le}
use Rattle.std.proofs.lemmas.Bool.{leb-true, false≢true}
use Rattle.core_tree.specs.Syntax.{AttributeTree, ModuleTree}
use Rattle.core_tree.specs.Constant.{Constant, Constants}
use Rattle.core_tree.specs.Constant as constants
use Rattle.term_core.specs.Kinds.{same_text}
use Rattle.core_semantics.specs.Outcomes.{limit}
use Rattle.core_semantics.specs.Limits.{allowed, allowed_by, limit_name, number_allowed, number_alone, number_of, number_said, said_by, said_or}

-- a number that is said is within the limit
abbrev Fits : Option ℕ → Type 0
Fits None = Unit {0}
Fits (Some n) = n ≤ limit

right : (a b : Bool) → (a && b) ≡ true → b ≡ true
right true b e = e
right false b e = absurd (false≢true e)

fits_if : (b : Bool) (n : ℕ) → (b ≡ true → n ≤ limit) → Fits (if b then Some n else None)
fits_if true n h = h refl
fits_if false n h = tt

number_fits : (z : ℤ) → Fits (number_allowed z)
number_fits (pos n) = fits_if (nat_le 1 n && nat_le n limit) n (λ e. leb-true n limit (right (nat_le 1 n) (nat_le n limit) e))
number_fits (negsuc n) = tt

constant_fits : (c : Constant) → Fits (number_of c)
constant_fits (constants.Integer n) = number_fits n
constant_fits (constants.Character c) = tt
constant_fits (constants.Text cs) = tt
constant_fits (constants.Atom text) = tt
constant_fits (constants.Tuple cs) = tt
constant_fits (constants.List cs) = tt
constant_fits (constants.Onto cs c) = tt

alone_fits : (cs : Constants) → Fits (number_alone cs)
alone_fits constants.NoMore = tt
alone_fits (constants.Also c constants.NoMore) = constant_fits c
alone_fits (constants.Also c (constants.Also d ds)) = tt

said_fits : (c : Constant) → Fits (number_said c)
said_fits (constants.Integer n) = tt
said_fits (constants.Character c) = tt
said_fits (constants.Text cs) = tt
said_fits (constants.Atom text) = tt
said_fits (constants.Tuple cs) = tt
said_fits (constants.List cs) = alone_fits cs
said_fits (constants.Onto cs c) = tt

either_fits : (b : Bool) (o : Option ℕ) → Fits o → Fits (if b then o else None)
either_fits true o h = h
either_fits false o h = tt

or_within : (o : Option ℕ) (n : ℕ) → Fits o → n ≤ limit → said_or o n ≤ limit
or_within None n h le = le
or_within (Some m) n h le = h

all_within : (attributes : List AttributeTree) → allowed_by attributes ≤ limit
all_within [] = omega arith
all_within (a ∷ others) = or_within (said_by a) (allowed_by others) (either_fits (same_text a.name limit_name) (number_said a.value) (said_fits a.value)) (all_within others)

pub within_limit : (m : ModuleTree) → allowed m ≤ limit
within_limit m = all_within m.attributes
