-- Constants as contracts see them, the values of attributes (Core Erlang 1.0.3, "Constants").
use Rattle.std.specs.Prelude.{ℕ, ℤ, [], ◌∷◌}
use Rattle.std.specs.Prelude as prelude

-- a constant
mutual
  pub data Constant : Type 0 where
    Integer : (value : ℤ) → Constant
    Character : (character : ℕ) → Constant
    Text : (characters : prelude.List ℕ) → Constant
    Atom : (text : prelude.List ℕ) → Constant
    Tuple : (parts : Constants) → Constant
    List : (items : Constants) → Constant
    Onto : (items : Constants) (tail : Constant) → Constant

  pub data Constants : Type 0 where
    NoMore : Constants
    Also : (first : Constant) (others : Constants) → Constants

-- constants, from a list
abbrev pub constants_of : prelude.List Constant → Constants
constants_of [] = NoMore
constants_of (c ∷ cs) = Also c (constants_of cs)
