-- Patterns as contracts see them (Core Erlang 1.0.3, "Patterns").
use Rattle.std.specs.Prelude.{ℕ, ℤ, [], ◌∷◌}
use Rattle.std.specs.Prelude as prelude
use Rattle.core_tree.specs.Named.{Mention}

-- a pattern
mutual
  pub data Pattern : Type 0 where
    Integer : (value : ℤ) → Pattern
    Character : (character : ℕ) → Pattern
    Text : (characters : prelude.List ℕ) → Pattern
    Atom : (text : prelude.List ℕ) → Pattern
    Variable : (variable : Mention) → Pattern
    Tuple : (parts : Patterns) → Pattern
    List : (items : Patterns) → Pattern
    Onto : (items : Patterns) (tail : Pattern) → Pattern
    Alias : (variable : Mention) (whole : Pattern) → Pattern

  pub data Patterns : Type 0 where
    NoMore : Patterns
    Also : (first : Pattern) (others : Patterns) → Patterns

-- patterns, from a list
abbrev pub patterns_of : prelude.List Pattern → Patterns
patterns_of [] = NoMore
patterns_of (p ∷ ps) = Also p (patterns_of ps)
