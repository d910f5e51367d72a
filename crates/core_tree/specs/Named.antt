-- Variables and functions by their names, and where these are in the text (Core Erlang 1.0.3, "Names").
use Rattle.std.specs.Prelude.{ℕ, List}

-- a variable, and where it is in the text
pub record Mention : Type 0 where
  pub at : ℕ
  pub name : List ℕ

-- the name of a function: an atom and the number of its arguments
pub record Function : Type 0 where
  pub name : List ℕ
  pub arity : ℕ

-- a function's name, and where it is in the text
pub record NamedAt : Type 0 where
  pub at : ℕ
  pub function : Function
