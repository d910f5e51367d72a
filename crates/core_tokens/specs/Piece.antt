-- A token as contracts see it: its place and what it is, without where it lies in memory.
use Rattle.std.specs.Prelude.{ℕ, ℤ, List, map}
use Rattle.core_tokens.specs.declared.token.Token.{Token}
use Rattle.core_tokens.specs.declared.token.Lexeme.{Lexeme}
use Rattle.core_tokens.specs.declared.token.Lexeme.TheVariants as lexeme
use Rattle.core_tokens.specs.declared.token.Keyword.{Keyword}
use Rattle.core_tokens.specs.declared.token.Mark as marks

-- what a token is: an atom is the UTF-8 bytes of its text, a variable the bytes of its name, a string its characters
pub data Shape : Type 0 where
  Word : (keyword : Keyword) → Shape
  Mark : (mark : marks.Mark) → Shape
  Atom : (text : List ℕ) → Shape
  Variable : (name : List ℕ) → Shape
  Integer : (number : ℤ) → Shape
  Float : Shape
  Character : (character : ℕ) → Shape
  Text : (characters : List ℕ) → Shape

-- a token with the place of its first byte
pub record Piece : Type 0 where
  pub at : ℕ
  pub shape : Shape

-- what a token of the program is
abbrev pub shape_of : Lexeme → Shape
shape_of (lexeme.Word k) = Word k
shape_of (lexeme.Mark m) = Mark m
shape_of (lexeme.Atom a) = Atom a
shape_of (lexeme.Variable v) = Variable v.items
shape_of (lexeme.Integer n) = Integer n
shape_of lexeme.Float = Float
shape_of (lexeme.Character c) = Character c
shape_of (lexeme.Text cs) = Text cs.items

abbrev pub piece : Token → Piece
piece t = record { at = t.at; shape = shape_of t.lexeme }

abbrev pub pieces : List Token → List Piece
pieces = map piece
