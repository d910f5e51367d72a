-- What a token can begin, by its shape: once for the grammar, for what its faults say, and for its decoder.
use Rattle.core_tokens.specs.declared.token.Keyword.TheVariants as k
use Rattle.core_tokens.specs.declared.token.Mark.TheVariants as m
use Rattle.core_tokens.specs.Piece.{Shape}
use Rattle.core_tokens.specs.Piece as lexemes

-- a number, a character, a string, a tuple or a list; an atom, alone or in a function's name; an annotation; a variable; an expression that is nothing of these; a function as a value; or nothing of all this
pub data Beginning : Type 0 where
  OfValue : Beginning
  OfAtom : Beginning
  OfAnnotation : Beginning
  OfVariable : Beginning
  OfOtherForm : Beginning
  OfFunction : Beginning
  OfNothing : Beginning

unfoldable pub beginning : Shape → Beginning
beginning (lexemes.Integer n) = OfValue
beginning (lexemes.Character c) = OfValue
beginning (lexemes.Text cs) = OfValue
beginning (lexemes.Mark m.LeftBrace) = OfValue
beginning (lexemes.Mark m.LeftBracket) = OfValue
beginning (lexemes.Atom t) = OfAtom
beginning (lexemes.Mark m.LeftParenthesis) = OfAnnotation
beginning (lexemes.Variable v) = OfVariable
beginning (lexemes.Mark m.Less) = OfOtherForm
beginning (lexemes.Word k.Let) = OfOtherForm
beginning (lexemes.Word k.Case) = OfOtherForm
beginning (lexemes.Word k.Apply) = OfOtherForm
beginning (lexemes.Word k.Call) = OfOtherForm
beginning (lexemes.Word k.Primop) = OfOtherForm
beginning (lexemes.Word k.Do) = OfOtherForm
beginning (lexemes.Word k.Try) = OfOtherForm
beginning (lexemes.Word k.Catch) = OfOtherForm
beginning (lexemes.Word k.Receive) = OfOtherForm
beginning (lexemes.Word k.Fun) = OfFunction
beginning (lexemes.Word k.Letrec) = OfFunction
beginning shape = OfNothing
