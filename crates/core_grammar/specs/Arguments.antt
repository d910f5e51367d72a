-- How many arguments follow, by the commas that are in no further bracket.
use Rattle.std.specs.Prelude.{ℕ, zero, suc, List, [], ◌∷◌}
use Rattle.core_tokens.specs.declared.token.Mark.TheVariants as m
use Rattle.core_tokens.specs.Piece.{Piece, Shape}
use Rattle.core_tokens.specs.Piece as lexemes

-- what a token does to the depth of brackets
pub data Turn : Type 0 where
  TurnsIn : Turn
  TurnsOut : Turn
  Separates : Turn
  GoesBy : Turn

abbrev pub turn : Shape → Turn
turn (lexemes.Mark m.LeftParenthesis) = TurnsIn
turn (lexemes.Mark m.LeftBracket) = TurnsIn
turn (lexemes.Mark m.LeftBrace) = TurnsIn
turn (lexemes.Mark m.Less) = TurnsIn
turn (lexemes.Mark m.RightParenthesis) = TurnsOut
turn (lexemes.Mark m.RightBracket) = TurnsOut
turn (lexemes.Mark m.RightBrace) = TurnsOut
turn (lexemes.Mark m.Greater) = TurnsOut
turn (lexemes.Mark m.Comma) = Separates
turn shape = GoesBy

-- a token at this depth, where what follows it has so many commas by its own depth
abbrev pub counted : Turn → ℕ → (ℕ → ℕ) → ℕ
counted TurnsIn depth behind = behind (suc depth)
counted TurnsOut zero behind = 0
counted TurnsOut (suc depth) behind = behind depth
counted Separates zero behind = suc (behind 0)
counted Separates (suc depth) behind = behind (suc depth)
counted GoesBy depth behind = behind depth

-- the commas that are in no further bracket, as far as the bracket that closes; so many brackets were opened before
abbrev pub commas : ℕ → List Piece → ℕ
commas depth [] = 0
commas depth (p ∷ ps) = counted (turn p.shape) depth (λ d. commas d ps)

abbrev pub arguments_by : Shape → ℕ → ℕ
arguments_by (lexemes.Mark m.RightParenthesis) n = 0
arguments_by shape n = suc n

-- the number of arguments after the parenthesis of a call: none where `)` comes next, else one more than the commas between them, as three in `X, {Y, Z}, []) ..`
abbrev pub arguments : List Piece → ℕ
arguments [] = 0
arguments (p ∷ ps) = arguments_by p.shape (commas 0 (p ∷ ps))
