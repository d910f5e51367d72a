-- What is never read: functions as values, and forms of other data. What the tokens say of each.
use Rattle.std.specs.Prelude.{◌≡◌, ◌⊎◌, ℕ, List, [], ◌∷◌, ◌++◌}
use Rattle.core_tokens.specs.declared.token.Keyword.TheVariants as k
use Rattle.core_tokens.specs.declared.token.Mark.{Mark}
use Rattle.core_tokens.specs.declared.token.Mark.TheVariants as m
use Rattle.core_tokens.specs.Piece.{Piece, Shape}
use Rattle.core_tokens.specs.Piece as lexemes
use Rattle.core_tree.specs.Syntax.{Callee}
use Rattle.core_grammar.specs.Grammar.{mark, atom, Operates}
use Rattle.core_grammar.specs.Beginnings.{Beginning, OfAtom, OfFunction, beginning}
use Rattle.core_grammar.specs.Arguments.{arguments}
use Rattle.core_grammar.specs.Depth.{Front, PastWord}
use Rattle.core_grammar.specs.UnservedCalls.{within, IsNoNameBy}

-- from one of the tokens on they are as said
pub record SomeAre (Said : List Piece → Type 0) (ps : List Piece) : Type 0 where
  pub before : List Piece
  pub here : List Piece
  pub stands : ps ≡ before ++ here
  pub said : Said here

-- this mark comes next
abbrev pub HasMark : Mark → List Piece → Type 0
HasMark x [] = ⊥
HasMark x (p ∷ ps) = p.shape ≡ lexemes.Mark x

-- ---- functions as values

-- a token that begins a function as a value: `fun`, `letrec`, or an atom with `/` after it, a function's name
abbrev pub BeginsFunctionBy : Beginning → List Piece → Type 0
BeginsFunctionBy OfFunction ps = Unit {0}
BeginsFunctionBy OfAtom ps = HasMark m.Slash ps
BeginsFunctionBy b ps = ⊥

abbrev pub BeginsFunction : Shape → List Piece → Type 0
BeginsFunction shape ps = BeginsFunctionBy (beginning shape) ps

-- a token that begins a value where a function's name should be: an atom with the arguments after it, or what begins an expression and is neither an atom nor `(`
abbrev pub BeginsAppliedBy : Beginning → List Piece → Type 0
BeginsAppliedBy OfAtom ps = HasMark m.LeftParenthesis ps
BeginsAppliedBy b ps = IsNoNameBy b

abbrev pub BeginsApplied : Shape → List Piece → Type 0
BeginsApplied shape ps = BeginsAppliedBy (beginning shape) ps

-- `apply` of a value that begins at this place, perhaps in the parentheses of annotations
abbrev pub AppliesValue : ℕ → List Piece → Type 0
AppliesValue at ps = PastWord k.Apply (λ qs. Front BeginsApplied at (within qs)) ps

-- at this place begins a function as a value, or a value that is applied
abbrev pub HigherOrderAt : List Piece → ℕ → Type 0
HigherOrderAt ps at = SomeAre (Front BeginsFunction at) ps ⊎ SomeAre (AppliesValue at) ps

-- ---- other forms

-- after `primop` come a name and arguments of no operation that is read
pub data IsNoOperation : List Piece → Type 0 where
  operates_nothing : {ps : List Piece} {at bt : ℕ} {name : List ℕ} → ((callee : Callee) → ¬ (Operates name (arguments ps) callee)) → IsNoOperation (atom at name ∷ mark bt m.LeftParenthesis ∷ ps)

-- a token that begins a form that is not read: `#` of a binary, `~` of a map, a float, or `primop` of another operation
abbrev pub BeginsUnread : Shape → List Piece → Type 0
BeginsUnread (lexemes.Mark m.Hash) ps = Unit {0}
BeginsUnread (lexemes.Mark m.Tilde) ps = Unit {0}
BeginsUnread lexemes.Float ps = Unit {0}
BeginsUnread (lexemes.Word k.Primop) ps = IsNoOperation ps
BeginsUnread shape ps = ⊥

-- at this place begins a form that is not read
abbrev pub UnreadAt : List Piece → ℕ → Type 0
UnreadAt ps at = SomeAre (Front BeginsUnread at) ps
