-- A call that is not served: what the tokens after its word `call` say of its two names and of the number of its arguments.
use Rattle.std.specs.Prelude.{◌≡◌, ℕ, List, [], ◌∷◌, ◌++◌}
use Rattle.core_tokens.specs.declared.token.Keyword.TheVariants as k
use Rattle.core_tokens.specs.declared.token.Mark.TheVariants as m
use Rattle.core_tokens.specs.Piece.{Piece, Shape}
use Rattle.core_tokens.specs.Piece as lexemes
use Rattle.core_tree.specs.Syntax.{Callee}
use Rattle.core_grammar.specs.Grammar.{word, mark, atom, AtomIn, Calls}
use Rattle.core_grammar.specs.Beginnings.{Beginning, OfAtom, OfAnnotation, OfNothing, beginning}
use Rattle.core_grammar.specs.Arguments.{arguments}

-- ---- names

abbrev pub within_by : Shape → List Piece → List Piece → List Piece
within_by (lexemes.Mark m.LeftParenthesis) here behind = behind
within_by shape here behind = here

-- the tokens from the first on that is no `(`: an atom of a call, and a module, may be in the parentheses of annotations
abbrev pub within : List Piece → List Piece
within [] = []
within (p ∷ ps) = within_by p.shape (p ∷ ps) (within ps)

-- the module that the tokens begin has this name
abbrev pub IsOwn : List Piece → List ℕ → Type 0
IsOwn ps own = (at bt : ℕ) × (rest : List Piece) × (within ps ≡ word at k.Module ∷ atom bt own ∷ rest)

-- a token that begins an expression or a function as a value, and is neither an atom nor `(`
abbrev pub IsNoNameBy : Beginning → Type 0
IsNoNameBy OfAtom = ⊥
IsNoNameBy OfAnnotation = ⊥
IsNoNameBy OfNothing = ⊥
IsNoNameBy b = Unit {0}

abbrev pub IsNoName : Shape → Type 0
IsNoName shape = IsNoNameBy (beginning shape)

-- something else begins where a name should be
abbrev pub LacksName : List Piece → Type 0
LacksName [] = ⊥
LacksName (p ∷ ps) = IsNoName p.shape

-- ---- calls

-- what follows a word `call` in the module `own` is no call that is served: its module or its function is no atom, or nothing is called by the two names with as many arguments as follow
pub data IsNoCall (own : List ℕ) : List Piece → Type 0 where
  lacks_module : {qs : List Piece} → LacksName (within qs) → IsNoCall own qs
  lacks_function : (n : ℕ) {qs p1 : List Piece} {at : ℕ} {module_name : List ℕ} → AtomIn n qs module_name (mark at m.Colon ∷ p1) → LacksName (within p1) → IsNoCall own qs
  calls_nothing : (n : ℕ) {qs p1 p2 : List Piece} {at bt : ℕ} {module_name function_name : List ℕ} → AtomIn n qs module_name (mark at m.Colon ∷ p1) → AtomIn n p1 function_name (mark bt m.LeftParenthesis ∷ p2)
      → ((callee : Callee) → ¬ (Calls own (record { module_name = module_name; function_name = function_name; arity = arguments p2 }) callee)) → IsNoCall own qs

-- at this place is the word `call` of a call that is not served
pub record UnservedCallAt (ps : List Piece) (at : ℕ) : Type 0 where
  pub own : List ℕ
  pub before : List Piece
  pub behind : List Piece
  pub named : IsOwn ps own
  pub stands : ps ≡ before ++ word at k.Call ∷ behind
  pub unserved : IsNoCall own behind
