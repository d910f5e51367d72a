-- What a fault of the grammar or of the scopes says of the tokens.
use Rattle.std.specs.Prelude.{◌≡◌, ◌≢◌, ℕ, List, [], ◌∷◌, ◌++◌, ◌⊎◌, Contains}
use Rattle.core_tokens.specs.declared.fault.ReadFault.{ReadFault}
use Rattle.core_tokens.specs.declared.fault.ReadFault.TheVariants.{Expected, Unbound, DuplicateVariable, DuplicateFunction, NoFunction, HigherOrder, UnsupportedCall, EffectInGuard, TooDeep, NoMain, UnsupportedForm, Memory}
use Rattle.core_tokens.specs.declared.token.Keyword.TheVariants as k
use Rattle.core_tokens.specs.Piece.{Piece, Shape}
use Rattle.core_tokens.specs.Piece as lexemes
use Rattle.core_tree.specs.Syntax.{ModuleTree}
use Rattle.core_grammar.specs.Grammar.{word, Spells}
use Rattle.core_grammar.specs.Beginnings.{Beginning, OfFunction, OfNothing, beginning}
use Rattle.core_grammar.specs.Depth.{OpensPastLast}
use Rattle.core_scopes.specs.Scopes.{functions, main_function}
use Rattle.core_scopes.specs.ScopeFaults.{ModuleBreaks}
use Rattle.core_grammar.specs.UnservedCalls.{UnservedCallAt}
use Rattle.core_grammar.specs.Unread.{HigherOrderAt, UnreadAt}

-- one of the tokens
abbrev pub IsOne : List Piece → Piece → Type 0
IsOne [] p = ⊥
IsOne (q ∷ qs) p = (q ≡ p) ⊎ IsOne qs p

-- one of the tokens begins there
abbrev pub IsAt : List Piece → ℕ → Type 0
IsAt [] at = ⊥
IsAt (p ∷ ps) at = (p.at ≡ at) ⊎ IsAt ps at

-- one of the tokens begins there, or the text ends there
abbrev pub IsPlace : List Piece → ℕ → ℕ → Type 0
IsPlace ps length at = IsAt ps at ⊎ (at ≡ length)

-- a token that begins an expression, a pattern, a constant or an annotation
abbrev pub OpensBy : Beginning → Type 0
OpensBy OfFunction = ⊥
OpensBy OfNothing = ⊥
OpensBy b = Unit {0}

abbrev pub Opens : Shape → Type 0
Opens shape = OpensBy (beginning shape)

-- a token that opens a construct begins there
abbrev pub OpensAt : List Piece → ℕ → Type 0
OpensAt ps at = (p : Piece) × IsOne ps p × (p.at ≡ at) × Opens p.shape

-- none of the tokens is the word `end`
abbrev pub LacksEnd : List Piece → Type 0
LacksEnd [] = Unit {0}
LacksEnd (p ∷ ps) = (p.shape ≢ lexemes.Word k.End) × LacksEnd ps

-- the last word `end` of the tokens begins there: no other comes after it
pub record IsLastEnd (ps : List Piece) (at : ℕ) : Type 0 where
  pub before : List Piece
  pub behind : List Piece
  pub stands : ps ≡ before ++ word at k.End ∷ behind
  pub last : LacksEnd behind

-- the tokens spell a module for which what the fault says is true
abbrev pub Breaks : List Piece → ReadFault → Type 0
Breaks ps fault = (tree : ModuleTree) × Spells ps tree × ModuleBreaks tree fault

-- the tokens spell a module without `main/0`
abbrev pub LacksMain : List Piece → Type 0
LacksMain ps = (tree : ModuleTree) × Spells ps tree × ¬ (Contains (functions tree.definitions) main_function)

-- the faults that tokens can have, and what they say: of the grammar at 2 a place, at 7 that of a function as a value or of a value that is applied, at 14 that of a form that is not read, at 8 that of the word `call` of a call that is not served, by its names and the number of its arguments or as one of the module's own functions that it does not export, at 10 that of a token that opens a construct, to which the grammar leads with no level left; of the scopes a place, and that they break a module there; at 13 the place of the last `end`, and that they spell a module without `main/0`
abbrev pub IsFaultOf : List Piece → ℕ → ReadFault → Type 0
IsFaultOf ps length (Expected at) = IsPlace ps length at
IsFaultOf ps length (HigherOrder at) = HigherOrderAt ps at
IsFaultOf ps length (UnsupportedForm at) = UnreadAt ps at
IsFaultOf ps length (UnsupportedCall at) = IsOne ps (word at k.Call) × (UnservedCallAt ps at ⊎ Breaks ps (UnsupportedCall at))
IsFaultOf ps length (TooDeep at) = OpensAt ps at × OpensPastLast ps at
IsFaultOf ps length (Unbound at) = IsPlace ps length at × Breaks ps (Unbound at)
IsFaultOf ps length (DuplicateVariable at) = IsPlace ps length at × Breaks ps (DuplicateVariable at)
IsFaultOf ps length (DuplicateFunction at) = IsPlace ps length at × Breaks ps (DuplicateFunction at)
IsFaultOf ps length (NoFunction at) = IsPlace ps length at × Breaks ps (NoFunction at)
IsFaultOf ps length (EffectInGuard at) = IsPlace ps length at × Breaks ps (EffectInGuard at)
IsFaultOf ps length (NoMain at) = IsLastEnd ps at × LacksMain ps
IsFaultOf ps length Memory = Unit {0}
IsFaultOf ps length f = ⊥
