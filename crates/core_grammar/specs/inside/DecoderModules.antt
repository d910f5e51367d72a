-- Reading definitions and modules from left to right, with the fault that comes first by place.
use Rattle.std.specs.Prelude.{ℕ, zero, suc, List, [], ◌∷◌, Option, Some, None, Result, Ok, Err, true}
use Rattle.core_tokens.specs.declared.fault.ReadFault.{ReadFault}
use Rattle.core_tokens.specs.declared.token.Keyword.TheVariants as k
use Rattle.core_tokens.specs.declared.token.Mark.TheVariants as m
use Rattle.core_tokens.specs.Piece.{Piece}
use Rattle.core_tree.specs.Syntax.{Mention, NamedAt, Tree, AttributeTree, DefinitionTree, ModuleTree}
use Rattle.core_grammar.specs.Grammar.{level_limit}
use Rattle.core_grammar.specs.declared.unserved.Unserved.{Unserved}
use Rattle.core_scopes.specs.Outcomes.{◌>>=◌}
use Rattle.core_grammar.specs.inside.Decoder.{fault_of_unserved, State, Read, with_pieces, after_mark, fault, place_of, too_deep, mark_at, word_at, atom_at, bare_name_at, closed_at, exactly_at, rows_at, in_note_at, constant_at, noted_at, function_name_at, variable_at}
use Rattle.core_grammar.specs.inside.DecoderForms.{expression_at}

-- ---- modules

unfoldable pub attribute_at : ℕ → State → Read AttributeTree
attribute_at n s = do
  a ← atom_at s
  s1 ← mark_at m.Equals a.1
  c ← constant_at n s1
  Ok (record { name = a.0; value = c.0 }, c.1)

module _ (own : List ℕ) where
  -- `fun (Var, ..) -> expr` with so many variables
  unfoldable pub bare_fun_at : ℕ → ℕ → State → Read (List Mention × Tree)
  bare_fun_at arity n s = do
    s1 ← word_at k.Fun s
    s2 ← mark_at m.LeftParenthesis s1
    vs ← exactly_at (variable_at n) true arity s2
    s3 ← mark_at m.RightParenthesis vs.1
    s4 ← mark_at m.Arrow s3
    b ← expression_at own n s4
    Ok ((vs.0, b.0), b.1)

  unfoldable pub fun_at : ℕ → ℕ → State → Read (List Mention × Tree)
  fun_at arity n s = noted_at (bare_fun_at arity) n s

  -- what follows the name of a definition
  unfoldable pub behind_name_at : ℕ → NamedAt → State → Read DefinitionTree
  behind_name_at n named s = do
    s1 ← mark_at m.Equals s
    f ← fun_at named.function.arity n s1
    Ok (record { named = named; parameters = f.0.0; body = f.0.1 }, f.1)

-- what a definition begins with: its name, or the whole of it in the parentheses of an annotation
pub data Opening : Type 0 where
  TheName : (named : NamedAt) → Opening
  WholeDefinition : (definition : DefinitionTree) → Opening

module _ (own : List ℕ) where
  -- in parentheses a name goes on to the whole definition, where `=` follows it
  abbrev pub opening_by : ℕ → NamedAt → Option (List Piece) → State → Read Opening
  opening_by n named None s = Ok (TheName named, s)
  opening_by n named (Some ps) s = do
    d ← behind_name_at own n named s
    Ok (WholeDefinition d.0, d.1)

  abbrev pub opened : ℕ → Opening → State → Read Opening
  opened n (WholeDefinition d) s = Ok (WholeDefinition d, s)
  opened n (TheName named) s = opening_by n named (after_mark m.Equals s.pieces) s

  unfoldable pub inside_opening_at : ℕ → (State → Read Opening) → State → Read Opening
  inside_opening_at n opening s = do
    x ← opening s
    opened n x.0 x.1

  unfoldable pub bare_opening_at : State → Read Opening
  bare_opening_at s = do
    n ← bare_name_at s
    Ok (TheName n.0, n.1)

  abbrev pub opening_last : Option (List Piece) → State → Read Opening
  opening_last (Some ps) s = Err (too_deep s)
  opening_last None s = bare_opening_at s

  abbrev pub opening_next : ℕ → (State → Read Opening) → Option (List Piece) → State → Read Opening
  opening_next n opening (Some ps) s = in_note_at (constant_at n) (inside_opening_at n opening) (with_pieces s ps)
  opening_next n opening None s = bare_opening_at s

  unfoldable pub opening_at : ℕ → State → Read Opening
  opening_at zero s = opening_last (after_mark m.LeftParenthesis s.pieces) s
  opening_at (suc n) s = opening_next n (opening_at n) (after_mark m.LeftParenthesis s.pieces) s

  abbrev pub definition_of_opening : ℕ → Opening → State → Read DefinitionTree
  definition_of_opening n (WholeDefinition d) s = Ok (d, s)
  definition_of_opening n (TheName named) s = behind_name_at own n named s

  -- a definition whose parts have at most so many levels
  unfoldable pub definition_at : ℕ → State → Read DefinitionTree
  definition_at n s = do
    x ← opening_at n s
    definition_of_opening n x.0 x.1

-- the name, the exports and the attributes
unfoldable pub front_at : ℕ → State → Read (List ℕ × List NamedAt × List AttributeTree)
front_at n s = do
  s1 ← word_at k.Module s
  a ← atom_at s1
  s2 ← mark_at m.LeftBracket a.1
  es ← closed_at (function_name_at n) m.RightBracket s2
  s3 ← word_at k.Attributes es.1
  s4 ← mark_at m.LeftBracket s3
  ts ← closed_at (attribute_at n) m.RightBracket s4
  Ok ((a.0, es.0, ts.0), ts.1)

-- a module, and the place of its last `end`
unfoldable pub bare_module_at : ℕ → State → Read (ModuleTree × ℕ)
bare_module_at n s = do
  f ← front_at n s
  ds ← rows_at (definition_at f.0.0 n) k.End f.1
  s1 ← word_at k.End ds.1
  Ok ((record { name = f.0.0; exports = f.0.1; attributes = f.0.2; definitions = ds.0 }, place_of ds.1.stop ds.1.pieces), s1)

abbrev pub ended : {X : Type 0} → List Piece → Option Unserved → X → State → Result X ReadFault
ended [] None x s = Ok x
ended [] (Some u) x s = Err (fault_of_unserved u)
ended (p ∷ ps) refused x s = Err (fault s)

-- all of the tokens
unfoldable pub module_at : State → Result (ModuleTree × ℕ) ReadFault
module_at s = do
  d ← noted_at bare_module_at level_limit s
  ended d.1.pieces d.1.refused d.0 d.1
