-- Modules without the places of their parts in the text: each place is set to 0.
use Rattle.std.specs.Prelude.{map}
use Rattle.core_tree.specs.Syntax.{Mention, NamedAt, Callee, Pattern, Patterns, Tree, Trees, Clauses, ClauseTree, DefinitionTree, ModuleTree}
use Rattle.core_tree.specs.Callee as callees
use Rattle.core_tree.specs.Pattern as patterns
use Rattle.core_tree.specs.Expression as trees

-- a variable
abbrev pub bare_mention : Mention → Mention
bare_mention v = record { at = 0; name = v.name }

-- a function's name
abbrev pub bare_named : NamedAt → NamedAt
bare_named e = record { at = 0; function = e.function }

-- what a call applies
abbrev pub bare_callee : Callee → Callee
bare_callee (callees.World k) = callees.World k
bare_callee (callees.Pure k) = callees.Pure k
bare_callee (callees.Exported f) = callees.Exported f
bare_callee (callees.Defined n) = callees.Defined (bare_named n)
bare_callee callees.MatchFail = callees.MatchFail
bare_callee callees.Raise = callees.Raise

abbrev mutual
  -- a pattern
  pub bare_pattern : Pattern → Pattern
  bare_pattern (patterns.Integer n) = patterns.Integer n
  bare_pattern (patterns.Character c) = patterns.Character c
  bare_pattern (patterns.Text cs) = patterns.Text cs
  bare_pattern (patterns.Atom t) = patterns.Atom t
  bare_pattern (patterns.Variable v) = patterns.Variable (bare_mention v)
  bare_pattern (patterns.Tuple ps) = patterns.Tuple (bare_patterns ps)
  bare_pattern (patterns.List ps) = patterns.List (bare_patterns ps)
  bare_pattern (patterns.Onto ps p) = patterns.Onto (bare_patterns ps) (bare_pattern p)
  bare_pattern (patterns.Alias v p) = patterns.Alias (bare_mention v) (bare_pattern p)

  -- patterns in order
  pub bare_patterns : Patterns → Patterns
  bare_patterns patterns.NoMore = patterns.NoMore
  bare_patterns (patterns.Also p ps) = patterns.Also (bare_pattern p) (bare_patterns ps)

abbrev mutual
  -- an expression
  pub bare_tree : Tree → Tree
  bare_tree (trees.Integer n) = trees.Integer n
  bare_tree (trees.Character c) = trees.Character c
  bare_tree (trees.Text cs) = trees.Text cs
  bare_tree (trees.Atom t) = trees.Atom t
  bare_tree (trees.Variable v) = trees.Variable (bare_mention v)
  bare_tree (trees.Tuple ts) = trees.Tuple (bare_trees ts)
  bare_tree (trees.List ts) = trees.List (bare_trees ts)
  bare_tree (trees.Onto ts t) = trees.Onto (bare_trees ts) (bare_tree t)
  bare_tree (trees.Values ts) = trees.Values (bare_trees ts)
  bare_tree (trees.Let vs t u) = trees.Let (map bare_mention vs) (bare_tree t) (bare_tree u)
  bare_tree (trees.Case at t cs) = trees.Case 0 (bare_tree t) (bare_clauses cs)
  bare_tree (trees.Do t u) = trees.Do (bare_tree t) (bare_tree u)
  bare_tree (trees.Call at c ts) = trees.Call 0 (bare_callee c) (bare_trees ts)
  bare_tree (trees.Try at t vs u ws h) = trees.Try 0 (bare_tree t) (map bare_mention vs) (bare_tree u) (map bare_mention ws) (bare_tree h)
  bare_tree (trees.Catch at t) = trees.Catch 0 (bare_tree t)
  bare_tree (trees.Receive at cs t u) = trees.Receive 0 (bare_clauses cs) (bare_tree t) (bare_tree u)

  -- expressions in order
  pub bare_trees : Trees → Trees
  bare_trees trees.NoMore = trees.NoMore
  bare_trees (trees.Also t ts) = trees.Also (bare_tree t) (bare_trees ts)

  -- clauses in order
  pub bare_clauses : Clauses → Clauses
  bare_clauses trees.NoClause = trees.NoClause
  bare_clauses (trees.Clause ps g b cs) = trees.Clause (map bare_pattern ps) (bare_tree g) (bare_tree b) (bare_clauses cs)

-- a clause
abbrev pub bare_clause : ClauseTree → ClauseTree
bare_clause c = record { patterns = map bare_pattern c.patterns; guard = bare_tree c.guard; body = bare_tree c.body }

-- a definition
abbrev pub bare_definition : DefinitionTree → DefinitionTree
bare_definition d = record { named = bare_named d.named; parameters = map bare_mention d.parameters; body = bare_tree d.body }

-- a module; its attributes hold no places
abbrev pub bare_module : ModuleTree → ModuleTree
bare_module m = record { name = m.name; exports = map bare_named m.exports; attributes = m.attributes; definitions = map bare_definition m.definitions }
