-- Sizes of trees, above those of their parts, by which recursion on them ends.
use Rattle.std.specs.Prelude.{ℕ, ◌+◌, List}
use Rattle.core_tree.specs.Pattern.{Pattern, Patterns, patterns_of}
use Rattle.core_tree.specs.Pattern as patterns
use Rattle.core_tree.specs.Expression.{Tree, Trees, Clauses, trees_of, ClauseTree, clauses_of}
use Rattle.core_tree.specs.Expression as trees
use Rattle.core_tree.specs.Constant.{Constant, Constants, constants_of}
use Rattle.core_tree.specs.Constant as constants

-- a size of a pattern, above those of its parts
abbrev mutual
  pub size_of_pattern : Pattern → ℕ
  size_of_pattern (patterns.Integer n) = 1
  size_of_pattern (patterns.Character c) = 1
  size_of_pattern (patterns.Text cs) = 1
  size_of_pattern (patterns.Atom t) = 1
  size_of_pattern (patterns.Variable v) = 1
  size_of_pattern (patterns.Tuple ps) = 1 + size_of_patterns ps
  size_of_pattern (patterns.List ps) = 1 + size_of_patterns ps
  size_of_pattern (patterns.Onto ps p) = 2 + (size_of_patterns ps + size_of_pattern p)
  size_of_pattern (patterns.Alias v p) = 1 + size_of_pattern p

  pub size_of_patterns : Patterns → ℕ
  size_of_patterns patterns.NoMore = 0
  size_of_patterns (patterns.Also p ps) = size_of_pattern p + size_of_patterns ps

abbrev pub size_of_pattern_list : List Pattern → ℕ
size_of_pattern_list ps = size_of_patterns (patterns_of ps)

-- a size of an expression, above those of its parts
abbrev mutual
  pub size_of : Tree → ℕ
  size_of (trees.Integer n) = 1
  size_of (trees.Character c) = 1
  size_of (trees.Text cs) = 1
  size_of (trees.Atom t) = 1
  size_of (trees.Variable v) = 1
  size_of (trees.Tuple ts) = 1 + size_of_all ts
  size_of (trees.List ts) = 1 + size_of_all ts
  size_of (trees.Onto ts t) = 2 + (size_of_all ts + size_of t)
  size_of (trees.Values ts) = 1 + size_of_all ts
  size_of (trees.Let vs t u) = 1 + (size_of t + size_of u)
  size_of (trees.Case at t cs) = 2 + (size_of t + size_of_clauses cs)
  size_of (trees.Do t u) = 1 + (size_of t + size_of u)
  size_of (trees.Call at callee ts) = 2 + size_of_all ts
  size_of (trees.Try at t vs u ws h) = 1 + (size_of t + (size_of u + size_of h))
  size_of (trees.Catch at t) = 1 + size_of t
  size_of (trees.Receive at cs t u) = 2 + (size_of_clauses cs + (size_of t + size_of u))

  pub size_of_all : Trees → ℕ
  size_of_all trees.NoMore = 0
  size_of_all (trees.Also t ts) = size_of t + size_of_all ts

  pub size_of_clauses : Clauses → ℕ
  size_of_clauses trees.NoClause = 0
  size_of_clauses (trees.Clause ps g b cs) = 1 + (size_of g + (size_of b + size_of_clauses cs))

abbrev pub size_of_list : List Tree → ℕ
size_of_list ts = size_of_all (trees_of ts)

abbrev pub size_of_clause_list : List ClauseTree → ℕ
size_of_clause_list cs = size_of_clauses (clauses_of cs)

-- a size of a constant, above those of its parts
abbrev mutual
  pub size_of_constant : Constant → ℕ
  size_of_constant (constants.Integer n) = 1
  size_of_constant (constants.Character c) = 1
  size_of_constant (constants.Text cs) = 1
  size_of_constant (constants.Atom t) = 1
  size_of_constant (constants.Tuple cs) = 1 + size_of_constants cs
  size_of_constant (constants.List cs) = 1 + size_of_constants cs
  size_of_constant (constants.Onto cs c) = 2 + (size_of_constants cs + size_of_constant c)

  pub size_of_constants : Constants → ℕ
  size_of_constants constants.NoMore = 0
  size_of_constants (constants.Also c cs) = size_of_constant c + size_of_constants cs

abbrev pub size_of_constant_list : List Constant → ℕ
size_of_constant_list cs = size_of_constants (constants_of cs)
