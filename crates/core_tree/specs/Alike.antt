-- Modules compared part by part, whatever the places of their parts.
use Rattle.std.specs.Prelude.{ℕ, List, Bool, true, false, ◌==◌, ◌&&◌}
use Rattle.std.specs.Ordering.{int_eq}
use Rattle.std.specs.Cmp.Lexicographic.{pointwise}
use Rattle.core_calls.specs.declared.call.CallKind.{CallKind}
use Rattle.core_calls.specs.declared.pure.PureCall.{PureCall}
use Rattle.core_calls.specs.CallCodes.{number_of_call}
use Rattle.core_calls.specs.CallCodes.{number_of_pure}
use Rattle.core_tree.specs.Functions.{same_function}
use Rattle.term_core.specs.Kinds.{same_text}
use Rattle.core_tree.specs.Syntax.{Mention, NamedAt, Callee, Pattern, Patterns, patterns_of, Tree, Trees, Clauses, ClauseTree, Constant, Constants, AttributeTree, DefinitionTree, ModuleTree}
use Rattle.core_tree.specs.Callee as callees
use Rattle.core_tree.specs.Pattern as patterns
use Rattle.core_tree.specs.Expression as trees
use Rattle.core_tree.specs.Constant as constants

-- two variables have one name
abbrev pub same_mention : Mention → Mention → Bool
same_mention v w = same_text v.name w.name

-- two names name one function
abbrev pub same_named : NamedAt → NamedAt → Bool
same_named d e = same_function d.function e.function

-- two calls of the world call the same
abbrev pub same_kind : CallKind → CallKind → Bool
same_kind k l = number_of_call k == number_of_call l

-- two calls that a process answers by itself call the same
abbrev pub same_pure : PureCall → PureCall → Bool
same_pure k l = number_of_pure k == number_of_pure l

-- two calls apply the same
abbrev pub same_callee : Callee → Callee → Bool
same_callee (callees.World k) (callees.World l) = same_kind k l
same_callee (callees.Pure k) (callees.Pure l) = same_pure k l
same_callee (callees.Exported f) (callees.Exported g) = same_function f g
same_callee (callees.Defined d) (callees.Defined e) = same_named d e
same_callee callees.MatchFail callees.MatchFail = true
same_callee callees.Raise callees.Raise = true
same_callee a b = false

abbrev mutual
  -- two patterns are of one form and have the same parts
  pub same_pattern : Pattern → Pattern → Bool
  same_pattern (patterns.Integer m) (patterns.Integer n) = int_eq m n
  same_pattern (patterns.Character c) (patterns.Character d) = c == d
  same_pattern (patterns.Text t) (patterns.Text u) = same_text t u
  same_pattern (patterns.Atom t) (patterns.Atom u) = same_text t u
  same_pattern (patterns.Variable v) (patterns.Variable w) = same_mention v w
  same_pattern (patterns.Tuple ps) (patterns.Tuple qs) = same_patterns ps qs
  same_pattern (patterns.List ps) (patterns.List qs) = same_patterns ps qs
  same_pattern (patterns.Onto ps p) (patterns.Onto qs q) = same_patterns ps qs && same_pattern p q
  same_pattern (patterns.Alias v p) (patterns.Alias w q) = same_mention v w && same_pattern p q
  same_pattern a b = false

  pub same_patterns : Patterns → Patterns → Bool
  same_patterns patterns.NoMore patterns.NoMore = true
  same_patterns patterns.NoMore (patterns.Also q qs) = false
  same_patterns (patterns.Also p ps) patterns.NoMore = false
  same_patterns (patterns.Also p ps) (patterns.Also q qs) = same_pattern p q && same_patterns ps qs

-- two lists of patterns are as long, and the same pattern by pattern
abbrev pub same_pattern_list : List Pattern → List Pattern → Bool
same_pattern_list ps qs = same_patterns (patterns_of ps) (patterns_of qs)

abbrev mutual
  -- two expressions are of one form and have the same parts
  pub same_tree : Tree → Tree → Bool
  same_tree (trees.Integer m) (trees.Integer n) = int_eq m n
  same_tree (trees.Character c) (trees.Character d) = c == d
  same_tree (trees.Text t) (trees.Text u) = same_text t u
  same_tree (trees.Atom t) (trees.Atom u) = same_text t u
  same_tree (trees.Variable v) (trees.Variable w) = same_mention v w
  same_tree (trees.Tuple ts) (trees.Tuple us) = same_trees ts us
  same_tree (trees.List ts) (trees.List us) = same_trees ts us
  same_tree (trees.Onto ts t) (trees.Onto us u) = same_trees ts us && same_tree t u
  same_tree (trees.Values ts) (trees.Values us) = same_trees ts us
  same_tree (trees.Let vs t u) (trees.Let ws x y) = pointwise same_mention vs ws && (same_tree t x && same_tree u y)
  same_tree (trees.Case at t cs) (trees.Case bt u ds) = same_tree t u && same_clauses cs ds
  same_tree (trees.Do t u) (trees.Do x y) = same_tree t x && same_tree u y
  same_tree (trees.Call at c ts) (trees.Call bt d us) = same_callee c d && same_trees ts us
  same_tree (trees.Try at t vs u ws h) (trees.Try bt x ps y qs z) =
      same_tree t x && (pointwise same_mention vs ps && (same_tree u y && (pointwise same_mention ws qs && same_tree h z)))
  same_tree (trees.Catch at t) (trees.Catch bt u) = same_tree t u
  same_tree (trees.Receive at cs t u) (trees.Receive bt ds x y) = same_clauses cs ds && (same_tree t x && same_tree u y)
  same_tree a b = false

  pub same_trees : Trees → Trees → Bool
  same_trees trees.NoMore trees.NoMore = true
  same_trees trees.NoMore (trees.Also u us) = false
  same_trees (trees.Also t ts) trees.NoMore = false
  same_trees (trees.Also t ts) (trees.Also u us) = same_tree t u && same_trees ts us

  pub same_clauses : Clauses → Clauses → Bool
  same_clauses trees.NoClause trees.NoClause = true
  same_clauses trees.NoClause (trees.Clause qs h c ds) = false
  same_clauses (trees.Clause ps g b cs) trees.NoClause = false
  same_clauses (trees.Clause ps g b cs) (trees.Clause qs h c ds) =
      (same_pattern_list ps qs && (same_tree g h && same_tree b c)) && same_clauses cs ds

-- two clauses have the same patterns, the same guard and the same body
abbrev pub same_clause : ClauseTree → ClauseTree → Bool
same_clause c d = same_pattern_list c.patterns d.patterns && (same_tree c.guard d.guard && same_tree c.body d.body)

abbrev mutual
  -- two constants are of one form and have the same parts
  pub same_constant : Constant → Constant → Bool
  same_constant (constants.Integer m) (constants.Integer n) = int_eq m n
  same_constant (constants.Character c) (constants.Character d) = c == d
  same_constant (constants.Text t) (constants.Text u) = same_text t u
  same_constant (constants.Atom t) (constants.Atom u) = same_text t u
  same_constant (constants.Tuple cs) (constants.Tuple ds) = same_constants cs ds
  same_constant (constants.List cs) (constants.List ds) = same_constants cs ds
  same_constant (constants.Onto cs c) (constants.Onto ds d) = same_constants cs ds && same_constant c d
  same_constant a b = false

  pub same_constants : Constants → Constants → Bool
  same_constants constants.NoMore constants.NoMore = true
  same_constants constants.NoMore (constants.Also d ds) = false
  same_constants (constants.Also c cs) constants.NoMore = false
  same_constants (constants.Also c cs) (constants.Also d ds) = same_constant c d && same_constants cs ds

-- two attributes have one name and one value
abbrev pub same_attribute : AttributeTree → AttributeTree → Bool
same_attribute a b = same_text a.name b.name && same_constant a.value b.value

-- two definitions have one name, the same parameters and the same body
abbrev pub same_definition : DefinitionTree → DefinitionTree → Bool
same_definition d e =
    same_named d.named e.named && (pointwise same_mention d.parameters e.parameters && same_tree d.body e.body)

-- two modules have one name and the same parts in order
abbrev pub same_module : ModuleTree → ModuleTree → Bool
same_module m n =
    same_text m.name n.name && (pointwise same_named m.exports n.exports && (pointwise same_attribute m.attributes n.attributes && pointwise same_definition m.definitions n.definitions))
