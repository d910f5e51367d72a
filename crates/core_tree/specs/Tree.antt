-- The trees that the code builds, as contracts see them.
use Rattle.std.specs.Prelude.{ℕ, List}
use Rattle.core_tree.specs.Syntax.{Callee, Mention, Pattern, patterns_of, Tree, trees_of, ClauseTree, clauses_of, Constant, constants_of}
use Rattle.core_tree.specs.Callee as callees
use Rattle.core_tree.specs.Pattern as patterns
use Rattle.core_tree.specs.Expression as trees
use Rattle.core_tree.specs.Constant as constants
use Rattle.core_tree.specs.declared.tree.Callee.{Callee as Target}
use Rattle.core_tree.specs.declared.tree.Callee.TheVariants as targets
use Rattle.core_tree.specs.declared.pattern.Pattern.{Pattern as Shape}
use Rattle.core_tree.specs.declared.pattern.Pattern.TheVariants as shapes
use Rattle.core_tree.specs.declared.tree.Expr.{Expr}
use Rattle.core_tree.specs.declared.tree.Expr.TheVariants as forms
use Rattle.core_tree.specs.declared.constant.Const.{Const}
use Rattle.core_tree.specs.declared.constant.Const.TheVariants as values

abbrev pub callee_of : Target → Callee
callee_of (targets.World kind) = callees.World kind
callee_of (targets.Pure kind) = callees.Pure kind
callee_of (targets.Exported function) = callees.Exported function
callee_of (targets.Defined named) = callees.Defined named
callee_of targets.MatchFail = callees.MatchFail
callee_of targets.Raise = callees.Raise

-- ---- the forms that have a struct of their own, from the parts of that in order

abbrev pub onto_pattern : List Pattern × Pattern → Pattern
onto_pattern parts = patterns.Onto (patterns_of parts.0) parts.1

abbrev pub alias_pattern : Mention × Pattern → Pattern
alias_pattern parts = patterns.Alias parts.0 parts.1

abbrev pub onto_tree : List Tree × Tree → Tree
onto_tree parts = trees.Onto (trees_of parts.0) parts.1

abbrev pub let_tree : List Mention × Tree × Tree → Tree
let_tree parts = trees.Let parts.0 parts.1 parts.2

abbrev pub case_tree : ℕ × Tree × List ClauseTree → Tree
case_tree parts = trees.Case parts.0 parts.1 (clauses_of parts.2)

abbrev pub do_tree : Tree × Tree → Tree
do_tree parts = trees.Do parts.0 parts.1

abbrev pub call_tree : ℕ × Callee × List Tree → Tree
call_tree parts = trees.Call parts.0 parts.1 (trees_of parts.2)

abbrev pub try_tree : ℕ × Tree × List Mention × Tree × List Mention × Tree → Tree
try_tree parts = trees.Try parts.0 parts.1 parts.2 parts.3 parts.4 parts.5

abbrev pub catch_tree : ℕ × Tree → Tree
catch_tree parts = trees.Catch parts.0 parts.1

abbrev pub receive_tree : ℕ × List ClauseTree × Tree × Tree → Tree
receive_tree parts = trees.Receive parts.0 (clauses_of parts.1) parts.2 parts.3

abbrev pub onto_constant : List Constant × Constant → Constant
onto_constant parts = constants.Onto (constants_of parts.0) parts.1

-- ---- patterns, expressions and constants

abbrev pub pattern_of : Shape → Pattern
pattern_of (shapes.Integer n) = patterns.Integer n
pattern_of (shapes.Character c) = patterns.Character c
pattern_of (shapes.Text cs) = patterns.Text cs.items
pattern_of (shapes.Atom a) = patterns.Atom a
pattern_of (shapes.Variable v) = patterns.Variable v
pattern_of (shapes.Tuple ps) = patterns.Tuple (patterns_of ps)
pattern_of (shapes.List ps) = patterns.List (patterns_of ps)
pattern_of (shapes.Onto b) = onto_pattern b.value
pattern_of (shapes.Alias b) = alias_pattern b.value

abbrev pub tree_of : Expr → Tree
tree_of (forms.Integer n) = trees.Integer n
tree_of (forms.Character c) = trees.Character c
tree_of (forms.Text cs) = trees.Text cs.items
tree_of (forms.Atom a) = trees.Atom a
tree_of (forms.Variable v) = trees.Variable v
tree_of (forms.Tuple es) = trees.Tuple (trees_of es)
tree_of (forms.List es) = trees.List (trees_of es)
tree_of (forms.Onto b) = onto_tree b.value
tree_of (forms.Values es) = trees.Values (trees_of es)
tree_of (forms.Let b) = let_tree b.value
tree_of (forms.Case b) = case_tree b.value
tree_of (forms.Do b) = do_tree b.value
tree_of (forms.Call c) = call_tree c
tree_of (forms.Try b) = try_tree b.value
tree_of (forms.Catch b) = catch_tree b.value
tree_of (forms.Receive b) = receive_tree b.value

abbrev pub constant_of : Const → Constant
constant_of (values.Integer n) = constants.Integer n
constant_of (values.Character c) = constants.Character c
constant_of (values.Text cs) = constants.Text cs.items
constant_of (values.Atom a) = constants.Atom a
constant_of (values.Tuple cs) = constants.Tuple (constants_of cs)
constant_of (values.List cs) = constants.List (constants_of cs)
constant_of (values.Onto b) = onto_constant b.value
