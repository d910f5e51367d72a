-- No part of a tree is deeper than the tree is large.
use Rattle.std.specs.Prelude.{◌+◌, ◌≤◌, List, [], ◌∷◌, map}
use Rattle.std.proofs.Common.{arith}
use denote.Param.Weighed.{most}
use Rattle.core_tree.specs.Syntax.{ClauseTree}
use Rattle.core_tree.specs.inside.Sizes.{size_of_pattern, size_of_pattern_list, size_of, size_of_list, size_of_clause_list, size_of_constant, size_of_constant_list}
use Rattle.core_tree.specs.Tree.{pattern_of, tree_of, constant_of}
use Rattle.core_tree.specs.declared.pattern.Pattern.{Pattern}
use Rattle.core_tree.specs.declared.pattern.Pattern.TheVariants as shapes
use Rattle.core_tree.specs.declared.tree.Expr.{Expr}
use Rattle.core_tree.specs.declared.tree.Expr.TheVariants as forms
use Rattle.core_tree.specs.declared.constant.Const.{Const}
use Rattle.core_tree.specs.declared.constant.Const.TheVariants as values
use Rattle.core_tree.specs.declared.pattern.Alias.TheDeep.{deep-Pattern}
use Rattle.core_tree.specs.declared.tree.Call.TheDeep.{deep-Expr}
use Rattle.core_tree.specs.declared.constant.Consts.TheDeep.{deep-Const}

pub deep_pattern_le : (p : Pattern) → deep-Pattern p ≤ size_of_pattern (pattern_of p)
deep_pattern_le (shapes.Integer n) = omega arith
deep_pattern_le (shapes.Character c) = omega arith
deep_pattern_le (shapes.Text cs) = omega arith
deep_pattern_le (shapes.Atom a) = omega arith
deep_pattern_le (shapes.Variable v) = omega arith
deep_pattern_le (shapes.Tuple ps) = omega arith
deep_pattern_le (shapes.List ps) = omega arith
deep_pattern_le (shapes.Onto b) = omega arith
deep_pattern_le (shapes.Alias b) = omega arith

pub most_pattern_le : (ps : List Pattern) → most deep-Pattern ps ≤ size_of_pattern_list (map pattern_of ps)
most_pattern_le [] = omega arith
most_pattern_le (p ∷ ps) = omega (arith, deep_pattern_le p, most_pattern_le ps)

pub deep_le : (e : Expr) → deep-Expr e ≤ size_of (tree_of e)
deep_le (forms.Integer n) = omega arith
deep_le (forms.Character c) = omega arith
deep_le (forms.Text cs) = omega arith
deep_le (forms.Atom a) = omega arith
deep_le (forms.Variable v) = omega arith
deep_le (forms.Tuple es) = omega arith
deep_le (forms.List es) = omega arith
deep_le (forms.Onto b) = omega arith
deep_le (forms.Values es) = omega arith
deep_le (forms.Let b) = omega arith
deep_le (forms.Case b) = omega arith
deep_le (forms.Do b) = omega arith
deep_le (forms.Call c) = omega arith
deep_le (forms.Try b) = omega arith
deep_le (forms.Catch b) = omega arith
deep_le (forms.Receive b) = omega arith

pub most_le : (es : List Expr) → most deep-Expr es ≤ size_of_list (map tree_of es)
most_le [] = omega arith
most_le (e ∷ es) = omega (arith, deep_le e, most_le es)

pub most_clause_le : (cs : List ClauseTree) → most (λ c. size_of c.guard + size_of c.body + 1) cs ≤ size_of_clause_list cs
most_clause_le [] = omega arith
most_clause_le (c ∷ cs) = omega (arith, most_clause_le cs)

pub deep_constant_le : (c : Const) → deep-Const c ≤ size_of_constant (constant_of c)
deep_constant_le (values.Integer n) = omega arith
deep_constant_le (values.Character c) = omega arith
deep_constant_le (values.Text cs) = omega arith
deep_constant_le (values.Atom a) = omega arith
deep_constant_le (values.Tuple cs) = omega arith
deep_constant_le (values.List cs) = omega arith
deep_constant_le (values.Onto b) = omega arith

pub most_constant_le : (cs : List Const) → most deep-Const cs ≤ size_of_constant_list (map constant_of cs)
most_constant_le [] = omega arith
most_constant_le (c ∷ cs) = omega (arith, deep_constant_le c, most_constant_le cs)
