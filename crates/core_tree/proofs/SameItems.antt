-- Steps along two lists that are compared item by item.
use Rattle.std.proofs.Common.{◌≡◌, ℕ, zero, suc, ◌+◌, ◌<◌, ◌≤◌, Bool, true, false, ◌&&◌, List, [], ◌∷◌, length, get_or, drop, map, refl, sym, ap, ◌∙◌, arith, add-one}
use Rattle.std.specs.Cmp.Lexicographic.{pointwise}
use Rattle.std.specs.Cmp.Derive.Mapped.{pointwise-map}
use Rattle.core_tree.specs.Syntax.{Pattern, Tree, trees_of, ClauseTree, clauses_of, Constant, constants_of, Function}
use Rattle.core_tree.specs.Tree.{pattern_of, tree_of, constant_of}
use Rattle.core_tree.specs.Functions.{same_function}
use Rattle.core_tree.specs.Definitions.{definition_of}
use Rattle.core_tree.specs.Alike.{same_mention, same_pattern, same_pattern_list, same_tree, same_trees, same_clause, same_clauses, same_constant, same_constants, same_definition}
use Rattle.core_tree.specs.declared.pattern.Pattern.{Pattern as Shape}
use Rattle.core_tree.specs.declared.tree.Expr.{Expr}
use Rattle.core_tree.specs.declared.constant.Const.{Const}
use Rattle.core_tree.specs.declared.module.Definition.{Definition}

-- ---- two lists of X, by a test of their images

module _ {X Y : Type 0} (h : X → Y) (S : Y → Y → Bool) (T : List Y → List Y → Bool) (none : T [] [] ≡ true) (left : (y : Y) (ys : List Y) → T [] (y ∷ ys) ≡ false) (right : (x : Y) (xs : List Y) → T (x ∷ xs) [] ≡ false) (more : (x y : Y) (xs ys : List Y) → T (x ∷ xs) (y ∷ ys) ≡ (S x y && T xs ys)) where
  -- lists of different lengths
  unlike : (xs ys : List X) → (length xs ≡ length ys → ⊥) → T (map h xs) (map h ys) ≡ false
  unlike [] [] n = absurd (n refl)
  unlike [] (y ∷ ys) n = left (h y) (map h ys)
  unlike (x ∷ xs) [] n = right (h x) (map h xs)
  unlike (x ∷ xs) (y ∷ ys) n =
      more (h x) (h y) (map h xs) (map h ys) ∙ ap (λ b. S (h x) (h y) && b) (unlike xs ys (λ e. n (ap suc e))) ∙ and_no (S (h x) (h y))
    where
      and_no : (b : Bool) → (b && false) ≡ false
      and_no true = refl
      and_no false = refl

  rest : (xs : List X) (i : ℕ) (x : X) → i < length xs → x ≡ get_or xs i x → drop i (map h xs) ≡ h x ∷ drop (suc i) (map h xs)
  rest [] i x lt e = absurd (omega arith)
  rest (z ∷ zs) zero x lt e = λ j. h (sym e j) ∷ map h zs
  rest (z ∷ zs) (suc i) x lt e = rest zs i x (omega arith) e

  ended : (xs : List X) (i : ℕ) → length xs ≤ i → drop i (map h xs) ≡ []
  ended [] zero le = refl
  ended [] (suc i) le = refl
  ended (x ∷ xs) zero le = absurd (omega arith)
  ended (x ∷ xs) (suc i) le = ended xs i (omega arith)

  step : (xs ys : List X) (i : ℕ) (x y : X) → i < length xs → i < length ys → x ≡ get_or xs i x → y ≡ get_or ys i y → T (drop i (map h xs)) (drop i (map h ys)) ≡ (S (h x) (h y) && T (drop (i + 1) (map h xs)) (drop (i + 1) (map h ys)))
  step xs ys i x y lt k e f =
      rw (add-one) ((λ j. T (rest xs i x lt e j) (rest ys i y k f j)) ∙ more (h x) (h y) (drop (suc i) (map h xs)) (drop (suc i) (map h ys)))

  module _ (xs ys : List X) (vs ws : List Y) (p : map h xs ≡ vs) (q : map h ys ≡ ws) where
    lengths_differ : (length xs ≡ length ys → ⊥) → false ≡ T vs ws
    lengths_differ n = rw (← p, ← q) (sym (unlike xs ys n))

    all_done : (i : ℕ) → length xs ≤ i → length xs ≡ length ys → T (drop i vs) (drop i ws) ≡ T vs ws → true ≡ T vs ws
    all_done i le same so_far =
        sym (rw (← p, ← q) ((λ j. T (ended xs i le j) (ended ys i (omega arith) j)) ∙ none)) ∙ so_far

    module _ (i : ℕ) (x y : X) (r : Bool) (lt : i < length xs) (same : length xs ≡ length ys) (e : x ≡ get_or xs i x) (f : y ≡ get_or ys i y) (so_far : T (drop i vs) (drop i ws) ≡ T vs ws) (is : r ≡ S (h x) (h y)) where
      here : T (drop i vs) (drop i ws) ≡ (r && T (drop (i + 1) vs) (drop (i + 1) ws))
      here = rw (is, ← p, ← q) (step xs ys i x y lt (omega arith) e f)

      item_differs : r ≡ false → false ≡ T vs ws
      item_differs off = sym (here ∙ ap (λ b. b && T (drop (i + 1) vs) (drop (i + 1) ws)) off) ∙ so_far

      goes_on : r ≡ true → T (drop (i + 1) vs) (drop (i + 1) ws) ≡ T vs ws
      goes_on on = sym (here ∙ ap (λ b. b && T (drop (i + 1) vs) (drop (i + 1) ws)) on) ∙ so_far

-- ---- patterns

pub patterns_differ : (xs ys : List Shape) (vs ws : List Pattern) → map pattern_of xs ≡ vs → map pattern_of ys ≡ ws → (length xs ≡ length ys → ⊥) → false ≡ same_pattern_list vs ws
patterns_differ = lengths_differ pattern_of same_pattern same_pattern_list refl (λ y ys. refl) (λ x xs. refl) (λ x y xs ys. refl)

pub patterns_done : (xs ys : List Shape) (vs ws : List Pattern) → map pattern_of xs ≡ vs → map pattern_of ys ≡ ws → (i : ℕ) → length xs ≤ i → length xs ≡ length ys → same_pattern_list (drop i vs) (drop i ws) ≡ same_pattern_list vs ws → true ≡ same_pattern_list vs ws
patterns_done = all_done pattern_of same_pattern same_pattern_list refl (λ y ys. refl) (λ x xs. refl) (λ x y xs ys. refl)

pub pattern_differs : (xs ys : List Shape) (vs ws : List Pattern) → map pattern_of xs ≡ vs → map pattern_of ys ≡ ws → (i : ℕ) (x y : Shape) (r : Bool) → i < length xs → length xs ≡ length ys → x ≡ get_or xs i x → y ≡ get_or ys i y → same_pattern_list (drop i vs) (drop i ws) ≡ same_pattern_list vs ws → r ≡ same_pattern (pattern_of x) (pattern_of y) → r ≡ false → false ≡ same_pattern_list vs ws
pattern_differs = item_differs pattern_of same_pattern same_pattern_list refl (λ y ys. refl) (λ x xs. refl) (λ x y xs ys. refl)

pub patterns_go_on : (xs ys : List Shape) (vs ws : List Pattern) → map pattern_of xs ≡ vs → map pattern_of ys ≡ ws → (i : ℕ) (x y : Shape) (r : Bool) → i < length xs → length xs ≡ length ys → x ≡ get_or xs i x → y ≡ get_or ys i y → same_pattern_list (drop i vs) (drop i ws) ≡ same_pattern_list vs ws → r ≡ same_pattern (pattern_of x) (pattern_of y) → r ≡ true → same_pattern_list (drop (i + 1) vs) (drop (i + 1) ws) ≡ same_pattern_list vs ws
patterns_go_on = goes_on pattern_of same_pattern same_pattern_list refl (λ y ys. refl) (λ x xs. refl) (λ x y xs ys. refl)

-- ---- expressions

abbrev pub same_rows : List Tree → List Tree → Bool
same_rows ts us = same_trees (trees_of ts) (trees_of us)

pub rows_differ : (xs ys : List Expr) (vs ws : List Tree) → map tree_of xs ≡ vs → map tree_of ys ≡ ws → (length xs ≡ length ys → ⊥) → false ≡ same_rows vs ws
rows_differ = lengths_differ tree_of same_tree same_rows refl (λ y ys. refl) (λ x xs. refl) (λ x y xs ys. refl)

pub rows_done : (xs ys : List Expr) (vs ws : List Tree) → map tree_of xs ≡ vs → map tree_of ys ≡ ws → (i : ℕ) → length xs ≤ i → length xs ≡ length ys → same_rows (drop i vs) (drop i ws) ≡ same_rows vs ws → true ≡ same_rows vs ws
rows_done = all_done tree_of same_tree same_rows refl (λ y ys. refl) (λ x xs. refl) (λ x y xs ys. refl)

pub expr_differs : (xs ys : List Expr) (vs ws : List Tree) → map tree_of xs ≡ vs → map tree_of ys ≡ ws → (i : ℕ) (x y : Expr) (r : Bool) → i < length xs → length xs ≡ length ys → x ≡ get_or xs i x → y ≡ get_or ys i y → same_rows (drop i vs) (drop i ws) ≡ same_rows vs ws → r ≡ same_tree (tree_of x) (tree_of y) → r ≡ false → false ≡ same_rows vs ws
expr_differs = item_differs tree_of same_tree same_rows refl (λ y ys. refl) (λ x xs. refl) (λ x y xs ys. refl)

pub rows_go_on : (xs ys : List Expr) (vs ws : List Tree) → map tree_of xs ≡ vs → map tree_of ys ≡ ws → (i : ℕ) (x y : Expr) (r : Bool) → i < length xs → length xs ≡ length ys → x ≡ get_or xs i x → y ≡ get_or ys i y → same_rows (drop i vs) (drop i ws) ≡ same_rows vs ws → r ≡ same_tree (tree_of x) (tree_of y) → r ≡ true → same_rows (drop (i + 1) vs) (drop (i + 1) ws) ≡ same_rows vs ws
rows_go_on = goes_on tree_of same_tree same_rows refl (λ y ys. refl) (λ x xs. refl) (λ x y xs ys. refl)

-- ---- clauses

abbrev pub same_choices : List ClauseTree → List ClauseTree → Bool
same_choices cs ds = same_clauses (clauses_of cs) (clauses_of ds)

abbrev itself_of : ClauseTree → ClauseTree
itself_of c = c

all_themselves : (cs : List ClauseTree) → map itself_of cs ≡ cs
all_themselves [] = refl
all_themselves (c ∷ cs) = λ i. c ∷ all_themselves cs i

pub choices_differ : (xs ys : List ClauseTree) (vs ws : List ClauseTree) → xs ≡ vs → ys ≡ ws → (length xs ≡ length ys → ⊥) → false ≡ same_choices vs ws
choices_differ xs ys vs ws p q = lengths_differ itself_of same_clause same_choices refl (λ y ys. refl) (λ x xs. refl) (λ x y xs ys. refl) xs ys vs ws (all_themselves xs ∙ p) (all_themselves ys ∙ q)

pub choices_done : (xs ys : List ClauseTree) (vs ws : List ClauseTree) → xs ≡ vs → ys ≡ ws → (i : ℕ) → length xs ≤ i → length xs ≡ length ys → same_choices (drop i vs) (drop i ws) ≡ same_choices vs ws → true ≡ same_choices vs ws
choices_done xs ys vs ws p q = all_done itself_of same_clause same_choices refl (λ y ys. refl) (λ x xs. refl) (λ x y xs ys. refl) xs ys vs ws (all_themselves xs ∙ p) (all_themselves ys ∙ q)

pub clause_differs : (xs ys : List ClauseTree) (vs ws : List ClauseTree) → xs ≡ vs → ys ≡ ws → (i : ℕ) (x y : ClauseTree) (r : Bool) → i < length xs → length xs ≡ length ys → x ≡ get_or xs i x → y ≡ get_or ys i y → same_choices (drop i vs) (drop i ws) ≡ same_choices vs ws → r ≡ same_clause x y → r ≡ false → false ≡ same_choices vs ws
clause_differs xs ys vs ws p q = item_differs itself_of same_clause same_choices refl (λ y ys. refl) (λ x xs. refl) (λ x y xs ys. refl) xs ys vs ws (all_themselves xs ∙ p) (all_themselves ys ∙ q)

pub choices_go_on : (xs ys : List ClauseTree) (vs ws : List ClauseTree) → xs ≡ vs → ys ≡ ws → (i : ℕ) (x y : ClauseTree) (r : Bool) → i < length xs → length xs ≡ length ys → x ≡ get_or xs i x → y ≡ get_or ys i y → same_choices (drop i vs) (drop i ws) ≡ same_choices vs ws → r ≡ same_clause x y → r ≡ true → same_choices (drop (i + 1) vs) (drop (i + 1) ws) ≡ same_choices vs ws
choices_go_on xs ys vs ws p q = goes_on itself_of same_clause same_choices refl (λ y ys. refl) (λ x xs. refl) (λ x y xs ys. refl) xs ys vs ws (all_themselves xs ∙ p) (all_themselves ys ∙ q)

-- ---- constants

abbrev pub same_values : List Constant → List Constant → Bool
same_values cs ds = same_constants (constants_of cs) (constants_of ds)

pub values_differ : (xs ys : List Const) (vs ws : List Constant) → map constant_of xs ≡ vs → map constant_of ys ≡ ws → (length xs ≡ length ys → ⊥) → false ≡ same_values vs ws
values_differ = lengths_differ constant_of same_constant same_values refl (λ y ys. refl) (λ x xs. refl) (λ x y xs ys. refl)

pub values_done : (xs ys : List Const) (vs ws : List Constant) → map constant_of xs ≡ vs → map constant_of ys ≡ ws → (i : ℕ) → length xs ≤ i → length xs ≡ length ys → same_values (drop i vs) (drop i ws) ≡ same_values vs ws → true ≡ same_values vs ws
values_done = all_done constant_of same_constant same_values refl (λ y ys. refl) (λ x xs. refl) (λ x y xs ys. refl)

pub const_differs : (xs ys : List Const) (vs ws : List Constant) → map constant_of xs ≡ vs → map constant_of ys ≡ ws → (i : ℕ) (x y : Const) (r : Bool) → i < length xs → length xs ≡ length ys → x ≡ get_or xs i x → y ≡ get_or ys i y → same_values (drop i vs) (drop i ws) ≡ same_values vs ws → r ≡ same_constant (constant_of x) (constant_of y) → r ≡ false → false ≡ same_values vs ws
const_differs = item_differs constant_of same_constant same_values refl (λ y ys. refl) (λ x xs. refl) (λ x y xs ys. refl)

pub values_go_on : (xs ys : List Const) (vs ws : List Constant) → map constant_of xs ≡ vs → map constant_of ys ≡ ws → (i : ℕ) (x y : Const) (r : Bool) → i < length xs → length xs ≡ length ys → x ≡ get_or xs i x → y ≡ get_or ys i y → same_values (drop i vs) (drop i ws) ≡ same_values vs ws → r ≡ same_constant (constant_of x) (constant_of y) → r ≡ true → same_values (drop (i + 1) vs) (drop (i + 1) ws) ≡ same_values vs ws
values_go_on = goes_on constant_of same_constant same_values refl (λ y ys. refl) (λ x xs. refl) (λ x y xs ys. refl)

-- ---- the entries of maps

-- two entries have one name, the same parameters and the same body
abbrev pub same_entry : Function × Definition → Function × Definition → Bool
same_entry p q =
    same_function p.0 q.0 && (pointwise same_mention p.1.parameters.items q.1.parameters.items && same_tree (tree_of p.1.body) (tree_of q.1.body))

-- names and definitions, as the definitions that they make
pub entries_same : (xs ys : List (Function × Definition)) → pointwise same_entry xs ys ≡ pointwise same_definition (map definition_of xs) (map definition_of ys)
entries_same xs ys = sym (pointwise-map definition_of same_definition xs ys)
