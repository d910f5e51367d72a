-- What each fault of scopes and names says is true.
use Rattle.std.proofs.Common.{◌≡◌, ℕ, Bool, true, false, cond, List, [], ◌∷◌, ◌++◌, Result, Ok, Err, refl, sym, ap, inl, inr, ◌⊎◌}
use Rattle.std.specs.Prelude.{Contains}
use Rattle.core_calls.specs.PureCalls.{is_of_dictionary}
use Rattle.core_tokens.specs.declared.fault.ReadFault.{ReadFault}
use Rattle.core_tokens.specs.declared.fault.ReadFault.TheVariants.{Unbound, DuplicateVariable, DuplicateFunction, NoFunction, UnsupportedCall, EffectInGuard, NoMain}
use Rattle.core_tree.specs.Syntax.{Mention, Function, NamedAt, Callee, Tree, Trees, Clauses, DefinitionTree, ModuleTree}
use Rattle.core_tree.specs.Callee as callees
use Rattle.core_tree.specs.Expression as trees
use Rattle.core_tree.specs.Functions.{same_function}
use Rattle.core_scopes.specs.Outcomes.{◌>>=◌}
use Rattle.core_scopes.specs.Scopes.{names, bound_by, Setting, guard_of, functions, setting_of, main_function}
use Rattle.core_scopes.specs.ScopeFaults.{Repeats, HasEffect, MayNotCall, Breaks, SomeBreaks, SomeClauseBreaks, SomeDefinitionBreaks, SomeExportBreaks, IsFaultOfModule}
use Rattle.core_scopes.specs.ScopeChecks.{Checked, is_among, check_variable, check_distinct, is_defined, check_effect, check_callee, check_tree, check_trees, check_clauses, check_definition, check_definitions, check_exports, check_module}
use Rattle.core_scopes.proofs.SameFunctions.{turned, turned_same, bytes_own, function_own, same_function_is}
use Rattle.core_scopes.proofs.Distinct.{any_contains, contains_any}

-- ---- steps

abbrev failed : ReadFault → Checked
failed f = Err f

abbrev passed : Checked
passed = Ok tt

abbrev failed_module : ReadFault → Result ModuleTree ReadFault
failed_module f = Err f

module_fault_is : (f g : ReadFault) → failed_module f ≡ failed_module g → f ≡ g
module_fault_is f g e = cc

fault_is : (f g : ReadFault) → failed f ≡ failed g → f ≡ g
fault_is f g e = cc

then_err : (c d : Checked) (f : ReadFault) → (c >>= λ _. d) ≡ Err f → (c ≡ Err f) ⊎ (d ≡ Err f)
then_err (Ok u) d f e = inr e
then_err (Err g) d f e = inl e

if_err : (b : Bool) (g : ReadFault) (c : Checked) (f : ReadFault) → cond b (Err g) c ≡ Err f → ((b ≡ true) × (f ≡ g)) ⊎ (c ≡ Err f)
if_err true g c f e = inl (refl, sym (fault_is g f e))
if_err false g c f e = inr e

unless_err : (b : Bool) (g : ReadFault) (c : Checked) (f : ReadFault) → cond b c (Err g) ≡ Err f → ((b ≡ false) × (f ≡ g)) ⊎ (c ≡ Err f)
unless_err true g c f e = inr e
unless_err false g c f e = inl (refl, sym (fault_is g f e))

among : (bound : List (List ℕ)) (name : List ℕ) → is_among bound name ≡ true → Contains bound name
among bound name e = any_contains turned turned_same bytes_own bound name e

not_among : (bound : List (List ℕ)) (name : List ℕ) → is_among bound name ≡ false → ¬ (Contains bound name)
not_among bound name e h = let there : is_among bound name ≡ true = contains_any turned turned_same bytes_own bound name h in absurd (cc (e, there))

defined : (fs : List Function) (f : Function) → is_defined fs f ≡ true → Contains fs f
defined fs f e = any_contains same_function same_function_is function_own fs f e

not_defined : (fs : List Function) (f : Function) → is_defined fs f ≡ false → ¬ (Contains fs f)
not_defined fs f e h = let there : is_defined fs f ≡ true = contains_any same_function same_function_is function_own fs f h in absurd (cc (e, there))

repeats : (before : List (List ℕ)) (vs : List Mention) (f : ReadFault) → check_distinct before vs ≡ Err f → Repeats before vs f
unfolding check_distinct
repeats before [] f e = absurd cc
repeats before (v ∷ vs) f e =
    elim (if_err (is_among before v.name) (DuplicateVariable v.at) (check_distinct (before ++ v.name ∷ []) vs) f e) [
      | inl g ↦ inl (among before v.name g.0, g.1)
      | inr g ↦ inr (repeats (before ++ v.name ∷ []) vs f g)
    ]

effect : (x : Setting) (at : ℕ) (f : ReadFault) → check_effect x at ≡ Err f → HasEffect x at f
effect x at f e =
    elim (if_err x.in_guard (EffectInGuard at) (Ok tt) f e) [
      | inl g ↦ (g.0, g.1)
      | inr g ↦ absurd cc
    ]

own : (x : Setting) (at : ℕ) (b : Bool) (f : ReadFault) → cond b (check_effect x at) (Ok tt) ≡ Err f → (b ≡ true) × HasEffect x at f
own x at true f e = (refl, effect x at f e)
own x at false f e = absurd cc

calls : (x : Setting) (at : ℕ) (c : Callee) (f : ReadFault) → check_callee x at c ≡ Err f → MayNotCall x at c f
calls x at (callees.World kind) f e = effect x at f e
calls x at (callees.Pure kind) f e = own x at (is_of_dictionary kind) f e
calls x at (callees.Exported d) f e =
    elim (unless_err (is_defined x.exported d) (UnsupportedCall at) (check_effect x at) f e) [
      | inl g ↦ inl (not_defined x.exported d g.0, g.1)
      | inr g ↦ inr (effect x at f g)
    ]
calls x at (callees.Defined n) f e =
    let rest : Checked = cond (is_defined x.defined n.function) (Ok tt) (Err (NoFunction n.at)) in
    elim (then_err (check_effect x at) rest f e) [
      | inl g ↦ inl (effect x at f g)
      | inr g ↦ missing (unless_err (is_defined x.defined n.function) (NoFunction n.at) (Ok tt) f g)
    ]
  where
    missing : ((is_defined x.defined n.function ≡ false) × (f ≡ NoFunction n.at)) ⊎ (passed ≡ Err f) → MayNotCall x at (callees.Defined n) f
    missing (inl g) = inr (not_defined x.defined n.function g.0, g.1)
    missing (inr g) = absurd cc
calls x at callees.MatchFail f e = effect x at f e
calls x at callees.Raise f e = effect x at f e

variable : (bound : List (List ℕ)) (v : Mention) (f : ReadFault) → check_variable bound v ≡ Err f → ¬ (Contains bound v.name) × (f ≡ Unbound v.at)
variable bound v f e =
    elim (unless_err (is_among bound v.name) (Unbound v.at) (Ok tt) f e) [
      | inl g ↦ (not_among bound v.name g.0, g.1)
      | inr g ↦ absurd cc
    ]

mutual
  tree_breaks : (x : Setting) (bound : List (List ℕ)) (t : Tree) (f : ReadFault) → check_tree x bound t ≡ Err f → Breaks x bound t f
  tree_breaks x bound (trees.Integer n) f e = absurd cc
  tree_breaks x bound (trees.Character c) f e = absurd cc
  tree_breaks x bound (trees.Text cs) f e = absurd cc
  tree_breaks x bound (trees.Atom t) f e = absurd cc
  tree_breaks x bound (trees.Variable v) f e = variable bound v f e
  tree_breaks x bound (trees.Tuple ts) f e = trees_break x bound ts f e
  tree_breaks x bound (trees.List ts) f e = trees_break x bound ts f e
  tree_breaks x bound (trees.Onto ts t) f e =
      elim (then_err (check_trees x bound ts) (check_tree x bound t) f e) [
        | inl g ↦ inl (trees_break x bound ts f g)
        | inr g ↦ inr (tree_breaks x bound t f g)
      ]
  tree_breaks x bound (trees.Values ts) f e = trees_break x bound ts f e
  tree_breaks x bound (trees.Let vs t u) f e =
      elim (then_err (check_distinct [] vs) (check_tree x bound t >>= λ _. check_tree x (names vs ++ bound) u) f e) [
        | inl g ↦ inl (repeats [] vs f g)
        | inr g ↦ inr (elim (then_err (check_tree x bound t) (check_tree x (names vs ++ bound) u) f g) [
          | inl i ↦ inl (tree_breaks x bound t f i)
          | inr i ↦ inr (tree_breaks x (names vs ++ bound) u f i)
        ])
      ]
  tree_breaks x bound (trees.Case at t cs) f e =
      elim (then_err (check_tree x bound t) (check_clauses x bound cs) f e) [
        | inl g ↦ inl (tree_breaks x bound t f g)
        | inr g ↦ inr (clauses_break x bound cs f g)
      ]
  tree_breaks x bound (trees.Do t u) f e =
      elim (then_err (check_tree x bound t) (check_tree x bound u) f e) [
        | inl g ↦ inl (tree_breaks x bound t f g)
        | inr g ↦ inr (tree_breaks x bound u f g)
      ]
  tree_breaks x bound (trees.Call at c ts) f e =
      elim (then_err (check_callee x at c) (check_trees x bound ts) f e) [
        | inl g ↦ inl (calls x at c f g)
        | inr g ↦ inr (trees_break x bound ts f g)
      ]
  tree_breaks x bound (trees.Try at t vs u ws z) f e =
      elim (then_err (check_tree x bound t) (check_distinct [] vs >>= λ _. check_tree x (names vs ++ bound) u >>= λ _. check_distinct [] ws >>= λ _. check_tree x (names ws ++ bound) z) f e) [
        | inl g ↦ inl (tree_breaks x bound t f g)
        | inr g ↦ inr (elim (then_err (check_distinct [] vs) (check_tree x (names vs ++ bound) u >>= λ _. check_distinct [] ws >>= λ _. check_tree x (names ws ++ bound) z) f g) [
          | inl i ↦ inl (repeats [] vs f i)
          | inr i ↦ inr (elim (then_err (check_tree x (names vs ++ bound) u) (check_distinct [] ws >>= λ _. check_tree x (names ws ++ bound) z) f i) [
            | inl j ↦ inl (tree_breaks x (names vs ++ bound) u f j)
            | inr j ↦ inr (elim (then_err (check_distinct [] ws) (check_tree x (names ws ++ bound) z) f j) [
              | inl l ↦ inl (repeats [] ws f l)
              | inr l ↦ inr (tree_breaks x (names ws ++ bound) z f l)
            ])
          ])
        ])
      ]
  tree_breaks x bound (trees.Catch at t) f e = tree_breaks x bound t f e
  tree_breaks x bound (trees.Receive at cs t u) f e =
      elim (then_err (check_effect x at) (check_clauses x bound cs >>= λ _. check_tree x bound t >>= λ _. check_tree x bound u) f e) [
        | inl g ↦ inl (effect x at f g)
        | inr g ↦ inr (elim (then_err (check_clauses x bound cs) (check_tree x bound t >>= λ _. check_tree x bound u) f g) [
          | inl i ↦ inl (clauses_break x bound cs f i)
          | inr i ↦ inr (elim (then_err (check_tree x bound t) (check_tree x bound u) f i) [
            | inl j ↦ inl (tree_breaks x bound t f j)
            | inr j ↦ inr (tree_breaks x bound u f j)
          ])
        ])
      ]

  trees_break : (x : Setting) (bound : List (List ℕ)) (ts : Trees) (f : ReadFault) → check_trees x bound ts ≡ Err f → SomeBreaks x bound ts f
  trees_break x bound trees.NoMore f e = absurd cc
  trees_break x bound (trees.Also t ts) f e =
      elim (then_err (check_tree x bound t) (check_trees x bound ts) f e) [
        | inl g ↦ inl (tree_breaks x bound t f g)
        | inr g ↦ inr (trees_break x bound ts f g)
      ]

  clauses_break : (x : Setting) (bound : List (List ℕ)) (cs : Clauses) (f : ReadFault) → check_clauses x bound cs ≡ Err f → SomeClauseBreaks x bound cs f
  clauses_break x bound trees.NoClause f e = absurd cc
  clauses_break x bound (trees.Clause qs g b cs) f e =
      elim (then_err (check_distinct [] (bound_by qs)) (check_tree (guard_of x) (names (bound_by qs) ++ bound) g >>= λ _. check_tree x (names (bound_by qs) ++ bound) b >>= λ _. check_clauses x bound cs) f e) [
        | inl i ↦ inl (repeats [] (bound_by qs) f i)
        | inr i ↦ inr (elim (then_err (check_tree (guard_of x) (names (bound_by qs) ++ bound) g) (check_tree x (names (bound_by qs) ++ bound) b >>= λ _. check_clauses x bound cs) f i) [
          | inl j ↦ inl (tree_breaks (guard_of x) (names (bound_by qs) ++ bound) g f j)
          | inr j ↦ inr (elim (then_err (check_tree x (names (bound_by qs) ++ bound) b) (check_clauses x bound cs) f j) [
            | inl l ↦ inl (tree_breaks x (names (bound_by qs) ++ bound) b f l)
            | inr l ↦ inr (clauses_break x bound cs f l)
          ])
        ])
      ]

-- ---- definitions

definitions_break : (x : Setting) (before : List Function) (ds : List DefinitionTree) (f : ReadFault) → check_definitions x before ds ≡ Err f → SomeDefinitionBreaks x before ds f
unfolding check_definitions check_definition
definitions_break x before [] f e = absurd cc
definitions_break x before (d ∷ ds) f e =
    elim (if_err (is_defined before d.named.function) (DuplicateFunction d.named.at) (check_definition x d >>= λ _. check_definitions x (before ++ d.named.function ∷ []) ds) f e) [
      | inl g ↦ inl (defined before d.named.function g.0, g.1)
      | inr g ↦ inr (elim (then_err (check_definition x d) (check_definitions x (before ++ d.named.function ∷ []) ds) f g) [
        | inl i ↦ elim (then_err (check_distinct [] d.parameters) (check_tree x (names d.parameters) d.body) f i) [
          | inl j ↦ inl (repeats [] d.parameters f j)
          | inr j ↦ inr (inl (tree_breaks x (names d.parameters) d.body f j))
        ]
        | inr i ↦ inr (inr (definitions_break x (before ++ d.named.function ∷ []) ds f i))
      ])
    ]

exports_break : (fs : List Function) (es : List NamedAt) (f : ReadFault) → check_exports fs es ≡ Err f → SomeExportBreaks fs es f
unfolding check_exports
exports_break fs [] f e = absurd cc
exports_break fs (n ∷ es) f e =
    elim (unless_err (is_defined fs n.function) (NoFunction n.at) (check_exports fs es) f e) [
      | inl g ↦ inl (not_defined fs n.function g.0, g.1)
      | inr g ↦ inr (exports_break fs es f g)
    ]

-- ---- modules

main_missing : (b : Bool) (m : ModuleTree) (at : ℕ) (f : ReadFault) → cond b (Ok m) (Err (NoMain at)) ≡ failed_module f → (b ≡ false) × (f ≡ NoMain at)
main_missing true m at f e = absurd cc
main_missing false m at f e = (refl, sym (module_fault_is (NoMain at) f e))

then_fails : (c : Checked) (r : Result ModuleTree ReadFault) (f : ReadFault) → (c >>= λ _. r) ≡ Err f → (c ≡ Err f) ⊎ (r ≡ Err f)
then_fails (Ok u) r f e = inr e
then_fails (Err g) r f e = inl (ap failed (module_fault_is g f e))

pub module_breaks : (m : ModuleTree) (end : ℕ) (f : ReadFault) → check_module (m, end) ≡ Err f → IsFaultOfModule m end f
unfolding check_module
module_breaks m end f e =
    let rest : Result ModuleTree ReadFault = cond (is_defined (functions m.definitions) main_function) (Ok m) (Err (NoMain end)) in
    elim (then_fails (check_exports (functions m.definitions) m.exports) (check_definitions (setting_of m) [] m.definitions >>= λ _. rest) f e) [
      | inl g ↦ inl (inl (exports_break (functions m.definitions) m.exports f g))
      | inr g ↦ elim (then_fails (check_definitions (setting_of m) [] m.definitions) rest f g) [
        | inl i ↦ inl (inr (definitions_break (setting_of m) [] m.definitions f i))
        | inr i ↦
            let j = main_missing (is_defined (functions m.definitions) main_function) m end f i in
            inr (j.1, not_defined (functions m.definitions) main_function j.0)
      ]
    ]
