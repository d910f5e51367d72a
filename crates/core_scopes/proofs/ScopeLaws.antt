-- Looking for faults of scopes finds none where, and only where, the module is closed.
use Rattle.std.proofs.Common.{◌≡◌, ℕ, Bool, true, false, ◌&&◌, cond, List, [], ◌∷◌, ◌++◌, Result, Ok, Err, refl}
use Rattle.std.specs.Prelude.{Contains}
use Rattle.core_calls.specs.PureCalls.{is_of_dictionary}
use Rattle.core_tokens.specs.declared.fault.ReadFault.{ReadFault}
use Rattle.core_tokens.specs.declared.fault.ReadFault.TheVariants.{Unbound, DuplicateVariable, DuplicateFunction, NoFunction, UnsupportedCall, EffectInGuard, NoMain}
use Rattle.core_tree.specs.Syntax.{Mention, Function, NamedAt, Callee, Tree, Trees, Clauses, DefinitionTree, ModuleTree}
use Rattle.core_tree.specs.Callee as callees
use Rattle.core_tree.specs.Expression as trees
use Rattle.core_tree.specs.Functions.{same_function}
use Rattle.core_scopes.specs.Outcomes.{◌>>=◌}
use Rattle.core_scopes.specs.Scopes.{names, bound_by, AreDistinct, Setting, guard_of, MayCall, IsClosed, AreClosed, AreClosedClauses, functions, setting_of, IsClosedDefinition, AreClosedDefinitions, AreDefined, main_function, IsLawful}
use Rattle.core_scopes.specs.ScopeChecks.{Checked, is_among, check_variable, check_distinct, is_defined, check_effect, check_callee, check_tree, check_trees, check_clauses, check_definition, check_definitions, check_exports, check_module}
use Rattle.core_scopes.proofs.SameFunctions.{turned, turned_same, bytes_own, function_own, same_function_is}
use Rattle.core_scopes.proofs.Distinct.{any_contains, contains_any, Disjoint, nothing_before, fresh_first, not_in, no_before, move_on}

-- ---- steps

fine : Checked → Type 0
fine c = c ≡ Ok tt

then_ok : (c d : Checked) → (c >>= λ _. d) ≡ Ok tt → (c ≡ Ok tt) × (d ≡ Ok tt)
then_ok (Ok u) d e = (refl, e)
then_ok (Err f) d e = absurd cc

both_ok : (c d : Checked) → c ≡ Ok tt → d ≡ Ok tt → (c >>= λ _. d) ≡ Ok tt
both_ok c d e h = rw (e, h) refl

if_ok : (b : Bool) (f : ReadFault) (c : Checked) → cond b (Err f) c ≡ Ok tt → (b ≡ false) × (c ≡ Ok tt)
if_ok true f c e = absurd cc
if_ok false f c e = (refl, e)

if_fine : (b : Bool) (f : ReadFault) (c : Checked) → cond b c (Err f) ≡ Ok tt → (b ≡ true) × (c ≡ Ok tt)
if_fine true f c e = (refl, e)
if_fine false f c e = absurd cc

-- ---- variables

distinct_found : (before : List (List ℕ)) (vs : List Mention) → check_distinct before vs ≡ Ok tt → Disjoint turned turned_same bytes_own before (names vs) × AreDistinct (names vs)
unfolding check_distinct
distinct_found before [] e = (λ k h g. absurd cc, tt)
distinct_found before (v ∷ vs) e =
    let h = if_ok (is_among before v.name) (DuplicateVariable v.at) (check_distinct (before ++ v.name ∷ []) vs) e in
    let g = distinct_found (before ++ v.name ∷ []) vs h.1 in
    (fresh_first turned turned_same bytes_own before (names vs) v.name h.0 g.0, (not_in turned turned_same bytes_own before (names vs) v.name g.0, g.1))

found_distinct : (before : List (List ℕ)) (vs : List Mention) → Disjoint turned turned_same bytes_own before (names vs) → AreDistinct (names vs) → check_distinct before vs ≡ Ok tt
unfolding check_distinct
found_distinct before [] apart h = refl
found_distinct before (v ∷ vs) apart h =
    let fresh : is_among before v.name ≡ false = no_before turned turned_same bytes_own before (names vs) v.name apart in
    let rest : check_distinct (before ++ v.name ∷ []) vs ≡ Ok tt = found_distinct (before ++ v.name ∷ []) vs (move_on turned turned_same bytes_own before (names vs) v.name apart h.0) h.1 in
    rw fresh rest

-- ---- expressions

variable_found : (bound : List (List ℕ)) (v : Mention) → check_variable bound v ≡ Ok tt → Contains bound v.name
variable_found bound v e = any_contains turned turned_same bytes_own bound v.name (if_fine (is_among bound v.name) (Unbound v.at) (Ok tt) e).0

found_variable : (bound : List (List ℕ)) (v : Mention) → Contains bound v.name → check_variable bound v ≡ Ok tt
found_variable bound v h =
    let there : is_among bound v.name ≡ true = contains_any turned turned_same bytes_own bound v.name h in
    rw there refl

-- ---- calls

effect_found : (x : Setting) (at : ℕ) → check_effect x at ≡ Ok tt → x.in_guard ≡ false
effect_found x at e = (if_ok x.in_guard (EffectInGuard at) (Ok tt) e).0

found_effect : (x : Setting) (at : ℕ) → x.in_guard ≡ false → check_effect x at ≡ Ok tt
found_effect x at h = rw h refl

own_found : (x : Setting) (at : ℕ) (b : Bool) → cond b (check_effect x at) (Ok tt) ≡ Ok tt → (x.in_guard && b) ≡ false
own_found x at true e = rw (effect_found x at e) refl
own_found x at false e = never x.in_guard
  where
    never : (b : Bool) → (b && false) ≡ false
    never true = refl
    never false = refl

found_own : (x : Setting) (at : ℕ) (b : Bool) → (x.in_guard && b) ≡ false → cond b (check_effect x at) (Ok tt) ≡ Ok tt
found_own x at true h = found_effect x at (both x.in_guard h)
  where
    both : (b : Bool) → (b && true) ≡ false → b ≡ false
    both true e = absurd cc
    both false e = refl
found_own x at false h = refl

defined_found : (defined : List Function) (f : Function) (e : is_defined defined f ≡ true) → Contains defined f
defined_found defined f e = any_contains same_function same_function_is function_own defined f e

found_defined : (defined : List Function) (f : Function) → Contains defined f → is_defined defined f ≡ true
found_defined defined f h = contains_any same_function same_function_is function_own defined f h

callee_found : (x : Setting) (at : ℕ) (c : Callee) → check_callee x at c ≡ Ok tt → MayCall x c
callee_found x at (callees.World kind) e = effect_found x at e
callee_found x at (callees.Pure kind) e = own_found x at (is_of_dictionary kind) e
callee_found x at (callees.Exported f) e =
    let h = if_fine (is_defined x.exported f) (UnsupportedCall at) (check_effect x at) e in
    (defined_found x.exported f h.0, effect_found x at h.1)
callee_found x at (callees.Defined n) e =
    let rest : Checked = cond (is_defined x.defined n.function) (Ok tt) (Err (NoFunction n.at)) in
    let h = then_ok (check_effect x at) rest e in
    (effect_found x at h.0, defined_found x.defined n.function (if_fine (is_defined x.defined n.function) (NoFunction n.at) (Ok tt) h.1).0)
callee_found x at callees.MatchFail e = effect_found x at e
callee_found x at callees.Raise e = effect_found x at e

found_callee : (x : Setting) (at : ℕ) (c : Callee) → MayCall x c → check_callee x at c ≡ Ok tt
found_callee x at (callees.World kind) h = found_effect x at h
found_callee x at (callees.Pure kind) h = found_own x at (is_of_dictionary kind) h
found_callee x at (callees.Exported f) h = rw (found_defined x.exported f h.0) (found_effect x at h.1)
found_callee x at (callees.Defined n) h =
    let rest : Checked = cond (is_defined x.defined n.function) (Ok tt) (Err (NoFunction n.at)) in
    let there : rest ≡ Ok tt = rw (found_defined x.defined n.function h.1) refl in
    both_ok (check_effect x at) rest (found_effect x at h.0) there
found_callee x at callees.MatchFail h = found_effect x at h
found_callee x at callees.Raise h = found_effect x at h

mutual
  tree_closed : (x : Setting) (bound : List (List ℕ)) (t : Tree) → check_tree x bound t ≡ Ok tt → IsClosed x bound t
  tree_closed x bound (trees.Integer n) e = tt
  tree_closed x bound (trees.Character c) e = tt
  tree_closed x bound (trees.Text cs) e = tt
  tree_closed x bound (trees.Atom t) e = tt
  tree_closed x bound (trees.Variable v) e = variable_found bound v e
  tree_closed x bound (trees.Tuple ts) e = trees_closed x bound ts e
  tree_closed x bound (trees.List ts) e = trees_closed x bound ts e
  tree_closed x bound (trees.Onto ts t) e = let h = then_ok (check_trees x bound ts) (check_tree x bound t) e in (trees_closed x bound ts h.0, tree_closed x bound t h.1)
  tree_closed x bound (trees.Values ts) e = trees_closed x bound ts e
  tree_closed x bound (trees.Let vs t u) e =
      let h = then_ok (check_distinct [] vs) (check_tree x bound t >>= λ _. check_tree x (names vs ++ bound) u) e in
      let g = then_ok (check_tree x bound t) (check_tree x (names vs ++ bound) u) h.1 in
      ((distinct_found [] vs h.0).1, tree_closed x bound t g.0, tree_closed x (names vs ++ bound) u g.1)
  tree_closed x bound (trees.Case at t cs) e = let h = then_ok (check_tree x bound t) (check_clauses x bound cs) e in (tree_closed x bound t h.0, clauses_closed x bound cs h.1)
  tree_closed x bound (trees.Do t u) e = let h = then_ok (check_tree x bound t) (check_tree x bound u) e in (tree_closed x bound t h.0, tree_closed x bound u h.1)
  tree_closed x bound (trees.Call at c ts) e = let h = then_ok (check_callee x at c) (check_trees x bound ts) e in (callee_found x at c h.0, trees_closed x bound ts h.1)
  tree_closed x bound (trees.Try at t vs u ws z) e =
      let h = then_ok (check_tree x bound t) (check_distinct [] vs >>= λ _. check_tree x (names vs ++ bound) u >>= λ _. check_distinct [] ws >>= λ _. check_tree x (names ws ++ bound) z) e in
      let g = then_ok (check_distinct [] vs) (check_tree x (names vs ++ bound) u >>= λ _. check_distinct [] ws >>= λ _. check_tree x (names ws ++ bound) z) h.1 in
      let i = then_ok (check_tree x (names vs ++ bound) u) (check_distinct [] ws >>= λ _. check_tree x (names ws ++ bound) z) g.1 in
      let j = then_ok (check_distinct [] ws) (check_tree x (names ws ++ bound) z) i.1 in
      (tree_closed x bound t h.0, (distinct_found [] vs g.0).1, tree_closed x (names vs ++ bound) u i.0, (distinct_found [] ws j.0).1, tree_closed x (names ws ++ bound) z j.1)
  tree_closed x bound (trees.Catch at t) e = tree_closed x bound t e
  tree_closed x bound (trees.Receive at cs t u) e =
      let h = then_ok (check_effect x at) (check_clauses x bound cs >>= λ _. check_tree x bound t >>= λ _. check_tree x bound u) e in
      let g = then_ok (check_clauses x bound cs) (check_tree x bound t >>= λ _. check_tree x bound u) h.1 in
      let i = then_ok (check_tree x bound t) (check_tree x bound u) g.1 in
      (effect_found x at h.0, clauses_closed x bound cs g.0, tree_closed x bound t i.0, tree_closed x bound u i.1)

  trees_closed : (x : Setting) (bound : List (List ℕ)) (ts : Trees) → check_trees x bound ts ≡ Ok tt → AreClosed x bound ts
  trees_closed x bound trees.NoMore e = tt
  trees_closed x bound (trees.Also t ts) e = let h = then_ok (check_tree x bound t) (check_trees x bound ts) e in (tree_closed x bound t h.0, trees_closed x bound ts h.1)

  clauses_closed : (x : Setting) (bound : List (List ℕ)) (cs : Clauses) → check_clauses x bound cs ≡ Ok tt → AreClosedClauses x bound cs
  clauses_closed x bound trees.NoClause e = tt
  clauses_closed x bound (trees.Clause qs g b cs) e =
      let h = then_ok (check_distinct [] (bound_by qs)) (check_tree (guard_of x) (names (bound_by qs) ++ bound) g >>= λ _. check_tree x (names (bound_by qs) ++ bound) b >>= λ _. check_clauses x bound cs) e in
      let i = then_ok (check_tree (guard_of x) (names (bound_by qs) ++ bound) g) (check_tree x (names (bound_by qs) ++ bound) b >>= λ _. check_clauses x bound cs) h.1 in
      let j = then_ok (check_tree x (names (bound_by qs) ++ bound) b) (check_clauses x bound cs) i.1 in
      ((distinct_found [] (bound_by qs) h.0).1, tree_closed (guard_of x) (names (bound_by qs) ++ bound) g i.0, tree_closed x (names (bound_by qs) ++ bound) b j.0, clauses_closed x bound cs j.1)

found_names : (vs : List Mention) → AreDistinct (names vs) → check_distinct [] vs ≡ Ok tt
found_names vs h = found_distinct [] vs (nothing_before turned turned_same bytes_own (names vs)) h

mutual
  closed_tree : (x : Setting) (bound : List (List ℕ)) (t : Tree) → IsClosed x bound t → check_tree x bound t ≡ Ok tt
  closed_tree x bound (trees.Integer n) h = refl
  closed_tree x bound (trees.Character c) h = refl
  closed_tree x bound (trees.Text cs) h = refl
  closed_tree x bound (trees.Atom t) h = refl
  closed_tree x bound (trees.Variable v) h = found_variable bound v h
  closed_tree x bound (trees.Tuple ts) h = closed_trees x bound ts h
  closed_tree x bound (trees.List ts) h = closed_trees x bound ts h
  closed_tree x bound (trees.Onto ts t) h = both_ok (check_trees x bound ts) (check_tree x bound t) (closed_trees x bound ts h.0) (closed_tree x bound t h.1)
  closed_tree x bound (trees.Values ts) h = closed_trees x bound ts h
  closed_tree x bound (trees.Let vs t u) h =
      both_ok (check_distinct [] vs) (check_tree x bound t >>= λ _. check_tree x (names vs ++ bound) u) (found_names vs h.0)
      (both_ok (check_tree x bound t) (check_tree x (names vs ++ bound) u) (closed_tree x bound t h.1) (closed_tree x (names vs ++ bound) u h.2))
  closed_tree x bound (trees.Case at t cs) h = both_ok (check_tree x bound t) (check_clauses x bound cs) (closed_tree x bound t h.0) (closed_clauses x bound cs h.1)
  closed_tree x bound (trees.Do t u) h = both_ok (check_tree x bound t) (check_tree x bound u) (closed_tree x bound t h.0) (closed_tree x bound u h.1)
  closed_tree x bound (trees.Call at c ts) h = both_ok (check_callee x at c) (check_trees x bound ts) (found_callee x at c h.0) (closed_trees x bound ts h.1)
  closed_tree x bound (trees.Try at t vs u ws z) h =
      both_ok (check_tree x bound t) (check_distinct [] vs >>= λ _. check_tree x (names vs ++ bound) u >>= λ _. check_distinct [] ws >>= λ _. check_tree x (names ws ++ bound) z) (closed_tree x bound t h.0)
      (both_ok (check_distinct [] vs) (check_tree x (names vs ++ bound) u >>= λ _. check_distinct [] ws >>= λ _. check_tree x (names ws ++ bound) z) (found_names vs h.1)
      (both_ok (check_tree x (names vs ++ bound) u) (check_distinct [] ws >>= λ _. check_tree x (names ws ++ bound) z) (closed_tree x (names vs ++ bound) u h.2)
      (both_ok (check_distinct [] ws) (check_tree x (names ws ++ bound) z) (found_names ws h.3) (closed_tree x (names ws ++ bound) z h.4))))
  closed_tree x bound (trees.Catch at t) h = closed_tree x bound t h
  closed_tree x bound (trees.Receive at cs t u) h =
      both_ok (check_effect x at) (check_clauses x bound cs >>= λ _. check_tree x bound t >>= λ _. check_tree x bound u) (found_effect x at h.0)
      (both_ok (check_clauses x bound cs) (check_tree x bound t >>= λ _. check_tree x bound u) (closed_clauses x bound cs h.1)
      (both_ok (check_tree x bound t) (check_tree x bound u) (closed_tree x bound t h.2) (closed_tree x bound u h.3)))

  closed_trees : (x : Setting) (bound : List (List ℕ)) (ts : Trees) → AreClosed x bound ts → check_trees x bound ts ≡ Ok tt
  closed_trees x bound trees.NoMore h = refl
  closed_trees x bound (trees.Also t ts) h = both_ok (check_tree x bound t) (check_trees x bound ts) (closed_tree x bound t h.0) (closed_trees x bound ts h.1)

  closed_clauses : (x : Setting) (bound : List (List ℕ)) (cs : Clauses) → AreClosedClauses x bound cs → check_clauses x bound cs ≡ Ok tt
  closed_clauses x bound trees.NoClause h = refl
  closed_clauses x bound (trees.Clause qs g b cs) h =
      both_ok (check_distinct [] (bound_by qs)) (check_tree (guard_of x) (names (bound_by qs) ++ bound) g >>= λ _. check_tree x (names (bound_by qs) ++ bound) b >>= λ _. check_clauses x bound cs) (found_names (bound_by qs) h.0)
      (both_ok (check_tree (guard_of x) (names (bound_by qs) ++ bound) g) (check_tree x (names (bound_by qs) ++ bound) b >>= λ _. check_clauses x bound cs) (closed_tree (guard_of x) (names (bound_by qs) ++ bound) g h.1)
      (both_ok (check_tree x (names (bound_by qs) ++ bound) b) (check_clauses x bound cs) (closed_tree x (names (bound_by qs) ++ bound) b h.2) (closed_clauses x bound cs h.3)))

-- ---- definitions

definition_closed : (x : Setting) (d : DefinitionTree) → check_definition x d ≡ Ok tt → IsClosedDefinition x d
unfolding check_definition
definition_closed x d e =
    let h = then_ok (check_distinct [] d.parameters) (check_tree x (names d.parameters) d.body) e in
    ((distinct_found [] d.parameters h.0).1, tree_closed x (names d.parameters) d.body h.1)

closed_definition : (x : Setting) (d : DefinitionTree) → IsClosedDefinition x d → check_definition x d ≡ Ok tt
unfolding check_definition
closed_definition x d h =
    both_ok (check_distinct [] d.parameters) (check_tree x (names d.parameters) d.body)
    (found_distinct [] d.parameters (nothing_before turned turned_same bytes_own (names d.parameters)) h.0) (closed_tree x (names d.parameters) d.body h.1)

definitions_closed : (x : Setting) (before : List Function) (ds : List DefinitionTree) → check_definitions x before ds ≡ Ok tt → Disjoint same_function same_function_is function_own before (functions ds) × AreDistinct (functions ds) × AreClosedDefinitions x ds
unfolding check_definitions
definitions_closed x before [] e = (λ k h g. absurd cc, tt, tt)
definitions_closed x before (d ∷ ds) e =
    let h = if_ok (is_defined before d.named.function) (DuplicateFunction d.named.at) (check_definition x d >>= λ _. check_definitions x (before ++ d.named.function ∷ []) ds) e in
    let g = then_ok (check_definition x d) (check_definitions x (before ++ d.named.function ∷ []) ds) h.1 in
    let i = definitions_closed x (before ++ d.named.function ∷ []) ds g.1 in (
      fresh_first same_function same_function_is function_own before (functions ds) d.named.function h.0 i.0,
      (not_in same_function same_function_is function_own before (functions ds) d.named.function i.0, i.1),
      (definition_closed x d g.0, i.2),
    )

closed_definitions : (x : Setting) (before : List Function) (ds : List DefinitionTree) → Disjoint same_function same_function_is function_own before (functions ds) → AreDistinct (functions ds) → AreClosedDefinitions x ds → check_definitions x before ds ≡ Ok tt
unfolding check_definitions
closed_definitions x before [] apart h g = refl
closed_definitions x before (d ∷ ds) apart h g =
    let fresh : is_defined before d.named.function ≡ false = no_before same_function same_function_is function_own before (functions ds) d.named.function apart in
    let rest : check_definitions x (before ++ d.named.function ∷ []) ds ≡ Ok tt = closed_definitions x (before ++ d.named.function ∷ []) ds (move_on same_function same_function_is function_own before (functions ds) d.named.function apart h.0) h.1 g.1 in
    rw fresh (both_ok (check_definition x d) (check_definitions x (before ++ d.named.function ∷ []) ds) (closed_definition x d g.0) rest)

exports_defined : (defined : List Function) (es : List NamedAt) → check_exports defined es ≡ Ok tt → AreDefined defined es
unfolding check_exports
exports_defined defined [] e = tt
exports_defined defined (x ∷ es) e =
    let h = if_fine (is_defined defined x.function) (NoFunction x.at) (check_exports defined es) e in
    (any_contains same_function same_function_is function_own defined x.function h.0, exports_defined defined es h.1)

defined_exports : (defined : List Function) (es : List NamedAt) → AreDefined defined es → check_exports defined es ≡ Ok tt
unfolding check_exports
defined_exports defined [] h = refl
defined_exports defined (x ∷ es) h =
    let there : is_defined defined x.function ≡ true = contains_any same_function same_function_is function_own defined x.function h.0 in
    rw there (defined_exports defined es h.1)

-- ---- modules

then_any : {A : Type 0} (c : Checked) (r : Result A ReadFault) (x : A) → (c >>= λ _. r) ≡ Ok x → (c ≡ Ok tt) × (r ≡ Ok x)
then_any (Ok u) r x e = (refl, e)
then_any (Err f) r x e = absurd cc

abbrev done : ModuleTree → Result ModuleTree ReadFault
done m = Ok m

module_is : (m x : ModuleTree) → done m ≡ done x → m ≡ x
module_is m x e = cc

main_there : (b : Bool) (m : ModuleTree) (at : ℕ) (x : ModuleTree) → cond b (Ok m) (Err (NoMain at)) ≡ Ok x → (b ≡ true) × (m ≡ x)
main_there true m at x e = (refl, module_is m x e)
main_there false m at x e = absurd cc

pub module_lawful : (m : ModuleTree) (at : ℕ) (x : ModuleTree) → check_module (m, at) ≡ Ok x → IsLawful m × (m ≡ x)
unfolding check_module
module_lawful m at x e =
    let rest : Result ModuleTree ReadFault = cond (is_defined (functions m.definitions) main_function) (Ok m) (Err (NoMain at)) in
    let h = then_any (check_exports (functions m.definitions) m.exports) (check_definitions (setting_of m) [] m.definitions >>= λ _. rest) x e in
    let g = then_any (check_definitions (setting_of m) [] m.definitions) rest x h.1 in
    let i = main_there (is_defined (functions m.definitions) main_function) m at x g.1 in
    let d = definitions_closed (setting_of m) [] m.definitions g.0 in (
      record {
        closed = d.2;
        distinct = d.1;
        exported = exports_defined (functions m.definitions) m.exports h.0;
        main = any_contains same_function same_function_is function_own (functions m.definitions) main_function i.0;
      },
      i.1,
    )

pub lawful_module : (m : ModuleTree) (at : ℕ) → IsLawful m → check_module (m, at) ≡ Ok m
unfolding check_module
lawful_module m at h =
    let one : check_exports (functions m.definitions) m.exports ≡ Ok tt = defined_exports (functions m.definitions) m.exports h.exported in
    let two : check_definitions (setting_of m) [] m.definitions ≡ Ok tt = closed_definitions (setting_of m) [] m.definitions (nothing_before same_function same_function_is function_own (functions m.definitions)) h.distinct h.closed in
    let three : is_defined (functions m.definitions) main_function ≡ true = contains_any same_function same_function_is function_own (functions m.definitions) main_function h.main in
    rw (one, two, three) refl
