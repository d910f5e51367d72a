-- Definitions gathered one by one.
use Rattle.std.proofs.Common.{◌≡◌, ◌≢◌, ℕ, zero, suc, slice_get, min, ◌+◌, ◌<◌, ◌≤◌, Bool, true, false, cond, ◌||◌, List, [], ◌∷◌, ◌++◌, length, map, get_or, take, drop, Option, Some, None, Result, Ok, Err, refl, sym, ap, subst, ◌∙◌, append_assoc, is_some, if◌then◌else◌, arith, length-append}
use Rattle.std.specs.List.{list_any}
use denote.Ref.{Bor}
use Rattle.std.specs.Map.{lookup}
use Rattle.std.proofs.lemmas.List.{map-append, append-nil, at_drop_all, take-append-le, length-map, length-take, get_or-take, get_or-map}
use Rattle.std.proofs.lemmas.Option.{get_or_from_slice_get}
use Rattle.core_calls.specs.PureCalls.{is_of_dictionary}
use Rattle.core_tokens.specs.declared.fault.ReadFault.{ReadFault}
use Rattle.core_tokens.specs.declared.fault.ReadFault.TheVariants.{DuplicateFunction, NoFunction, NoMain, EffectInGuard, Memory}
use Rattle.core_tree.specs.declared.module.Definition.{Definition}
use Rattle.core_tree.specs.Syntax.{Function, NamedAt, Callee, Tree, Trees, Clauses, DefinitionTree, ModuleTree}
use Rattle.core_tree.specs.Callee as callees
use Rattle.core_tree.specs.Expression as trees
use Rattle.core_tree.specs.Functions.{same_function}
use Rattle.core_tree.specs.Definitions.{definition_of, keys_in}
use Rattle.core_scopes.specs.declared.functions.Duplicate.{Duplicate}
use Rattle.core_scopes.specs.Scopes.{names, bound_by, Setting, guard_of, functions, exported_by, setting_of, main_function}
use Rattle.core_scopes.specs.Outcomes.{◌>>=◌, GivesUnlessMemory}
use Rattle.core_scopes.specs.ScopeChecks.{Checked, is_defined, check_callee, check_tree, check_trees, check_clauses, check_definition, check_definitions, check_exports, check_module}
use Rattle.core_scopes.specs.inside.Environment.{shown, check_bodies, check_kept, before_duplicate, fault_of_duplicate, first_duplicate, check_functions}
use Rattle.core_scopes.proofs.SameFunctions.{same_function_is}
use Rattle.core_scopes.proofs.ScopeLoops.{drop_item, drop_all}

-- whether a key is there, by its value
pub found_is_defined : (es : List (Function × Definition)) (f : Function) → is_some (lookup (same_function f) es) ≡ is_defined (keys_in es) f
found_is_defined [] f = refl
found_is_defined (e ∷ es) f = by (same_function f e.0) (found_is_defined es f)
  where
    by : (b : Bool) → is_some (lookup (same_function f) es) ≡ is_defined (keys_in es) f → is_some (cond b (Some e.1) (lookup (same_function f) es)) ≡ (b || is_defined (keys_in es) f)
    by true h = refl
    by false h = h

is_none : {T : Type 0} (o : Option T) → is_some o ≡ false → o ≡ None
is_none None e = refl
is_none (Some x) e = absurd cc

pub not_found : (es : List (Function × Definition)) (f : Function) → is_defined (keys_in es) f ≡ false → lookup (same_function f) es ≡ None
not_found es f e = is_none _ (found_is_defined es f ∙ e)

-- whether a borrowed name is there, by its value
pub among_exported : (ks : List (Bor Function)) (f : Function) → list_any (λ k. same_function f k.now) ks ≡ is_defined (shown ks) f
among_exported [] f = refl
among_exported (k ∷ ks) f = ap (λ (b : Bool). same_function f k.now || b) (among_exported ks f)

any_append : (xs ys : List Function) (f : Function) → is_defined (xs ++ ys) f ≡ (is_defined xs f || is_defined ys f)
any_append [] ys f = refl
any_append (x ∷ xs) ys f = ap (λ (b : Bool). same_function f x || b) (any_append xs ys f) ∙ or_assoc (same_function f x) (is_defined xs f) (is_defined ys f)
  where
    or_assoc : (a b c : Bool) → (a || (b || c)) ≡ ((a || b) || c)
    or_assoc true b c = refl
    or_assoc false b c = refl

-- ---- settings in which the same functions are defined and exported

abbrev pub Agrees : Setting → Setting → Type 0
Agrees x y = ((f : Function) → is_defined x.defined f ≡ is_defined y.defined f) × ((f : Function) → is_defined x.exported f ≡ is_defined y.exported f) × (x.in_guard ≡ y.in_guard)

guard_agrees : (x y : Setting) → Agrees x y → Agrees (guard_of x) (guard_of y)
guard_agrees x y same = (same.0, same.1, refl)

callee_agrees : (x y : Setting) → Agrees x y → (at : ℕ) (c : Callee) → check_callee x at c ≡ check_callee y at c
callee_agrees x y same at (callees.World kind) = ap (λ (b : Bool). if b then Err (EffectInGuard at) else Ok tt) same.2
callee_agrees x y same at (callees.Pure kind) = ap (λ (b : Bool). if is_of_dictionary kind then (if b then Err (EffectInGuard at) else Ok tt) else Ok tt) same.2
callee_agrees x y same at (callees.Exported f) = rw (same.1 f, same.2) refl
callee_agrees x y same at (callees.Defined n) = rw (same.0 n.function, same.2) refl
callee_agrees x y same at callees.MatchFail = ap (λ (b : Bool). if b then Err (EffectInGuard at) else Ok tt) same.2
callee_agrees x y same at callees.Raise = ap (λ (b : Bool). if b then Err (EffectInGuard at) else Ok tt) same.2

then_same : (a b c d : Checked) → a ≡ b → c ≡ d → (a >>= λ _. c) ≡ (b >>= λ _. d)
then_same a b c d e f = rw (e, f) refl

mutual
  tree_agrees : (x y : Setting) → Agrees x y → (bound : List (List ℕ)) (t : Tree) → check_tree x bound t ≡ check_tree y bound t
  tree_agrees x y same bound (trees.Integer n) = refl
  tree_agrees x y same bound (trees.Character c) = refl
  tree_agrees x y same bound (trees.Text cs) = refl
  tree_agrees x y same bound (trees.Atom t) = refl
  tree_agrees x y same bound (trees.Variable v) = refl
  tree_agrees x y same bound (trees.Tuple ts) = trees_agree x y same bound ts
  tree_agrees x y same bound (trees.List ts) = trees_agree x y same bound ts
  tree_agrees x y same bound (trees.Onto ts t) = then_same _ _ _ _ (trees_agree x y same bound ts) (tree_agrees x y same bound t)
  tree_agrees x y same bound (trees.Values ts) = trees_agree x y same bound ts
  tree_agrees x y same bound (trees.Let vs t u) = then_same _ _ _ _ refl (then_same _ _ _ _ (tree_agrees x y same bound t) (tree_agrees x y same (names vs ++ bound) u))
  tree_agrees x y same bound (trees.Case at t cs) = then_same _ _ _ _ (tree_agrees x y same bound t) (clauses_agree x y same bound cs)
  tree_agrees x y same bound (trees.Do t u) = then_same _ _ _ _ (tree_agrees x y same bound t) (tree_agrees x y same bound u)
  tree_agrees x y same bound (trees.Call at callee ts) = then_same _ _ _ _ (callee_agrees x y same at callee) (trees_agree x y same bound ts)
  tree_agrees x y same bound (trees.Try at t vs u ws h) =
      then_same _ _ _ _ (tree_agrees x y same bound t) (then_same _ _ _ _ refl (then_same _ _ _ _ (tree_agrees x y same (names vs ++ bound) u) (then_same _ _ _ _ refl (tree_agrees x y same (names ws ++ bound) h))))
  tree_agrees x y same bound (trees.Catch at t) = tree_agrees x y same bound t
  tree_agrees x y same bound (trees.Receive at cs t u) =
      then_same _ _ _ _ (ap (λ (b : Bool). if b then Err (EffectInGuard at) else Ok tt) same.2)
      (then_same _ _ _ _ (clauses_agree x y same bound cs) (then_same _ _ _ _ (tree_agrees x y same bound t) (tree_agrees x y same bound u)))

  trees_agree : (x y : Setting) → Agrees x y → (bound : List (List ℕ)) (ts : Trees) → check_trees x bound ts ≡ check_trees y bound ts
  trees_agree x y same bound trees.NoMore = refl
  trees_agree x y same bound (trees.Also t ts) = then_same _ _ _ _ (tree_agrees x y same bound t) (trees_agree x y same bound ts)

  clauses_agree : (x y : Setting) → Agrees x y → (bound : List (List ℕ)) (cs : Clauses) → check_clauses x bound cs ≡ check_clauses y bound cs
  clauses_agree x y same bound trees.NoClause = refl
  clauses_agree x y same bound (trees.Clause qs g b cs) =
      then_same _ _ _ _ refl (then_same _ _ _ _ (tree_agrees (guard_of x) (guard_of y) (guard_agrees x y same) (names (bound_by qs) ++ bound) g) (then_same _ _ _ _ (tree_agrees x y same (names (bound_by qs) ++ bound) b) (clauses_agree x y same bound cs)))

definition_agrees : (x y : Setting) → Agrees x y → (d : DefinitionTree) → check_definition x d ≡ check_definition y d
unfolding check_definition
definition_agrees x y same d = then_same _ _ _ _ refl (tree_agrees x y same (names d.parameters) d.body)

bodies_agree : (x y : Setting) → Agrees x y → (ds : List DefinitionTree) → check_bodies x ds ≡ check_bodies y ds
unfolding check_bodies
bodies_agree x y same [] = refl
bodies_agree x y same (d ∷ ds) = then_same _ _ _ _ (definition_agrees x y same d) (bodies_agree x y same ds)

pub kept_agree : (x y : Setting) → Agrees x y → (second : Option Duplicate) (es : List (Function × Definition)) → check_kept x second es ≡ check_kept y second es
kept_agree x y same second es = then_same _ _ _ _ (bodies_agree x y same (before_duplicate second (map definition_of es))) refl

-- ---- bodies one after the other

abbrev done : Checked
done = Ok tt

alone : (c rest : Checked) → ((c >>= λ _. done) >>= λ _. rest) ≡ (c >>= λ _. rest)
alone (Ok u) rest = refl
alone (Err e) rest = refl

never : (a b : Checked) (f : ReadFault) → (a >>= λ _. (b >>= λ _. Err f)) ≡ done → ⊥
never (Ok u) (Ok v) f h = absurd cc
never (Ok u) (Err g) f h = absurd cc
never (Err g) b f h = absurd cc

bodies_append : (x : Setting) (ds : List DefinitionTree) (d : DefinitionTree) (rest : Checked) → (check_bodies x (ds ++ d ∷ []) >>= λ _. rest) ≡ (check_bodies x ds >>= λ _. (check_definition x d >>= λ _. rest))
unfolding check_bodies
bodies_append x [] d rest = alone (check_definition x d) rest
bodies_append x (b ∷ bs) d rest = more (check_definition x b) (bodies_append x bs d rest)
  where
    more : (c : Checked) → (check_bodies x (bs ++ d ∷ []) >>= λ _. rest) ≡ (check_bodies x bs >>= λ _. (check_definition x d >>= λ _. rest))
        → ((c >>= λ _. check_bodies x (bs ++ d ∷ [])) >>= λ _. rest) ≡ ((c >>= λ _. check_bodies x bs) >>= λ _. (check_definition x d >>= λ _. rest))
    more (Ok u) ih = ih
    more (Err e) ih = refl

-- ---- what is gathered so far, and what is left

abbrev pub left : Setting → Option Duplicate → List (Function × Definition) → List DefinitionTree → Checked
left x None es rest = check_definitions x (keys_in es) rest
left x (Some s) es rest = Err (DuplicateFunction s.at)

abbrev pub IsBehind : Option Duplicate → ℕ → Type 0
IsBehind None n = Unit {0}
IsBehind (Some s) n = s.before ≤ n

pub record Gathering (all : List DefinitionTree) (second : Option Duplicate) (es : List (Function × Definition)) (rest : List DefinitionTree) : Type 0 where
  pub checked : (x : Setting) → (check_bodies x (before_duplicate second (map definition_of es)) >>= λ _. left x second es rest) ≡ check_definitions x [] all
  pub names : (f : Function) → (is_defined (keys_in es) f || is_defined (functions rest) f) ≡ is_defined (functions all) f
  pub kept : second ≡ None → map definition_of es ++ rest ≡ all
  pub behind : IsBehind second (length es)

pub gathering_begins : (all : List DefinitionTree) → Gathering all None [] all
unfolding check_bodies
gathering_begins all = record { checked = λ x. refl; names = λ f. refl; kept = λ e. refl; behind = tt }

or_false : (b : Bool) → (b || false) ≡ b
or_false true = refl
or_false false = refl

left_none : (x : Setting) (second : Option Duplicate) (es : List (Function × Definition)) → left x second es [] ≡ fault_of_duplicate second
unfolding check_definitions
left_none x None es = refl
left_none x (Some s) es = refl

pub gathering_ends : (all : List DefinitionTree) (second : Option Duplicate) (es : List (Function × Definition)) → Gathering all second es []
    → ((x : Setting) → check_kept x second es ≡ check_definitions x [] all) × ((f : Function) → is_defined (keys_in es) f ≡ is_defined (functions all) f) × (second ≡ None → map definition_of es ≡ all)
gathering_ends all second es g = (
  λ x. ap (λ (c : Checked). check_bodies x (before_duplicate second (map definition_of es)) >>= λ _. c) (sym (left_none x second es)) ∙ g.checked x,
  λ f. sym (or_false (is_defined (keys_in es) f)) ∙ g.names f,
  λ e. sym (append-nil (map definition_of es)) ∙ g.kept e,
)

take_whole : {X : Type 0} (xs : List X) → take (length xs) xs ≡ xs
take_whole [] = refl
take_whole (x ∷ xs) = ap (λ ys. x ∷ ys) (take_whole xs)

take_front : {X : Type 0} (n : ℕ) (xs ys : List X) → n ≤ length xs → take n (xs ++ ys) ≡ take n xs
take_front n xs ys le = take-append-le n xs ys le

-- one more definition, d, with a name that none before has
module _ (all ds : List DefinitionTree) (es fs : List (Function × Definition)) (e : Function × Definition) where
  abbrev d : DefinitionTree
  d = definition_of e

  keys_more : fs ≡ es ++ e ∷ [] → keys_in fs ≡ keys_in es ++ e.0 ∷ []
  keys_more is = ap keys_in is ∙ map-append (λ (x : Function × Definition). x.0) es (e ∷ [])

  trees_more : fs ≡ es ++ e ∷ [] → map definition_of fs ≡ map definition_of es ++ d ∷ []
  trees_more is = ap (map definition_of) is ∙ map-append definition_of es (e ∷ [])

  new_names : (second : Option Duplicate) → fs ≡ es ++ e ∷ [] → Gathering all second es (d ∷ ds) → (f : Function) → (is_defined (keys_in fs) f || is_defined (functions ds) f) ≡ is_defined (functions all) f
  new_names second is g f =
      let more : is_defined (keys_in fs) f ≡ (is_defined (keys_in es) f || (same_function f e.0 || false)) = ap (λ (ks : List Function). is_defined ks f) (keys_more is) ∙ any_append (keys_in es) (e.0 ∷ []) f in
      ap (λ (b : Bool). b || is_defined (functions ds) f) more ∙ turn (is_defined (keys_in es) f) (same_function f e.0) (is_defined (functions ds) f) ∙ g.names f
    where
      turn : (a b c : Bool) → ((a || (b || false)) || c) ≡ (a || (b || c))
      turn true b c = refl
      turn false true c = refl
      turn false false c = refl

  new_checked : (second : Option Duplicate) → is_defined (keys_in es) e.0 ≡ false → fs ≡ es ++ e ∷ [] → Gathering all second es (d ∷ ds)
      → (x : Setting) → (check_bodies x (before_duplicate second (map definition_of fs)) >>= λ _. left x second fs ds) ≡ check_definitions x [] all
  unfolding check_definitions
  new_checked None is_new is g x =
      let one : check_definitions x (keys_in es) (d ∷ ds) ≡ (check_definition x d >>= λ _. check_definitions x (keys_in es ++ e.0 ∷ []) ds) = rw is_new refl in
      let two : (check_bodies x (map definition_of fs) >>= λ _. check_definitions x (keys_in fs) ds) ≡ (check_bodies x (map definition_of es ++ d ∷ []) >>= λ _. check_definitions x (keys_in es ++ e.0 ∷ []) ds) = rw (trees_more is, keys_more is) refl in
      two ∙ bodies_append x (map definition_of es) d (check_definitions x (keys_in es ++ e.0 ∷ []) ds) ∙ ap (λ (c : Checked). check_bodies x (map definition_of es) >>= λ _. c) (sym one) ∙ g.checked x
  new_checked (Some s) is_new is g x =
      let front : take s.before (map definition_of fs) ≡ take s.before (map definition_of es) =
      ap (take s.before) (trees_more is) ∙ take_front s.before (map definition_of es) (d ∷ []) (subst (λ (n : ℕ). s.before ≤ n) (sym (length-map es definition_of)) g.behind) in
      ap (λ (xs : List DefinitionTree). check_bodies x xs >>= λ _. Err (DuplicateFunction s.at)) front ∙ g.checked x

  new_behind : (second : Option Duplicate) → fs ≡ es ++ e ∷ [] → IsBehind second (length es) → IsBehind second (length fs)
  new_behind None is h = tt
  new_behind (Some s) is h = let n = ap length is ∙ length-append es (e ∷ []) in omega (arith, n, h)

  still : (second : Option Duplicate) → is_defined (keys_in es) e.0 ≡ false → first_duplicate es second d ≡ second
  unfolding first_duplicate
  still None is_new = rw is_new refl
  still (Some s) is_new = refl

  pub gathering_new : (second : Option Duplicate) → is_defined (keys_in es) e.0 ≡ false → fs ≡ es ++ e ∷ [] → Gathering all second es (d ∷ ds) → Gathering all (first_duplicate es second d) fs ds
  gathering_new second is_new is g = subst (λ (s : Option Duplicate). Gathering all s fs ds) (sym (still second is_new)) (record {
    checked = new_checked second is_new is g;
    names = new_names second is g;
    kept = λ none. ap (λ (xs : List DefinitionTree). xs ++ ds) (trees_more is) ∙ append_assoc (map definition_of es) (d ∷ []) ds ∙ g.kept none;
    behind = new_behind second is g.behind;
  })

  old_names : (second : Option Duplicate) → is_defined (keys_in es) e.0 ≡ true → Gathering all second es (d ∷ ds) → (f : Function) → (is_defined (keys_in es) f || is_defined (functions ds) f) ≡ is_defined (functions all) f
  old_names second is_old g f = absorb (same_function f e.0) (is_defined (keys_in es) f) (is_defined (functions ds) f) same_known ∙ g.names f
    where
      same_known : same_function f e.0 ≡ true → is_defined (keys_in es) f ≡ true
      same_known same = ap (is_defined (keys_in es)) (same_function_is f e.0 same) ∙ is_old

      absorb : (b a c : Bool) → (b ≡ true → a ≡ true) → (a || c) ≡ (a || (b || c))
      absorb b true c h = refl
      absorb true false c h = absurd (cc (h refl))
      absorb false false c h = refl

  abbrev here : Duplicate
  here = record { before = length es; at = d.named.at }

  first_checked : is_defined (keys_in es) e.0 ≡ true → Gathering all None es (d ∷ ds) → (x : Setting) → (check_bodies x (take (length es) (map definition_of es)) >>= λ _. Err (DuplicateFunction d.named.at)) ≡ check_definitions x [] all
  unfolding check_definitions
  first_checked is_old g x =
      let one : check_definitions x (keys_in es) (d ∷ ds) ≡ Err (DuplicateFunction d.named.at) = rw is_old refl in
      let whole : take (length es) (map definition_of es) ≡ map definition_of es = ap (λ (n : ℕ). take n (map definition_of es)) (sym (length-map es definition_of)) ∙ take_whole (map definition_of es) in
      ap (λ (xs : List DefinitionTree). check_bodies x xs >>= λ _. Err (DuplicateFunction d.named.at)) whole ∙ ap (λ (c : Checked). check_bodies x (map definition_of es) >>= λ _. c) (sym one) ∙ g.checked x

  not_none : {X : Type 0} (x : X) → Some x ≡ None → ⊥
  not_none x e = absurd cc

  pub gathering_old : (second : Option Duplicate) → is_defined (keys_in es) e.0 ≡ true → fs ≡ es → Gathering all second es (d ∷ ds) → Gathering all (first_duplicate es second d) fs ds
  unfolding first_duplicate
  gathering_old None is_old is g =
      let next : first_duplicate es None d ≡ Some here = rw is_old refl in
      subst (λ (s : Option Duplicate). Gathering all s fs ds) (sym next) (subst (λ (xs : List (Function × Definition)). Gathering all (Some here) xs ds) (sym is) (record {
        checked = first_checked is_old g;
        names = old_names None is_old g;
        kept = λ none. absurd (not_none here none);
        behind = omega arith;
      }))
  gathering_old (Some s) is_old is g =
      subst (λ (xs : List (Function × Definition)). Gathering all (Some s) xs ds) (sym is) (record {
        checked = g.checked;
        names = old_names (Some s) is_old g;
        kept = λ none. absurd (not_none s none);
        behind = g.behind;
      })

-- one more definition, kept where its name has none
pub gathering_on : (all ds : List DefinitionTree) (es fs : List (Function × Definition)) (e : Function × Definition) (second : Option Duplicate) → (is_defined (keys_in es) e.0 ≡ false → fs ≡ es ++ e ∷ []) → (is_defined (keys_in es) e.0 ≡ true → fs ≡ es)
    → Gathering all second es (definition_of e ∷ ds) → Gathering all (first_duplicate es second (definition_of e)) fs ds
gathering_on all ds es fs e second new old g = by (is_defined (keys_in es) e.0) refl
  where
    by : (b : Bool) → is_defined (keys_in es) e.0 ≡ b → Gathering all (first_duplicate es second (definition_of e)) fs ds
    by true is = gathering_old all ds es fs e second is (old is) g
    by false is = gathering_new all ds es fs e second is (new is) g

-- ---- exported names

module _ (defined : List Function) (es : List NamedAt) (i : ℕ) (e : NamedAt) (total : Checked) (lt : i < length es) (is : e ≡ get_or es i e) where
  pub exports_here : is_defined defined e.function ≡ false → check_exports defined (drop i es) ≡ total → total ≡ Err (NoFunction e.at)
  unfolding check_exports
  exports_here absent so_far =
      let one : check_exports defined (drop i es) ≡ Err (NoFunction e.at) = rw (drop_item es i e lt is, absent) refl in
      sym so_far ∙ one

  pub exports_next : is_defined defined e.function ≡ true → check_exports defined (drop i es) ≡ total → check_exports defined (drop (i + 1) es) ≡ total
  unfolding check_exports
  exports_next there so_far =
      let one : check_exports defined (drop i es) ≡ check_exports defined (drop (i + 1) es) = rw (drop_item es i e lt is, there) refl in
      sym one ∙ so_far

pub exports_done : (defined : List Function) (es : List NamedAt) (i : ℕ) (total : Checked) → length es ≤ i → check_exports defined (drop i es) ≡ total → total ≡ Ok tt
unfolding check_exports
exports_done defined es i total le so_far = sym so_far ∙ at_drop_all (check_exports defined) es i le

-- the same names are defined
pub exports_agree : (xs ys : List Function) (es : List NamedAt) → ((f : Function) → is_defined xs f ≡ is_defined ys f) → check_exports xs es ≡ check_exports ys es
unfolding check_exports
exports_agree xs ys [] same = refl
exports_agree xs ys (e ∷ es) same = rw (same e.function, exports_agree xs ys es same) refl

-- ---- the whole module

module _ (m : ModuleTree) (at : ℕ) (second : Option Duplicate) (es : List (Function × Definition)) (known : (f : Function) → is_defined (keys_in es) f ≡ is_defined (functions m.definitions) f)
    (checked : (x : Setting) → check_kept x second es ≡ check_definitions x [] m.definitions) where
  setting_here : Setting
  setting_here = record { defined = keys_in es; exported = exported_by m.exports; in_guard = false }

  functions_are : check_functions m.exports second es ≡ (check_exports (functions m.definitions) m.exports >>= λ _. check_definitions (setting_of m) [] m.definitions)
  functions_are = then_same _ _ _ _ (exports_agree (keys_in es) (functions m.definitions) m.exports known)
      (kept_agree (record { defined = keys_in es; exported = exported_by m.exports; in_guard = false }) (setting_of m) (known, λ f. refl, refl) second es ∙ checked (setting_of m))

  regroup : (a b : Checked) (c : Result ModuleTree ReadFault) → (a >>= λ _. (b >>= λ _. c)) ≡ ((a >>= λ _. b) >>= λ _. c)
  regroup (Ok u) b c = refl
  regroup (Err f) b c = refl

  whole_is : check_module (m, at) ≡ (check_functions m.exports second es >>= λ _. (if is_defined (functions m.definitions) main_function then Ok m else Err (NoMain at)))
  unfolding check_module
  whole_is =
      regroup (check_exports (functions m.definitions) m.exports) (check_definitions (setting_of m) [] m.definitions) (if is_defined (functions m.definitions) main_function then Ok m else Err (NoMain at))
      ∙ ap (λ (c : Checked). c >>= λ _. (if is_defined (functions m.definitions) main_function then Ok m else Err (NoMain at))) (sym functions_are)

  pub functions_fail : (f : ReadFault) → (f ≢ Memory → check_functions m.exports second es ≡ Err f) → f ≢ Memory → check_module (m, at) ≡ Err f
  functions_fail f failed real = whole_is ∙ ap (λ (c : Checked). c >>= λ _. (if is_defined (functions m.definitions) main_function then Ok m else Err (NoMain at))) (failed real)

  module _ (fine : check_functions m.exports second es ≡ Ok tt) where
    main_is : check_module (m, at) ≡ (if is_defined (keys_in es) main_function then Ok m else Err (NoMain at))
    main_is =
        whole_is ∙ ap (λ (c : Checked). c >>= λ _. (if is_defined (functions m.definitions) main_function then Ok m else Err (NoMain at))) fine
        ∙ ap (λ (b : Bool). if b then Ok m else Err (NoMain at)) (sym (known main_function))

    pub main_lacks : is_defined (keys_in es) main_function ≡ false → check_module (m, at) ≡ Err (NoMain at)
    main_lacks none = main_is ∙ ap (λ (b : Bool). if b then Ok m else Err (NoMain at)) none

    -- a fault comes where a name has two definitions
    no_second : (s : Option Duplicate) → check_functions m.exports s es ≡ Ok tt → s ≡ None
    no_second None e = refl
    no_second (Some s) e = absurd (never (check_exports (keys_in es) m.exports) (check_bodies (record { defined = keys_in es; exported = exported_by m.exports; in_guard = false }) (before_duplicate (Some s) (map definition_of es))) (DuplicateFunction s.at) e)

    pub module_closed : (second ≡ None → map definition_of es ≡ m.definitions) → is_defined (keys_in es) main_function ≡ true
        → check_module (m, at) ≡ Ok (record { name = m.name; exports = m.exports; attributes = m.attributes; definitions = map definition_of es })
    module_closed kept there =
        main_is ∙ ap (λ (b : Bool). if b then Ok m else Err (NoMain at)) there ∙ ap (λ (ds : List DefinitionTree). Ok (record { name = m.name; exports = m.exports; attributes = m.attributes; definitions = ds })) (sym (kept (no_second second fine)))

-- ---- the first duplicate definition

module _ (es : List (Function × Definition)) (second : Option Duplicate) (d : DefinitionTree) where
  pub second_stays : is_some second ≡ true → second ≡ first_duplicate es second d
  unfolding first_duplicate
  second_stays e = by second e
    where
      by : (s : Option Duplicate) → is_some s ≡ true → s ≡ first_duplicate es s d
      by None h = absurd cc
      by (Some s) h = refl

  pub second_comes : is_some second ≡ false → is_defined (keys_in es) d.named.function ≡ true → Some (record { before = length es; at = d.named.at }) ≡ first_duplicate es second d
  unfolding first_duplicate
  second_comes e h = by second e
    where
      by : (s : Option Duplicate) → is_some s ≡ false → Some (record { before = length es; at = d.named.at }) ≡ first_duplicate es s d
      by None g = rw h refl
      by (Some s) g = absurd cc

  pub second_lacks : is_some second ≡ false → is_defined (keys_in es) d.named.function ≡ false → None ≡ first_duplicate es second d
  unfolding first_duplicate
  second_lacks e h = by second e
    where
      by : (s : Option Duplicate) → is_some s ≡ false → None ≡ first_duplicate es s d
      by None g = rw h refl
      by (Some s) g = absurd cc

-- ---- exported names, in a set

module _ (ks new : List (Bor Function)) (k : Bor Function) (e : NamedAt) (rest : List NamedAt) (total : Function → Bool) (named : k.now ≡ e.function)
    (so_far : (f : Function) → (is_defined (shown ks) f || (same_function f e.function || is_defined (exported_by rest) f)) ≡ total f) where
  export_old : list_any (λ x. same_function k.now x.now) ks ≡ true → new ≡ ks → (f : Function) → (is_defined (shown new) f || is_defined (exported_by rest) f) ≡ total f
  export_old is_old is f =
      ap (λ (xs : List (Bor Function)). is_defined (shown xs) f || is_defined (exported_by rest) f) is ∙ absorb (same_function f e.function) (is_defined (shown ks) f) (is_defined (exported_by rest) f) same_known ∙ so_far f
    where
      same_known : same_function f e.function ≡ true → is_defined (shown ks) f ≡ true
      same_known same = ap (is_defined (shown ks)) (same_function_is f e.function same ∙ sym named) ∙ sym (among_exported ks k.now) ∙ is_old

      absorb : (b a c : Bool) → (b ≡ true → a ≡ true) → (a || c) ≡ (a || (b || c))
      absorb b true c h = refl
      absorb true false c h = absurd (cc (h refl))
      absorb false false c h = refl

  export_new : new ≡ ks ++ k ∷ [] → (f : Function) → (is_defined (shown new) f || is_defined (exported_by rest) f) ≡ total f
  export_new is f =
      let keys : shown new ≡ shown ks ++ e.function ∷ [] = ap shown is ∙ map-append (λ (x : Bor Function). x.now) ks (k ∷ []) ∙ ap (λ (g : Function). shown ks ++ g ∷ []) named in
      let more : is_defined (shown new) f ≡ (is_defined (shown ks) f || (same_function f e.function || false)) = ap (λ (gs : List Function). is_defined gs f) keys ∙ any_append (shown ks) (e.function ∷ []) f in
      ap (λ (b : Bool). b || is_defined (exported_by rest) f) more ∙ turn (is_defined (shown ks) f) (same_function f e.function) (is_defined (exported_by rest) f) ∙ so_far f
    where
      turn : (a b c : Bool) → ((a || (b || false)) || c) ≡ (a || (b || c))
      turn true b c = refl
      turn false true c = refl
      turn false false c = refl

  pub export_next : new ≡ (if list_any (λ x. same_function k.now x.now) ks then ks else ks ++ k ∷ []) → (f : Function) → (is_defined (shown new) f || is_defined (exported_by rest) f) ≡ total f
  export_next is = by (list_any (λ x. same_function k.now x.now) ks) refl
    where
      by : (b : Bool) → list_any (λ x. same_function k.now x.now) ks ≡ b → (f : Function) → (is_defined (shown new) f || is_defined (exported_by rest) f) ≡ total f
      by true e = export_old e (is ∙ ap (λ (b : Bool). if b then ks else ks ++ k ∷ []) e)
      by false e = export_new (is ∙ ap (λ (b : Bool). if b then ks else ks ++ k ∷ []) e)

pub exports_end : (ks : List (Bor Function)) (f : Function) (total : Bool) → (is_defined (shown ks) f || false) ≡ total → is_defined (shown ks) f ≡ total
exports_end ks f total so_far = sym (or_false (is_defined (shown ks) f)) ∙ so_far

-- ---- bodies, by a loop

within_by : (es : List (Function × Definition)) (i : ℕ) (e : Function × Definition) → slice_get es i ≡ Some e → i < length es
within_by [] i e is = absurd cc
within_by (x ∷ es) zero e is = omega arith
within_by (x ∷ es) (suc i) e is = omega (arith, within_by es i e is)

past_by : (es : List (Function × Definition)) (i : ℕ) → slice_get es i ≡ None → length es ≤ i
past_by [] i is = omega arith
past_by (x ∷ es) zero is = absurd cc
past_by (x ∷ es) (suc i) is = omega (arith, past_by es i is)

drop_take : (es : List (Function × Definition)) (i count : ℕ) (e : Function × Definition) → i < count → slice_get es i ≡ Some e
    → drop i (take count (map definition_of es)) ≡ definition_of e ∷ drop (i + 1) (take count (map definition_of es))
drop_take es i count e lt is =
    let ds = map definition_of es in
    let d = definition_of e in
    let within = within_by es i e is in
    let n : length (take count ds) ≡ min count (length ds) = length-take count ds in
    let m : length ds ≡ length es = length-map es definition_of in
    let here : get_or (take count ds) i d ≡ d = get_or-take count ds i d lt ∙ get_or-map definition_of es i e d within ∙ ap definition_of (get_or_from_slice_get es i e e is) in
    drop_item (take count ds) i d (omega (arith, n, m, within, lt)) (sym here)

take_short : {X : Type 0} (n : ℕ) (xs : List X) → length (take n xs) ≤ n
take_short zero xs = omega arith
take_short (suc n) [] = omega arith
take_short (suc n) (x ∷ xs) = omega (arith, take_short n xs)

module _ (x : Setting) (es : List (Function × Definition)) (i count : ℕ) (total : Checked) (so_far : check_bodies x (drop i (take count (map definition_of es))) ≡ total) where
  pub body_next : (e : Function × Definition) → i < count → slice_get es i ≡ Some e → check_definition x (definition_of e) ≡ Ok tt → check_bodies x (drop (i + 1) (take count (map definition_of es))) ≡ total
  unfolding check_bodies
  body_next e lt is fine =
      let one : check_bodies x (drop i (take count (map definition_of es))) ≡ (check_definition x (definition_of e) >>= λ _. check_bodies x (drop (i + 1) (take count (map definition_of es)))) = ap (check_bodies x) (drop_take es i count e lt is) in
      let two : (check_definition x (definition_of e) >>= λ _. check_bodies x (drop (i + 1) (take count (map definition_of es)))) ≡ check_bodies x (drop (i + 1) (take count (map definition_of es))) = rw fine refl in
      sym two ∙ sym one ∙ so_far

  pub body_fails : (e : Function × Definition) (f : ReadFault) → i < count → slice_get es i ≡ Some e → (f ≢ Memory → check_definition x (definition_of e) ≡ Err f) → f ≢ Memory → total ≡ Err f
  unfolding check_bodies
  body_fails e f lt is failed real =
      let one : check_bodies x (drop i (take count (map definition_of es))) ≡ (check_definition x (definition_of e) >>= λ _. check_bodies x (drop (i + 1) (take count (map definition_of es)))) = ap (check_bodies x) (drop_take es i count e lt is) in
      let wrong : check_definition x (definition_of e) ≡ Err f = failed real in
      let two : (check_definition x (definition_of e) >>= λ _. check_bodies x (drop (i + 1) (take count (map definition_of es)))) ≡ Err f = rw wrong refl in
      sym so_far ∙ one ∙ two

  pub bodies_out : slice_get es i ≡ None → total ≡ Ok tt
  unfolding check_bodies
  bodies_out none =
      let n : length (take count (map definition_of es)) ≡ min count (length (map definition_of es)) = length-take count (map definition_of es) in
      let m : length (map definition_of es) ≡ length es = length-map es definition_of in
      sym so_far ∙ ap (check_bodies x) (drop_all (take count (map definition_of es)) i (omega (arith, n, m, past_by es i none)))

  pub bodies_done : count ≤ i → total ≡ Ok tt
  unfolding check_bodies
  bodies_done le = sym so_far ∙ ap (check_bodies x) (drop_all (take count (map definition_of es)) i (omega (arith, take_short count (map definition_of es), le)))

-- ---- the exported names, and then the definitions

pub functions_give : (exports : List NamedAt) (second : Option Duplicate) (es : List (Function × Definition)) (ks : List (Bor Function)) (r : Checked) → Ok tt ≡ check_exports (keys_in es) exports
    → ((f : Function) → is_defined (shown ks) f ≡ is_defined (exported_by exports) f) → GivesUnlessMemory (λ u. u) r (check_kept (record { defined = keys_in es; exported = shown ks; in_guard = false }) second es) → GivesUnlessMemory (λ u. u) r (check_functions exports second es)
functions_give exports second es ks r fine same given =
    let y : Setting = record { defined = keys_in es; exported = exported_by exports; in_guard = false } in
    let x : Setting = record { defined = keys_in es; exported = shown ks; in_guard = false } in
    let one : check_kept x second es ≡ check_functions exports second es =
    kept_agree x y ((λ f. refl), same, refl) second es ∙ ap (λ (c : Checked). c >>= λ _. check_kept y second es) fine in
    subst (λ (c : Checked). GivesUnlessMemory (λ (u : Unit {0}). u) r c) one given
