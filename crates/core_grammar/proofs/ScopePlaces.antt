-- The place of a fault of scopes: what breaks a module with placed parts breaks it at a place.
use Rattle.std.proofs.Common.{◌≡◌, ℕ, List, [], ◌∷◌, ◌++◌, sym, subst, inl, inr}
use Rattle.std.specs.Prelude.{Contains}
use Rattle.core_tokens.specs.declared.fault.ReadFault.{ReadFault}
use Rattle.core_tokens.specs.declared.fault.ReadFault.TheVariants.{Unbound, DuplicateVariable, DuplicateFunction, NoFunction, UnsupportedCall, EffectInGuard, NoMain}
use Rattle.core_tokens.specs.declared.token.Keyword.TheVariants as k
use Rattle.core_tokens.specs.Piece.{Piece}
use Rattle.core_tree.specs.Syntax.{Mention, Function, NamedAt, Callee, Pattern, Patterns, patterns_of, Tree, Trees, Clauses, DefinitionTree, ModuleTree}
use Rattle.core_tree.specs.Callee as callees
use Rattle.core_tree.specs.Pattern as patterns
use Rattle.core_tree.specs.Expression as trees
use Rattle.core_scopes.specs.Scopes.{names, variables_of, variables_of_all, bound_by, Setting, guard_of, functions, setting_of, main_function}
use Rattle.core_scopes.specs.ScopeFaults.{Repeats, HasEffect, MayNotCall, Breaks, SomeBreaks, SomeClauseBreaks, SomeDefinitionBreaks, SomeExportBreaks, ModuleBreaks, IsFaultOfModule}
use Rattle.core_grammar.specs.Grammar.{word}
use Rattle.core_grammar.specs.Places.{IsOne, IsLastEnd}
use Rattle.core_grammar.proofs.FaultSteps.{Place, Each}
use Rattle.core_grammar.proofs.FaultForms.{NamePlaced', MentionAt', PatternAt, PatternsAt, CalleeAt, TreeAt, TreesAt, ClausesAt}
use Rattle.core_grammar.proofs.FaultModules.{DefinitionPlaced, ModulePlaced}

module _ (all : List Piece) (end : ℕ) where
  abbrev Stand : ℕ → Type 0
  Stand at = Place all end at

  abbrev Vars : List Mention → Type 0
  Vars vs = Each all end (MentionAt' all end) vs

  -- the place of a fault of scopes
  abbrev pub Stands : ReadFault → Type 0
  Stands (Unbound at) = Stand at
  Stands (DuplicateVariable at) = Stand at
  Stands (DuplicateFunction at) = Stand at
  Stands (NoFunction at) = Stand at
  Stands (EffectInGuard at) = Stand at
  Stands (UnsupportedCall at) = IsOne all (word at k.Call)
  Stands f = ⊥

  abbrev moved : (f g : ReadFault) → f ≡ g → Stands g → Stands f
  moved f g e h = subst (λ (x : ReadFault). Stands x) (sym e) h

  vars_append : (vs ws : List Mention) → Vars vs → Vars ws → Vars (vs ++ ws)
  vars_append [] ws h g = g
  vars_append (v ∷ vs) ws h g = (h.0, vars_append vs ws h.1 g)

  mutual
    pattern_vars : (q : Pattern) → PatternAt all end q → Vars (variables_of q)
    pattern_vars (patterns.Integer n) h = tt
    pattern_vars (patterns.Character n) h = tt
    pattern_vars (patterns.Text n) h = tt
    pattern_vars (patterns.Atom n) h = tt
    pattern_vars (patterns.Variable v) h = (h, tt)
    pattern_vars (patterns.Tuple qs) h = patterns_vars qs h
    pattern_vars (patterns.List qs) h = patterns_vars qs h
    pattern_vars (patterns.Onto qs q) h = vars_append (variables_of_all qs) (variables_of q) (patterns_vars qs h.0) (pattern_vars q h.1)
    pattern_vars (patterns.Alias v q) h = (h.0, pattern_vars q h.1)

    patterns_vars : (qs : Patterns) → PatternsAt all end qs → Vars (variables_of_all qs)
    patterns_vars patterns.NoMore h = tt
    patterns_vars (patterns.Also q qs) h = vars_append (variables_of q) (variables_of_all qs) (pattern_vars q h.0) (patterns_vars qs h.1)

  placed_patterns : (qs : List Pattern) → Each all end (PatternAt all end) qs → PatternsAt all end (patterns_of qs)
  placed_patterns [] h = tt
  placed_patterns (q ∷ qs) h = (h.0, placed_patterns qs h.1)

  bound_vars : (qs : List Pattern) → Each all end (PatternAt all end) qs → Vars (bound_by qs)
  bound_vars qs h = patterns_vars (patterns_of qs) (placed_patterns qs h)

  repeats : (before : List (List ℕ)) (vs : List Mention) (f : ReadFault) → Vars vs → Repeats before vs f → Stands f
  repeats before [] f h r = absurd r
  repeats before (v ∷ vs) f h (inl r) = moved f (DuplicateVariable v.at) r.1 h.0
  repeats before (v ∷ vs) f h (inr r) = repeats (before ++ v.name ∷ []) vs f h.1 r

  effect : (x : Setting) (at : ℕ) (f : ReadFault) → Stand at → HasEffect x at f → Stands f
  effect x at f h r = moved f (EffectInGuard at) r.1 h

  calls : (x : Setting) (at : ℕ) (c : Callee) (f : ReadFault) → CalleeAt all end at c → MayNotCall x at c f → Stands f
  calls x at (callees.World kind) f h r = effect x at f h r
  calls x at (callees.Pure kind) f h r = effect x at f h r.1
  calls x at (callees.Exported d) f h (inl r) = moved f (UnsupportedCall at) r.1 h.1
  calls x at (callees.Exported d) f h (inr r) = effect x at f h.0 r
  calls x at (callees.Defined n) f h (inl r) = effect x at f h.0 r
  calls x at (callees.Defined n) f h (inr r) = moved f (NoFunction n.at) r.1 h.1
  calls x at callees.MatchFail f h r = effect x at f h r
  calls x at callees.Raise f h r = effect x at f h r

  mutual
    tree_stands : (x : Setting) (bound : List (List ℕ)) (t : Tree) (f : ReadFault) → TreeAt all end t → Breaks x bound t f → Stands f
    tree_stands x bound (trees.Integer n) f h r = absurd r
    tree_stands x bound (trees.Character c) f h r = absurd r
    tree_stands x bound (trees.Text cs) f h r = absurd r
    tree_stands x bound (trees.Atom t) f h r = absurd r
    tree_stands x bound (trees.Variable v) f h r = moved f (Unbound v.at) r.1 h
    tree_stands x bound (trees.Tuple ts) f h r = trees_stand x bound ts f h r
    tree_stands x bound (trees.List ts) f h r = trees_stand x bound ts f h r
    tree_stands x bound (trees.Onto ts t) f h (inl r) = trees_stand x bound ts f h.0 r
    tree_stands x bound (trees.Onto ts t) f h (inr r) = tree_stands x bound t f h.1 r
    tree_stands x bound (trees.Values ts) f h r = trees_stand x bound ts f h r
    tree_stands x bound (trees.Let vs t u) f h (inl r) = repeats [] vs f h.0 r
    tree_stands x bound (trees.Let vs t u) f h (inr (inl r)) = tree_stands x bound t f h.1 r
    tree_stands x bound (trees.Let vs t u) f h (inr (inr r)) = tree_stands x (names vs ++ bound) u f h.2 r
    tree_stands x bound (trees.Case at t cs) f h (inl r) = tree_stands x bound t f h.0 r
    tree_stands x bound (trees.Case at t cs) f h (inr r) = clauses_stand x bound cs f h.1 r
    tree_stands x bound (trees.Do t u) f h (inl r) = tree_stands x bound t f h.0 r
    tree_stands x bound (trees.Do t u) f h (inr r) = tree_stands x bound u f h.1 r
    tree_stands x bound (trees.Call at c ts) f h (inl r) = calls x at c f h.0 r
    tree_stands x bound (trees.Call at c ts) f h (inr r) = trees_stand x bound ts f h.1 r
    tree_stands x bound (trees.Try at t vs u ws z) f h (inl r) = tree_stands x bound t f h.0 r
    tree_stands x bound (trees.Try at t vs u ws z) f h (inr (inl r)) = repeats [] vs f h.1 r
    tree_stands x bound (trees.Try at t vs u ws z) f h (inr (inr (inl r))) = tree_stands x (names vs ++ bound) u f h.2 r
    tree_stands x bound (trees.Try at t vs u ws z) f h (inr (inr (inr (inl r)))) = repeats [] ws f h.3 r
    tree_stands x bound (trees.Try at t vs u ws z) f h (inr (inr (inr (inr r)))) = tree_stands x (names ws ++ bound) z f h.4 r
    tree_stands x bound (trees.Catch at t) f h r = tree_stands x bound t f h r
    tree_stands x bound (trees.Receive at cs t u) f h (inl r) = effect x at f h.0 r
    tree_stands x bound (trees.Receive at cs t u) f h (inr (inl r)) = clauses_stand x bound cs f h.1 r
    tree_stands x bound (trees.Receive at cs t u) f h (inr (inr (inl r))) = tree_stands x bound t f h.2 r
    tree_stands x bound (trees.Receive at cs t u) f h (inr (inr (inr r))) = tree_stands x bound u f h.3 r

    trees_stand : (x : Setting) (bound : List (List ℕ)) (ts : Trees) (f : ReadFault) → TreesAt all end ts → SomeBreaks x bound ts f → Stands f
    trees_stand x bound trees.NoMore f h r = absurd r
    trees_stand x bound (trees.Also t ts) f h (inl r) = tree_stands x bound t f h.0 r
    trees_stand x bound (trees.Also t ts) f h (inr r) = trees_stand x bound ts f h.1 r

    clauses_stand : (x : Setting) (bound : List (List ℕ)) (cs : Clauses) (f : ReadFault) → ClausesAt all end cs → SomeClauseBreaks x bound cs f → Stands f
    clauses_stand x bound trees.NoClause f h r = absurd r
    clauses_stand x bound (trees.Clause qs g b cs) f h (inl r) = repeats [] (bound_by qs) f (bound_vars qs h.0) r
    clauses_stand x bound (trees.Clause qs g b cs) f h (inr (inl r)) = tree_stands (guard_of x) (names (bound_by qs) ++ bound) g f h.1 r
    clauses_stand x bound (trees.Clause qs g b cs) f h (inr (inr (inl r))) = tree_stands x (names (bound_by qs) ++ bound) b f h.2 r
    clauses_stand x bound (trees.Clause qs g b cs) f h (inr (inr (inr r))) = clauses_stand x bound cs f h.3 r

  -- ---- definitions

  definitions_stand : (x : Setting) (before : List Function) (ds : List DefinitionTree) (f : ReadFault) → Each all end (DefinitionPlaced all end) ds → SomeDefinitionBreaks x before ds f → Stands f
  definitions_stand x before [] f h r = absurd r
  definitions_stand x before (d ∷ ds) f h (inl r) = moved f (DuplicateFunction d.named.at) r.1 h.0.0
  definitions_stand x before (d ∷ ds) f h (inr (inl r)) = repeats [] d.parameters f h.0.1.0 r
  definitions_stand x before (d ∷ ds) f h (inr (inr (inl r))) = tree_stands x (names d.parameters) d.body f h.0.1.1 r
  definitions_stand x before (d ∷ ds) f h (inr (inr (inr r))) = definitions_stand x (before ++ d.named.function ∷ []) ds f h.1 r

  exports_stand : (fs : List Function) (es : List NamedAt) (f : ReadFault) → Each all end (NamePlaced' all end) es → SomeExportBreaks fs es f → Stands f
  exports_stand fs [] f h r = absurd r
  exports_stand fs (n ∷ es) f h (inl r) = moved f (NoFunction n.at) r.1 h.0
  exports_stand fs (n ∷ es) f h (inr r) = exports_stand fs es f h.1 r

  -- ---- modules

  module_stands : (m : ModuleTree) (at : ℕ) (f : ReadFault) → ModulePlaced all end (m, at) → ModuleBreaks m f → Stands f
  module_stands m at f h (inl r) = exports_stand (functions m.definitions) m.exports f h.0 r
  module_stands m at f h (inr r) = definitions_stand (setting_of m) [] m.definitions f h.1 r

  -- what a fault of the last pass says of a module whose last `end` is at a place
  abbrev pub Says : ModuleTree → ReadFault → Type 0
  Says m (NoMain at) = IsLastEnd all at × ¬ (Contains (functions m.definitions) main_function)
  Says m f = ModuleBreaks m f × Stands f

  says : (m : ModuleTree) (f : ReadFault) → ModuleBreaks m f × Stands f → Says m f
  says m (Unbound at) h = h
  says m (DuplicateVariable at) h = h
  says m (DuplicateFunction at) h = h
  says m (NoFunction at) h = h
  says m (EffectInGuard at) h = h
  says m (UnsupportedCall at) h = h
  says m f h = absurd h.1

  pub module_says : (m : ModuleTree) (at : ℕ) (f : ReadFault) → ModulePlaced all end (m, at) → IsLastEnd all at → IsFaultOfModule m at f → Says m f
  module_says m at f h last (inl g) = says m f (g, module_stands m at f h g)
  module_says m at f h last (inr g) = subst (λ (x : ReadFault). Says m x) (sym g.0) (last, g.1)
