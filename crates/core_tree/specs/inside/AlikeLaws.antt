-- Parts that are compared as the same are the same except for their places, and the other way round.
use Rattle.std.specs.Prelude.{◌≡◌, ◌↔◌, ℕ, ℤ, List, [], ◌∷◌, map, Bool, true, false, ◌==◌, ◌&&◌, IsTrue, refl}
use Rattle.std.proofs.Common.{sym, ap, ◌∙◌}
use Rattle.std.proofs.lemmas.Bool.{and_from, and_parts}
use Rattle.std.specs.Ordering.{int_eq, on}
use Rattle.std.specs.Cmp.{IsEquivalence, signed_Decides, unsigned_Decides}
use Rattle.std.specs.Cmp.Lexicographic.{pointwise}
use Rattle.core_calls.specs.declared.call.CallKind.{CallKind}
use Rattle.core_calls.specs.declared.pure.PureCall.{PureCall}
use Rattle.core_calls.specs.CallCodes.{number_of_call, call_of_number, call_of_number-number_of_call}
use Rattle.core_calls.specs.CallCodes.{number_of_pure, pure_of_number, pure_of_number-number_of_pure}
use Rattle.core_tree.specs.Functions.{same_function}
use Rattle.core_tree.specs.Syntax.{Function, Callee, Pattern, Patterns, Tree, Trees, Clauses, ClauseTree, Constant, Constants, AttributeTree, ModuleTree}
use Rattle.core_tree.specs.Callee as callees
use Rattle.core_tree.specs.Pattern as patterns
use Rattle.core_tree.specs.Expression as trees
use Rattle.core_tree.specs.Constant as constants
use Rattle.core_tree.specs.Sameness.{bare_mention, bare_callee, bare_pattern, bare_patterns, bare_tree, bare_trees, bare_clauses, bare_clause, bare_named, bare_definition, bare_module}
use Rattle.core_tree.specs.Alike.{same_mention, same_kind, same_pure, same_callee, same_pattern, same_patterns, same_pattern_list, same_tree, same_trees, same_clauses, same_clause, same_constant, same_constants, same_named, same_attribute, same_definition, same_module}
use Rattle.term_core.specs.Kinds.{same_text}

-- a test by which two values have one image
abbrev pub Tells : {K L : Type 0} → (K → L) → (K → K → Bool) → Type 0
Tells {K} B S = (a b : K) → S a b ≡ true → B a ≡ B b

-- a test that answers true of each value and itself, and of images what it answers of the values
pub record Bears {K : Type 0} (B : K → K) (S : K → K → Bool) : Type 0 where
  pub tells : (a b : K) → S a b ≡ true → B a ≡ B b
  pub itself : (a : K) → S a a ≡ true
  pub images : (a b : K) → S (B a) (B b) ≡ S a b

both_ways : (s t : Bool) → (s ≡ true → t ≡ true) → (t ≡ true → s ≡ true) → s ≡ t
both_ways true true f g = refl
both_ways true false f g = sym (f refl)
both_ways false true f g = g refl
both_ways false false f g = refl

module _ {K : Type 0} {B : K → K} {S : K → K → Bool} (b : Bears B S) where
  -- of one image
  pub from_image : (x y : K) → B x ≡ B y → S x y ≡ true
  from_image x y e = sym (b.images x y) ∙ ap (S (B x)) (sym e) ∙ b.itself (B x)

  pub equivalent : IsEquivalence S
  equivalent = record {
    refl = b.itself;
    symm = λ x y. both_ways (S x y) (S y x) (λ e. from_image y x (sym (b.tells x y e))) (λ e. from_image x y (sym (b.tells y x e)));
    congr = λ x y z e. both_ways (S x z) (S y z) (λ f. from_image y z (sym (b.tells x y e) ∙ b.tells x z f)) (λ f. from_image x z (b.tells x y e ∙ b.tells y z f));
  }

  pub same_image : (x y : K) (r : Bool) → r ≡ S x y → IsTrue r ↔ (B x ≡ B y)
  same_image x y r e = (λ h. b.tells x y (sym e ∙ h), λ h. e ∙ from_image x y h)

  list_tells : (xs ys : List K) → pointwise S xs ys ≡ true → map B xs ≡ map B ys
  list_tells [] [] e = refl
  list_tells [] (y ∷ ys) e = cc
  list_tells (x ∷ xs) [] e = cc
  list_tells (x ∷ xs) (y ∷ ys) e =
      let p = and_parts (S x y) (pointwise S xs ys) e in
      λ i. b.tells x y p.0 i ∷ list_tells xs ys p.1 i

  list_itself : (xs : List K) → pointwise S xs xs ≡ true
  list_itself [] = refl
  list_itself (x ∷ xs) = and_from (S x x) (pointwise S xs xs) (b.itself x) (list_itself xs)

  list_images : (xs ys : List K) → pointwise S (map B xs) (map B ys) ≡ pointwise S xs ys
  list_images [] [] = refl
  list_images [] (y ∷ ys) = refl
  list_images (x ∷ xs) [] = refl
  list_images (x ∷ xs) (y ∷ ys) = λ i. b.images x y i && list_images xs ys i

  pub list_bears : Bears (map B) (pointwise S)
  list_bears = record { tells = list_tells; itself = list_itself; images = list_images }

-- ---- numbers and texts

-- the same value
abbrev itself_of : {K : Type 0} → K → K
itself_of x = x

same_number : (m n : ℕ) → (m == n) ≡ true → m ≡ n
same_number m n e = (unsigned_Decides m n).0 e

number_itself : (n : ℕ) → (n == n) ≡ true
number_itself n = (unsigned_Decides n n).1 refl

same_integer : (m n : ℤ) → int_eq m n ≡ true → m ≡ n
same_integer m n e = (signed_Decides m n).0 e

integer_itself : (n : ℤ) → int_eq n n ≡ true
integer_itself n = (signed_Decides n n).1 refl

text_tells : (xs ys : List ℕ) → same_text xs ys ≡ true → xs ≡ ys
text_tells [] [] e = refl
text_tells [] (y ∷ ys) e = cc
text_tells (x ∷ xs) [] e = cc
text_tells (x ∷ xs) (y ∷ ys) e =
    let p = and_parts (x == y) (same_text xs ys) e in
    λ i. same_number x y p.0 i ∷ text_tells xs ys p.1 i

text_itself : (xs : List ℕ) → same_text xs xs ≡ true
text_itself [] = refl
text_itself (x ∷ xs) = and_from (x == x) (same_text xs xs) (number_itself x) (text_itself xs)

pub kind_tells : (k l : CallKind) → same_kind k l ≡ true → k ≡ l
kind_tells k l e =
    sym (call_of_number-number_of_call k) ∙ ap call_of_number (same_number _ _ e) ∙ call_of_number-number_of_call l

pure_tells : (k l : PureCall) → same_pure k l ≡ true → k ≡ l
pure_tells k l e =
    sym (pure_of_number-number_of_pure k) ∙ ap pure_of_number (same_number _ _ e) ∙ pure_of_number-number_of_pure l

-- ---- names

pub mention_bears : Bears bare_mention same_mention
mention_bears = record {
  tells = λ a b e. (λ i. record { at = 0; name = text_tells a.name b.name e i });
  itself = λ a. text_itself a.name;
  images = λ a b. refl;
}

function_tells : (f g : Function) → same_function f g ≡ true → f ≡ g
function_tells f g e =
    let p = and_parts (same_text f.name g.name) (f.arity == g.arity) e in
    λ i. record { name = text_tells f.name g.name p.0 i; arity = same_number f.arity g.arity p.1 i }

function_itself : (f : Function) → same_function f f ≡ true
function_itself f = and_from _ _ (text_itself f.name) (number_itself f.arity)

pub named_bears : Bears bare_named same_named
named_bears = record {
  tells = λ a b e. (λ i. record { at = 0; function = function_tells a.function b.function e i });
  itself = λ a. function_itself a.function;
  images = λ a b. refl;
}

mentions_bear : Bears (map bare_mention) (pointwise same_mention)
mentions_bear = list_bears mention_bears

-- ---- what a call applies

callee_tells : (a b : Callee) → same_callee a b ≡ true → bare_callee a ≡ bare_callee b
callee_tells (callees.World k) (callees.World l) e = λ i. callees.World (kind_tells k l e i)
callee_tells (callees.Pure k) (callees.Pure l) e = λ i. callees.Pure (pure_tells k l e i)
callee_tells (callees.Exported f) (callees.Exported g) e = λ i. callees.Exported (function_tells f g e i)
callee_tells (callees.Defined m) (callees.Defined n) e = λ i. callees.Defined (named_bears.tells m n e i)
callee_tells callees.MatchFail callees.MatchFail e = refl
callee_tells callees.Raise callees.Raise e = refl
callee_tells a b e = cc

callee_itself : (a : Callee) → same_callee a a ≡ true
callee_itself (callees.World k) = number_itself (number_of_call k)
callee_itself (callees.Pure k) = number_itself (number_of_pure k)
callee_itself (callees.Exported f) = function_itself f
callee_itself (callees.Defined n) = named_bears.itself n
callee_itself callees.MatchFail = refl
callee_itself callees.Raise = refl

callee_images : (a b : Callee) → same_callee (bare_callee a) (bare_callee b) ≡ same_callee a b
callee_images (callees.World k) (callees.World l) = refl
callee_images (callees.Pure k) (callees.Pure l) = refl
callee_images (callees.Exported f) (callees.Exported g) = refl
callee_images (callees.Defined m) (callees.Defined n) = refl
callee_images callees.MatchFail callees.MatchFail = refl
callee_images callees.Raise callees.Raise = refl
callee_images a b = refl

-- ---- patterns

mutual
  pattern_tells : (a b : Pattern) → same_pattern a b ≡ true → bare_pattern a ≡ bare_pattern b
  pattern_tells (patterns.Integer m) (patterns.Integer n) e = λ i. patterns.Integer (same_integer m n e i)
  pattern_tells (patterns.Character c) (patterns.Character d) e = λ i. patterns.Character (same_number c d e i)
  pattern_tells (patterns.Text t) (patterns.Text u) e = λ i. patterns.Text (text_tells t u e i)
  pattern_tells (patterns.Atom t) (patterns.Atom u) e = λ i. patterns.Atom (text_tells t u e i)
  pattern_tells (patterns.Variable v) (patterns.Variable w) e = λ i. patterns.Variable (mention_bears.tells v w e i)
  pattern_tells (patterns.Tuple ps) (patterns.Tuple qs) e = λ i. patterns.Tuple (patterns_tell ps qs e i)
  pattern_tells (patterns.List ps) (patterns.List qs) e = λ i. patterns.List (patterns_tell ps qs e i)
  pattern_tells (patterns.Onto ps p) (patterns.Onto qs q) e =
      let r = and_parts (same_patterns ps qs) (same_pattern p q) e in
      λ i. patterns.Onto (patterns_tell ps qs r.0 i) (pattern_tells p q r.1 i)
  pattern_tells (patterns.Alias v p) (patterns.Alias w q) e =
      let r = and_parts (same_mention v w) (same_pattern p q) e in
      λ i. patterns.Alias (mention_bears.tells v w r.0 i) (pattern_tells p q r.1 i)
  pattern_tells a b e = cc

  patterns_tell : (ps qs : Patterns) → same_patterns ps qs ≡ true → bare_patterns ps ≡ bare_patterns qs
  patterns_tell patterns.NoMore patterns.NoMore e = refl
  patterns_tell patterns.NoMore (patterns.Also q qs) e = cc
  patterns_tell (patterns.Also p ps) patterns.NoMore e = cc
  patterns_tell (patterns.Also p ps) (patterns.Also q qs) e =
      let r = and_parts (same_pattern p q) (same_patterns ps qs) e in
      λ i. patterns.Also (pattern_tells p q r.0 i) (patterns_tell ps qs r.1 i)

mutual
  pattern_itself : (a : Pattern) → same_pattern a a ≡ true
  pattern_itself (patterns.Integer n) = integer_itself n
  pattern_itself (patterns.Character c) = number_itself c
  pattern_itself (patterns.Text t) = text_itself t
  pattern_itself (patterns.Atom t) = text_itself t
  pattern_itself (patterns.Variable v) = text_itself v.name
  pattern_itself (patterns.Tuple ps) = patterns_themselves ps
  pattern_itself (patterns.List ps) = patterns_themselves ps
  pattern_itself (patterns.Onto ps p) = and_from _ _ (patterns_themselves ps) (pattern_itself p)
  pattern_itself (patterns.Alias v p) = and_from _ _ (text_itself v.name) (pattern_itself p)

  patterns_themselves : (ps : Patterns) → same_patterns ps ps ≡ true
  patterns_themselves patterns.NoMore = refl
  patterns_themselves (patterns.Also p ps) = and_from _ _ (pattern_itself p) (patterns_themselves ps)

mutual
  pattern_images : (a b : Pattern) → same_pattern (bare_pattern a) (bare_pattern b) ≡ same_pattern a b
  pattern_images (patterns.Integer m) (patterns.Integer n) = refl
  pattern_images (patterns.Character c) (patterns.Character d) = refl
  pattern_images (patterns.Text t) (patterns.Text u) = refl
  pattern_images (patterns.Atom t) (patterns.Atom u) = refl
  pattern_images (patterns.Variable v) (patterns.Variable w) = refl
  pattern_images (patterns.Tuple ps) (patterns.Tuple qs) = patterns_images ps qs
  pattern_images (patterns.List ps) (patterns.List qs) = patterns_images ps qs
  pattern_images (patterns.Onto ps p) (patterns.Onto qs q) = λ i. patterns_images ps qs i && pattern_images p q i
  pattern_images (patterns.Alias v p) (patterns.Alias w q) = λ i. same_mention v w && pattern_images p q i
  pattern_images a b = refl

  patterns_images : (ps qs : Patterns) → same_patterns (bare_patterns ps) (bare_patterns qs) ≡ same_patterns ps qs
  patterns_images patterns.NoMore patterns.NoMore = refl
  patterns_images patterns.NoMore (patterns.Also q qs) = refl
  patterns_images (patterns.Also p ps) patterns.NoMore = refl
  patterns_images (patterns.Also p ps) (patterns.Also q qs) = λ i. pattern_images p q i && patterns_images ps qs i

pattern_list_tells : (ps qs : List Pattern) → same_pattern_list ps qs ≡ true → map bare_pattern ps ≡ map bare_pattern qs
pattern_list_tells [] [] e = refl
pattern_list_tells [] (q ∷ qs) e = cc
pattern_list_tells (p ∷ ps) [] e = cc
pattern_list_tells (p ∷ ps) (q ∷ qs) e =
    let r = and_parts (same_pattern p q) (same_pattern_list ps qs) e in
    λ i. pattern_tells p q r.0 i ∷ pattern_list_tells ps qs r.1 i

pattern_list_itself : (ps : List Pattern) → same_pattern_list ps ps ≡ true
pattern_list_itself [] = refl
pattern_list_itself (p ∷ ps) = and_from _ _ (pattern_itself p) (pattern_list_itself ps)

pattern_list_images : (ps qs : List Pattern) → same_pattern_list (map bare_pattern ps) (map bare_pattern qs) ≡ same_pattern_list ps qs
pattern_list_images [] [] = refl
pattern_list_images [] (q ∷ qs) = refl
pattern_list_images (p ∷ ps) [] = refl
pattern_list_images (p ∷ ps) (q ∷ qs) = λ i. pattern_images p q i && pattern_list_images ps qs i

-- ---- expressions

mutual
  tree_tells : (a b : Tree) → same_tree a b ≡ true → bare_tree a ≡ bare_tree b
  tree_tells (trees.Integer m) (trees.Integer n) e = λ i. trees.Integer (same_integer m n e i)
  tree_tells (trees.Character c) (trees.Character d) e = λ i. trees.Character (same_number c d e i)
  tree_tells (trees.Text t) (trees.Text u) e = λ i. trees.Text (text_tells t u e i)
  tree_tells (trees.Atom t) (trees.Atom u) e = λ i. trees.Atom (text_tells t u e i)
  tree_tells (trees.Variable v) (trees.Variable w) e = λ i. trees.Variable (mention_bears.tells v w e i)
  tree_tells (trees.Tuple ts) (trees.Tuple us) e = λ i. trees.Tuple (trees_tell ts us e i)
  tree_tells (trees.List ts) (trees.List us) e = λ i. trees.List (trees_tell ts us e i)
  tree_tells (trees.Onto ts t) (trees.Onto us u) e =
      let p = and_parts (same_trees ts us) (same_tree t u) e in
      λ i. trees.Onto (trees_tell ts us p.0 i) (tree_tells t u p.1 i)
  tree_tells (trees.Values ts) (trees.Values us) e = λ i. trees.Values (trees_tell ts us e i)
  tree_tells (trees.Let vs t u) (trees.Let ws x y) e =
      let p = and_parts (pointwise same_mention vs ws) (same_tree t x && same_tree u y) e in
      let q = and_parts (same_tree t x) (same_tree u y) p.1 in
      λ i. trees.Let (mentions_bear.tells vs ws p.0 i) (tree_tells t x q.0 i) (tree_tells u y q.1 i)
  tree_tells (trees.Case at t cs) (trees.Case bt u ds) e =
      let p = and_parts (same_tree t u) (same_clauses cs ds) e in
      λ i. trees.Case 0 (tree_tells t u p.0 i) (clauses_tell cs ds p.1 i)
  tree_tells (trees.Do t u) (trees.Do x y) e =
      let p = and_parts (same_tree t x) (same_tree u y) e in
      λ i. trees.Do (tree_tells t x p.0 i) (tree_tells u y p.1 i)
  tree_tells (trees.Call at c ts) (trees.Call bt d us) e =
      let p = and_parts (same_callee c d) (same_trees ts us) e in
      λ i. trees.Call 0 (callee_tells c d p.0 i) (trees_tell ts us p.1 i)
  tree_tells (trees.Try at t vs u ws h) (trees.Try bt x ps y qs z) e =
      let p = and_parts (same_tree t x) (pointwise same_mention vs ps && (same_tree u y && (pointwise same_mention ws qs && same_tree h z))) e in
      let q = and_parts (pointwise same_mention vs ps) (same_tree u y && (pointwise same_mention ws qs && same_tree h z)) p.1 in
      let r = and_parts (same_tree u y) (pointwise same_mention ws qs && same_tree h z) q.1 in
      let s = and_parts (pointwise same_mention ws qs) (same_tree h z) r.1 in
      λ i. trees.Try 0 (tree_tells t x p.0 i) (mentions_bear.tells vs ps q.0 i) (tree_tells u y r.0 i) (mentions_bear.tells ws qs s.0 i) (tree_tells h z s.1 i)
  tree_tells (trees.Catch at t) (trees.Catch bt u) e = λ i. trees.Catch 0 (tree_tells t u e i)
  tree_tells (trees.Receive at cs t u) (trees.Receive bt ds x y) e =
      let p = and_parts (same_clauses cs ds) (same_tree t x && same_tree u y) e in
      let q = and_parts (same_tree t x) (same_tree u y) p.1 in
      λ i. trees.Receive 0 (clauses_tell cs ds p.0 i) (tree_tells t x q.0 i) (tree_tells u y q.1 i)
  tree_tells a b e = cc

  trees_tell : (ts us : Trees) → same_trees ts us ≡ true → bare_trees ts ≡ bare_trees us
  trees_tell trees.NoMore trees.NoMore e = refl
  trees_tell trees.NoMore (trees.Also u us) e = cc
  trees_tell (trees.Also t ts) trees.NoMore e = cc
  trees_tell (trees.Also t ts) (trees.Also u us) e =
      let p = and_parts (same_tree t u) (same_trees ts us) e in
      λ i. trees.Also (tree_tells t u p.0 i) (trees_tell ts us p.1 i)

  clauses_tell : (cs ds : Clauses) → same_clauses cs ds ≡ true → bare_clauses cs ≡ bare_clauses ds
  clauses_tell trees.NoClause trees.NoClause e = refl
  clauses_tell trees.NoClause (trees.Clause qs h c ds) e = cc
  clauses_tell (trees.Clause ps g b cs) trees.NoClause e = cc
  clauses_tell (trees.Clause ps g b cs) (trees.Clause qs h c ds) e =
      let p = and_parts (same_pattern_list ps qs && (same_tree g h && same_tree b c)) (same_clauses cs ds) e in
      let q = and_parts (same_pattern_list ps qs) (same_tree g h && same_tree b c) p.0 in
      let r = and_parts (same_tree g h) (same_tree b c) q.1 in
      λ i. trees.Clause (pattern_list_tells ps qs q.0 i) (tree_tells g h r.0 i) (tree_tells b c r.1 i) (clauses_tell cs ds p.1 i)

mutual
  tree_itself : (a : Tree) → same_tree a a ≡ true
  tree_itself (trees.Integer n) = integer_itself n
  tree_itself (trees.Character c) = number_itself c
  tree_itself (trees.Text t) = text_itself t
  tree_itself (trees.Atom t) = text_itself t
  tree_itself (trees.Variable v) = text_itself v.name
  tree_itself (trees.Tuple ts) = trees_themselves ts
  tree_itself (trees.List ts) = trees_themselves ts
  tree_itself (trees.Onto ts t) = and_from _ _ (trees_themselves ts) (tree_itself t)
  tree_itself (trees.Values ts) = trees_themselves ts
  tree_itself (trees.Let vs t u) = and_from _ _ (mentions_bear.itself vs) (and_from _ _ (tree_itself t) (tree_itself u))
  tree_itself (trees.Case at t cs) = and_from _ _ (tree_itself t) (clauses_themselves cs)
  tree_itself (trees.Do t u) = and_from _ _ (tree_itself t) (tree_itself u)
  tree_itself (trees.Call at c ts) = and_from _ _ (callee_itself c) (trees_themselves ts)
  tree_itself (trees.Try at t vs u ws h) =
      and_from _ _ (tree_itself t) (and_from _ _ (mentions_bear.itself vs) (and_from _ _ (tree_itself u) (and_from _ _ (mentions_bear.itself ws) (tree_itself h))))
  tree_itself (trees.Catch at t) = tree_itself t
  tree_itself (trees.Receive at cs t u) = and_from _ _ (clauses_themselves cs) (and_from _ _ (tree_itself t) (tree_itself u))

  trees_themselves : (ts : Trees) → same_trees ts ts ≡ true
  trees_themselves trees.NoMore = refl
  trees_themselves (trees.Also t ts) = and_from _ _ (tree_itself t) (trees_themselves ts)

  clauses_themselves : (cs : Clauses) → same_clauses cs cs ≡ true
  clauses_themselves trees.NoClause = refl
  clauses_themselves (trees.Clause ps g b cs) =
      and_from _ _ (and_from _ _ (pattern_list_itself ps) (and_from _ _ (tree_itself g) (tree_itself b))) (clauses_themselves cs)

mutual
  tree_images : (a b : Tree) → same_tree (bare_tree a) (bare_tree b) ≡ same_tree a b
  tree_images (trees.Integer m) (trees.Integer n) = refl
  tree_images (trees.Character c) (trees.Character d) = refl
  tree_images (trees.Text t) (trees.Text u) = refl
  tree_images (trees.Atom t) (trees.Atom u) = refl
  tree_images (trees.Variable v) (trees.Variable w) = refl
  tree_images (trees.Tuple ts) (trees.Tuple us) = trees_images ts us
  tree_images (trees.List ts) (trees.List us) = trees_images ts us
  tree_images (trees.Onto ts t) (trees.Onto us u) = λ i. trees_images ts us i && tree_images t u i
  tree_images (trees.Values ts) (trees.Values us) = trees_images ts us
  tree_images (trees.Let vs t u) (trees.Let ws x y) = λ i. mentions_bear.images vs ws i && (tree_images t x i && tree_images u y i)
  tree_images (trees.Case at t cs) (trees.Case bt u ds) = λ i. tree_images t u i && clauses_images cs ds i
  tree_images (trees.Do t u) (trees.Do x y) = λ i. tree_images t x i && tree_images u y i
  tree_images (trees.Call at c ts) (trees.Call bt d us) = λ i. callee_images c d i && trees_images ts us i
  tree_images (trees.Try at t vs u ws h) (trees.Try bt x ps y qs z) =
      λ i. tree_images t x i && (mentions_bear.images vs ps i && (tree_images u y i && (mentions_bear.images ws qs i && tree_images h z i)))
  tree_images (trees.Catch at t) (trees.Catch bt u) = tree_images t u
  tree_images (trees.Receive at cs t u) (trees.Receive bt ds x y) = λ i. clauses_images cs ds i && (tree_images t x i && tree_images u y i)
  tree_images a b = refl

  trees_images : (ts us : Trees) → same_trees (bare_trees ts) (bare_trees us) ≡ same_trees ts us
  trees_images trees.NoMore trees.NoMore = refl
  trees_images trees.NoMore (trees.Also u us) = refl
  trees_images (trees.Also t ts) trees.NoMore = refl
  trees_images (trees.Also t ts) (trees.Also u us) = λ i. tree_images t u i && trees_images ts us i

  clauses_images : (cs ds : Clauses) → same_clauses (bare_clauses cs) (bare_clauses ds) ≡ same_clauses cs ds
  clauses_images trees.NoClause trees.NoClause = refl
  clauses_images trees.NoClause (trees.Clause qs h c ds) = refl
  clauses_images (trees.Clause ps g b cs) trees.NoClause = refl
  clauses_images (trees.Clause ps g b cs) (trees.Clause qs h c ds) =
      λ i. (pattern_list_images ps qs i && (tree_images g h i && tree_images b c i)) && clauses_images cs ds i

pub tree_bears : Bears bare_tree same_tree
tree_bears = record { tells = tree_tells; itself = tree_itself; images = tree_images }

pub callee_bears : Bears bare_callee same_callee
callee_bears = record { tells = callee_tells; itself = callee_itself; images = callee_images }

pub clause_bears : Bears bare_clause same_clause
clause_bears = record {
  tells = λ c d e.
      let p = and_parts (same_pattern_list c.patterns d.patterns) (same_tree c.guard d.guard && same_tree c.body d.body) e in
      let q = and_parts (same_tree c.guard d.guard) (same_tree c.body d.body) p.1 in
      λ i. record { patterns = pattern_list_tells c.patterns d.patterns p.0 i; guard = tree_tells c.guard d.guard q.0 i; body = tree_tells c.body d.body q.1 i };
  itself = λ c. and_from _ _ (pattern_list_itself c.patterns) (and_from _ _ (tree_itself c.guard) (tree_itself c.body));
  images = λ c d. λ i. pattern_list_images c.patterns d.patterns i && (tree_images c.guard d.guard i && tree_images c.body d.body i);
}

-- values whose images are compared
pub rows_tell : {X K : Type 0} (f : X → K) {B : K → K} {S : K → K → Bool} → Bears B S → (xs ys : List X) → pointwise (on f S) xs ys ≡ true → map B (map f xs) ≡ map B (map f ys)
rows_tell f b [] [] e = refl
rows_tell f b [] (y ∷ ys) e = cc
rows_tell f b (x ∷ xs) [] e = cc
rows_tell f {B} {S} b (x ∷ xs) (y ∷ ys) e =
    let p = and_parts (S (f x) (f y)) (pointwise (on f S) xs ys) e in
    λ i. b.tells (f x) (f y) p.0 i ∷ rows_tell f b xs ys p.1 i

-- ---- constants

mutual
  constant_tells : (a b : Constant) → same_constant a b ≡ true → a ≡ b
  constant_tells (constants.Integer m) (constants.Integer n) e = λ i. constants.Integer (same_integer m n e i)
  constant_tells (constants.Character c) (constants.Character d) e = λ i. constants.Character (same_number c d e i)
  constant_tells (constants.Text t) (constants.Text u) e = λ i. constants.Text (text_tells t u e i)
  constant_tells (constants.Atom t) (constants.Atom u) e = λ i. constants.Atom (text_tells t u e i)
  constant_tells (constants.Tuple cs) (constants.Tuple ds) e = λ i. constants.Tuple (constants_tell cs ds e i)
  constant_tells (constants.List cs) (constants.List ds) e = λ i. constants.List (constants_tell cs ds e i)
  constant_tells (constants.Onto cs c) (constants.Onto ds d) e =
      let p = and_parts (same_constants cs ds) (same_constant c d) e in
      λ i. constants.Onto (constants_tell cs ds p.0 i) (constant_tells c d p.1 i)
  constant_tells a b e = cc

  constants_tell : (cs ds : Constants) → same_constants cs ds ≡ true → cs ≡ ds
  constants_tell constants.NoMore constants.NoMore e = refl
  constants_tell constants.NoMore (constants.Also d ds) e = cc
  constants_tell (constants.Also c cs) constants.NoMore e = cc
  constants_tell (constants.Also c cs) (constants.Also d ds) e =
      let p = and_parts (same_constant c d) (same_constants cs ds) e in
      λ i. constants.Also (constant_tells c d p.0 i) (constants_tell cs ds p.1 i)

mutual
  constant_itself : (a : Constant) → same_constant a a ≡ true
  constant_itself (constants.Integer n) = integer_itself n
  constant_itself (constants.Character c) = number_itself c
  constant_itself (constants.Text t) = text_itself t
  constant_itself (constants.Atom t) = text_itself t
  constant_itself (constants.Tuple cs) = constants_themselves cs
  constant_itself (constants.List cs) = constants_themselves cs
  constant_itself (constants.Onto cs c) = and_from _ _ (constants_themselves cs) (constant_itself c)

  constants_themselves : (cs : Constants) → same_constants cs cs ≡ true
  constants_themselves constants.NoMore = refl
  constants_themselves (constants.Also c cs) = and_from _ _ (constant_itself c) (constants_themselves cs)

-- ---- the parts of a module

pub attribute_bears : Bears itself_of same_attribute
attribute_bears = record {
  tells = λ a b e.
      let p = and_parts (same_text a.name b.name) (same_constant a.value b.value) e in
      λ i. record { name = text_tells a.name b.name p.0 i; value = constant_tells a.value b.value p.1 i };
  itself = λ a. and_from _ _ (text_itself a.name) (constant_itself a.value);
  images = λ a b. refl;
}

pub definition_bears : Bears bare_definition same_definition
definition_bears = record {
  tells = λ a b e.
      let p = and_parts (same_named a.named b.named) (pointwise same_mention a.parameters b.parameters && same_tree a.body b.body) e in
      let q = and_parts (pointwise same_mention a.parameters b.parameters) (same_tree a.body b.body) p.1 in
      λ i. record { named = named_bears.tells a.named b.named p.0 i; parameters = mentions_bear.tells a.parameters b.parameters q.0 i; body = tree_tells a.body b.body q.1 i };
  itself = λ a. and_from _ _ (named_bears.itself a.named) (and_from _ _ (mentions_bear.itself a.parameters) (tree_itself a.body));
  images = λ a b. λ i. same_named a.named b.named && (mentions_bear.images a.parameters b.parameters i && tree_images a.body b.body i);
}

exports_bear : Bears (map bare_named) (pointwise same_named)
exports_bear = list_bears named_bears

definitions_bear : Bears (map bare_definition) (pointwise same_definition)
definitions_bear = list_bears definition_bears

attributes_tell : (xs ys : List AttributeTree) → pointwise same_attribute xs ys ≡ true → xs ≡ ys
attributes_tell [] [] e = refl
attributes_tell [] (y ∷ ys) e = cc
attributes_tell (x ∷ xs) [] e = cc
attributes_tell (x ∷ xs) (y ∷ ys) e =
    let p = and_parts (same_attribute x y) (pointwise same_attribute xs ys) e in
    λ i. attribute_bears.tells x y p.0 i ∷ attributes_tell xs ys p.1 i

attributes_themselves : (xs : List AttributeTree) → pointwise same_attribute xs xs ≡ true
attributes_themselves [] = refl
attributes_themselves (x ∷ xs) = and_from _ _ (attribute_bears.itself x) (attributes_themselves xs)

module_tells : (m n : ModuleTree) → same_module m n ≡ true → bare_module m ≡ bare_module n
module_tells m n e =
    let p = and_parts (same_text m.name n.name) (pointwise same_named m.exports n.exports && (pointwise same_attribute m.attributes n.attributes && pointwise same_definition m.definitions n.definitions)) e in
    let q = and_parts (pointwise same_named m.exports n.exports) (pointwise same_attribute m.attributes n.attributes && pointwise same_definition m.definitions n.definitions) p.1 in
    let r = and_parts (pointwise same_attribute m.attributes n.attributes) (pointwise same_definition m.definitions n.definitions) q.1 in
    λ i. record { name = text_tells m.name n.name p.0 i; exports = exports_bear.tells m.exports n.exports q.0 i; attributes = attributes_tell m.attributes n.attributes r.0 i; definitions = definitions_bear.tells m.definitions n.definitions r.1 i }

pub module_bears : Bears bare_module same_module
module_bears = record {
  tells = module_tells;
  itself = λ m. and_from _ _ (text_itself m.name) (and_from _ _ (exports_bear.itself m.exports) (and_from _ _ (attributes_themselves m.attributes) (definitions_bear.itself m.definitions)));
  images = λ m n. λ i. same_text m.name n.name && (exports_bear.images m.exports n.exports i && (pointwise same_attribute m.attributes n.attributes && definitions_bear.images m.definitions n.definitions i));
}

-- ---- the laws of the comparisons

pub mentions_equal : IsEquivalence same_mention
mentions_equal = equivalent mention_bears

pub exports_equal : IsEquivalence same_named
exports_equal = equivalent named_bears

pub attributes_equal : IsEquivalence same_attribute
attributes_equal = equivalent attribute_bears

pub trees_equal : IsEquivalence same_tree
trees_equal = equivalent tree_bears

pub callees_equal : IsEquivalence same_callee
callees_equal = equivalent callee_bears

pub choices_equal : IsEquivalence same_clause
choices_equal = equivalent clause_bears

pub modules_equal : IsEquivalence same_module
modules_equal = equivalent module_bears
