-- Definitions that are copied one by one: the name of each is new to the copies, since the names of a map differ.
use Rattle.std.proofs.Common.{◌≡◌, Bool, false, cond, List, [], ◌∷◌, ◌++◌, map, Some, None, refl, sym, ap, subst, ◌∙◌, append_assoc, rules}
use Rattle.std.specs.Cmp.{IsEquivalence}
use Rattle.std.specs.Cmp.Rules.{comparing}
use Rattle.std.specs.List.{IsDistinct, AllByRecursion}
use Rattle.std.specs.Map.{lookup}
use Rattle.std.proofs.lemmas.Map.Keys.{IsDistinct-head, IsDistinct-tail}
use Rattle.std.proofs.lemmas.List.{map-append}
use Rattle.core_tree.specs.Syntax.{Function, DefinitionTree}
use Rattle.core_tree.specs.Functions.{same_function}
use Rattle.core_tree.specs.Definitions.{definition_of, keys_in}
use Rattle.core_tree.specs.declared.module.Definition.{Definition}

functions_equal : IsEquivalence same_function
functions_equal = search (comparing, rules)

-- what holds of all keys holds of the one in the middle
holds_of : (P : Function → Type 0) (xs : List Function) (k : Function) (ys : List Function) → AllByRecursion P (xs ++ k ∷ ys) → P k
holds_of P [] k ys h = h.0
holds_of P (x ∷ xs) k ys h = holds_of P xs k ys h.1

-- a key that comes after others, all different, is not among them
is_new : (es : List (Function × Definition)) (k : Function) (ys : List Function) → IsDistinct same_function (keys_in es ++ k ∷ ys) → lookup (same_function k) es ≡ None
is_new [] k ys h = refl
is_new (e ∷ es) k ys h =
    let apart : same_function k e.0 ≡ false = functions_equal.symm k e.0 ∙ holds_of (λ y. same_function e.0 y ≡ false) (keys_in es) k ys (IsDistinct-head same_function e.0 _ h) in
    ap (λ (b : Bool). cond b (Some e.1) (lookup (same_function k) es)) apart ∙ is_new es k ys (IsDistinct-tail same_function e.0 _ h)

named_by : List DefinitionTree → List Function
named_by ds = map (λ d. d.named.function) ds

keys_are : (es : List (Function × Definition)) → named_by (map definition_of es) ≡ keys_in es
unfolding named_by
keys_are [] = refl
keys_are (e ∷ es) = ap (λ ks. e.0 ∷ ks) (keys_are es)

-- the keys of the copies, and of what is left, are those of all
keys_so_far : (all copied left : List (Function × Definition)) → map definition_of copied ++ map definition_of left ≡ map definition_of all → keys_in all ≡ keys_in copied ++ keys_in left
unfolding named_by
keys_so_far all copied left so_far =
    sym (keys_are all) ∙ sym (ap named_by so_far) ∙ map-append (λ d. d.named.function) (map definition_of copied) (map definition_of left) ∙ (λ i. keys_are copied i ++ keys_are left i)

-- one more copy, at the end
pub next_copied : (all copied after left rest : List (Function × Definition)) (f g : Function) (d e : Definition) → IsDistinct same_function (keys_in all) → left ≡ (f, d) ∷ rest → g ≡ f → ((h : Function) → definition_of (h, e) ≡ definition_of (h, d)) → (lookup (same_function g) copied ≡ None → after ≡ copied ++ (g, e) ∷ []) → map definition_of copied ++ map definition_of left ≡ map definition_of all → map definition_of after ++ map definition_of rest ≡ map definition_of all
next_copied all copied after left rest f g d e distinct is name same inserted so_far =
    let keys : IsDistinct same_function (keys_in copied ++ f ∷ keys_in rest) =
    subst (IsDistinct same_function) (keys_so_far all copied left so_far ∙ ap (λ es. keys_in copied ++ keys_in es) is) distinct in
    let new : lookup (same_function g) copied ≡ None = rw name (is_new copied f (keys_in rest) keys) in
    let made : definition_of (g, e) ≡ definition_of (f, d) = same g ∙ ap (λ n. definition_of (n, d)) name in
    ap (λ es. map definition_of es ++ map definition_of rest) (inserted new)
    ∙ ap (λ ds. ds ++ map definition_of rest) (map-append definition_of copied ((g, e) ∷ []))
    ∙ append_assoc (map definition_of copied) (definition_of (g, e) ∷ []) (map definition_of rest)
    ∙ ap (λ t. map definition_of copied ++ t ∷ map definition_of rest) made
    ∙ ap (λ es. map definition_of copied ++ map definition_of es) (sym is)
    ∙ so_far
