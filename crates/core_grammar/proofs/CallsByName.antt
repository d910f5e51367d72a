-- Calls found by their names and the number of their arguments.
use Rattle.std.proofs.Common.{◌≡◌, ◌≢◌, ℕ, zero, suc, ◌<◌, Bool, true, false, cond, List, [], ◌∷◌, get_or, Option, Some, None, refl, sym, ap, ◌∙◌, subst, arith}
use Rattle.std.specs.Prelude.{◌&&◌, ◌==◌, nat_lt, codes}
use Rattle.std.specs.Cmp.Lexicographic.{same_text as texts_are_one}
use Rattle.std.proofs.lemmas.Bool.{eqb-true}
use Rattle.std.proofs.lemmas.Bool.Decides.{nat_tests}
use borrow.Author.Tests.{ltb-true}
use Rattle.core_calls.specs.declared.call.CallKind.{CallKind}
use Rattle.core_calls.specs.declared.call.CallKind.TheVariants as kinds
use Rattle.core_calls.specs.declared.pure.PureCall.{PureCall}
use Rattle.core_calls.specs.declared.pure.PureCall.TheVariants as pures
use Rattle.core_calls.specs.Calls.{Signature, signature, calls, has_signature, first_with, call_with}
use Rattle.core_calls.specs.CallCodes.{number_of_call, call_of_number-number_of_call}
use Rattle.core_calls.specs.PureCalls.{pure_signature, pure_calls, pure_call_with}
use Rattle.core_calls.specs.CallCodes.{number_of_pure, pure_of_number-number_of_pure}
use Rattle.core_tree.specs.Syntax.{Callee}
use Rattle.core_tree.specs.Callee as callees
use Rattle.core_grammar.specs.Grammar.{IsUnlisted, Calls, calls_world, calls_itself, calls_export, Operates, fails_match, raises_again}
use Rattle.term_core.specs.Kinds.{same_text}
use Rattle.core_grammar.specs.inside.DecoderForms.{export_called, unlisted_called, callee_by, callee_named, operation_named}

-- ---- the first that passes a test

abbrev one_of : {X : Type 0} → X → Option X
one_of x = Some x

some_is : {X : Type 0} (x y : X) → one_of x ≡ one_of y → x ≡ y
some_is x y e = cc

first_found : {X : Type 0} (test : X → Bool) (xs : List X) (x : X) → first_with test xs ≡ Some x → test x ≡ true
first_found test [] x e = absurd cc
first_found {X = X} test (y ∷ ys) x e = by (first_found test ys x) (test y) refl e
  where
    by : (first_with test ys ≡ Some x → test x ≡ true) → (b : Bool) → test y ≡ b → cond b (Some y) (first_with test ys) ≡ Some x → test x ≡ true
    by again true is f = subst (λ (z : X). test z ≡ true) (some_is y x f) is
    by again false is f = again f

abbrev tail_of : {X : Type 0} → List X → List X
tail_of [] = []
tail_of (x ∷ xs) = xs

first_fails : {X : Type 0} (test : X → Bool) (y : X) (ys : List X) → first_with test (y ∷ ys) ≡ None → (test y ≡ false) × (first_with test ys ≡ None)
first_fails test y ys e = by (test y) refl e
  where
    by : (b : Bool) → test y ≡ b → cond b (Some y) (first_with test ys) ≡ None → (test y ≡ false) × (first_with test ys ≡ None)
    by true is f = absurd cc
    by false is f = (is, f)

none_passes : {X : Type 0} (test : X → Bool) (xs : List X) (d : X) → first_with test xs ≡ None → test d ≡ false → (i : ℕ) → test (get_or xs i d) ≡ false
none_passes test [] d e other i = other
none_passes test (x ∷ xs) d e other zero = (first_fails test x xs e).0
none_passes test (x ∷ xs) d e other (suc i) = none_passes test xs d (first_fails test x xs e).1 other i

-- ---- names

number_own : (n : ℕ) → (n == n) ≡ true
number_own n = grind (arith, nat_tests)

bytes_own : (a : List ℕ) → same_text a a ≡ true
bytes_own [] = refl
bytes_own (x ∷ xs) = rw (number_own x) (bytes_own xs)

both_true : (a b : Bool) → (a && b) ≡ true → (a ≡ true) × (b ≡ true)
both_true true b e = (refl, e)
both_true false b e = absurd cc

abbrev pub signed : List ℕ → List ℕ → ℕ → Signature
signed a f n = record { module_name = a; function_name = f; arity = n }

signature_is : (a f : List ℕ) (n : ℕ) (s : Signature) → has_signature a f n s ≡ true → s ≡ signed a f n
signature_is a f n s e =
    let h = both_true (same_text s.module_name a) (same_text s.function_name f && s.arity == n) e in
    let g = both_true (same_text s.function_name f) (s.arity == n) h.1 in
    let in_module : s.module_name ≡ a = texts_are_one s.module_name a (sym h.0) in
    let of_function : s.function_name ≡ f = texts_are_one s.function_name f (sym g.0) in
    let with_arity : s.arity ≡ n = eqb-true _ _ g.1 in
    λ i. record { module_name = in_module i; function_name = of_function i; arity = with_arity i }

signature_own : (a f : List ℕ) (n : ℕ) → has_signature a f n (signed a f n) ≡ true
signature_own a f n = rw (bytes_own a, bytes_own f, number_own n) refl

apart : (a f : List ℕ) (n : ℕ) (s : Signature) → has_signature a f n s ≡ false → s ≢ signed a f n
apart a f n s e is = absurd (cc (sym e ∙ ap (has_signature a f n) is ∙ signature_own a f n))

-- ---- calls of the world

call_is : (a f : List ℕ) (n : ℕ) (kind : CallKind) → call_with a f n ≡ Some kind → signature kind ≡ signed a f n
unfolding call_with
call_is a f n kind e = signature_is a f n (signature kind) (first_found (λ k. has_signature a f n (signature k)) calls kind e)

no_call_is : (a f : List ℕ) (n : ℕ) → call_with a f n ≡ None → (kind : CallKind) → signature kind ≢ signed a f n
unfolding call_with
no_call_is a f n e kind =
    let first = (first_fails (λ k. has_signature a f n (signature k)) kinds.Spawn (tail_of calls) e).0 in
    let here = none_passes (λ k. has_signature a f n (signature k)) calls kinds.Spawn e first (number_of_call kind) in
    apart a f n (signature kind) (subst (λ (k : CallKind). has_signature a f n (signature k) ≡ false) (call_of_number-number_of_call kind) here)

pure_is : (a f : List ℕ) (n : ℕ) (kind : PureCall) → pure_call_with a f n ≡ Some kind → pure_signature kind ≡ signed a f n
unfolding pure_call_with
pure_is a f n kind e = signature_is a f n (pure_signature kind) (first_found (λ k. has_signature a f n (pure_signature k)) pure_calls kind e)

no_pure_is : (a f : List ℕ) (n : ℕ) → pure_call_with a f n ≡ None → (kind : PureCall) → pure_signature kind ≢ signed a f n
unfolding pure_call_with
no_pure_is a f n e kind =
    let first = (first_fails (λ k. has_signature a f n (pure_signature k)) pures.Add (tail_of pure_calls) e).0 in
    let here = none_passes (λ k. has_signature a f n (pure_signature k)) pure_calls pures.Add e first (number_of_pure kind) in
    apart a f n (pure_signature kind) (subst (λ (k : PureCall). has_signature a f n (pure_signature k) ≡ false) (pure_of_number-number_of_pure kind) here)

-- ---- what is found is called

is_some_callee : (b : Bool) (x y : Callee) → cond b (Some x) None ≡ Some y → (b ≡ true) × (x ≡ y)
is_some_callee true x y e = (refl, cc)
is_some_callee false x y e = absurd cc

export_found : (own a f : List ℕ) (n : ℕ) (callee : Callee) → IsUnlisted (signed a f n) → export_called own a f n ≡ Some callee → Calls own (signed a f n) callee
export_found own a f n callee new e =
    let h = is_some_callee (same_text own a && nat_lt n 256) (callees.Exported (record { name = f; arity = n })) callee e in
    let g = both_true (same_text own a) (nat_lt n 256) h.0 in
    let same : own ≡ a = texts_are_one own a (sym g.0) in
    let small : n < 256 = ltb-true _ _ g.1 in
    let made : Calls a (signed a f n) (callees.Exported (record { name = f; arity = n })) = calls_export small new in
    subst (λ (c : Callee). Calls own (signed a f n) c) h.1 (subst (λ (b : List ℕ). Calls b (signed a f n) (callees.Exported (record { name = f; arity = n }))) (sym same) made)

unlisted_found : (own a f : List ℕ) (n : ℕ) (o : Option PureCall) (callee : Callee) → call_with a f n ≡ None → pure_call_with a f n ≡ o → unlisted_called own a f n o ≡ Some callee → Calls own (signed a f n) callee
unlisted_found own a f n (Some kind) callee none is e =
    let same : callees.Pure kind ≡ callee = some_is (callees.Pure kind) callee e in
    let made : Calls own (pure_signature kind) (callees.Pure kind) = calls_itself in
    subst (λ (c : Callee). Calls own (signed a f n) c) same (subst (λ (s : Signature). Calls own s (callees.Pure kind)) (pure_is a f n kind is) made)
unlisted_found own a f n None callee none is e = export_found own a f n callee (record { by_world = no_call_is a f n none; by_itself = no_pure_is a f n is }) e

callee_by_found : (own a f : List ℕ) (n : ℕ) (o : Option CallKind) (callee : Callee) → call_with a f n ≡ o → callee_by own a f n o ≡ Some callee → Calls own (signed a f n) callee
callee_by_found own a f n (Some kind) callee is e =
    let same : callees.World kind ≡ callee = some_is (callees.World kind) callee e in
    let made : Calls own (signature kind) (callees.World kind) = calls_world in
    subst (λ (c : Callee). Calls own (signed a f n) c) same (subst (λ (s : Signature). Calls own s (callees.World kind)) (call_is a f n kind is) made)
callee_by_found own a f n None callee is e = unlisted_found own a f n (pure_call_with a f n) callee is refl e

pub callee_found : (own a f : List ℕ) (n : ℕ) (callee : Callee) → callee_named own a f n ≡ Some callee → Calls own (signed a f n) callee
unfolding callee_named
callee_found own a f n callee e = callee_by_found own a f n (call_with a f n) callee refl e

pub operation_found : (t : List ℕ) (n : ℕ) (callee : Callee) → operation_named t n ≡ Some callee → Operates t n callee
unfolding operation_named
operation_found t n callee e = by (same_text t (codes "match_fail") && n == 1) refl e
  where
    operates : (u : List ℕ) (m : ℕ) (c : Callee) (name : List ℕ) (k : ℕ) → (same_text t name && n == k) ≡ true → Operates name k c → c ≡ callee → Operates t n callee
    operates u m c name k is h same =
        let g = both_true (same_text t name) (n == k) is in
        let of_name : t ≡ name = texts_are_one t name (sym g.0) in
        let with_count : n ≡ k = eqb-true _ _ g.1 in
        rw (of_name, with_count) (subst (λ (x : Callee). Operates name k x) same h)

    last : (b : Bool) → (same_text t (codes "raise") && n == 2) ≡ b → cond b (Some callees.Raise) None ≡ Some callee → Operates t n callee
    last true is f = operates t n callees.Raise (codes "raise") 2 is raises_again (some_is callees.Raise callee f)
    last false is f = absurd cc

    by : (b : Bool) → (same_text t (codes "match_fail") && n == 1) ≡ b → cond b (Some callees.MatchFail) (cond (same_text t (codes "raise") && n == 2) (Some callees.Raise) None) ≡ Some callee → Operates t n callee
    by true is f = operates t n callees.MatchFail (codes "match_fail") 1 is fails_match (some_is callees.MatchFail callee f)
    by false is f = last (same_text t (codes "raise") && n == 2) refl f

-- ---- what is called is found

world_again : (kind : CallKind) (own : List ℕ) → callee_named own (signature kind).module_name (signature kind).function_name (signature kind).arity ≡ Some (callees.World kind)
unfolding callee_named call_with
world_again kinds.Spawn own = refl
world_again kinds.SpawnLink own = refl
world_again kinds.SpawnMonitor own = refl
world_again kinds.Bang own = refl
world_again kinds.Send own = refl
world_again kinds.Exit own = refl
world_again kinds.Link own = refl
world_again kinds.Unlink own = refl
world_again kinds.Monitor own = refl
world_again kinds.Demonitor own = refl
world_again kinds.DemonitorWith own = refl
world_again kinds.ProcessFlag own = refl
world_again kinds.Register own = refl
world_again kinds.Unregister own = refl
world_again kinds.Whereis own = refl
world_again kinds.IsProcessAlive own = refl
world_again kinds.MakeRef own = refl
world_again kinds.MonitorWith own = refl
world_again kinds.Alias own = refl
world_again kinds.AliasWith own = refl
world_again kinds.Unalias own = refl
world_again kinds.StartTimer own = refl
world_again kinds.SendAfter own = refl
world_again kinds.CancelTimer own = refl
world_again kinds.ReadTimer own = refl
world_again kinds.Registered own = refl
world_again kinds.ProcessInfo own = refl
world_again kinds.New own = refl
world_again kinds.Lookup own = refl
world_again kinds.Member own = refl
world_again kinds.LookupElement own = refl
world_again kinds.First own = refl
world_again kinds.Last own = refl
world_again kinds.Next own = refl
world_again kinds.Prev own = refl
world_again kinds.TableToList own = refl
world_again kinds.Insert own = refl
world_again kinds.InsertNew own = refl
world_again kinds.DeleteTable own = refl
world_again kinds.DeleteKey own = refl
world_again kinds.DeleteObject own = refl
world_again kinds.DeleteAllObjects own = refl
world_again kinds.Take own = refl
world_again kinds.UpdateCounter own = refl
world_again kinds.UpdateCounterWith own = refl
world_again kinds.UpdateElement own = refl
world_again kinds.GiveAway own = refl
world_again kinds.SetOptions own = refl
world_again kinds.Info own = refl
world_again kinds.InfoAll own = refl

pure_again : (kind : PureCall) (own : List ℕ) → callee_named own (pure_signature kind).module_name (pure_signature kind).function_name (pure_signature kind).arity ≡ Some (callees.Pure kind)
unfolding callee_named call_with pure_call_with
pure_again pures.Add own = refl
pure_again pures.Subtract own = refl
pure_again pures.Multiply own = refl
pure_again pures.Keep own = refl
pure_again pures.Negate own = refl
pure_again pures.Divide own = refl
pure_again pures.Remainder own = refl
pure_again pures.Absolute own = refl
pure_again pures.BitAnd own = refl
pure_again pures.BitOr own = refl
pure_again pures.BitXor own = refl
pure_again pures.BitNot own = refl
pure_again pures.Equal own = refl
pure_again pures.NotEqual own = refl
pure_again pures.Same own = refl
pure_again pures.NotSame own = refl
pure_again pures.Less own = refl
pure_again pures.AtMost own = refl
pure_again pures.Greater own = refl
pure_again pures.AtLeast own = refl
pure_again pures.And own = refl
pure_again pures.Or own = refl
pure_again pures.Xor own = refl
pure_again pures.Not own = refl
pure_again pures.IsInteger own = refl
pure_again pures.IsNumber own = refl
pure_again pures.IsAtom own = refl
pure_again pures.IsBoolean own = refl
pure_again pures.IsTuple own = refl
pure_again pures.IsList own = refl
pure_again pures.IsPid own = refl
pure_again pures.IsReference own = refl
pure_again pures.IsFloat own = refl
pure_again pures.IsBinary own = refl
pure_again pures.IsRecord own = refl
pure_again pures.Element own = refl
pure_again pures.SetElement own = refl
pure_again pures.TupleSize own = refl
pure_again pures.Head own = refl
pure_again pures.Tail own = refl
pure_again pures.Length own = refl
pure_again pures.Append own = refl
pure_again pures.Without own = refl
pure_again pures.TupleToList own = refl
pure_again pures.ListToTuple own = refl
pure_again pures.OwnPid own = refl
pure_again pures.Put own = refl
pure_again pures.Get own = refl
pure_again pures.GetAll own = refl
pure_again pures.GetKeys own = refl
pure_again pures.GetKeysOf own = refl
pure_again pures.Erase own = refl
pure_again pures.EraseAll own = refl
pure_again pures.Error own = refl
pure_again pures.ErrorWith own = refl
pure_again pures.Exit own = refl
pure_again pures.Throw own = refl
pure_again pures.ModuleInfo own = refl
pure_again pures.ModuleInfoItem own = refl
pure_again pures.Reverse own = refl
pure_again pures.Member own = refl
pure_again pures.AppendLists own = refl

nothing_found : {X : Type 0} (o : Option X) → ((x : X) → o ≡ Some x → ⊥) → o ≡ None
nothing_found None h = refl
nothing_found (Some x) h = absurd (h x refl)

less_again : (n m : ℕ) → n < m → nat_lt n m ≡ true
less_again n m h = grind (arith, nat_tests)

export_again : (own f : List ℕ) (n : ℕ) → n < 256 → IsUnlisted (signed own f n) → callee_named own own f n ≡ Some (callees.Exported (record { name = f; arity = n }))
unfolding callee_named
export_again own f n small new =
    let one : call_with own f n ≡ None = nothing_found (call_with own f n) (λ kind e. new.by_world kind (call_is own f n kind e)) in
    let two : pure_call_with own f n ≡ None = nothing_found (pure_call_with own f n) (λ kind e. new.by_itself kind (pure_is own f n kind e)) in
    rw (one, two, bytes_own own, less_again n 256 small) refl

pub callee_again : (own : List ℕ) (s : Signature) (callee : Callee) → Calls own s callee → callee_named own s.module_name s.function_name s.arity ≡ Some callee
callee_again own s callee (calls_world {kind = kind}) = world_again kind own
callee_again own s callee (calls_itself {kind = kind}) = pure_again kind own
callee_again own s callee (calls_export {function_name = f} {arity = n} small new) = export_again own f n small new

pub operation_again : (t : List ℕ) (n : ℕ) (callee : Callee) → Operates t n callee → operation_named t n ≡ Some callee
unfolding operation_named
operation_again t n callee fails_match = refl
operation_again t n callee raises_again = refl
