-- The names of calls: none has a bracket, and no two calls of one name take as many arguments.
use Rattle.std.proofs.Common.{◌≡◌, ◌==◌, ℕ, Bool, true, false, not, ◌&&◌, if◌then◌else◌, List, [], ◌∷◌, ◌++◌, Option, Some, None, MatchOption, IsUtf8, bytes_eq, ap, ap₂, sym, refl, ◌∙◌, subst, eq-eqb, eqb-true}
use Rattle.std.proofs.lemmas.Bool.{and_from, and_parts, both_ways, not-true}
use Rattle.std.proofs.lemmas.Slice.Eq.{bytes_eq-Decides}
use Rattle.std.specs.List.{list_all, position_or_len}
use Rattle.core_calls.specs.CallCodes.{number_of_call, call_of_number, call_of_number-number_of_call}
use Rattle.core_calls.specs.Calls.{call_with, calls, first_with, has_signature, signature}
use Rattle.core_calls.specs.declared.call.CallKind.{CallKind}
use Rattle.core_calls.specs.declared.call.CallKind.TheVariants.{Spawn}
use Rattle.report_identities.specs.inside.CallPieces.{name_of_call}
use Rattle.report_identities.specs.inside.Cuts.{IsFirstCut, Lacks}
use Rattle.report_identities.proofs.Ascii.{is_ascii, utf8_by}
use Rattle.report_identities.proofs.Lists.{at_all}
use Rattle.report_identities.proofs.Marks.{has_none, lacks_by, lacks_none, one_first_cut}

-- ---- what holds of all calls, by a test

of_each : (test : CallKind → Bool) → list_all test calls ≡ true → (kind : CallKind) → test kind ≡ true
of_each test all kind = subst (λ k. test k ≡ true) (call_of_number-number_of_call kind) (at_all test calls (number_of_call kind) Spawn all (and_parts _ _ all).0)

-- ---- bytes of names

pub name_lacks : (kind : CallKind) → Lacks 40 (name_of_call kind)
name_lacks kind = lacks_by 40 (name_of_call kind) (of_each (λ k. has_none 40 (name_of_call k)) refl kind)

module_lacks : (kind : CallKind) → Lacks 58 (signature kind).module_name
module_lacks kind = lacks_by 58 (signature kind).module_name (of_each (λ k. has_none 58 (signature k).module_name) refl kind)

pub module_utf8 : (kind : CallKind) (bytes : List ℕ) → bytes ≡ (signature kind).module_name → IsUtf8 bytes
module_utf8 kind bytes e = subst IsUtf8 (sym e) (utf8_by (signature kind).module_name (of_each (λ k. is_ascii (signature k).module_name) refl kind))

pub function_utf8 : (kind : CallKind) (bytes : List ℕ) → bytes ≡ (signature kind).function_name → IsUtf8 bytes
function_utf8 kind bytes e = subst IsUtf8 (sym e) (utf8_by (signature kind).function_name (of_each (λ k. is_ascii (signature k).function_name) refl kind))

-- ---- the two parts of a name

-- a name has a colon
pub has_colon : (kind : CallKind) (name : List ℕ) → Lacks 58 name → name ≡ name_of_call kind → ⊥
has_colon kind name none e = lacks_none 58 (signature kind).module_name (signature kind).function_name (subst (Lacks 58) e none)

-- and is cut there
name_cut : (kind : CallKind) (name m f : List ℕ) → IsFirstCut 58 name m f → name ≡ name_of_call kind → (m ≡ (signature kind).module_name) × (f ≡ (signature kind).function_name)
name_cut kind name m f cut e =
    one_first_cut 58 m f (signature kind).module_name (signature kind).function_name cut.lacks (module_lacks kind) (sym cut.parts ∙ e)

name_is : (kind : CallKind) (name m f : List ℕ) → IsFirstCut 58 name m f → m ≡ (signature kind).module_name → f ≡ (signature kind).function_name → name ≡ name_of_call kind
name_is kind name m f cut first second = cut.parts ∙ ap₂ ◌++◌ first (ap (λ w. 58 ∷ w) second)

-- the call of a name is that of its two parts
pub kind_read : (name m f : List ℕ) (arity : ℕ) (found : Option CallKind) → IsFirstCut 58 name m f
    → MatchOption found
    ((kind : CallKind) → m ≡ (signature kind).module_name → f ≡ (signature kind).function_name → arity ≡ (signature kind).arity → ⊥)
    (λ kind. (m ≡ (signature kind).module_name) × (f ≡ (signature kind).function_name) × (arity ≡ (signature kind).arity))
    → MatchOption found
    ((kind : CallKind) → name ≡ name_of_call kind → arity ≡ (signature kind).arity → ⊥)
    (λ kind. (name ≡ name_of_call kind) × (arity ≡ (signature kind).arity))
kind_read name m f arity None cut none = λ kind e g. let same = name_cut kind name m f cut e in none kind same.0 same.1 g
kind_read name m f arity (Some kind) cut is = (name_is kind name m f cut is.0 is.1, is.2)

-- ---- the call of two names

abbrev test_of : List ℕ → List ℕ → ℕ → CallKind → Bool
test_of m f n kind = has_signature m f n (signature kind)

first_by : (test : CallKind → Bool) (k kind : CallKind) (rest : Option CallKind) (passes : Bool) → test k ≡ passes → (rest ≡ Some kind → test kind ≡ true) → (if passes then Some k else rest) ≡ Some kind → test kind ≡ true
first_by test k kind rest true p later e = let same : k ≡ kind = cc in subst (λ j. test j ≡ true) same p
first_by test k kind rest false p later e = later e

first_passes : (test : CallKind → Bool) (kinds : List CallKind) (kind : CallKind) → first_with test kinds ≡ Some kind → test kind ≡ true
first_passes test [] kind e = cc
first_passes test (k ∷ kinds) kind e = first_by test k kind (first_with test kinds) (test k) refl (first_passes test kinds kind) e

none_by : (test : CallKind → Bool) (k : CallKind) (kinds : List CallKind) (rest : Option CallKind) (passes : Bool) → test k ≡ passes → (rest ≡ None → list_all (λ j. not (test j)) kinds ≡ true) → ◌≡◌ {A = Option CallKind} (if passes then Some k else rest) None → list_all (λ j. not (test j)) (k ∷ kinds) ≡ true
none_by test k kinds rest true p later e = cc
none_by test k kinds rest false p later e = and_from _ _ (ap not p) (later e)

none_passes : (test : CallKind → Bool) (kinds : List CallKind) → first_with test kinds ≡ None → list_all (λ k. not (test k)) kinds ≡ true
none_passes test [] e = refl
none_passes test (k ∷ kinds) e = none_by test k kinds (first_with test kinds) (test k) refl (none_passes test kinds) e

passed : (m f : List ℕ) (n : ℕ) (kind : CallKind) → test_of m f n kind ≡ true → (m ≡ (signature kind).module_name) × (f ≡ (signature kind).function_name) × (n ≡ (signature kind).arity)
passed m f n kind e =
    let outer = and_parts _ _ e in
    let inner = and_parts _ _ outer.1 in
    (sym ((bytes_eq-Decides (signature kind).module_name m).0 outer.0), sym ((bytes_eq-Decides (signature kind).function_name f).0 inner.0), sym (eqb-true (signature kind).arity n inner.1))

passes_own : (m f : List ℕ) (n : ℕ) (kind : CallKind) → m ≡ (signature kind).module_name → f ≡ (signature kind).function_name → n ≡ (signature kind).arity → test_of m f n kind ≡ true
passes_own m f n kind e g h = and_from _ _ ((bytes_eq-Decides (signature kind).module_name m).1 (sym e)) (and_from _ _ ((bytes_eq-Decides (signature kind).function_name f).1 (sym g)) (eq-eqb (signature kind).arity n (sym h)))

-- the call that is found has these names, and where none is found, none has them
pub call_found : (m f : List ℕ) (n : ℕ) (found : Option CallKind) → found ≡ call_with m f n
    → MatchOption found
    ((kind : CallKind) → m ≡ (signature kind).module_name → f ≡ (signature kind).function_name → n ≡ (signature kind).arity → ⊥)
    (λ kind. (m ≡ (signature kind).module_name) × (f ≡ (signature kind).function_name) × (n ≡ (signature kind).arity))
unfolding call_with
call_found m f n None e = λ kind p q r. both_ways (test_of m f n kind) (not-true _ (of_each (λ k. not (test_of m f n k)) (none_passes (test_of m f n) calls (sym e)) kind)) (passes_own m f n kind p q r)
call_found m f n (Some kind) e = passed m f n kind (first_passes (test_of m f n) calls kind (sym e))

-- ---- one name, one call

-- the place of the first call of a name with so many arguments
abbrev place : List ℕ → ℕ → ℕ
place name arity = position_or_len (λ k. bytes_eq (name_of_call k) name && ((signature k).arity == arity)) calls

placed : (kind : CallKind) → place (name_of_call kind) (signature kind).arity ≡ number_of_call kind
placed kind = eqb-true _ _ (of_each (λ k. place (name_of_call k) (signature k).arity == number_of_call k) refl kind)

pub one_call : (j k : CallKind) → name_of_call j ≡ name_of_call k → (signature j).arity ≡ (signature k).arity → j ≡ k
one_call j k e f =
    let numbers : number_of_call j ≡ number_of_call k = sym (placed j) ∙ ap₂ place e f ∙ placed k in
    sym (call_of_number-number_of_call j) ∙ ap call_of_number numbers ∙ call_of_number-number_of_call k
