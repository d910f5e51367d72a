-- What is left of messages when more come, and when one more is taken.
use Rattle.std.proofs.Common.{◌≡◌, Bool, true, false, ◌||◌, List, [], ◌∷◌, ◌++◌, Option, Some, None, refl, sym, ap, ◌∙◌, true≢false, if◌then◌else◌}
use Rattle.std.specs.List.{list_any}
use Rattle.std.specs.Prelude.{unwrap_or}
use Rattle.std.specs.Ordering.{is_eq}
use Rattle.std.specs.Cmp.{tied_itself}
use Rattle.term_core.specs.Meaning.{Meaning}
use Rattle.world_model.specs.Changes.{without_first}
use Rattle.world_model.specs.Mailboxes.{left_of, selected_of}
use Rattle.world_model.specs.Names.{same_term}
use Rattle.world_model.proofs.RowLaws.{keys_total, keys_same}

term_itself : (x : Meaning) → same_term x x ≡ true
term_itself x = ap is_eq (tied_itself keys_total x)

same_as_it : (x m : Meaning) → x ≡ m → same_term m x ≡ true
same_as_it x m same = ap (λ y. same_term y x) (sym same) ∙ term_itself x

-- ---- tests

or_true : (a : Bool) → (a || true) ≡ true
or_true true = refl
or_true false = refl

second_true : (a b : Bool) → (a || b) ≡ true → a ≡ false → b ≡ true
second_true true b e f = absurd (true≢false f)
second_true false b e f = e

-- ---- more come

behind_by : (b : Bool) (x : Meaning) (xs ys us ws : List Meaning) → (b ≡ false → us ≡ ws ++ ys) → (if b then xs ++ ys else x ∷ us) ≡ (if b then xs else x ∷ ws) ++ ys
behind_by true x xs ys us ws rest = refl
behind_by false x xs ys us ws rest = ap (λ zs. x ∷ zs) (rest refl)

pub without_behind : (test : Meaning → Bool) (xs ys : List Meaning) → list_any test xs ≡ true → without_first test (xs ++ ys) ≡ without_first test xs ++ ys
without_behind test [] ys any = absurd cc
without_behind test (x ∷ xs) ys any =
    behind_by (test x) x xs ys (without_first test (xs ++ ys)) (without_first test xs) (λ not. without_behind test xs ys (second_true (test x) (list_any test xs) any not))

-- ---- one more is taken

pub left_last : (ts : List Meaning) (m : Meaning) (xs : List Meaning) → left_of (ts ++ (m ∷ [])) xs ≡ without_first (same_term m) (left_of ts xs)
left_last [] m xs = refl
left_last (t ∷ ts) m xs = left_last ts m (without_first (same_term t) xs)

-- ---- the message that is selected

there_by : (b : Bool) (x m : Meaning) (xs : List Meaning) (o : Option Meaning) → (o ≡ Some m → list_any (same_term m) xs ≡ true) → (if b then Some x else o) ≡ Some m → (same_term m x || list_any (same_term m) xs) ≡ true
there_by true x m xs o rest is = ap (λ b. b || list_any (same_term m) xs) (same_as_it x m (ap (λ q. unwrap_or q x) is))
there_by false x m xs o rest is = ap (λ b. same_term m x || b) (rest is) ∙ or_true (same_term m x)

pub selected_there : (test : Meaning → Bool) (xs : List Meaning) (m : Meaning) → selected_of test xs ≡ Some m → list_any (same_term m) xs ≡ true
selected_there test [] m is = absurd cc
selected_there test (x ∷ xs) m is = there_by (test x) x m xs (selected_of test xs) (selected_there test xs m) is

passes_by : (test : Meaning → Bool) (b : Bool) (x m : Meaning) (o : Option Meaning) → test x ≡ b → (o ≡ Some m → test m ≡ true) → (if b then Some x else o) ≡ Some m → test m ≡ true
passes_by test true x m o passes rest is = sym (ap (λ q. test (unwrap_or q x)) is) ∙ passes
passes_by test false x m o passes rest is = rest is

selected_passes : (test : Meaning → Bool) (xs : List Meaning) (m : Meaning) → selected_of test xs ≡ Some m → test m ≡ true
selected_passes test [] m is = absurd cc
selected_passes test (x ∷ xs) m is = passes_by test (test x) x m (selected_of test xs) refl (selected_passes test xs m) is

taken_by : (test : Meaning → Bool) (b c : Bool) (x m : Meaning) (xs us ws : List Meaning) (o : Option Meaning) → test x ≡ b → same_term m x ≡ c → (o ≡ Some m → test m ≡ true) → (o ≡ Some m → us ≡ ws) → (if b then Some x else o) ≡ Some m → (if c then xs else x ∷ us) ≡ (if b then xs else x ∷ ws)
taken_by test true true x m xs us ws o passes same ends rest is = refl
taken_by test true false x m xs us ws o passes same ends rest is = absurd (true≢false (sym (same_as_it x m (ap (λ q. unwrap_or q x) is)) ∙ same))
taken_by test false true x m xs us ws o passes same ends rest is = absurd (true≢false (sym (ends is) ∙ ap test (keys_same m x same) ∙ passes))
taken_by test false false x m xs us ws o passes same ends rest is = ap (λ zs. x ∷ zs) (rest is)

-- it is the first that is the same as it
pub without_selected : (test : Meaning → Bool) (xs : List Meaning) (m : Meaning) → selected_of test xs ≡ Some m → without_first (same_term m) xs ≡ without_first test xs
without_selected test [] m is = absurd cc
without_selected test (x ∷ xs) m is =
    taken_by test (test x) (same_term m x) x m xs (without_first (same_term m) xs) (without_first test xs) (selected_of test xs) refl refl (selected_passes test xs m) (without_selected test xs m) is

none_by : (b : Bool) (x : Meaning) (xs us : List Meaning) (o : Option Meaning) → (o ≡ None → us ≡ xs) → (if b then Some x else o) ≡ None → (if b then xs else x ∷ us) ≡ x ∷ xs
none_by true x xs us o rest is = absurd cc
none_by false x xs us o rest is = ap (λ zs. x ∷ zs) (rest is)

pub without_none : (test : Meaning → Bool) (xs : List Meaning) → selected_of test xs ≡ None → without_first test xs ≡ xs
without_none test [] is = refl
without_none test (x ∷ xs) is = none_by (test x) x xs (without_first test xs) (selected_of test xs) (without_none test xs) is
