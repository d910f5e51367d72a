-- Additions to an object, one after the other: their sums, the rule that refuses one, and the integers that they leave.
use Rattle.std.proofs.Common.{◌≡◌, Bool, true, false, if◌then◌else◌, ◌==◌, ℕ, zero, suc, ◌+◌, ◌-◌, ◌<◌, ℤ, pos, List, [], ◌∷◌, ◌++◌, length, map, take, get_or, Option, Some, None, Result, Ok, Err, IfErr, add-one, refl, sym, ap, ◌∙◌, arith}
use Rattle.std.proofs.lemmas.Bool.{eqb-true, eqb-false}
use Rattle.std.specs.Option.{option_or}
use Rattle.std.specs.Prelude.{option_and_then, is_some}
use Rattle.term_core.specs.Meaning.{Meaning, Int}
use Rattle.ets_answers.specs.inside.Counting.{RefusesPart, integer_at}
use Rattle.ets_calls.specs.Arguments.{addition_in}
use Rattle.ets_calls.specs.declared.increment.Addition as held
use Rattle.world_model.specs.Calls.{Addition}
use Rattle.world_model.specs.Objects.{added, addend_rule, all_added, counted, counted_from, range_rule, sum_in, sum_rule, sums_in, sums_rule}
use Rattle.world_model.specs.Rows.{Object, part_at, with_part}
use Rattle.world_model.specs.Terms.{integer_in}
use Rattle.world_model.specs.declared.rule.Rule.{Rule}

-- ---- one addition, and those after it

first_none : (a b : Option Rule) → option_or a b ≡ None → a ≡ None
first_none None b h = refl
first_none (Some r) b h = absurd cc

pub later_none : (a b : Option Rule) → option_or a b ≡ None → b ≡ None
later_none None b h = h
later_none (Some r) b h = absurd cc

both_none : (a b : Option Rule) → a ≡ None → b ≡ None → option_or a b ≡ None
both_none None b h k = k
both_none (Some r) b h k = absurd cc

later_some : (a b : Option Rule) (r : Rule) → a ≡ None → b ≡ Some r → option_or a b ≡ Some r
later_some None b r h k = k
later_some (Some s) b r h k = absurd cc

-- what is left to count of additions to an object comes to the same as all of them
pub record CountsOn (xs : List Addition) (old : List Meaning) (o : Object) (ys : List Addition) (new : List Meaning) (p : Object) : Type 0 where
  pub rule : sums_rule ys p ≡ None
  pub sums : new ++ sums_in ys p ≡ old ++ sums_in xs o
  pub object : all_added ys p ≡ all_added xs o

-- ---- the rule of each of several

-- where there is none
abbrev pub nothing : held.Addition
nothing = record { position = 0; amount = pos 0; limit = None }

abbrev pub nth : List held.Addition → ℕ → Addition
nth xs i = addition_in (get_or xs i nothing)

-- an object after so many additions
abbrev pub after : List held.Addition → ℕ → Object → Object
after xs i o = all_added (map addition_in (take i xs)) o

abbrev pub rule_so_far : List held.Addition → ℕ → Object → Option Rule
rule_so_far xs i o = sums_rule (map addition_in (take i xs)) o

abbrev pub rule_of_nth : List held.Addition → ℕ → Object → Option Rule
rule_of_nth xs i o = sum_rule (nth xs i) (part_at (nth xs i).position (after xs i o))

refused_at : (xs : List held.Addition) (i : ℕ) (o : Object) (r : Rule) → i < length xs → rule_so_far xs i o ≡ None → Some r ≡ rule_of_nth xs i o → sums_rule (map addition_in xs) o ≡ Some r
refused_at [] i o r h none some = absurd (omega arith)
refused_at (y ∷ ys) zero o r h none some = ap (λ a. option_or a (sums_rule (map addition_in ys) (added (addition_in y) o))) (sym some)
refused_at (y ∷ ys) (suc i) o r h none some =
    let one = sum_rule (addition_in y) (part_at y.position o) in
    let later = rule_so_far ys i (added (addition_in y) o) in
    later_some one (sums_rule (map addition_in ys) (added (addition_in y) o)) r (first_none one later none) (refused_at ys i (added (addition_in y) o) r (omega arith) (later_none one later none) some)

pub refused_by_it : (xs : List held.Addition) (i : ℕ) (o : Object) (q : Option Rule) → i < length xs → rule_so_far xs i o ≡ None → q ≡ rule_of_nth xs i o → is_some q ≡ true → q ≡ sums_rule (map addition_in xs) o
refused_by_it xs i o None h none rule some = absurd cc
refused_by_it xs i o (Some r) h none rule some = sym (refused_at xs i o r h none rule)

allowed_next : (xs : List held.Addition) (i : ℕ) (o : Object) → i < length xs → rule_so_far xs i o ≡ None → None ≡ rule_of_nth xs i o → rule_so_far xs (suc i) o ≡ None
allowed_next [] i o h none some = absurd (omega arith)
allowed_next (y ∷ ys) zero o h none some = ap (λ a. option_or a None) (sym some)
allowed_next (y ∷ ys) (suc i) o h none some =
    let one = sum_rule (addition_in y) (part_at y.position o) in
    let later = rule_so_far ys i (added (addition_in y) o) in
    both_none one (rule_so_far ys (suc i) (added (addition_in y) o)) (first_none one later none) (allowed_next ys i (added (addition_in y) o) (omega arith) (later_none one later none) some)

pub allowed_more : (xs : List held.Addition) (i : ℕ) (o : Object) (q : Option Rule) → i < length xs → rule_so_far xs i o ≡ None → q ≡ rule_of_nth xs i o → is_some q ≡ false → rule_so_far xs (i + 1) o ≡ None
allowed_more xs i o None h none rule some = ap (λ n. rule_so_far xs n o) (add-one i) ∙ allowed_next xs i o h none rule
allowed_more xs i o (Some r) h none rule some = absurd cc

-- where none of them is refused, one is not where those before it come to
allowed_at : (xs : List held.Addition) (i : ℕ) (o : Object) → i < length xs → sums_rule (map addition_in xs) o ≡ None → rule_of_nth xs i o ≡ None
allowed_at [] i o h none = absurd (omega arith)
allowed_at (y ∷ ys) zero o h none = first_none (sum_rule (addition_in y) (part_at y.position o)) (sums_rule (map addition_in ys) (added (addition_in y) o)) none
allowed_at (y ∷ ys) (suc i) o h none =
    allowed_at ys i (added (addition_in y) o) (omega arith) (later_none (sum_rule (addition_in y) (part_at y.position o)) (sums_rule (map addition_in ys) (added (addition_in y) o)) none)

-- ---- a part that is put in

put_by : (b c : Bool) (n : ℕ) (x y z : Meaning) (zs : Object) → (n == 0) ≡ b → (n == 1) ≡ c
    → (part_at (n - 1) zs ≡ Some y → part_at (n - 1) (with_part (n - 1) x zs) ≡ Some x)
    → (if b then None else (if c then Some z else part_at (n - 1) zs)) ≡ Some y → part_at n (if c then x ∷ zs else z ∷ with_part (n - 1) x zs) ≡ Some x
put_by true c n x y z zs e f further is = absurd cc
put_by false true n x y z zs e f further is =
    ap (λ b. if b then None else (if n == 1 then Some x else part_at (n - 1) zs)) e ∙ ap (λ c. if c then Some x else part_at (n - 1) zs) f
put_by false false n x y z zs e f further is =
    ap (λ b. if b then None else (if n == 1 then Some z else part_at (n - 1) (with_part (n - 1) x zs))) e ∙ ap (λ c. if c then Some z else part_at (n - 1) (with_part (n - 1) x zs)) f ∙ further is

-- where one was, it is there
part_put : (o : Object) (n : ℕ) (x y : Meaning) → part_at n o ≡ Some y → part_at n (with_part n x o) ≡ Some x
part_put [] n x y is = absurd cc
part_put (z ∷ zs) n x y is = put_by (n == 0) (n == 1) n x y z zs refl refl (part_put zs (n - 1) x y) is

before_apart : (m n : ℕ) → (n ≡ 0 → ⊥) → (n ≡ 1 → ⊥) → (m ≡ 1 → ⊥) → (m ≡ n → ⊥) → m - 1 ≡ n - 1 → ⊥
before_apart m n e f g apart same = omega arith

others_by : (b c d : Bool) (m n : ℕ) (x z : Meaning) (zs : Object) → (n == 0) ≡ b → (n == 1) ≡ c → (m == 1) ≡ d → (m ≡ n → ⊥)
    → ((m - 1 ≡ n - 1 → ⊥) → part_at (n - 1) (with_part (m - 1) x zs) ≡ part_at (n - 1) zs)
    → part_at n (if d then x ∷ zs else z ∷ with_part (m - 1) x zs) ≡ (if b then None else (if c then Some z else part_at (n - 1) zs))
others_by true c true m n x z zs e f g apart further = ap (λ b. if b then None else (if n == 1 then Some x else part_at (n - 1) zs)) e
others_by true c false m n x z zs e f g apart further = ap (λ b. if b then None else (if n == 1 then Some z else part_at (n - 1) (with_part (m - 1) x zs))) e
others_by false true true m n x z zs e f g apart further = absurd (apart (eqb-true m 1 g ∙ sym (eqb-true n 1 f)))
others_by false true false m n x z zs e f g apart further =
    ap (λ b. if b then None else (if n == 1 then Some z else part_at (n - 1) (with_part (m - 1) x zs))) e ∙ ap (λ c. if c then Some z else part_at (n - 1) (with_part (m - 1) x zs)) f
others_by false false true m n x z zs e f g apart further =
    ap (λ b. if b then None else (if n == 1 then Some x else part_at (n - 1) zs)) e ∙ ap (λ c. if c then Some x else part_at (n - 1) zs) f
others_by false false false m n x z zs e f g apart further =
    let some : n ≡ 0 → ⊥ = eqb-false n 0 e in
    let more : n ≡ 1 → ⊥ = eqb-false n 1 f in
    ap (λ b. if b then None else (if n == 1 then Some z else part_at (n - 1) (with_part (m - 1) x zs))) e ∙ ap (λ c. if c then Some z else part_at (n - 1) (with_part (m - 1) x zs)) f
    ∙ further (λ same. before_apart m n some more (eqb-false m 1 g) apart same)

-- and nothing changes elsewhere
others_stay : (o : Object) (m n : ℕ) (x : Meaning) → (m ≡ n → ⊥) → part_at n (with_part m x o) ≡ part_at n o
others_stay [] m n x apart = refl
others_stay (z ∷ zs) m n x apart = others_by (n == 0) (n == 1) (m == 1) m n x z zs refl refl refl apart (others_stay zs (m - 1) (n - 1) x)

-- ---- the integer at a position

number_in : (part : Option Meaning) (k : ℤ) → Some k ≡ option_and_then integer_in part → (m : Meaning) × (part ≡ Some m)
number_in None k is = absurd cc
number_in (Some m) k is = (m, refl)

-- it is counted by an addition there
pub counted_here : (a : Addition) (n : ℕ) (o : Object) (k : ℤ) → a.position ≡ n → Some k ≡ integer_at n o → Some (counted a k) ≡ integer_at n (added a o)
counted_here a n o k here is =
    let there : Some k ≡ integer_at a.position o = is ∙ ap (λ p. integer_at p o) (sym here) in
    let part : (m : Meaning) × (part_at a.position o ≡ Some m) = number_in (part_at a.position o) k there in
    let put : part_at a.position (added a o) ≡ Some (Int (sum_in a o)) = part_put o a.position (Int (sum_in a o)) part.0 part.1 in
    ap (λ x. Some (counted_from a x)) there
    ∙ sym (ap (λ p. option_and_then integer_in p) put)
    ∙ ap (λ p. integer_at p (added a o)) here

-- and stays by one elsewhere
pub stays_here : (a : Addition) (n : ℕ) (o : Object) → (a.position ≡ n → ⊥) → integer_at n (added a o) ≡ integer_at n o
stays_here a n o apart = ap (λ p. option_and_then integer_in p) (others_stay o a.position n (Int (sum_in a o)) apart)

-- the rule of an addition to it is that of its range
rule_by : (a : Addition) (part : Option Meaning) (k : ℤ) → Some k ≡ option_and_then integer_in part → sum_rule a part ≡ range_rule (counted a k)
rule_by a None k is = absurd cc
rule_by a (Some m) k is = ap (addend_rule a) (sym is)

pub rule_of_number : (a : Addition) (n : ℕ) (o : Object) (k : ℤ) → a.position ≡ n → Some k ≡ integer_at n o → sum_rule a (part_at a.position o) ≡ range_rule (counted a k)
rule_of_number a n o k here is = rule_by a (part_at a.position o) k (is ∙ ap (λ p. integer_at p o) (sym here))

-- what is none stays none, where none of the additions is refused
none_by : (b : Bool) (a : Addition) (n : ℕ) (o : Object) (r : Rule) → (a.position == n) ≡ b → RefusesPart r (part_at n o) → sum_rule a (part_at a.position o) ≡ None → RefusesPart r (part_at n (added a o))
none_by true a n o r e refuses allowed =
    let some : Some r ≡ sum_rule a (part_at a.position o) = refuses a ∙ ap (λ p. sum_rule a (part_at p o)) (sym (eqb-true a.position n e)) in
    absurd (cc)
none_by false a n o r e refuses allowed = λ other. refuses other ∙ ap (sum_rule other) (sym (others_stay o a.position n (Int (sum_in a o)) (eqb-false a.position n e)))

pub none_stays : (xs : List Addition) (n : ℕ) (o : Object) (r : Rule) → sums_rule xs o ≡ None → RefusesPart r (part_at n o) → RefusesPart r (part_at n (all_added xs o))
none_stays [] n o r none refuses = refuses
none_stays (x ∷ xs) n o r none refuses =
    let one = sum_rule x (part_at x.position o) in
    let later = sums_rule xs (added x o) in
    none_stays xs n (added x o) r (later_none one later none) (none_by (x.position == n) x n o r refl refuses (first_none one later none))

-- ---- the integer after so many additions

adds_next : (xs : List held.Addition) (i : ℕ) (o : Object) → i < length xs → after xs (suc i) o ≡ added (nth xs i) (after xs i o)
adds_next [] i o h = absurd (omega arith)
adds_next (y ∷ ys) zero o h = refl
adds_next (y ∷ ys) (suc i) o h = adds_next ys i (added (addition_in y) o) (omega arith)

adds_more : (xs : List held.Addition) (i : ℕ) (o : Object) → i < length xs → after xs (i + 1) o ≡ added (nth xs i) (after xs i o)
adds_more xs i o h = ap (λ n. after xs n o) (add-one i) ∙ adds_next xs i o h

pub counted_more : (xs : List held.Addition) (i : ℕ) (o : Object) (n : ℕ) (k : ℤ) → i < length xs → (nth xs i).position ≡ n
    → Some k ≡ integer_at n (after xs i o) → Some (counted (nth xs i) k) ≡ integer_at n (after xs (i + 1) o)
counted_more xs i o n k h here so_far = counted_here (nth xs i) n (after xs i o) k here so_far ∙ sym (ap (integer_at n) (adds_more xs i o h))

pub stays_more : (xs : List held.Addition) (i : ℕ) (o : Object) (n : ℕ) (k : ℤ) → i < length xs → ((nth xs i).position ≡ n → ⊥)
    → Some k ≡ integer_at n (after xs i o) → Some k ≡ integer_at n (after xs (i + 1) o)
stays_more xs i o n k h apart so_far = so_far ∙ sym (ap (integer_at n) (adds_more xs i o h) ∙ stays_here (nth xs i) n (after xs i o) apart)

pub in_range : (xs : List held.Addition) (i : ℕ) (o : Object) (n : ℕ) (k : ℤ) → i < length xs → (nth xs i).position ≡ n
    → sums_rule (map addition_in xs) o ≡ None → Some k ≡ integer_at n (after xs i o) → range_rule (counted (nth xs i) k) ≡ None
in_range xs i o n k h here none so_far = sym (rule_of_number (nth xs i) n (after xs i o) k here so_far) ∙ allowed_at xs i o h none

-- what follows where a call resulted in an error
pub if_err : {A E : Type 0} {P Q : E → Type 0} (r : Result A E) → ((e : E) → P e → Q e) → IfErr r P → IfErr r Q
if_err (Ok x) f is = is
if_err (Err e) f is = f e is
