-- Lists of channels in order, before and after a change at one place.
use Rattle.std.proofs.Common.{◌≡◌, ◌≢◌, ◌&&◌, ◌<◌, ◌≤◌, ℕ, zero, suc, Bool, true, false, if◌then◌else◌, List, [], ◌∷◌, length, get_or, slice_set, insert, refl, sym, ap, ◌∙◌, subst, arith, true≢false}
use Rattle.std.specs.Cmp.{IsTotalOrder, on_total, then_total}
use Rattle.std.specs.Cmp.Lexicographic.{nat_list_cmp_total}
use Rattle.std.specs.List.{AllByRecursion, AllWithin, HoldsAt, remove}
use Rattle.std.specs.List.Sorted.{IsStrictlySortedBy}
use Rattle.std.specs.Map.{keys_of}
use Rattle.std.specs.Ordering.{ordering_reverse}
use Rattle.std.specs.declared.cmp.Ordering.{Ordering}
use Rattle.std.specs.declared.cmp.Ordering.TheVariants.{Less, Equal, Greater}
use Rattle.term_core.specs.inside.OrderLaws.{same_list, first_Equal, second_Equal}
use Rattle.world_model.specs.Events.{Signal}
use Rattle.world_model.specs.Names.{Pid, same_pid}
use Rattle.proc_signals.specs.Channels.{Queue, Senders, between, signals_in, IsChangedBetween, order_of_pairs}
use Rattle.proc_signals.proofs.Pairs.{never_empty, pair_itself, pairs_same}

-- a channel under its sender and its receiver
abbrev pub Channel : Type 0
Channel = (Pid × Pid) × Queue

abbrev pub AreInOrder : Senders → Type 0
AreInOrder cs = IsStrictlySortedBy order_of_pairs (keys_of cs)

-- ---- the order of pairs

pub pairs_total : IsTotalOrder order_of_pairs
pairs_total = then_total (on_total (λ a. a.0) nat_list_cmp_total) (on_total (λ a. a.1) nat_list_cmp_total)

same_pair : (a b : Pid × Pid) → order_of_pairs a b ≡ Equal → a ≡ b
same_pair a b e = λ i. (same_list a.0 b.0 (first_Equal _ _ e) i, same_list a.1 b.1 (second_Equal _ _ e) i)

turned : (a b : Pid × Pid) (o : Ordering) → order_of_pairs a b ≡ o → order_of_pairs b a ≡ ordering_reverse o
turned a b o e = pairs_total.antisymm b a ∙ ap ordering_reverse e

itself : (o : Ordering) → o ≡ ordering_reverse o → o ≡ Less → ⊥
itself Less e is = absurd cc
itself Equal e is = absurd cc
itself Greater e is = absurd cc

-- a pair does not come before itself
never_before : (k j : Pid × Pid) → order_of_pairs k j ≡ Less → k ≡ j → ⊥
never_before k j less same = itself (order_of_pairs k k) (pairs_total.antisymm k k) (ap (order_of_pairs k) same ∙ less)

-- ---- what is between a pair

-- whether a pair is that of s and r
abbrev pub is_pair : Pid × Pid → Pid → Pid → Bool
is_pair k s r = same_pid k.0 s && same_pid k.1 r

passes : (k : Pid × Pid) (s r : Pid) → k ≡ (s, r) → is_pair k s r ≡ true
passes k s r same = ap (λ j. is_pair j s r) same ∙ pair_itself s r

fails : (k : Pid × Pid) (s r : Pid) → (k ≡ (s, r) → ⊥) → is_pair k s r ≡ false
fails k s r other =
    elim (is_pair k s r) as (λ b. is_pair k s r ≡ b → b ≡ false) [
      | true ↦ λ e. absurd (other (pairs_same k s r e))
      | false ↦ λ e. refl
    ] refl

if_so : {A : Type 0} (b : Bool) (x y : A) → b ≡ true → (if b then x else y) ≡ x
if_so true x y e = refl
if_so false x y e = absurd (true≢false (sym e))

if_not : {A : Type 0} (b : Bool) (x y : A) → b ≡ false → (if b then x else y) ≡ y
if_not true x y e = absurd (true≢false e)
if_not false x y e = refl

-- between a pair is nothing where all others come after it
none_behind : (k : Pid × Pid) (cs : Senders) → AllByRecursion (λ j. order_of_pairs k j ≡ Less) (keys_of cs) → between cs k.0 k.1 ≡ []
none_behind k [] all = refl
none_behind k (c ∷ cs) all =
    if_not (is_pair c.0 k.0 k.1) (signals_in c.1) (between cs k.0 k.1) (fails c.0 k.0 k.1 (λ same. never_before k c.0 all.0 (sym same))) ∙ none_behind k cs all.1

-- what holds of all pairs holds of one at a place
holds_at : (P : Pid × Pid → Type 0) (cs : Senders) (at : ℕ) (x : Channel) → at < length cs → x ≡ get_or cs at x → AllByRecursion P (keys_of cs) → P x.0
holds_at P [] at x within is all = absurd (omega arith)
holds_at P (c ∷ cs) zero x within is all = subst (λ (y : Channel). P y.0) (sym is) all.0
holds_at P (c ∷ cs) (suc at) x within is all = holds_at P cs at x (omega arith) is all.1

-- the first is not the pair that is at a later place
is_other : (s r : Pid) (k : Pid × Pid) (cs : Senders) (at : ℕ) (x : Channel) → at < length cs → x ≡ get_or cs at x → x.0 ≡ (s, r) → AllByRecursion (λ j. order_of_pairs k j ≡ Less) (keys_of cs) → k ≡ (s, r) → ⊥
is_other s r k cs at x within is pair all same =
    never_before k x.0 (holds_at (λ j. order_of_pairs k j ≡ Less) cs at x within is all) (same ∙ sym pair)

-- between a pair are the signals of the channel at its place
pub between_at : (s r : Pid) (cs : Senders) (at : ℕ) (x : Channel) → at < length cs → x ≡ get_or cs at x → x.0 ≡ (s, r) → AreInOrder cs → between cs s r ≡ signals_in x.1
unfolding IsStrictlySortedBy
between_at s r [] at x within is pair sorted = absurd (omega arith)
between_at s r (c ∷ cs) zero x within is pair sorted =
    if_so (is_pair c.0 s r) (signals_in c.1) (between cs s r) (passes c.0 s r (ap (λ (y : Channel). y.0) (sym is) ∙ pair)) ∙ ap (λ (y : Channel). signals_in y.1) (sym is)
between_at s r (c ∷ cs) (suc at) x within is pair sorted =
    if_not (is_pair c.0 s r) (signals_in c.1) (between cs s r) (fails c.0 s r (is_other s r c.0 cs at x (omega arith) is pair sorted.0)) ∙ between_at s r cs at x (omega arith) is pair sorted.1

-- where nothing is between a pair it is not the first, nor is anything after the first
empty_if : (b : Bool) (xs rest : List Signal) → (xs ≡ [] → ⊥) → (if b then xs else rest) ≡ [] → (b ≡ false) × (rest ≡ [])
empty_if true xs rest some none = absurd (some none)
empty_if false xs rest some none = (refl, none)

not_first : (c : Channel) (cs : Senders) (s r : Pid) → between (c ∷ cs) s r ≡ [] → (c.0 ≡ (s, r) → ⊥) × (between cs s r ≡ [])
not_first c cs s r none =
    let parts = empty_if (is_pair c.0 s r) (signals_in c.1) (between cs s r) (never_empty c.1) none in
    (λ same. true≢false (sym (passes c.0 s r same) ∙ parts.0), parts.1)

-- ---- what is between pairs after a change

module _ (f : List Signal → List Signal) (s r : Pid) where
  abbrev Changed : Bool → List Signal → List Signal
  Changed b xs = if b then f xs else xs

  -- a channel before the place that is changed
  before_if : (a b : Bool) (xs new old : List Signal) → (a ≡ true → b ≡ true → ⊥) → new ≡ Changed b old → (if a then xs else new) ≡ Changed b (if a then xs else old)
  before_if true true xs new old not is = absurd (not refl refl)
  before_if true false xs new old not is = refl
  before_if false b xs new old not is = is

  before : (p q : Pid) (c : Channel) (new old : List Signal) → (c.0 ≡ (s, r) → ⊥) → new ≡ Changed (is_pair (s, r) p q) old → (if is_pair c.0 p q then signals_in c.1 else new) ≡ Changed (is_pair (s, r) p q) (if is_pair c.0 p q then signals_in c.1 else old)
  before p q c new old other is =
      before_if (is_pair c.0 p q) (is_pair (s, r) p q) (signals_in c.1) new old (λ a b. other (pairs_same c.0 p q a ∙ sym (pairs_same (s, r) p q b))) is

  set_if : (b : Bool) (now was rest : List Signal) → now ≡ f was → (if b then now else rest) ≡ Changed b (if b then was else rest)
  set_if true now was rest is = is
  set_if false now was rest is = refl

  -- another channel of this pair is at its place
  pub set_changed : (cs : Senders) (at : ℕ) (x y : Channel) → at < length cs → x ≡ get_or cs at x → x.0 ≡ (s, r) → y.0 ≡ x.0 → signals_in y.1 ≡ f (signals_in x.1) → AreInOrder cs → IsChangedBetween s r f cs (slice_set cs at y)
  unfolding IsStrictlySortedBy
  set_changed [] at x y within is pair same new sorted p q = absurd (omega arith)
  set_changed (c ∷ cs) zero x y within is pair same new sorted p q =
      ap (λ k. if is_pair k p q then signals_in y.1 else between cs p q) (same ∙ pair)
      ∙ set_if (is_pair (s, r) p q) (signals_in y.1) (signals_in x.1) (between cs p q) new
      ∙ ap (λ k. Changed (is_pair (s, r) p q) (if is_pair k p q then signals_in x.1 else between cs p q)) (sym pair)
      ∙ ap (λ (z : Channel). Changed (is_pair (s, r) p q) (if is_pair z.0 p q then signals_in z.1 else between cs p q)) is
  set_changed (c ∷ cs) (suc at) x y within is pair same new sorted p q =
      before p q c (between (slice_set cs at y) p q) (between cs p q) (is_other s r c.0 cs at x (omega arith) is pair sorted.0)
      (set_changed cs at x y (omega arith) is pair same new sorted.1 p q)

  remove_if : (b : Bool) (was rest : List Signal) → (b ≡ true → rest ≡ f was) → rest ≡ Changed b (if b then was else rest)
  remove_if true was rest is = is refl
  remove_if false was rest is = refl

  -- none of this pair is there any more
  pub remove_changed : (cs : Senders) (at : ℕ) (x : Channel) → at < length cs → x ≡ get_or cs at x → x.0 ≡ (s, r) → f (signals_in x.1) ≡ [] → AreInOrder cs → IsChangedBetween s r f cs (remove cs at)
  unfolding IsStrictlySortedBy
  remove_changed [] at x within is pair none sorted p q = absurd (omega arith)
  remove_changed (c ∷ cs) zero x within is pair none sorted p q =
      remove_if (is_pair c.0 p q) (signals_in c.1) (between cs p q)
      (λ b. ap (λ k. between cs k.0 k.1) (sym (pairs_same c.0 p q b)) ∙ none_behind c.0 cs sorted.0 ∙ sym none ∙ ap (λ (z : Channel). f (signals_in z.1)) is)
      ∙ ap (λ k. Changed (is_pair k p q) (between (c ∷ cs) p q)) (ap (λ (z : Channel). z.0) (sym is) ∙ pair)
  remove_changed (c ∷ cs) (suc at) x within is pair none sorted p q =
      before p q c (between (remove cs at) p q) (between cs p q) (is_other s r c.0 cs at x (omega arith) is pair sorted.0)
      (remove_changed cs at x (omega arith) is pair none sorted.1 p q)

  insert_if : (b : Bool) (now rest : List Signal) → (b ≡ true → now ≡ f rest) → (if b then now else rest) ≡ Changed b rest
  insert_if true now rest is = is refl
  insert_if false now rest is = refl

  -- the first channel of this pair is put in
  pub insert_changed : (cs : Senders) (at : ℕ) (x : Channel) → at ≤ length cs → x.0 ≡ (s, r) → signals_in x.1 ≡ f [] → between cs s r ≡ [] → IsChangedBetween s r f cs (insert cs at x)
  insert_changed cs zero x within pair new none p q =
      ap (λ k. if is_pair k p q then signals_in x.1 else between cs p q) pair
      ∙ insert_if (is_pair (s, r) p q) (signals_in x.1) (between cs p q) (λ b. new ∙ ap f (sym none ∙ ap (λ k. between cs k.0 k.1) (pairs_same (s, r) p q b)))
  insert_changed [] (suc at) x within pair new none p q = absurd (omega arith)
  insert_changed (c ∷ cs) (suc at) x within pair new none p q =
      let parts = not_first c cs s r none in
      before p q c (between (insert cs at x) p q) (between cs p q) parts.0 (insert_changed cs at x (omega arith) pair new parts.1 p q)

-- ---- channels stay in order

pub none_sorted : AreInOrder []
unfolding IsStrictlySortedBy
none_sorted = tt

pub keys_set : (cs : Senders) (at : ℕ) (x y : Channel) → x ≡ get_or cs at x → y.0 ≡ x.0 → keys_of (slice_set cs at y) ≡ keys_of cs
keys_set [] at x y is same = refl
keys_set (c ∷ cs) zero x y is same = ap (λ k. k ∷ keys_of cs) (same ∙ ap (λ (z : Channel). z.0) is)
keys_set (c ∷ cs) (suc at) x y is same = ap (λ ks. c.0 ∷ ks) (keys_set cs at x y is same)

pub set_sorted : (cs : Senders) (at : ℕ) (x y : Channel) → x ≡ get_or cs at x → y.0 ≡ x.0 → AreInOrder cs → AreInOrder (slice_set cs at y)
set_sorted cs at x y is same sorted = subst (IsStrictlySortedBy order_of_pairs) (sym (keys_set cs at x y is same)) sorted

all_removed : (P : Pid × Pid → Type 0) (cs : Senders) (at : ℕ) → AllByRecursion P (keys_of cs) → AllByRecursion P (keys_of (remove cs at))
all_removed P [] zero all = tt
all_removed P [] (suc at) all = tt
all_removed P (c ∷ cs) zero all = all.1
all_removed P (c ∷ cs) (suc at) all = (all.0, all_removed P cs at all.1)

pub remove_sorted : (cs : Senders) (at : ℕ) → AreInOrder cs → AreInOrder (remove cs at)
unfolding IsStrictlySortedBy
remove_sorted [] zero sorted = tt
remove_sorted [] (suc at) sorted = tt
remove_sorted (c ∷ cs) zero sorted = sorted.1
remove_sorted (c ∷ cs) (suc at) sorted = (all_removed (λ j. order_of_pairs c.0 j ≡ Less) cs at sorted.0, remove_sorted cs at sorted.1)

all_inserted : (P : Pid × Pid → Type 0) (cs : Senders) (at : ℕ) (x : Channel) → at ≤ length cs → P x.0 → AllByRecursion P (keys_of cs) → AllByRecursion P (keys_of (insert cs at x))
all_inserted P cs zero x within one all = (one, all)
all_inserted P [] (suc at) x within one all = absurd (omega arith)
all_inserted P (c ∷ cs) (suc at) x within one all = (all.0, all_inserted P cs at x (omega arith) one all.1)

all_above : (k j : Pid × Pid) (ks : List (Pid × Pid)) → order_of_pairs k j ≡ Less → AllByRecursion (λ i. order_of_pairs j i ≡ Less) ks → AllByRecursion (λ i. order_of_pairs k i ≡ Less) ks
all_above k j [] less all = tt
all_above k j (i ∷ is) less all = (pairs_total.trans k j i less all.0, all_above k j is less all.1)

comes_after : (k j : Pid × Pid) → (order_of_pairs k j ≢ Less) → (k ≡ j → ⊥) → order_of_pairs j k ≡ Less
comes_after k j not other =
    elim (order_of_pairs k j) as (λ o. order_of_pairs k j ≡ o → order_of_pairs j k ≡ Less) [
      | Less ↦ λ e. absurd (not e)
      | Equal ↦ λ e. absurd (other (same_pair k j e))
      | Greater ↦ λ e. turned k j Greater e
    ] refl

pub insert_sorted : (cs : Senders) (at : ℕ) (x : Channel) → at ≤ length cs → AllWithin (λ c. order_of_pairs c.0 x.0 ≡ Less) cs 0 at → (at < length cs → HoldsAt (λ c. order_of_pairs c.0 x.0 ≢ Less) cs at) → between cs x.0.0 x.0.1 ≡ [] → AreInOrder cs → AreInOrder (insert cs at x)
unfolding IsStrictlySortedBy
insert_sorted [] zero x within below above none sorted = (tt, tt)
insert_sorted [] (suc at) x within below above none sorted = absurd (omega arith)
insert_sorted (c ∷ cs) zero x within below above none sorted =
    let less : order_of_pairs x.0 c.0 ≡ Less = comes_after c.0 x.0 (above (omega arith) c) (not_first c cs x.0.0 x.0.1 none).0 in
    ((less, all_above x.0 c.0 (keys_of cs) less sorted.0), sorted)
insert_sorted (c ∷ cs) (suc at) x within below above none sorted = (
  all_inserted (λ j. order_of_pairs c.0 j ≡ Less) cs at x (omega arith) (below 0 c (omega arith) (omega arith)) sorted.0,
  insert_sorted cs at x (omega arith) (λ k d low high. below (suc k) d (omega arith) (omega arith)) (λ h. above (omega arith)) (not_first c cs x.0.0 x.0.1 none).1 sorted.1,
)

-- ---- where a pair has no channel

-- between a pair is nothing where its channel is not at the place that is found
pub none_found : (s r : Pid) (cs : Senders) (at : ℕ) → at ≤ length cs → AllWithin (λ c. order_of_pairs c.0 (s, r) ≡ Less) cs 0 at → (at < length cs → HoldsAt (λ c. order_of_pairs c.0 (s, r) ≢ Less) cs at) → (at < length cs → HoldsAt (λ c. is_pair c.0 s r ≡ false) cs at) → AreInOrder cs → between cs s r ≡ []
unfolding IsStrictlySortedBy
none_found s r [] zero within before behind other sorted = refl
none_found s r [] (suc at) within before behind other sorted = absurd (omega arith)
none_found s r (c ∷ cs) zero within before behind other sorted =
    let differs : is_pair c.0 s r ≡ false = other (omega arith) c in
    let after : order_of_pairs (s, r) c.0 ≡ Less = comes_after c.0 (s, r) (behind (omega arith) c) (λ same. true≢false (sym (passes c.0 s r same) ∙ differs)) in
    if_not (is_pair c.0 s r) (signals_in c.1) (between cs s r) differs ∙ none_behind (s, r) cs (all_above (s, r) c.0 (keys_of cs) after sorted.0)
none_found s r (c ∷ cs) (suc at) within before behind other sorted =
    if_not (is_pair c.0 s r) (signals_in c.1) (between cs s r) (fails c.0 s r (never_before c.0 (s, r) (before 0 c (omega arith) (omega arith))))
    ∙ none_found s r cs at (omega arith) (λ k d low high. before (suc k) d (omega arith) (omega arith)) (λ h. behind (omega arith)) (λ h. other (omega arith)) sorted.1
