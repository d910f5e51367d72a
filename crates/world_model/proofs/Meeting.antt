-- When two cells meet: they are the same, or one is a part of the other.
use Rattle.std.proofs.Common.{◌≡◌, Bool, true, false, ◌&&◌, ◌==◌, ℕ, List, refl, sym, ap, ◌∙◌, true≢false}
use Rattle.std.specs.Prelude.{bytes_eq}
use Rattle.std.proofs.lemmas.Slice.Eq.{bytes_eq-Decides}
use Rattle.std.proofs.lemmas.Bool.{eqb-true, eq-eqb}
use Rattle.world_model.specs.Names.{Ref, same_pid, same_ref}
use Rattle.world_model.specs.Cells.{Cell, Machine, Alive, Trap, Watchers, Watch, Guard, Holder, Holders, NameOf, Taken, Mailed, Front, Tail, Links, TableName, Table, Row, Rows, Owned, meet}

pub both : (a b : Bool) → (a && b) ≡ true → (a ≡ true) × (b ≡ true)
both true b e = (refl, e)
both false b e = absurd cc

pub pids_same : (p q : List ℕ) → bytes_eq p q ≡ true → p ≡ q
pids_same p q e = (bytes_eq-Decides p q).0 e

pub pid_itself : (p : List ℕ) → same_pid p p ≡ true
pid_itself p = (bytes_eq-Decides p p).1 refl

numbers_same : (n m : ℕ) → (n == m) ≡ true → n ≡ m
numbers_same n m e = eqb-true n m e

pub number_itself : (n : ℕ) → (n == n) ≡ true
number_itself n = eq-eqb n n refl

pub refs_same : (a b : Ref) → same_ref a b ≡ true → a ≡ b
refs_same a b e =
    let parts = both (same_pid a.pid b.pid) (a.number == b.number) e in
    λ i. record { pid = pids_same a.pid b.pid parts.0 i; number = numbers_same a.number b.number parts.1 i }

pub ref_itself : (a : Ref) → same_ref a a ≡ true
ref_itself a = λ i. (pid_itself a.pid i) && (number_itself a.number) i

-- a row is a part of all rows, and the holder of a name of all holders; every other cell is itself
abbrev pub whole : Cell → Cell
whole (Row t k) = Rows t
whole (Holder n) = Holders
whole c = c

abbrev pub is_part : Cell → Bool
is_part (Row t k) = true
is_part (Holder n) = true
is_part c = false

-- cells that meet are parts of one
pub whole_same : (a b : Cell) → meet a b ≡ true → whole a ≡ whole b
whole_same (Machine p) (Machine q) e = ap Machine (pids_same p q e)
whole_same (Alive p) (Alive q) e = ap Alive (pids_same p q e)
whole_same (Taken p) (Taken q) e = ap Taken (pids_same p q e)
whole_same (Mailed p) (Mailed q) e = ap Mailed (pids_same p q e)
whole_same (Front s r) (Front t u) e =
    let parts = both (same_pid s t) (same_pid r u) e in
    λ i. Front (pids_same s t parts.0 i) (pids_same r u parts.1 i)
whole_same (Tail s r) (Tail t u) e =
    let parts = both (same_pid s t) (same_pid r u) e in
    λ i. Tail (pids_same s t parts.0 i) (pids_same r u parts.1 i)
whole_same (Links p) (Links q) e = ap Links (pids_same p q e)
whole_same (TableName n) (TableName m) e = ap TableName (pids_same n m e)
whole_same (Table t) (Table u) e = ap Table (refs_same t u e)
whole_same (Row t k) (Row u l) e = ap Rows (refs_same t u (both (same_ref t u) _ e).0)
whole_same (Row t k) (Rows u) e = ap Rows (refs_same t u e)
whole_same (Rows t) (Row u l) e = ap Rows (refs_same t u e)
whole_same (Rows t) (Rows u) e = ap Rows (refs_same t u e)
whole_same (Owned p) (Owned q) e = ap Owned (pids_same p q e)
whole_same (Trap p) (Trap q) e = ap Trap (pids_same p q e)
whole_same (Watchers p) (Watchers q) e = ap Watchers (pids_same p q e)
whole_same (Watch p) (Watch q) e = ap Watch (refs_same p q e)
whole_same (Guard p) (Guard q) e = ap Guard (refs_same p q e)
whole_same (Holder n) (Holder m) e = refl
whole_same (Holder n) Holders e = refl
whole_same Holders (Holder m) e = refl
whole_same Holders Holders e = refl
whole_same (NameOf p) (NameOf q) e = ap NameOf (pids_same p q e)
whole_same a b e = absurd (true≢false (sym e))

both_true : (a b : Bool) → a ≡ true → b ≡ true → (a && b) ≡ true
both_true a b e f = λ i. (e i) && (f i)

-- and each meets what it is a part of
pub meets_whole : (a : Cell) → meet a (whole a) ≡ true
meets_whole (Machine p) = pid_itself p
meets_whole (Alive p) = pid_itself p
meets_whole (Taken p) = pid_itself p
meets_whole (Mailed p) = pid_itself p
meets_whole (Front s r) = both_true (same_pid s s) (same_pid r r) (pid_itself s) (pid_itself r)
meets_whole (Tail s r) = both_true (same_pid s s) (same_pid r r) (pid_itself s) (pid_itself r)
meets_whole (Links p) = pid_itself p
meets_whole (TableName n) = pid_itself n
meets_whole (Table t) = ref_itself t
meets_whole (Row t k) = ref_itself t
meets_whole (Rows t) = ref_itself t
meets_whole (Owned p) = pid_itself p
meets_whole (Trap p) = pid_itself p
meets_whole (Watchers p) = pid_itself p
meets_whole (Watch r) = ref_itself r
meets_whole (Guard r) = ref_itself r
meets_whole (Holder n) = refl
meets_whole Holders = refl
meets_whole (NameOf p) = pid_itself p

pub whole_meets : (a : Cell) → meet (whole a) a ≡ true
whole_meets (Row t k) = ref_itself t
whole_meets (Holder n) = refl
whole_meets a = meets_whole a

whole_itself : (a : Cell) → is_part a ≡ false → whole a ≡ a
whole_itself (Row t k) other = absurd (true≢false other)
whole_itself (Holder n) other = absurd (true≢false other)
whole_itself a other = refl

-- two that meet a third meet each other, unless both are parts
pub left_meets : (a b c : Cell) → is_part a ≡ false → meet a c ≡ true → meet b c ≡ true → meet a b ≡ true
left_meets a b c other e f =
    let same : whole b ≡ a = whole_same b c f ∙ sym (whole_same a c e) ∙ whole_itself a other in
    ap (λ x. meet x b) (sym same) ∙ whole_meets b

pub right_meets : (a b c : Cell) → is_part b ≡ false → meet a c ≡ true → meet b c ≡ true → meet a b ≡ true
right_meets a b c other e f =
    let same : whole a ≡ b = whole_same a c e ∙ sym (whole_same b c f) ∙ whole_itself b other in
    ap (λ x. meet a x) (sym same) ∙ meets_whole a
