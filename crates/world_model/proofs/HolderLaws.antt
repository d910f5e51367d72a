-- Who holds names: changes of two names may be made in either order, and all holders are those of each name.
use Rattle.std.proofs.Common.{◌≡◌, Bool, true, false, ◌∷◌, [], List, cond, refl, sym, ap, ◌∙◌, true≢false, Option, Some, None, if◌then◌else◌}
use Rattle.std.specs.Cmp.Lexicographic.{nat_list_cmp_total}
use Rattle.std.specs.FinMap.{FinMap, get, insert, remove, get-empty, get-insert, get-remove, same_map, IsAntisymmetric}
use Rattle.std.proofs.lemmas.Cmp.{tied_itself}
use Rattle.std.specs.Ordering.{eq_by_cmp, is_eq}
use Rattle.std.specs.declared.cmp.Ordering.{Ordering}
use Rattle.std.specs.declared.cmp.Ordering.TheVariants.{Less, Equal, Greater}
use Rattle.term_core.specs.Order.{order_of_lists}
use Rattle.term_core.specs.inside.OrderLaws.{same_list}
use Rattle.world_model.specs.Bonds.{HoldersAreAll}
use Rattle.world_model.specs.Cells.{Contents, Holder, Holders, meet}
use Rattle.world_model.specs.Changes.{Change, HolderSet, HolderCleared, CellTouched, after, cell_of, changed}
use Rattle.world_model.specs.Names.{Name, Pid, same_name}
use Rattle.world_model.specs.Steps.{changes_by}
use Rattle.world_model.specs.World.{contents}
use Rattle.world_model.proofs.Meeting.{pid_itself, pids_same}

abbrev pub HoldersOf : Type 0
HoldersOf = FinMap order_of_lists Pid

-- a name has this holder from a change on, or none
abbrev pub held_change : Name → Option Pid → Change
held_change n None = HolderCleared n
held_change n (Some p) = HolderSet n p

pub cell_held : (n : Name) (o : Option Pid) → cell_of (held_change n o) ≡ Holder n
cell_held n None = refl
cell_held n (Some p) = refl

abbrev pub holders_with : Name → Option Pid → HoldersOf → HoldersOf
holders_with n None holders = remove holders n
holders_with n (Some p) holders = insert holders n p

pub renewed_held : (n : Name) (o : Option Pid) (v : Contents) → changed (held_change n o) v Holders ≡ holders_with n o (v Holders)
renewed_held n None v = refl
renewed_held n (Some p) v = refl

pub names_apart : IsAntisymmetric order_of_lists
names_apart = same_list

pub get-holders_with : (n : Name) (o : Option Pid) (holders : HoldersOf) (m : Name) → get (holders_with n o holders) m ≡ cond (eq_by_cmp order_of_lists m n) o (get holders m)
get-holders_with n None holders m = get-remove nat_list_cmp_total holders n m
get-holders_with n (Some p) holders m = get-insert nat_list_cmp_total holders n p m

pub is_equal : (r : Ordering) → is_eq r ≡ true → r ≡ Equal
is_equal Less e = absurd cc
is_equal Equal e = refl
is_equal Greater e = absurd cc

-- names tie in their order exactly where they are the same
tied_by : (m n : Name) (b d : Bool) → eq_by_cmp order_of_lists m n ≡ b → same_name n m ≡ d → b ≡ d
tied_by m n true true tie same = refl
tied_by m n false false tie same = refl
tied_by m n true false tie same = absurd (true≢false (sym (pid_itself n) ∙ ap (same_name n) (sym (names_apart m n (is_equal (order_of_lists m n) tie))) ∙ same))
tied_by m n false true tie same = absurd (true≢false (sym (ap is_eq (tied_itself nat_list_cmp_total m)) ∙ ap (eq_by_cmp order_of_lists m) (sym (pids_same n m same)) ∙ tie))

tied : (m n : Name) → eq_by_cmp order_of_lists m n ≡ same_name n m
tied m n = tied_by m n (eq_by_cmp order_of_lists m n) (same_name n m) refl refl

pub get-held : (n : Name) (o : Option Pid) (holders : HoldersOf) (m : Name) → get (holders_with n o holders) m ≡ cond (same_name n m) o (get holders m)
get-held n o holders m = get-holders_with n o holders m ∙ ap (λ b. cond b o (get holders m)) (tied m n)

swap : {A : Type 0} (a b : Bool) (x y z : A) → (a ≡ true → b ≡ true → ⊥) → cond a x (cond b y z) ≡ cond b y (cond a x z)
swap true true x y z apart = absurd (apart refl refl)
swap true false x y z apart = refl
swap false true x y z apart = refl
swap false false x y z apart = refl

not_both : (n m k : Name) → same_name n m ≡ false → same_name m k ≡ true → same_name n k ≡ true → ⊥
not_both n m k other there here = true≢false (sym here ∙ ap (same_name n) (sym (pids_same m k there)) ∙ other)

held_twice : (n m : Name) (o q : Option Pid) (holders : HoldersOf) (k : Name) → get (holders_with m q (holders_with n o holders)) k ≡ cond (same_name m k) q (cond (same_name n k) o (get holders k))
held_twice n m o q holders k = get-held m q (holders_with n o holders) k ∙ ap (cond (same_name m k) q) (get-held n o holders k)

pub holders_swapped : (n m : Name) (o q : Option Pid) (holders : HoldersOf) → same_name n m ≡ false → holders_with m q (holders_with n o holders) ≡ holders_with n o (holders_with m q holders)
holders_swapped n m o q holders other = same_map nat_list_cmp_total names_apart _ _ (λ k.
    held_twice n m o q holders k
    ∙ swap (same_name m k) (same_name n k) q o (get holders k) (not_both n m k other)
    ∙ sym (held_twice m n q o holders k))

-- ---- all holders are those of each name

unmoved : {A : Type 0} (b : Bool) (x : A) → (if b then x else x) ≡ x
unmoved true x = refl
unmoved false x = refl

AreIn : Contents → Type 0
AreIn v = (name : Name) → get (v Holders) name ≡ v (Holder name)

kept_by : (j : Change) (v : Contents) → AreIn v → AreIn (changed j v)
unfolding AreIn
kept_by (HolderSet n p) v are m = get-held n (Some p) (v Holders) m ∙ ap (cond (same_name n m) (Some p)) (are m)
kept_by (HolderCleared n) v are m = get-held n None (v Holders) m ∙ ap (cond (same_name n m) None) (are m)
kept_by (CellTouched d) v are m = ap (λ holders. get holders m) (unmoved (meet d Holders) (v Holders)) ∙ are m ∙ sym (unmoved (meet d (Holder m)) (v (Holder m)))
kept_by j v are m = are m

kept : (ks : List Change) (v : Contents) → AreIn v → AreIn (after ks v)
kept [] v are = are
kept (k ∷ ks) v are = kept ks (changed k v) (kept_by k v are)

pub holders_are_all : HoldersAreAll
unfolding contents AreIn
holders_are_all [] = λ name. get-empty order_of_lists name
holders_are_all (e ∷ h) = kept (changes_by (contents h) e.step e.deed) (contents h) (holders_are_all h)
