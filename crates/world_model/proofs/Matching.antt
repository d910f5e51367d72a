-- Lists of references on the one side, and the process of each on the other: that they match, and continue to.
use Rattle.std.proofs.Common.{◌≡◌, Bool, true, false, ◌&&◌, ◌||◌, List, Option, Some, None, refl, sym, ap, ◌∙◌, if◌then◌else◌, true≢false}
use Rattle.std.specs.List.{list_any}
use Rattle.std.specs.Prelude.{not}
use Rattle.world_model.specs.Changes.{set_in_order, without_first}
use Rattle.world_model.specs.Names.{Pid, Ref, same_pid, same_ref, order_of_refs}
use Rattle.world_model.specs.ProcessHistory.{is_it}
use Rattle.world_model.proofs.InOrder.{InOrder}
use Rattle.world_model.proofs.Listed.{ref_put, ref_gone}
use Rattle.world_model.proofs.Meeting.{pids_same, pid_itself, refs_same}

-- ---- the process that it is of

pub it_is : (o : Option Pid) (q : Pid) → is_it o q ≡ true → o ≡ Some q
it_is None q is = absurd (true≢false (sym is))
it_is (Some p) q is = ap Some (pids_same p q is)

pub is_itself : (o : Option Pid) (q : Pid) → o ≡ Some q → is_it o q ≡ true
is_itself o q is = ap (λ x. is_it x q) is ∙ pid_itself q

-- it is no other's
pub no_other : (o : Option Pid) (p q : Pid) → is_it o p ≡ true → same_pid p q ≡ false → is_it o q ≡ false
no_other o p q is other = ap (λ x. is_it x q) (it_is o p is) ∙ other

if_it : (b : Bool) (n o : Option Pid) (q : Pid) → (if b then is_it n q else is_it o q) ≡ is_it (if b then n else o) q
if_it true n o q = refl
if_it false n o q = refl

-- ---- what a list has where it gains one, or loses one

pub gained_has : (b : Bool) (u t : Ref) (us : List Ref) → list_any (same_ref t) (if b then set_in_order order_of_refs u us else us) ≡ (b && same_ref u t || list_any (same_ref t) us)
gained_has true u t us = ref_put u t us
gained_has false u t us = refl

pub lost_has : (b : Bool) (u t : Ref) (us : List Ref) → InOrder order_of_refs us → list_any (same_ref t) (if b then without_first (same_ref u) us else us) ≡ (not (b && same_ref u t) && list_any (same_ref t) us)
lost_has true u t us sorted = ref_gone u t us sorted
lost_has false u t us sorted = refl

-- ---- they match

unfoldable pub Match : (Pid → List Ref) → (Ref → Option Pid) → Type 0
Match lists whose = (q : Pid) (t : Ref) → list_any (same_ref t) (lists q) ≡ is_it (whose t) q

-- where both are as they were
pub match_same : (lists now : Pid → List Ref) (whose then_ : Ref → Option Pid) → ((q : Pid) → now q ≡ lists q) → ((t : Ref) → then_ t ≡ whose t) → Match lists whose → Match now then_
unfolding Match
match_same lists now whose then_ same alike before_ = λ q t. ap (list_any (same_ref t)) (same q) ∙ before_ q t ∙ sym (ap (λ o. is_it o q) (alike t))

moved : (c b x : Bool) → (x ≡ true → b ≡ true) → (c && true || (not (b && true) && x)) ≡ c
moved true b x fits = refl
moved false true x fits = refl
moved false false true fits = absurd (true≢false (sym (fits refl)))
moved false false false fits = refl

unmoved : (c b x : Bool) → (c && false || (not (b && false) && x)) ≡ x
unmoved true true x = refl
unmoved true false x = refl
unmoved false true x = refl
unmoved false false x = refl

moves_by : (c b x y d : Bool) → (d ≡ true → x ≡ true → b ≡ true) → y ≡ c → (c && d || (not (b && d) && x)) ≡ (if d then y else x)
moves_by c b x y true old new = moved c b x (old refl) ∙ sym new
moves_by c b x y false old new = unmoved c b x

-- a reference goes to the process that has it now, and from the one that had it
pub match_moves : (lists now : Pid → List Ref) (whose then_ : Ref → Option Pid) (u : Ref) (n : Option Pid) (c b : Pid → Bool)
    → ((q : Pid) (t : Ref) → list_any (same_ref t) (now q) ≡ (c q && same_ref u t || (not (b q && same_ref u t) && list_any (same_ref t) (lists q))))
    → ((t : Ref) → then_ t ≡ (if same_ref u t then n else whose t)) → ((q : Pid) → is_it n q ≡ c q) → ((q : Pid) → is_it (whose u) q ≡ true → b q ≡ true) → Match lists whose → Match now then_
unfolding Match
match_moves lists now whose then_ u n c b has owners new old before_ = λ q t.
    has q t
    ∙ ap (λ x. c q && same_ref u t || (not (b q && same_ref u t) && x)) (before_ q t)
    ∙ moves_by (c q) (b q) (is_it (whose t) q) (is_it n q) (same_ref u t) (λ same is. old q (ap (λ r. is_it (whose r) q) (refs_same u t same) ∙ is)) (new q)
    ∙ if_it (same_ref u t) n (whose t) q
    ∙ sym (ap (λ o. is_it o q) (owners t))
