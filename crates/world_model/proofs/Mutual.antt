-- Of linked processes each is linked to the other.
use Rattle.std.proofs.Common.{◌≡◌, Bool, true, false, ◌&&◌, ◌||◌, List, [], ◌∷◌, Some, refl, sym, ap, ◌∙◌, if◌then◌else◌}
use Rattle.std.specs.Cmp.Lexicographic.{nat_list_cmp_total}
use Rattle.std.specs.List.{list_any}
use Rattle.std.specs.Prelude.{not}
use Rattle.term_core.specs.Order.{order_of_lists}
use Rattle.term_core.specs.declared.step.Step.{Step}
use Rattle.term_core.specs.declared.step.Step.TheVariants.{Turn, Deliver}
use Rattle.world_model.specs.Bonds.{joined, parted, paired, unpaired, paired_by_way, linked_by_call, linked_in, way_now}
use Rattle.world_model.specs.Calls.{Call, Link, Spawn, Linked, Unlink, call_of}
use Rattle.world_model.specs.Events.{History, Deed, Served, Delivered, LinkExit}
use Rattle.world_model.specs.Changes.{set_in_order, without_first}
use Rattle.world_model.specs.Names.{Pid, same_pid}
use Rattle.world_model.specs.ProcessLines.{LinkWay, Stands, Pairs, PairsGone, Fails, next_child}
use Rattle.world_model.specs.RunLaws.{LinksAreMutual}
use Rattle.world_model.specs.World.{contents, linked}
use Rattle.world_model.proofs.BondLaws.{linked_told}
use Rattle.world_model.proofs.InOrder.{InOrder, without_sorted}
use Rattle.world_model.proofs.Listed.{pid_put, pid_gone, pids_if, any_pid, among_pids, always_listed}

-- ---- tests

-- what a list has where it changes, or does not
if_put : (b d z : Bool) → (if b then d || z else z) ≡ (b && d || z)
if_put true d z = refl
if_put false d z = refl

if_gone : (b d z : Bool) → (if b then not d && z else z) ≡ (not (b && d) && z)
if_gone true d z = refl
if_gone false d z = refl

or_turned : (x y z : Bool) → (x || (y || z)) ≡ (y || (x || z))
or_turned true true z = refl
or_turned true false z = refl
or_turned false y z = refl

and_turned : (x y z : Bool) → (x && (y && z)) ≡ (y && (x && z))
and_turned true y z = refl
and_turned false true z = refl
and_turned false false z = refl

pub both_turned : (x y : Bool) → (x && y) ≡ (y && x)
both_turned true true = refl
both_turned true false = refl
both_turned false true = refl
both_turned false false = refl

-- ---- what two have of each other

if_any : (b : Bool) (y : Pid) (xs ys : List Pid) → list_any (same_pid y) (if b then xs else ys) ≡ (if b then list_any (same_pid y) xs else list_any (same_pid y) ys)
if_any true y xs ys = refl
if_any false y xs ys = refl

joined_has : (p q x y : Pid) (there : List Pid) → list_any (same_pid y) (joined p q x there) ≡ (same_pid p x && same_pid q y || list_any (same_pid y) there)
joined_has p q x y there =
    if_any (same_pid p x) y (set_in_order order_of_lists q there) there
    ∙ ap (λ b. if same_pid p x then b else list_any (same_pid y) there) (pid_put q y there)
    ∙ if_put (same_pid p x) (same_pid q y) (list_any (same_pid y) there)

parted_has : (p q x y : Pid) (there : List Pid) → InOrder order_of_lists there → list_any (same_pid y) (parted p q x there) ≡ (not (same_pid p x && same_pid q y) && list_any (same_pid y) there)
parted_has p q x y there sorted =
    if_any (same_pid p x) y (without_first (same_pid q) there) there
    ∙ ap (λ b. if same_pid p x then b else list_any (same_pid y) there) (pid_gone q y there sorted)
    ∙ if_gone (same_pid p x) (same_pid q y) (list_any (same_pid y) there)

parted_sorted : (p q x : Pid) (there : List Pid) → InOrder order_of_lists there → InOrder order_of_lists (parted p q x there)
parted_sorted p q x there sorted = pids_if (same_pid p x) _ _ (without_sorted order_of_lists nat_list_cmp_total (same_pid q) there sorted) sorted

abbrev Lists : Type 0
Lists = Pid → List Pid

AreMutual : Lists → Type 0
AreMutual lists = (x y : Pid) → list_any (same_pid y) (lists x) ≡ list_any (same_pid x) (lists y)

AreSorted : Lists → Type 0
AreSorted lists = (x : Pid) → InOrder order_of_lists (lists x)

pairs_mutual : (lists : Lists) (p q : Pid) → AreMutual lists → AreMutual (λ x. paired p q x (lists x))
unfolding AreMutual
pairs_mutual lists p q before_ = λ x y.
    joined_has q p x y (joined p q x (lists x))
    ∙ ap (λ b. same_pid q x && same_pid p y || b) (joined_has p q x y (lists x))
    ∙ or_turned (same_pid q x && same_pid p y) (same_pid p x && same_pid q y) (list_any (same_pid y) (lists x))
    ∙ (λ i. both_turned (same_pid p x) (same_pid q y) i || (both_turned (same_pid q x) (same_pid p y) i || before_ x y i))
    ∙ sym (joined_has q p y x (joined p q y (lists y)) ∙ ap (λ b. same_pid q y && same_pid p x || b) (joined_has p q y x (lists y)))

parts_mutual : (lists : Lists) (p q : Pid) → AreSorted lists → AreMutual lists → AreMutual (λ x. unpaired p q x (lists x))
unfolding AreMutual AreSorted
parts_mutual lists p q sorted before_ = λ x y.
    parted_has q p x y (parted p q x (lists x)) (parted_sorted p q x (lists x) (sorted x))
    ∙ ap (λ b. not (same_pid q x && same_pid p y) && b) (parted_has p q x y (lists x) (sorted x))
    ∙ and_turned (not (same_pid q x && same_pid p y)) (not (same_pid p x && same_pid q y)) (list_any (same_pid y) (lists x))
    ∙ (λ i. not (both_turned (same_pid p x) (same_pid q y) i) && (not (both_turned (same_pid q x) (same_pid p y) i) && before_ x y i))
    ∙ sym (parted_has q p y x (parted p q y (lists y)) (parted_sorted p q y (lists y) (sorted y)) ∙ ap (λ b. not (same_pid q y && same_pid p x) && b) (parted_has p q y x (lists y) (sorted y)))

way_mutual : (lists : Lists) (p q : Pid) (way : LinkWay) → AreMutual lists → AreMutual (λ x. paired_by_way way p q x (lists x))
way_mutual lists p q Stands before_ = before_
way_mutual lists p q Pairs before_ = pairs_mutual lists p q before_
way_mutual lists p q PairsGone before_ = pairs_mutual lists p q before_
way_mutual lists p q Fails before_ = before_

-- ---- every event, and every history

links_sorted : (h : History) → AreSorted (linked h)
unfolding AreSorted
links_sorted h = λ x. (always_listed h).links x

call_mutual : (h : History) (p : Pid) (call : Call) → AreMutual (linked h) → AreMutual (λ x. linked_by_call h p call x (linked h x))
call_mutual h p (Spawn Linked (Some origin)) before_ = pairs_mutual (linked h) p (next_child (contents h) p) before_
call_mutual h p (Link (Some q)) before_ = way_mutual (linked h) p q (way_now h p q) before_
call_mutual h p (Unlink (Some q)) before_ = parts_mutual (linked h) p q (links_sorted h) before_
call_mutual h p call before_ = before_

event_mutual : (h : History) (step : Step) (deed : Deed) → AreMutual (linked h) → AreMutual (λ x. linked_in h step deed x (linked h x))
event_mutual h (Turn p) (Served kind arguments answer) before_ = call_mutual h p (call_of kind arguments) before_
event_mutual h (Deliver s r) (Delivered (LinkExit reason) fate) before_ = parts_mutual (linked h) s r (links_sorted h) before_
event_mutual h step deed before_ = before_

are_mutual : (h : History) → AreMutual (linked h)
unfolding AreMutual contents
are_mutual [] = λ x y. refl
are_mutual (e ∷ h) = λ x y. ap (list_any (same_pid y)) (linked_told h e x) ∙ event_mutual h e.step e.deed (are_mutual h) x y ∙ sym (ap (list_any (same_pid x)) (linked_told h e y))

pub links_mutual : LinksAreMutual
unfolding AreMutual
links_mutual h p q =
    let both = are_mutual h p q in
    ((λ there. among_pids p (linked h q) (sym both ∙ any_pid q (linked h p) there)), (λ there. among_pids q (linked h p) (both ∙ any_pid p (linked h q) there)))
