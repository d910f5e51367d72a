-- Histories that leave the same have the same next events and enabled steps, and show the same where none is enabled.
use Rattle.std.proofs.Common.{◌≡◌, inl, inr, Bool, true, false, List, [], ◌∷◌, ◌++◌, Some, None, refl, sym, ap, ◌∙◌, if◌then◌else◌, option_map, is_some}
use Rattle.std.specs.List.{filter, filter_map}
use Rattle.std.specs.declared.cmp.Ordering.TheVariants.{Less, Equal}
use Rattle.std.proofs.lemmas.Cmp.{tied_itself}
use Rattle.term_core.specs.StepOrder.{order_of_steps}
use Rattle.term_core.specs.inside.StepOrderLaws.{steps_total}
use Rattle.term_core.specs.declared.step.Step.{Step}
use Rattle.term_core.specs.declared.step.Step.TheVariants.{Turn, Deliver}
use Rattle.world_model.specs.Cells.{Alive, Contents}
use Rattle.world_model.specs.Commuting.{LeaveTheSame}
use Rattle.world_model.specs.Events.{Event, event, History, RanAway}
use Rattle.world_model.specs.Mailboxes.{mailbox_in}
use Rattle.world_model.specs.Names.{IsAmong, Pid}
use Rattle.world_model.specs.Requests.{Program, RunsAway}
use Rattle.world_model.specs.Run.{next_event, is_enabled, enabled_steps, possible_steps, living, turn_of}
use Rattle.world_model.specs.Shown.{are_some, deadlock_of, shown_at_rest, unread_of, with_messages}
use Rattle.world_model.specs.StepLaws.{ComesBefore, AreInOrder}
use Rattle.world_model.specs.Steps.{next_deed}
use Rattle.world_model.specs.World.{contents, grown, alive}
use Rattle.world_model.proofs.Opened.{enabled_listed, listed_enabled, listed_in_order}

-- ---- next events, and what they leave

pub all_cells : (h g : History) → LeaveTheSame h g → contents h ≡ contents g
all_cells h g same = λ i c. same c i

pub same_next : (a : Program) (h g : History) → LeaveTheSame h g → (s : Step) → next_event a h s ≡ next_event a g s
same_next a h g same s = ap (λ v. option_map (event s) (next_deed a v s)) (all_cells h g same)

pub same_after : (h g : History) → LeaveTheSame h g → (e : Event) → LeaveTheSame (e ∷ h) (e ∷ g)
unfolding contents
same_after h g same e c = ap (λ v. grown v e.step e.deed c) (all_cells h g same)

-- ---- lists in order with the same elements are the same

pub comes : (x s : Step) (xs : List Step) → ComesBefore x xs → IsAmong s xs → order_of_steps x s ≡ Less
comes x s [] before there = absurd there
comes x s (y ∷ ys) before (inl is) = ap (order_of_steps x) (sym is) ∙ before.0
comes x s (y ∷ ys) before (inr there) = comes x s ys before.1 there

not_less : (s : Step) → order_of_steps s s ≡ Less → ⊥
not_less s less = less_equal (sym less ∙ tied_itself steps_total s)
  where
    less_equal : Less ≡ Equal → ⊥
    less_equal e = absurd cc

not_both : (x y : Step) → order_of_steps x y ≡ Less → order_of_steps y x ≡ Less → ⊥
not_both x y one other = not_less x (steps_total.trans x y x one other)

first_same : (x y : Step) (xs ys : List Step) → ComesBefore x xs → ComesBefore y ys → IsAmong x (y ∷ ys) → IsAmong y (x ∷ xs) → x ≡ y
first_same x y xs ys before after (inl is) there = sym is
first_same x y xs ys before after (inr here) (inl is) = is
first_same x y xs ys before after (inr here) (inr there) = absurd (not_both x y (comes x y xs before there) (comes y x ys after here))

-- what follows in one follows in the other
follows : (x y : Step) (xs ys : List Step) → x ≡ y → ComesBefore x xs → ((s : Step) → IsAmong s (x ∷ xs) → IsAmong s (y ∷ ys)) → (s : Step) → IsAmong s xs → IsAmong s ys
follows x y xs ys same before all s there = elim (all s (inr there)) [
  | inl is ↦ absurd (not_less s (ap (λ z. order_of_steps z s) (sym (same ∙ is)) ∙ comes x s xs before there))
  | inr more ↦ more
]

pub same_list : (xs ys : List Step) → AreInOrder xs → AreInOrder ys → ((s : Step) → IsAmong s xs → IsAmong s ys) → ((s : Step) → IsAmong s ys → IsAmong s xs) → xs ≡ ys
same_list [] [] p q one other = refl
same_list [] (y ∷ ys) p q one other = absurd (other y (inl refl))
same_list (x ∷ xs) [] p q one other = absurd (one x (inl refl))
same_list (x ∷ xs) (y ∷ ys) p q one other =
    let same : x ≡ y = first_same x y xs ys p.0 q.0 (one x (inl refl)) (other y (inl refl)) in
    let rest : xs ≡ ys = same_list xs ys p.1 q.1 (follows x y xs ys same p.0 one) (follows y x ys xs (sym same) q.0 other) in
    λ i. same i ∷ rest i

enabled_too : (a : Program) (h g : History) → LeaveTheSame h g → (s : Step) → IsAmong s (enabled_steps a h) → IsAmong s (enabled_steps a g)
enabled_too a h g same s there = enabled_listed a g s (ap is_some (sym (same_next a h g same s)) ∙ listed_enabled a h s there)

pub turned : (h g : History) → LeaveTheSame h g → LeaveTheSame g h
turned h g same c = sym (same c)

pub same_enabled : (a : Program) (h g : History) → LeaveTheSame h g → enabled_steps a h ≡ enabled_steps a g
same_enabled a h g same =
    same_list (enabled_steps a h) (enabled_steps a g) (listed_in_order a h) (listed_in_order a g) (enabled_too a h g same) (enabled_too a g h (turned h g same))

-- ---- the living are those with a turn in a program in which each process can take one

abbrev pub everyone : Program
everyone p origin answers = RunsAway

with_turn : (b : Bool) (p : Pid) (xs : List Pid) (ys : List Step) → xs ≡ filter_map turn_of ys → (if b then p ∷ xs else xs) ≡ filter_map turn_of (if is_some (option_map (event (Turn p)) (if b then Some RanAway else None)) then Turn p ∷ ys else ys)
with_turn true p xs ys same = ap (λ zs. p ∷ zs) same
with_turn false p xs ys same = same

without_turn : (b : Bool) (s r : Pid) (ys : List Step) → filter_map turn_of ys ≡ filter_map turn_of (if b then Deliver s r ∷ ys else ys)
without_turn true s r ys = refl
without_turn false s r ys = refl

pub living_in : (h : History) (xs : List Step) → filter (alive h) (filter_map turn_of xs) ≡ filter_map turn_of (filter (is_enabled everyone h) xs)
living_in h [] = refl
living_in h (Turn p ∷ xs) = with_turn (contents h (Alive p)) p (filter (alive h) (filter_map turn_of xs)) (filter (is_enabled everyone h) xs) (living_in h xs)
living_in h (Deliver s r ∷ xs) = living_in h xs ∙ without_turn (is_enabled everyone h (Deliver s r)) s r (filter (is_enabled everyone h) xs)

pub same_living : (h g : History) → LeaveTheSame h g → living h ≡ living g
same_living h g same =
    living_in h (possible_steps h) ∙ ap (filter_map turn_of) (same_enabled everyone h g same) ∙ sym (living_in g (possible_steps g))

-- ---- and so are those of them that have messages

same_unread : (h g : History) → LeaveTheSame h g → with_messages h (living h) ≡ with_messages g (living g)
same_unread h g same =
    ap (λ (ps : List Pid). with_messages h ps) (same_living h g same) ∙ ap (λ (v : Contents). filter (λ p. are_some (mailbox_in v p)) (living g)) (all_cells h g same)

shown_by_steps : (steps : List Step) (h g : History) → LeaveTheSame h g → shown_at_rest steps h ≡ shown_at_rest steps g
shown_by_steps [] h g same = λ i. deadlock_of (same_living h g same i) ++ unread_of (same_living h g same i) (same_unread h g same i)
shown_by_steps (step ∷ steps) h g same = refl

pub same_at_rest : (a : Program) (h g : History) → LeaveTheSame h g → shown_at_rest (enabled_steps a h) h ≡ shown_at_rest (enabled_steps a g) g
same_at_rest a h g same = ap (λ (steps : List Step). shown_at_rest steps h) (same_enabled a h g same) ∙ shown_by_steps (enabled_steps a g) h g same
