-- Steps that are drawn: one of some, and the first that delivers a signal that arrives at once.
use Rattle.std.proofs.Common.{◌≡◌, ◌∙◌, inl, inr, ◌<◌, ◌≤◌, ◌+◌, ℕ, zero, suc, Bool, true, false, cond, List, [], ◌∷◌, Option, drop, filter, get_or, length, refl, sym, ap, subst, arith}
use Rattle.std.proofs.lemmas.List.{at_drop_all, at_drop_more}
use Rattle.core_tree.specs.Syntax.{ModuleTree}
use Rattle.proc_signals.specs.Channels.{between}
use Rattle.search_samples.specs.inside.Walks.{allowed}
use Rattle.term_core.specs.declared.step.Step.{Step}
use Rattle.term_core.specs.declared.step.Step.TheVariants.{Deliver}
use Rattle.tree_schedules.specs.Deliveries.{arrives_at_once, first_or_all, is_at_once, steps_by}
use Rattle.tree_schedules.specs.declared.delivery.Delivery.{Delivery}
use Rattle.tree_schedules.specs.declared.delivery.Delivery.TheVariants.{AnyTime, AtOnce}
use Rattle.world_model.specs.Events.{History, Signal}
use Rattle.world_model.specs.Names.{IsAmong, Pid}
use Rattle.world_model.specs.Requests.{Program}
use Rattle.world_model.specs.Run.{enabled_steps}
use Rattle.world_model.specs.Signals.{first_of}
use Rattle.world_model.specs.World.{contents}
use Rattle.world_records.specs.Records.{Agrees, channels_of}
use Rattle.world_records.specs.declared.records.Records.{Records}

-- ---- one of some steps

pub held_at : (xs : List Step) (i : ℕ) (x : Step) → i < length xs → x ≡ get_or xs i x → IsAmong x xs
held_at [] i x within is = absurd (omega (arith, within))
held_at (y ∷ ys) zero x within is = inl (sym is)
held_at (y ∷ ys) (suc i) x within is = inr (held_at ys i x (omega (arith, within)) is)

-- ---- the first that passes a test

module _ (test : Step → Bool) where
  kept : (x : Step) (xs : List Step) → test x ≡ true → filter test (x ∷ xs) ≡ x ∷ filter test xs
  kept x xs is = ap (λ b. cond b (x ∷ filter test xs) (filter test xs)) is

  left_out : (x : Step) (xs : List Step) → test x ≡ false → filter test (x ∷ xs) ≡ filter test xs
  left_out x xs is = ap (λ b. cond b (x ∷ filter test xs) (filter test xs)) is

  -- those from a place on, which begin with the step there
  here : (xs : List Step) (i : ℕ) (x : Step) → i < length xs → x ≡ get_or xs i x → filter test (drop i xs) ≡ filter test (x ∷ drop (i + 1) xs)
  here xs i x within is = at_drop_more (filter test) xs i x within ∙ ap (λ (y : Step). filter test (y ∷ drop (i + 1) xs)) (sym is)

  pub none_so_far : (xs : List Step) (i : ℕ) (x : Step) → i < length xs → x ≡ get_or xs i x → test x ≡ false → filter test xs ≡ filter test (drop i xs) → filter test xs ≡ filter test (drop (i + 1) xs)
  none_so_far xs i x within is off so_far = so_far ∙ here xs i x within is ∙ left_out x (drop (i + 1) xs) off

  pub first_here : (xs : List Step) (i : ℕ) (x : Step) → i < length xs → x ≡ get_or xs i x → test x ≡ true → filter test xs ≡ filter test (drop i xs) → (rest : List Step) × (filter test xs ≡ x ∷ rest)
  first_here xs i x within is on so_far = (filter test (drop (i + 1) xs), so_far ∙ here xs i x within is ∙ kept x (drop (i + 1) xs) on)

  pub none_at_all : (xs : List Step) (i : ℕ) → length xs ≤ i → filter test xs ≡ filter test (drop i xs) → filter test xs ≡ []
  none_at_all xs i within so_far = so_far ∙ at_drop_all (filter test) xs i within

-- ---- those that arrive at once

-- what is in front of a channel of the records tells whether its delivery does
pub by_the_front : (m : ModuleTree) (h : History) (records : Records) (s r : Pid) (front : Option Signal) → Agrees m records (contents h) → front ≡ first_of (between (channels_of records) s r) → arrives_at_once front ≡ is_at_once h (Deliver s r)
by_the_front m h records s r front agrees is = ap arrives_at_once (is ∙ ap first_of (agrees.channels_are s r).waiting)

-- ---- those that may be taken

-- the first one that arrives at once is the one that may be taken
pub first_allowed : (h : History) (xs : List Step) (x : Step) → ((rest : List Step) × (filter (is_at_once h) xs ≡ x ∷ rest)) → IsAmong x (allowed AtOnce h xs)
first_allowed h xs x p = subst (λ (ds : List Step). IsAmong x (first_or_all ds xs)) (sym p.1) (inl refl)

-- where there is none each step may be taken
pub each_allowed : (h : History) (xs : List Step) (x : Step) → filter (is_at_once h) xs ≡ [] → IsAmong x xs → IsAmong x (allowed AtOnce h xs)
each_allowed h xs x none there = subst (λ (ds : List Step). IsAmong x (first_or_all ds xs)) (sym none) there

-- those of the enabled steps are the steps that may be taken after a history
pub may_be_taken : (d : Delivery) (a : Program) (h : History) (xs : List Step) (x : Step) → xs ≡ enabled_steps a h → IsAmong x (allowed d h xs) → IsAmong x (steps_by d a h)
may_be_taken AnyTime a h xs x are there = subst (IsAmong x) are there
may_be_taken AtOnce a h xs x are there = subst (λ (es : List Step). IsAmong x (first_or_all (filter (is_at_once h) es) es)) are there
