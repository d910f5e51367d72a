-- What a remembered step does in a world.
use Rattle.std.proofs.Common.{◌≡◌, ◌∙◌, ◌==◌, ◌<◌, ◌≤◌, ℕ, Bool, true, false, if◌then◌else◌, List, [], ◌∷◌, Option, Some, None, is_some, length, map, slice_get, refl, sym, ap, subst, arith}
use Rattle.std.proofs.Common.{Global, Vec}
use Rattle.std.proofs.lemmas.Bool.{eqb-true}
use Rattle.std.specs.List.{AllByRecursion}
use Rattle.core_tree.specs.Syntax.{ModuleTree}
use Rattle.search_levels.specs.declared.arrival.Arrival.{Arrival}
use Rattle.search_numbers.proofs.Followed.{follows_itself}
use Rattle.search_numbers.proofs.Listed.{right_at}
use Rattle.search_numbers.specs.Knowing.{AreRight, IsAfter, IsEnabledAt, IsTaken, IsThere}
use Rattle.search_numbers.specs.Remembering.{IsRight, IsSo, identities_in, shown_in}
use Rattle.search_numbers.specs.Rows.{fits, written}
use Rattle.search_numbers.specs.Stored.{AreKept, AreOf, Follows, IsWorldOf}
use Rattle.search_numbers.specs.declared.known.Known.{Known}
use Rattle.search_numbers.specs.declared.remembered.Remembered.{Remembered}
use Rattle.search_numbers.specs.declared.store.Store.{Store}
use Rattle.search_numbers.specs.declared.touch.Touch.{Touch}
use Rattle.term_core.specs.declared.step.Step.{Step}
use Rattle.world_identities.specs.Identities.{identity_in}
use Rattle.world_identities.specs.declared.identity.Identity.{Identity}
use Rattle.world_model.specs.Asking.{program_of}
use Rattle.world_model.specs.Events.{History}
use Rattle.world_model.specs.Run.{next_event}

-- ---- the numbers that it leaves are kept

put_kept : (store : Store) (numbers : ℕ → ℕ) (t : Touch) → AreKept store numbers → t.after ≤ length store.parts.items → t.column < length store.places.items → AreKept store (λ c. if c == t.column then t.after else numbers c)
put_kept store numbers t kept after within c = go (c == t.column) refl
  where
    go : (b : Bool) → c == t.column ≡ b → ((if b then t.after else numbers c) ≤ length store.parts.items) × (length store.places.items ≤ c → (if b then t.after else numbers c) ≡ 0)
    go true is =
        let e : c ≡ t.column = eqb-true c t.column is in
        (after, λ past. absurd (omega (arith, e, within, past)))
    go false is = kept c

written_kept : (store : Store) (touches : List Touch) (numbers : ℕ → ℕ) → AllByRecursion (λ t. (t.after ≤ length store.parts.items) × (t.column < length store.places.items)) touches → AreKept store numbers → AreKept store (written touches numbers)
written_kept store [] numbers all kept = kept
written_kept store (t ∷ touches) numbers all kept = written_kept store touches (λ c. if c == t.column then t.after else numbers c) all.1 (put_kept store numbers t kept all.0.0 all.0.1)

-- ---- what is after it

some_is : {X : Type 0} {x y : X} → Some x ≡ Some y → x ≡ y
some_is e = cc

module _ (known : Known) (numbers : ℕ → ℕ) (at : ℕ) (r : Remembered) (left : ℕ → ℕ) (taken : Arrival) (right : AreRight known) (there : slice_get known.remembered.items at ≡ Some r) (same : taken.step ≡ r.step)
    (shows : map identity_in taken.shown.items ≡ identities_in (shown_in r.shown)) (row : (c : ℕ) → left c ≡ written r.touches.items numbers c) where
  all_numbers : left ≡ written r.touches.items numbers
  all_numbers i c = row c i

  is_right : IsRight known.store r
  is_right = right_at known at r right there

  is_after : (later : Store) (m : ModuleTree) (h : History) (step : Step) (o : Option (Vec Identity Global)) → r.step ≡ step → is_some o ≡ true → map identity_in taken.shown.items ≡ identities_in (shown_in o) → IsSo later numbers m h r (shown_in o) → IsAfter later m h step left taken
  is_after later m h step None is on shown so = absurd cc
  is_after later m h step (Some found) is on shown so = record {
    event = so.event;
    is_next = ap (next_event (program_of m) h) (sym is) ∙ so.is_next;
    are = subst (λ ns. AreOf later ns m (so.event ∷ h)) (sym all_numbers) so.are;
    shown = shown ∙ so.shows;
  }

  after_it : (step : Step) → IsEnabledAt known numbers step at → (later : Store) (m : ModuleTree) (h : History) → Follows later known.store → AreOf later numbers m h → IsAfter later m h step left taken
  after_it step is later m h follows are =
      let one : is.remembered ≡ r = some_is (sym is.there ∙ there) in
      is_after later m h step r.shown (ap (λ (x : Remembered). x.step) (sym one) ∙ is.is_of) (subst (λ (x : Remembered). is_some x.shown ≡ true) one is.enabled) shows
      (is_right.is_so later numbers m h follows (subst (λ (x : Remembered). fits x.touches.items numbers ≡ true) one is.matches) are)

  pub is_taken : IsTaken known numbers at left taken
  is_taken step is =
      let one : is.remembered ≡ r = some_is (sym is.there ∙ there) in
      (same ∙ ap (λ (x : Remembered). x.step) (sym one) ∙ is.is_of, after_it step is)

  pub world_taken : IsWorldOf known.store numbers → IsThere known numbers at → IsWorldOf known.store left
  world_taken world is =
      let reached = world.reached in
      let after = after_it is.step is.enabled known.store reached.tree reached.history (follows_itself known.store) reached.are in
      record {
        whole = world.whole;
        kept = subst (AreKept known.store) (sym all_numbers) (written_kept known.store r.touches.items numbers is_right.kept world.kept);
        reached = record { tree = reached.tree; history = after.event ∷ reached.history; are = after.are };
      }
