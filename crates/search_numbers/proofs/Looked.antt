-- What is read of what was seen.
use Rattle.std.proofs.Common.{◌≡◌, ◌∙◌, ◌<◌, ℕ, Bool, List, Some, get_or, is_some, length, sym, subst}
use Rattle.std.proofs.lemmas.Option.{slice_get_within}
use Rattle.std.specs.List.{slice_get}
use Rattle.search_numbers.specs.Knowing.{AreRight, IsAt, KnowsMore}
use Rattle.search_numbers.specs.Stored.{AreAsked, Begins, BeginsAt, IsStore, IsWorldOf}
use Rattle.search_numbers.specs.declared.known.Known.{Known}
use Rattle.search_numbers.specs.declared.remembered.Remembered.{Remembered}
use Rattle.search_numbers.proofs.Kept.{world_later}
use Rattle.search_numbers.proofs.Listed.{item_begins}
use Rattle.term_core.specs.declared.step.Step.{Step}

-- the store that was seen can be read
pub store_seen : (read seen : Known) → read ≡ seen → IsStore seen.store → IsStore read.store
store_seen read seen same = subst (λ (k : Known). IsStore k.store) (sym same)

-- what is asked of a store is asked of the one that was seen
pub asked_seen : (read seen : Known) (numbers : ℕ → ℕ) (asked columns : List ℕ) → read ≡ seen → columns ≡ asked → AreAsked read.store numbers asked → AreAsked seen.store numbers columns
asked_seen read seen numbers asked columns same all is = subst (λ (k : Known). AreAsked k.store numbers columns) same (subst (AreAsked read.store numbers) (sym all) is)

pub begins_seen : (read seen : Known) (column : ℕ) (s : Step) → read ≡ seen → BeginsAt seen.store.places.items column s → BeginsAt read.store.places.items column s
begins_seen read seen column s same = subst (λ (k : Known). BeginsAt k.store.places.items column s) (sym same)

pub within_seen : (read seen : Known) (numbers : ℕ → ℕ) (s : Step) (at : ℕ) → read ≡ seen → IsAt seen numbers s at → at < length read.remembered.items
within_seen read seen numbers s at same is = subst (λ (k : Known). at < length k.remembered.items) (sym same) (slice_get_within seen.remembered.items at is.remembered is.there)

-- what is told of a place is so of what is remembered there
pub told_seen : (read seen : Known) (numbers : ℕ → ℕ) (s : Step) (at : ℕ) (told b : Bool) → read ≡ seen → (is : IsAt seen numbers s at) → ((r : Remembered) → slice_get read.remembered.items at ≡ Some r → told ≡ is_some r.shown) → told ≡ b → is_some is.remembered.shown ≡ b
told_seen read seen numbers s at told b same is tells on = sym (tells is.remembered (subst (λ (k : Known). slice_get k.remembered.items at ≡ Some is.remembered) (sym same) is.there)) ∙ on

-- the next step that is asked begins at its column, in a world that can be read
pub next_begins : (old new : Known) (numbers : ℕ → ℕ) (columns : List ℕ) (i : ℕ) → KnowsMore old new → AreAsked old.store numbers columns → i < length columns → Begins new.store.places.items (get_or columns i 0)
next_begins old new numbers columns i knows asked within =
    record { step = asked.step (get_or columns i 0); begins = item_begins old new asked.step columns i knows asked.begin within }

pub next_asked : (old new : Known) (numbers : ℕ → ℕ) (columns : List ℕ) (i : ℕ) → KnowsMore old new → IsWorldOf old.store numbers → AreRight old → AreAsked old.store numbers columns → i < length columns → IsWorldOf new.store numbers × (AreRight new × Begins new.store.places.items (get_or columns i 0))
next_asked old new numbers columns i knows world right asked within =
    (world_later old.store new.store numbers knows.follows world, (knows.right right, next_begins old new numbers columns i knows asked within))
