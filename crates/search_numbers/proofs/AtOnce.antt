-- Which deliveries are of signals that arrive at once, by what is kept of their channels.
use Rattle.std.proofs.Common.{◌≡◌, ◌∙◌, ℕ, Bool, Some, refl, sym, ap, subst}
use Rattle.core_tree.specs.Syntax.{ModuleTree}
use Rattle.search_numbers.specs.Knowing.{InWorlds}
use Rattle.search_numbers.specs.Stored.{AreOf, BeginsAt, Follows, IsWorldOf, column_in, is_at_once_in, number_in, numbered}
use Rattle.search_numbers.specs.declared.known.Known.{Known}
use Rattle.search_numbers.specs.declared.store.Store.{Store}
use Rattle.search_numbers.proofs.Asking.{channel_of}
use Rattle.search_numbers.proofs.Kept.{are_earlier}
use Rattle.search_numbers.proofs.Looked.{begins_seen}
use Rattle.term_core.specs.declared.step.Step.{Step}
use Rattle.term_core.specs.declared.step.Step.TheVariants.{Turn, Deliver}
use Rattle.tree_schedules.specs.Deliveries.{arrives_at_once, is_at_once}
use Rattle.world_model.specs.Events.{History}
use Rattle.world_model.specs.Signals.{first_of}
use Rattle.world_model.specs.World.{contents}
use Rattle.world_records.specs.Places.{AgreesAt}
use Rattle.world_records.specs.declared.place.Place.TheVariants.{Channel}

-- the number at the column where a delivery begins stands for what is on its way there
pub tells_at_once : (store later : Store) (numbers : ℕ → ℕ) (c : ℕ) (s : Step) (m : ModuleTree) (h : History) → IsWorldOf store numbers → BeginsAt store.places.items c s → Follows later store → AreOf later numbers m h → is_at_once_in (numbered store (numbers c)) s ≡ is_at_once h s
tells_at_once store later numbers c (Turn p) m h world begins follows are = refl
tells_at_once store later numbers c (Deliver s r) m h world begins follows are =
    let here : AreOf store numbers m h = are_earlier store later numbers follows world.kept m h are in
    let column : column_in store.places.items (Channel s r) ≡ Some c = ap (column_in store.places.items) (sym (channel_of begins.place s r begins.begins)) ∙ world.whole.columns c begins.place begins.there in
    let waits : AgreesAt m (Channel s r) (numbered store (numbers c)) (contents h) = subst (λ o. AgreesAt m (Channel s r) (numbered store (number_in numbers o)) (contents h)) column (here.has (Channel s r)) in
    ap (λ signals. arrives_at_once (first_of signals)) waits.waiting

-- so what is told of a column is so in each world
pub told_at_once : (read seen : Known) (numbers : ℕ → ℕ) (c : ℕ) (s : Step) (told b : Bool) → read ≡ seen → IsWorldOf seen.store numbers → BeginsAt seen.store.places.items c s → ((t : Step) → BeginsAt read.store.places.items c t → told ≡ is_at_once_in (numbered read.store (numbers c)) t) → told ≡ b
    → InWorlds seen numbers (λ m h. is_at_once h s ≡ b)
told_at_once read seen numbers c s told b same world begins tells is later m h follows are =
    sym (tells_at_once seen.store later numbers c s m h world begins follows are)
    ∙ ap (λ (k : Known). is_at_once_in (numbered k.store (numbers c)) s) (sym same)
    ∙ sym (tells s (begins_seen read seen c s same begins))
    ∙ is
