-- What is shown of a world where no step is enabled, and what is after a step with it.
use Rattle.std.proofs.Common.{◌≡◌, ◌∙◌, ◌++◌, ℕ, true, false, List, [], ◌∷◌, Some, None, Result, Ok, Err, OnOk, map, sym, ap, subst}
use Rattle.std.specs.List.{filter}
use Rattle.search_levels.specs.Arrivals.{AreArrivals, Arrived, of_module}
use Rattle.tree_schedules.specs.Deliveries.{is_at_once}
use Rattle.tree_schedules.specs.declared.delivery.Delivery.TheVariants.{AnyTime, AtOnce}
use Rattle.core_tree.specs.Syntax.{ModuleTree}
use Rattle.search_levels.specs.declared.arrival.Arrival.{Arrival}
use Rattle.search_numbers.proofs.Followed.{follows_on}
use Rattle.search_numbers.proofs.Kept.{has_earlier}
use Rattle.search_numbers.specs.Knowing.{GoesOn, IsFirstAtOnce, IsTaken, KnowsMore}
use Rattle.search_numbers.specs.Local.{HasAll}
use Rattle.search_numbers.specs.Rows.{numbers_in}
use Rattle.search_numbers.specs.Stored.{IsWorldOf, part_at}
use Rattle.search_numbers.specs.declared.known.Known.{Known}
use Rattle.search_states.proofs.Following.{all_prompt, arrives, goes_on, one_prompt, stands_still}
use Rattle.search_states.specs.inside.Keeping.{AddsDeadlockIn, AreArrivalsIn, IsArrivalOf, IsKept, PutsAlone}
use Rattle.world_identities.specs.Identities.{identity_in}
use Rattle.world_identities.specs.declared.identity.Identity.{Identity}
use Rattle.world_model.specs.Asking.{program_of}
use Rattle.world_model.specs.Cells.{Contents}
use Rattle.world_model.specs.Events.{History}
use Rattle.world_model.specs.Run.{enabled_steps}
use Rattle.world_model.specs.Shown.{shown_at_rest}
use Rattle.world_model.specs.World.{contents}
use Rattle.world_records.specs.Records.{Agrees}
use Rattle.world_records.specs.declared.records.Records.{Records}

-- where a step is enabled there is none
pub none_added : (known : Known) (numbers : ℕ → ℕ) (shown : List Identity) → GoesOn known numbers true → AddsDeadlockIn known numbers shown shown
none_added known numbers shown goes later m h follows are = goes_on (map identity_in shown) (enabled_steps (program_of m) h) h (goes later m h follows are)

-- where none is, it is that of the records of the world
pub one_added : (known : Known) (numbers : ℕ → ℕ) (records : Records) (old new : List Identity) → IsWorldOf known.store numbers → GoesOn known numbers false
    → ((m : ModuleTree) (v : Contents) → HasAll m (part_at known.store numbers) v → Agrees m records v)
    → ((m : ModuleTree) (h : History) → Agrees m records (contents h) → map identity_in new ≡ map identity_in old ++ shown_at_rest [] h) → AddsDeadlockIn known numbers old new
one_added known numbers records old new world goes agrees adds later m h follows are =
    stands_still (map identity_in old) (map identity_in new) (enabled_steps (program_of m) h) h (goes later m h follows are)
    (adds m h (agrees m (contents h) (has_earlier known.store later numbers follows world.kept m (contents h) are.has)))

-- what is after a remembered step, with the deadlock there
pub arrival_of : (before known : Known) (numbers : ℕ → ℕ) (at : ℕ) (row : List ℕ) (taken to : Arrival) → KnowsMore before known → IsTaken before numbers at (numbers_in row) taken → to.step ≡ taken.step → AddsDeadlockIn known (numbers_in row) taken.shown.items to.shown.items
    → IsArrivalOf before known numbers at (record { of = to; row = row })
arrival_of before known numbers at row taken to more is same adds step enabled =
    let one = is step enabled in (
      same ∙ one.0,
      λ later m h follows are.
          arrives later m h step row taken to same one.0 (λ e. adds later.store m (e.event ∷ h) follows e.are) (one.1 later.store m h (follows_on later.store known.store before.store follows more.follows) are),
    )

-- ---- where signals are delivered at once

pub first_arrives : (before known : Known) (numbers : ℕ → ℕ) (at : ℕ) (rs : List Arrived) → IsFirstAtOnce before numbers (Some at) → KnowsMore before known → PutsAlone before known numbers at rs → AreArrivalsIn AtOnce known numbers rs
first_arrives before known numbers at rs first more alone later m h follows of =
    let a = program_of m in
    let steps = enabled_steps a h in
    let one = one_prompt before numbers at (filter (is_at_once h) steps) steps (first later.store m h (follows_on later.store known.store before.store follows more.follows) of) in
    let is = alone.is one.0 one.1 in
    subst (AreArrivals AtOnce (of_module (IsKept later) m) a h) (sym alone.put) (record { steps = ap (λ s. s ∷ []) is.0 ∙ sym one.2; each = (is.1 later m h follows of, tt) })

pub all_arrive : (before known : Known) (numbers : ℕ → ℕ) (rs : List Arrived) → IsFirstAtOnce before numbers None → KnowsMore before known → AreArrivalsIn AnyTime known numbers rs → AreArrivalsIn AtOnce known numbers rs
all_arrive before known numbers rs none more all later m h follows of =
    let a = program_of m in
    let steps = enabled_steps a h in
    let are : AreArrivals AnyTime (of_module (IsKept later) m) a h rs = all later m h follows of in
    record { steps = are.steps ∙ sym (all_prompt before numbers (filter (is_at_once h) steps) steps (none later.store m h (follows_on later.store known.store before.store follows more.follows) of)); each = are.each }

-- what holds where a result is Ok
pub on_ok : {X E A B : Type 0} (r : Result X E) → (A → B) → OnOk r A → OnOk r B
on_ok (Ok x) f is = f is
on_ok (Err e) f is = tt
