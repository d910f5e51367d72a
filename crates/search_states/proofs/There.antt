-- Steps that are remembered as enabled ones, when more is known.
use Rattle.std.proofs.Common.{ℕ, List, [], ◌∷◌, Some, subst, sym}
use Rattle.search_agenda.proofs.Putting.{all_append}
use Rattle.std.specs.List.{AllByRecursion}
use Rattle.search_numbers.specs.Knowing.{AreAt, AreEnabled, IsFirstAtOnce, IsThere, KnowsMore}
use Rattle.search_numbers.specs.Rows.{numbers_in}
use Rattle.search_numbers.specs.Stored.{IsWorldOf}
use Rattle.search_numbers.proofs.Kept.{world_later}
use Rattle.search_numbers.proofs.Listed.{enabled_at_later}
use Rattle.search_levels.specs.Known.{Grows}
use Rattle.search_levels.specs.Arrivals.{Arrived}
use Rattle.search_states.specs.declared.numbered.Numbered.{Numbered}
use Rattle.search_states.specs.inside.Keeping.{AreRead, CanRead, Comes, PutsArrival}
use Rattle.search_numbers.specs.declared.known.Known.{Known}
use Rattle.search_numbers.proofs.Followed.{follows_itself, follows_on}
use Rattle.search_states.proofs.Following.{one_prompt}
use Rattle.term_core.specs.declared.step.Step.{Step}
use Rattle.tree_schedules.specs.Deliveries.{is_at_once}
use Rattle.std.specs.List.{filter}
use Rattle.world_model.specs.Asking.{program_of}
use Rattle.world_model.specs.Run.{enabled_steps}

pub still_is_there : (old new : Known) (numbers : ℕ → ℕ) (at : ℕ) → KnowsMore old new → IsThere old numbers at → IsThere new numbers at
still_is_there old new numbers at more is = record { step = is.step; enabled = enabled_at_later old new numbers is.step at more is.enabled }

each_there : (known : Known) (numbers : ℕ → ℕ) (steps : List Step) (places : List ℕ) → AreAt known numbers steps places → AllByRecursion (IsThere known numbers) places
each_there known numbers [] [] are = tt
each_there known numbers [] (at ∷ places) are = absurd are
each_there known numbers (step ∷ steps) [] are = absurd are
each_there known numbers (step ∷ steps) (at ∷ places) are = (record { step = step; enabled = are.0 }, each_there known numbers steps places are.1)

-- what can be read can be read when more is known
pub still_read : (old new : Known) (numbers : ℕ → ℕ) → KnowsMore old new → CanRead old numbers → CanRead new numbers
still_read old new numbers more is = (more.right is.0, world_later old.store new.store numbers more.follows is.1)

pub grows : (old new : Numbered) → KnowsMore old.known new.known → Grows (λ (worlds : Numbered) (row : List ℕ). CanRead worlds.known (numbers_in row)) (λ (later earlier : Numbered). Comes later.known earlier.known) old new
grows old new more = record {
  passes = λ later follows. follows_on later.known.store new.known.store old.known.store follows more.follows;
  keeps = λ row is. still_read old.known new.known (numbers_in row) more is;
}

pub all_still_read : (old new : Known) (rs : List Arrived) → KnowsMore old new → AreRead old rs → AreRead new rs
all_still_read old new [] more are = tt
all_still_read old new (r ∷ rs) more are = (still_read old new (numbers_in r.row) more are.0, all_still_read old new rs more are.1)

-- all that are enabled, in a world that a history leaves
pub are_there : (known : Known) (numbers : ℕ → ℕ) (places : List ℕ) → IsWorldOf known.store numbers → AreEnabled known numbers places → AllByRecursion (IsThere known numbers) places
are_there known numbers places world are =
    let reached = world.reached in
    each_there known numbers (enabled_steps (program_of reached.tree) reached.history) places (are known.store reached.tree reached.history (follows_itself known.store) reached.are)

-- the first delivery of a signal that arrives at once
pub first_there : (known : Known) (numbers : ℕ → ℕ) (at : ℕ) → IsWorldOf known.store numbers → IsFirstAtOnce known numbers (Some at) → IsThere known numbers at
first_there known numbers at world is =
    let reached = world.reached in
    let steps = enabled_steps (program_of reached.tree) reached.history in
    let one = one_prompt known numbers at (filter (is_at_once reached.history) steps) steps (is known.store reached.tree reached.history (follows_itself known.store) reached.are) in
    record { step = one.0; enabled = one.1 }

-- ---- arrivals that can be read

pub one_more_read : (before old new : Known) (numbers : ℕ → ℕ) (at : ℕ) (rs more : List Arrived) → KnowsMore old new → AreRead old rs → PutsArrival before new numbers at rs more → AreRead new more
one_more_read before old new numbers at rs more knows are put =
    subst (AreRead new) (sym put.put) (all_append (λ (x : Arrived). CanRead new (numbers_in x.row)) rs (put.one ∷ []) (all_still_read old new rs knows are) (put.read, tt))

pub read_alone : (before known : Known) (numbers : ℕ → ℕ) (at : ℕ) (rs : List Arrived) → PutsArrival before known numbers at [] rs → AreRead known rs
read_alone before known numbers at rs put = subst (AreRead known) (sym put.put) (put.read, tt)
