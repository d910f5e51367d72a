-- What schedules show that are followed step by step, and one after the other.
use Rattle.std.proofs.Common.{◌≡◌, ◌∙◌, inl, inr, ◌≤◌, ℕ, true≢false, List, [], ◌∷◌, ◌++◌, Option, Some, None, is_some, length, length-append, refl, sym, ap, subst, append_assoc, arith}
use Rattle.core_tree.specs.Syntax.{ModuleTree}
use Rattle.search_samples.specs.Samples.{AreOfSamples, IsWhole}
use Rattle.search_samples.specs.inside.Walks.{AddsOne, IsFollowed, IsOver}
use Rattle.search_samples.proofs.Beginnings.{none_begin, nothing_begins, one_more_begins, those_begin}
use Rattle.term_core.proofs.Pieces.{all-append}
use Rattle.term_core.specs.declared.step.Step.{Step}
use Rattle.tree_coverage.specs.Findings.{Findings, findings_among}
use Rattle.tree_findings.specs.Laws.{AddsSchedule}
use Rattle.tree_findings.specs.Merging.{nothing}
use Rattle.tree_schedules.proofs.Delivering.{delivers_more, delivers_none, some_step_by, steps_enabled}
use Rattle.tree_schedules.specs.Deliveries.{steps_by}
use Rattle.tree_schedules.specs.declared.delivery.Delivery.{Delivery}
use Rattle.world_core.proofs.Runs.{run_append}
use Rattle.world_core.specs.Seen.{Seen, new_world, program_in}
use Rattle.world_core.specs.declared.fault.WorldFault.{WorldFault}
use Rattle.world_core.specs.declared.fault.WorldFault.TheVariants.{Memory, NotEnabled}
use Rattle.world_model.proofs.Opened.{listed_enabled}
use Rattle.world_model.specs.Asking.{program_of}
use Rattle.world_model.specs.Events.{History}
use Rattle.world_model.specs.Names.{IsAmong}
use Rattle.world_model.specs.Requests.{Program}
use Rattle.world_model.specs.Run.{enabled_steps, extended, next_event, run, run_from}
use Rattle.world_model.specs.Shown.{Flags, shown}

-- ---- enabled steps

-- a step that is enabled has an event
has_event : (a : Program) (h : History) (x : Step) → IsAmong x (enabled_steps a h) → next_event a h x ≡ None → ⊥
has_event a h x there none = true≢false (sym (listed_enabled a h x there) ∙ ap is_some none)

-- so lack of memory alone keeps it from being taken
pub only_memory : (a : Program) (h : History) (x : Step) (fault : WorldFault) → IsAmong x (enabled_steps a h) → (fault ≡ NotEnabled → next_event a h x ≡ None) → fault ≡ Memory
only_memory a h x NotEnabled there none = absurd (has_event a h x there (none refl))
only_memory a h x Memory there none = refl

-- ---- step by step

pub starts : (flags : Flags) (d : Delivery) (m : ModuleTree) (world : Seen) (old new : Findings) → world ≡ new_world m → AddsSchedule flags [] (shown (program_in world) world.history) old new → IsFollowed flags d (program_of m) [] world.history old new
starts flags d m world old new is = subst (λ (w : Seen). AddsSchedule flags [] (shown (program_in w) w.history) old new → IsFollowed flags d (program_of m) [] w.history old new) (sym is) first
  where
    first : AddsSchedule flags [] (shown (program_of m) []) old new → IsFollowed flags d (program_of m) [] [] old new
    first adds = record {
      delivers = delivers_none d (program_of m);
      runs = refl;
      visited = [] ∷ [];
      beginnings = nothing_begins;
      found = λ before is. adds (program_of m) before [] refl refl is;
    }

pub goes_on : (flags : Flags) (d : Delivery) (a : Program) (s : List Step) (x : Step) (h g : History) (old mid new : Findings) → IsFollowed flags d a s h old mid → IsAmong x (steps_by d a h) → extended h (next_event a h x) ≡ Some g → AddsSchedule flags (s ++ x ∷ []) (shown a g) mid new → IsFollowed flags d a (s ++ x ∷ []) g old new
goes_on flags d a s x h g old mid new walk may next adds = record {
  delivers = delivers_more d a s x h walk.delivers walk.runs may;
  runs = on;
  visited = walk.visited ++ (s ++ x ∷ []) ∷ [];
  beginnings = one_more_begins s x walk.visited walk.beginnings;
  found = λ before is. adds a (before ++ walk.visited) g on refl (walk.found before is) ∙ ap (findings_among flags a) (append_assoc before walk.visited ((s ++ x ∷ []) ∷ []));
}
  where
    on : run a (s ++ x ∷ []) ≡ Some g
    on = run_append a (Some []) s (x ∷ []) ∙ ap (λ (o : Option History). run_from a o (x ∷ [])) walk.runs ∙ ap (λ (o : Option History). run_from a o []) next

-- so it is in a world that took the step
pub world_goes_on : (flags : Flags) (d : Delivery) (m : ModuleTree) (s more : List Step) (x : Step) (world after : Seen) (old mid new : Findings) → IsFollowed flags d (program_of m) s world.history old mid → world.program ≡ m → IsAmong x (steps_by d (program_of m) world.history)
    → extended world.history (next_event (program_in world) world.history x) ≡ Some after.history → after.program ≡ world.program → more ≡ s ++ x ∷ [] → AddsSchedule flags more (shown (program_in after) after.history) mid new → IsFollowed flags d (program_of m) more after.history old new
world_goes_on flags d m s more x world after old mid new walk of may next still is adds =
    let a : Program = program_of m in
    let event : extended world.history (next_event a world.history x) ≡ Some after.history = subst (λ (p : ModuleTree). extended world.history (next_event (program_of p) world.history x) ≡ Some after.history) of next in
    let shows : AddsSchedule flags more (shown a after.history) mid new = subst (λ (p : ModuleTree). AddsSchedule flags more (shown (program_of p) after.history) mid new) (still ∙ of) adds in
    subst (λ (t : List Step). IsFollowed flags d a t after.history old new) (sym is) (goes_on flags d a s x world.history after.history old mid new walk may event (subst (λ (t : List Step). AddsSchedule flags t (shown a after.history) mid new) is shows))

-- a step that may be taken is enabled in the world
pub enabled_there : (d : Delivery) (m : ModuleTree) (world : Seen) (x : Step) → world.program ≡ m → IsAmong x (steps_by d (program_of m) world.history) → IsAmong x (enabled_steps (program_in world) world.history)
enabled_there d m world x of may = subst (λ (p : ModuleTree). IsAmong x (enabled_steps (program_of p) world.history)) (sym of) (steps_enabled d (program_of m) world.history x may)

-- ---- one after the other

pub no_samples : (flags : Flags) (d : Delivery) (a : Program) (n : ℕ) (found : Findings) → found ≡ nothing → AreOfSamples flags d a n 0 found
no_samples flags d a n found is = record { wholes = []; as_many = refl; are_whole = tt; visited = []; beginnings = none_begin; found = is }

pub ends : (flags : Flags) (d : Delivery) (a : Program) (n : ℕ) (s : List Step) (h : History) (old new : Findings) → IsFollowed flags d a s h old new → IsOver d a n s h → AddsOne flags d a n old new
ends flags d a n s h old new walk over = λ runs so_far. record {
  wholes = so_far.wholes ++ s ∷ [];
  as_many = omega (arith, length-append so_far.wholes (s ∷ []), so_far.as_many);
  are_whole = all-append (IsWhole d a n) so_far.wholes (s ∷ []) so_far.are_whole (record { delivers = walk.delivers; history = h; runs = walk.runs; whole = over }, tt);
  visited = so_far.visited ++ walk.visited;
  beginnings = those_begin so_far.wholes so_far.visited s walk.visited so_far.beginnings walk.beginnings;
  found = walk.found so_far.visited so_far.found;
}

-- ---- where one is over

pub at_the_depth : (d : Delivery) (a : Program) (n : ℕ) (s : List Step) (h : History) → length s ≤ n → n ≤ length s → IsOver d a n s h
at_the_depth d a n s h short long = inl (omega (arith, short, long))

pub at_an_end : (d : Delivery) (a : Program) (n : ℕ) (s : List Step) (h : History) (enabled : List Step) → length s ≤ n → enabled ≡ enabled_steps a h → enabled ≡ [] → IsOver d a n s h
at_an_end d a n s h enabled short are none = inr (short, (some_step_by d a h).1 (sym are ∙ none))
