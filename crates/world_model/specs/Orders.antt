-- Words for pairs of steps whose order matters, for what steps read and write, and for what a history leaves, as computed from the definitions.
use Rattle.std.specs.Prelude.{◌&&◌, ◌≡◌, not, Bool, true, List, Option, Some, option_map, option_and_then}
use Rattle.term_core.specs.declared.step.Step.{Step}
use Rattle.core_tree.specs.Syntax.{ModuleTree}
use Rattle.world_model.specs.Asking.{program_of}
use Rattle.world_model.specs.Cells.{Cell}
use Rattle.world_model.specs.Events.{Event, History}
use Rattle.world_model.specs.Independence.{are_independent, footprint, one_meets}
use Rattle.world_model.specs.Requests.{Program}
use Rattle.world_model.specs.Run.{run, extended, next_event, is_enabled}

-- both steps are enabled, and are not independent
abbrev pub depend : Program → History → Step → Step → Bool
depend a h s t = is_enabled a h s && (is_enabled a h t && not (are_independent a h s t))

abbrev pub Depend : ModuleTree → List Step → Step → Step → Type 0
Depend m steps s t = option_map (λ h. depend (program_of m) h s t) (run (program_of m) steps) ≡ Some true

-- after this schedule two steps are independent
abbrev pub AreFree : ModuleTree → List Step → Step → Step → Type 0
AreFree m steps s t = option_map (λ h. are_independent (program_of m) h s t) (run (program_of m) steps) ≡ Some true

-- the event of a step after another
abbrev pub event_behind : Program → History → Step → Step → Option Event
event_behind a h s t = option_and_then (λ g. next_event a g t) (extended h (next_event a h s))

-- whether two steps depend on each other, and what the second does alone, and after the first
abbrev pub in_both_orders : Program → History → Step → Step → Bool × (Option Event × Option Event)
in_both_orders a h s t = (depend a h s t, (next_event a h t, event_behind a h s t))

-- they do, and the second does this alone, and that after the first
abbrev pub OrderMatters : ModuleTree → List Step → Step → Step → Event → Event → Type 0
OrderMatters m steps s t alone behind = option_map (λ h. in_both_orders (program_of m) h s t) (run (program_of m) steps) ≡ Some (true, (Some alone, Some behind))

-- after this schedule a step reads a cell
abbrev pub ReadsIt : ModuleTree → List Step → Step → Cell → Type 0
ReadsIt m steps step c = option_map (λ h. one_meets (footprint (program_of m) h step).reads c) (run (program_of m) steps) ≡ Some true

-- after this schedule a reader says this
abbrev pub Tells : {A : Type 0} → (History → A) → ModuleTree → List Step → A → Type 0
Tells read m steps x = option_map read (run (program_of m) steps) ≡ Some x
