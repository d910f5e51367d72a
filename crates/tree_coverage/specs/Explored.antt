-- The explored world as a system of the theory of sleep sets.
use Rattle.std.specs.Ordering.{eq_by_cmp}
use Rattle.std.specs.Prelude.{ℕ, Bool, ◌∷◌, option_map}
use Rattle.term_core.specs.StepOrder.{order_of_steps}
use Rattle.term_core.specs.declared.step.Step.{Step}
use Rattle.world_model.specs.Commuting.{LeaveTheSame}
use Rattle.world_model.specs.Events.{Event, History}
use Rattle.world_model.specs.Independence.{are_independent}
use Rattle.world_model.specs.Names.{IsAmong}
use Rattle.world_model.specs.Requests.{Program}
use Rattle.world_model.specs.Run.{next_event, enabled_steps}
use Rattle.world_model.specs.Shown.{Identity, shown_at_rest, shown_by, request_in}
use Rattle.tree_sleep_sets.specs.Search.{Choice}
use Rattle.tree_sleep_sets.specs.Shown.{Signs}
use Rattle.tree_sleep_sets.specs.System.{System}

-- an event, with the number of the request that it serves
pub record Happening : Type 0 where
  pub event : Event
  pub request : ℕ

abbrev pub happening : History → Event → Happening
happening h e = record { event = e; request = request_in e.step (e ∷ h) }

-- what happens, and the history with it
abbrev pub recorded : History → Event → Happening × History
recorded h e = (happening h e, e ∷ h)

-- the system of a program: its worlds are histories
abbrev pub explored : Program → System
explored a = record {
  World = History;
  Step = Step;
  Event = Happening;
  next = λ h s. option_map (recorded h) (next_event a h s);
  independent = are_independent a;
  Same = LeaveTheSame;
  IsReal = λ h. Unit {0};
}

-- whether two steps are the same
abbrev pub same_step : Step → Step → Bool
same_step = eq_by_cmp order_of_steps

abbrev pub choice : (a : Program) → Choice (explored a)
choice a = record { enabled = enabled_steps a; is_same = same_step }

-- an event shows what it shows as the last one, and a history what is shown where no step is enabled
abbrev pub signs : (a : Program) → Signs (explored a)
signs a = record {
  Identity = Identity;
  event_shows = λ e i. IsAmong i (shown_by e.event.step e.request e.event.deed);
  state_shows = λ h i. IsAmong i (shown_at_rest (enabled_steps a h) h);
}
