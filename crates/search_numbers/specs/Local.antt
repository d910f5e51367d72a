-- What a step does is a matter of the places of a world that it reads and writes.
use Rattle.std.specs.Prelude.{◌≡◌, ◌∷◌, if◌then◌else◌, Bool, true, Some, option_map}
use Rattle.core_tree.specs.Syntax.{ModuleTree}
use Rattle.world_model.specs.Asking.{program_of}
use Rattle.world_model.specs.Cells as cells
use Rattle.world_model.specs.Cells.{Cell, Contents}
use Rattle.world_model.specs.Events.{Event, History}
use Rattle.world_model.specs.Names.{IsAmong, same_pid}
use Rattle.world_model.specs.Run.{IsRun, next_event}
use Rattle.world_model.specs.Shown.{shown_last}
use Rattle.world_model.specs.World.{contents}
use Rattle.world_records.specs.Cells.{cells_in}
use Rattle.world_records.specs.Places.{AgreesAt, place_of, same_place}
use Rattle.world_records.specs.Records.{Agrees, OfWorld}
use Rattle.world_records.specs.declared.place.Place.{Place}
use Rattle.world_records.specs.declared.place.Place.TheVariants.{Course}
use Rattle.world_records.specs.declared.records.Records.{Records}
use Rattle.world_planned.specs.Replies.{NamesMeanTables}
use Rattle.world_footprints.specs.Deeds.{deed_in}
use Rattle.world_footprints.specs.Footprints as footprints
use Rattle.world_footprints.specs.Footprints.{written_in}
use Rattle.world_footprints.specs.Plans as plans
use Rattle.world_footprints.specs.Plans.{IsNewFor}
use Rattle.world_footprints.specs.declared.plan.Plan.{Plan}

-- what is kept of each place agrees with the contents there
abbrev pub HasAll : ModuleTree → (Place → Records) → Contents → Type 0
HasAll m at v = (q : Place) → AgreesAt m q (at q) v

-- whether what is kept of a place depends on a cell: on those that lie there, and for a course on whether its process lives
abbrev pub sees : Place → Cell → Bool
sees (Course p) (cells.Alive q) = same_pid p q
sees place c = same_place place (place_of c)

-- these places have all that a planned step reads, and all that what it writes is seen from
pub record CoversPlan (covers : Place → Bool) (p : Plan) : Type 0 where
  pub reads : (c : Cell) → IsAmong c (cells_in p.planned.reads.items) → covers (place_of c) ≡ true
  pub writes : (c : Cell) → IsAmong c (written_in p) → (q : Place) → sees q c ≡ true → covers q ≡ true

-- a step that was planned and done after one history does the same after another one: it has the same deed, what is kept of the places that are covered is what it left there, what is kept of all others stays, and it shows the same
pub record IsTakenOver (m : ModuleTree) (at : Place → Records) (covers : Place → Bool) (first h : History) (left : Records) (p : Plan) : Type 0 where
  pub plan : footprints.IsPlan (program_of m) (contents h) p
  pub agrees : (e : Event) → next_event (program_of m) h p.step ≡ Some e → (q : Place) → AgreesAt m q (if covers q then left else at q) (contents (e ∷ h))
  pub happens : (e : Event) → next_event (program_of m) h p.step ≡ Some e → (f : Event) × (next_event (program_of m) first p.step ≡ Some f) × (shown_last (e ∷ h) ≡ shown_last (f ∷ first))

-- a step that was planned and done after one run is taken over for another one, where the same is kept of the places that are covered; its plan and the records that it left must be right for all contents that agree with the records before it
abbrev pub StepsAreTakenOver : Type 0
StepsAreTakenOver = (m : ModuleTree) (at_first at : Place → Records) (covers : Place → Bool) (first h : History) (before left : Records) (p : Plan)
    → IsRun (program_of m) first → IsRun (program_of m) h
    → HasAll m at_first (contents first) → HasAll m at (contents h) → ((q : Place) → covers q ≡ true → at q ≡ at_first q)
    → ((v : Contents) → HasAll m at_first v → Agrees m before v)
    → OfWorld before (λ n v. NamesMeanTables v → footprints.IsPlan (program_of n) v p)
    → OfWorld before (λ n v. footprints.IsPlan (program_of n) v p → IsNewFor v p.step → Agrees n left (plans.left v p.step (option_map deed_in p.deed)))
    → CoversPlan covers p
    → IsTakenOver m at covers first h left p
