use Rattle.std.proofs.Common.{◌∷◌, sym, subst}
use Rattle.world_planned.proofs.Calling.{if_ok}
use Rattle.world_footprints.specs.Footprints.{written_in}
use Rattle.world_model.specs.Asking.{program_of}
use Rattle.search_agenda.specs.Plans.{ArePlans}
use Rattle.search_agenda.proofs.Settling.{taken_over, writes_are}
use Rattle.search_agenda.proofs.agenda.Agenda.below.Goals as goal

pub returns : goal.returns
returns c = if_ok c.agenda_below.result _ _ (λ agenda made m h e is of now world.
    let a = program_of m in
    let taken = c.args.taken.now in
    made m (e ∷ h) world
    (taken_over a h e (written_in taken) c.as_slice.result.now (writes_are a h e taken of now) (subst (ArePlans a h) (sym c.as_slice.ensures.value) is.plans))) c.agenda_below.ensures
