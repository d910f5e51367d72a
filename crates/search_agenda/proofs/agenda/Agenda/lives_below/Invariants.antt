use Rattle.std.proofs.Common.{take}
use Rattle.search_agenda.proofs.Looking.{AllMet}
use Rattle.search_agenda.proofs.agenda.Agenda.lives_below.Given as goal

-- the enabled ones of the plans so far are of steps that are met
abbrev pub invariant-loop-other : goal.invariant-loop-other
invariant-loop-other l = AllMet l.taken (take l.other-index l.plans)
