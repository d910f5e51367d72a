-- What the calls of a pool say of the job or the piece alone, whatever the state under the lock is.
use Rattle.std.proofs.Common.{◌≡◌, ◌∙◌, refl, arith}
use Rattle.std.specs.Prelude.{Result, Ok, Err, IfOk, IfErr}
use Rattle.search_jobs.specs.Explorations.{TicketSeen, program_in}
use Rattle.search_jobs.specs.Pieces.{PieceSeen}
use Rattle.search_pool.specs.Calls.{HandsBack, IsOfItsTicket, IsOfProgram, RefusesTo, TakesTo}
use Rattle.search_pool.specs.Seen.{Seen}
use Rattle.search_pool.specs.declared.answer.GiveFault.{GiveFault}
use Rattle.search_pool.specs.declared.answer.GiveFault.TheVariants.{StrangeTicket, StrangePiece}
use Rattle.search_pool.specs.declared.answer.GiveFault.TheVariants as refused
use Rattle.search_pool.specs.declared.answer.Taken.{Taken}
use Rattle.search_pool.specs.declared.answer.Taken.TheVariants.{Work, Idle, Finished, Stopped}
use Rattle.search_pool.proofs.Jobs.{same_program}
use Rattle.world_model.specs.Requests.{Program}

is_of_its_ticket : (s t : Seen) (taken : Taken) → TakesTo s taken t → IsOfItsTicket taken
is_of_its_ticket s t (Work ticket job) takes = (omega (arith, takes.takes.is_next), record { is_of = record { program = refl; depth = refl; flags = refl }; name = takes.is_job.name; number = takes.is_job.number })
is_of_its_ticket s t Idle takes = tt
is_of_its_ticket s t Finished takes = tt
is_of_its_ticket s t Stopped takes = tt

pub of_its_ticket : {E : Type 0} (s t : Seen) (r : Result Taken E) → IfOk r (λ taken. TakesTo s taken t) → IfOk r IsOfItsTicket
of_its_ticket s t (Ok taken) takes = is_of_its_ticket s t taken takes
of_its_ticket s t (Err fault) takes = tt

pub is_of_program : (a : Program) (s t : Seen) (taken : Taken) → program_in s.exploration ≡ a → TakesTo s taken t → IsOfProgram a taken
is_of_program a s t (Work ticket job) own takes = same_program job.exploration s.exploration takes.is_job.is_of ∙ own
is_of_program a s t Idle own takes = tt
is_of_program a s t Finished own takes = tt
is_of_program a s t Stopped own takes = tt

pub of_program : {E : Type 0} (a : Program) (s t : Seen) (r : Result Taken E) → program_in s.exploration ≡ a → IfOk r (λ taken. TakesTo s taken t) → IfOk r (IsOfProgram a)
of_program a s t (Ok taken) own takes = is_of_program a s t taken own takes
of_program a s t (Err fault) own takes = tt

comes_back : (s t : Seen) (ticket : TicketSeen) (piece : PieceSeen) (fault : GiveFault) → RefusesTo s ticket piece fault t → HandsBack piece fault
comes_back s t ticket piece (StrangeTicket back) refuses = refuses.1
comes_back s t ticket piece (StrangePiece back) refuses = refuses.1
comes_back s t ticket piece refused.Memory refuses = tt

pub hands_back : {T : Type 0} (s t : Seen) (ticket : TicketSeen) (piece : PieceSeen) (r : Result T GiveFault) → IfErr r (λ fault. RefusesTo s ticket piece fault t) → IfErr r (HandsBack piece)
hands_back s t ticket piece (Ok done) refuses = tt
hands_back s t ticket piece (Err fault) refuses = comes_back s t ticket piece fault refuses
