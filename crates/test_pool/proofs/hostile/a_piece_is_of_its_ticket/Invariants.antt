use Rattle.world_model.specs.Asking.{program_of}
use Rattle.test_pool.proofs.hostile.a_piece_is_of_its_ticket.Given as goal

abbrev pub ghosts-gives_another-N-PoolName : goal.ghosts-gives_another-N-PoolName
ghosts-gives_another-N-PoolName g a = record { seats = 1; program = program_of a.program.now }

abbrev pub ghosts-gives_another-N-Ledger : goal.ghosts-gives_another-N-Ledger
ghosts-gives_another-N-Ledger g a = record { name = a.blank.name; parts = a.blank.parts }
