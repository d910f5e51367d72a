use Rattle.world_model.specs.Asking.{program_of}
use Rattle.test_pool.proofs.hostile.a_ticket_is_given_once.Given as goal

abbrev pub ghosts-gives_twice-N-PoolName : goal.ghosts-gives_twice-N-PoolName
ghosts-gives_twice-N-PoolName g a = record { seats = 1; program = program_of a.program.now }

abbrev pub ghosts-gives_twice-N-Ledger : goal.ghosts-gives_twice-N-Ledger
ghosts-gives_twice-N-Ledger g a = record { name = a.blank.name; parts = a.blank.parts }
