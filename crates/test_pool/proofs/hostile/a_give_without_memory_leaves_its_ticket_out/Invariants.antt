use Rattle.world_model.specs.Asking.{program_of}
use Rattle.test_pool.proofs.hostile.a_give_without_memory_leaves_its_ticket_out.Given as goal

abbrev pub ghosts-gives-N-PoolName : goal.ghosts-gives-N-PoolName
ghosts-gives-N-PoolName g a = record { seats = 1; program = program_of a.program.now }

abbrev pub ghosts-gives-N-Ledger : goal.ghosts-gives-N-Ledger
ghosts-gives-N-Ledger g a = record { name = a.blank.name; parts = a.blank.parts }
