use Rattle.world_model.specs.Asking.{program_of}
use Rattle.test_pool.proofs.hostile.those_who_wait_are_woken.Given as goal

abbrev pub ghosts-wakes-N-PoolName : goal.ghosts-wakes-N-PoolName
ghosts-wakes-N-PoolName g a = record { seats = 1; program = program_of a.program.now }

abbrev pub ghosts-wakes-N-Ledger : goal.ghosts-wakes-N-Ledger
ghosts-wakes-N-Ledger g a = record { name = a.blank.name; parts = a.blank.parts }
