use Rattle.world_model.specs.Asking.{program_of}
use Rattle.test_pool.proofs.hostile.a_pool_is_finished_as_itself.Given as goal

abbrev pub ghosts-finishes_elsewhere-N-PoolName : goal.ghosts-finishes_elsewhere-N-PoolName
ghosts-finishes_elsewhere-N-PoolName g a = record { seats = 1; program = program_of a.program.now }

abbrev pub ghosts-finishes_elsewhere-N-Ledger : goal.ghosts-finishes_elsewhere-N-Ledger
ghosts-finishes_elsewhere-N-Ledger g a = record { name = a.blank.name; parts = a.blank.parts }

abbrev pub ghosts-finishes_early-N-PoolName : goal.ghosts-finishes_early-N-PoolName
ghosts-finishes_early-N-PoolName g a = record { seats = 1; program = program_of a.program.now }

abbrev pub ghosts-finishes_early-N-Ledger : goal.ghosts-finishes_early-N-Ledger
ghosts-finishes_early-N-Ledger g a = record { name = a.blank.name; parts = a.blank.parts }
