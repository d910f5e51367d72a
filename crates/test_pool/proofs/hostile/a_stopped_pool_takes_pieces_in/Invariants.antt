use Rattle.world_model.specs.Asking.{program_of}
use Rattle.test_pool.proofs.hostile.a_stopped_pool_takes_pieces_in.Given as goal

abbrev pub ghosts-stops-N-PoolName : goal.ghosts-stops-N-PoolName
ghosts-stops-N-PoolName g a = record { seats = 1; program = program_of a.program.now }

abbrev pub ghosts-stops-N-Ledger : goal.ghosts-stops-N-Ledger
ghosts-stops-N-Ledger g a = record { name = a.blank.name; parts = a.blank.parts }
