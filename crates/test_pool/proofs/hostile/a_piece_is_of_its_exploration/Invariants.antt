use Rattle.world_model.specs.Asking.{program_of}
use Rattle.test_pool.proofs.hostile.a_piece_is_of_its_exploration.Given as goal

abbrev pub ghosts-gives_elsewhere-N-PoolName : goal.ghosts-gives_elsewhere-N-PoolName
ghosts-gives_elsewhere-N-PoolName g a = record { seats = 1; program = program_of a.program.now }

abbrev pub ghosts-gives_elsewhere-N-Ledger : goal.ghosts-gives_elsewhere-N-Ledger
ghosts-gives_elsewhere-N-Ledger g a = record { name = a.blank.name; parts = a.blank.parts }

abbrev pub ghosts-gives_elsewhere-M-PoolName : goal.ghosts-gives_elsewhere-M-PoolName
ghosts-gives_elsewhere-M-PoolName g a = record { seats = 1; program = program_of a.program.now }

abbrev pub ghosts-gives_elsewhere-M-Ledger : goal.ghosts-gives_elsewhere-M-Ledger
ghosts-gives_elsewhere-M-Ledger g a = record { name = a.other.name; parts = a.other.parts }
