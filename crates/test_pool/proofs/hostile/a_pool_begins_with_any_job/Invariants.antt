use Rattle.search_jobs.specs.Explorations.{program_in}
use Rattle.world_model.specs.Asking.{program_of}
use Rattle.test_pool.proofs.hostile.a_pool_begins_with_any_job.Given as goal

abbrev pub ghosts-two_jobs-N-PoolName : goal.ghosts-two_jobs-N-PoolName
ghosts-two_jobs-N-PoolName g a = record { seats = 1; program = program_of a.program.now }

abbrev pub ghosts-two_jobs-N-Ledger : goal.ghosts-two_jobs-N-Ledger
ghosts-two_jobs-N-Ledger g a = record { name = a.blank.name; parts = a.blank.parts }

abbrev pub ghosts-ends_as-N-PoolName : goal.ghosts-ends_as-N-PoolName
ghosts-ends_as-N-PoolName g a = record { seats = 1; program = program_in a.job.now.exploration }

abbrev pub ghosts-ends_as-N-Ledger : goal.ghosts-ends_as-N-Ledger
ghosts-ends_as-N-Ledger g a = record { name = a.blank.name; parts = a.blank.parts }
