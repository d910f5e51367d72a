use Rattle.search_jobs.specs.Explorations.{program_in}
use Rattle.search_crew.proofs.crew.search.Given as goal

abbrev pub ghosts-searched-N-PoolName : goal.ghosts-searched-N-PoolName
ghosts-searched-N-PoolName g a = record { seats = a.options.now.workers; program = program_in a.job.now.exploration }

abbrev pub ghosts-searched-N-Ledger : goal.ghosts-searched-N-Ledger
ghosts-searched-N-Ledger g a = record { name = a.blank.name; parts = a.blank.parts }
