use Rattle.std.proofs.Common.{Some}
use Rattle.search_states.proofs.numbered.NumberedWorlds.known_arrivals.Given as goal

-- what is known stays as it is while it is read
abbrev pub ghosts-read_arrivals : goal.ghosts-read_arrivals
ghosts-read_arrivals a = record { lasts = Some a.known.now }
