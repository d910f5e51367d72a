use Rattle.search_levels.proofs.following.follow_one.Goals as goal

pub returns : goal.returns
returns g c = (c.known_arrivals.new.into, (c.in_ok-known_arrivals.ensures.arrivals c.if-not-branch.false, c.in_ok-known_arrivals.ensures.of_known c.if-not-branch.false), c.in_ok-keep_all.ensures, c.len.ensures)
