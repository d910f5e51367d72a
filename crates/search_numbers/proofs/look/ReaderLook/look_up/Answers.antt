use Rattle.search_numbers.specs.Rows.{numbers_in}
use Rattle.search_numbers.proofs.Listed.{found_is, knows_itself}
use Rattle.search_numbers.proofs.look.ReaderLook.look_up.Goals as goal

pub returns-in-Some-clause-answers : goal.returns-in-Some-clause-answers
returns-in-Some-clause-answers g c s begins = found_is c.args.self.now.known.now (numbers_in c.args.row.now) c.args.column s c.in-Some.at c.requires.right c.in-Some.ensures begins

pub returns-in-Some-clause-knows : goal.returns-in-Some-clause-knows
returns-in-Some-clause-knows g c = knows_itself c.args.self.now.known.now

pub returns-in-None-clause-knows : goal.returns-in-None-clause-knows
returns-in-None-clause-knows g c = knows_itself c.args.self.now.known.now
