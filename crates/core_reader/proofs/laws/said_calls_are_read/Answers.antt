use Rattle.core_reader.proofs.laws.said_calls_are_read.Goals as goal

pub returns : goal.returns
returns c = λ text m s. c.spelt_calls_are_read.ensures s.pieces m s.spelt
