use Rattle.search_jobs.proofs.piece.Piece.into_parts.Goals as goal

pub returns-clause-piece : goal.returns-clause-piece
returns-clause-piece c = rw (← c.self.view_is) c.self.invariant
