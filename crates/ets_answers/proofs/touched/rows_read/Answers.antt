use Rattle.ets_answers.proofs.touched.rows_read.Goals as goal

pub returns-in-InsertNew : goal.returns-in-InsertNew
returns-in-InsertNew c = rw c.in-InsertNew.is c.rows_asked.ensures
