use Rattle.search_jobs.proofs.job.Job.names_a_node.Goals as goal

pub returns : goal.returns
returns c = rw (← c.self.view_is) c.self.invariant
