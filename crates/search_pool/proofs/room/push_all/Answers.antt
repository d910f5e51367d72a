use Rattle.std.proofs.Common.{◌∙◌, ◌∷◌, ◌++◌, [], ap, sym, reverse, append_assoc, arith}
use Rattle.search_jobs.proofs.Lists.{reverse_last}
use Rattle.search_pool.proofs.room.push_all.Goals as goal

pub loop-job-preserved : goal.loop-job-preserved
loop-job-preserved c = record {
  jobs = ap (λ js. js ++ reverse c.pop.new.self.items) c.put.ensures.items
      ∙ append_assoc c.loop-job.todo.items (c.in-Some.job ∷ []) (reverse c.pop.new.self.items)
      ∙ ap (λ js. c.loop-job.todo.items ++ js) (sym (ap reverse c.in-Some.ensures.items ∙ reverse_last c.pop.new.self.items c.in-Some.job))
      ∙ c.loop-job.invariant.jobs;
  room = omega (arith, c.put.ensures.len, c.put.ensures.capacity, c.loop-job.invariant.room, c.in-Some.ensures.cases);
}
