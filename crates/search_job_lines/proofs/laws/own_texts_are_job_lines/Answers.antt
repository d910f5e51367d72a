use Rattle.search_job_lines.proofs.Names.{own_texts}
use Rattle.search_job_lines.proofs.laws.own_texts_are_job_lines.Goals as goal

pub returns : goal.returns
returns c = own_texts c.jobs_can_be_taken.ensures
