use Rattle.search_job_lines.proofs.Names.{one_job}
use Rattle.search_job_lines.proofs.laws.lines_say_one_job.Goals as goal

pub returns : goal.returns
returns c = one_job
