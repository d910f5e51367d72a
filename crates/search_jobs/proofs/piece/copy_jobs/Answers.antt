use Rattle.std.proofs.Common.{◌∙◌, arith}
use Rattle.search_jobs.proofs.Lists.{copied_more}
use Rattle.search_jobs.proofs.piece.copy_jobs.Goals as goal

pub loop-job-preserved : goal.loop-job-preserved
loop-job-preserved c =
    c.in_ok-push.ensures.items ∙ copied_more c.args.jobs.now c.loop-job.copied.items c.loop-job.job-index c.job-item.result c.in_ok-copy.field-0 (omega (arith, c.loop-job-test.true)) c.job-item.is c.loop-job.invariant c.in_ok-copy.ensures
