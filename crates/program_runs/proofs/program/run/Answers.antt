use Rattle.std.proofs.Common.{refl}
use Rattle.program_runs.proofs.RunLaws.{gets}
use Rattle.program_runs.proofs.program.run.Goals as goal

pub returns-in-Ok-clause-run : goal.returns-in-Ok-clause-run
returns-in-Ok-clause-run g c ran = record {
  asked = c.in-Ok.asked;
  replay = c.in-Ok.ensures.replay;
  explore = c.in-Ok.ensures.explore;
  explore_job = c.in-Ok.ensures.explore_job;
  jobs = c.in-Ok.ensures.jobs;
  merge = c.in-Ok.ensures.merge;
  check = c.in-Ok.ensures.check;
  sample = c.in-Ok.ensures.sample;
  named = c.in-Ok.ensures.named;
  in_range = c.in-Ok.ensures.range;
  outcome = c.run_asked-outcome.result;
  run = c.run_asked-outcome.ensures.run;
  read_failed = c.run_asked-outcome.ensures.read_failed;
  sound = c.run_asked-outcome.ensures.sound;
  silent = c.run_asked-outcome.ensures.silent;
  flushed = c.run_asked-outcome.ensures.flushed;
  reported = c.report.ensures.line;
  status_is = c.report.ensures.status;
}

pub returns-in-Err-clause-refused : goal.returns-in-Err-clause-refused
returns-in-Err-clause-refused g c refused = record {
  silent = record { same = refl; sound = c.requires.writable };
  text = c.write_words_error.ensures.0;
  told = gets _ _ _ _ _ c.write_words_error.ensures.2;
  no_replay = λ schedule asks. c.write_words_error.ensures.1 (c.in-Err.ensures.replay schedule asks);
  no_exploration = λ options x what asks. c.write_words_error.ensures.1 (c.in-Err.ensures.explore options x what asks);
  no_job = λ options x line asks. c.write_words_error.ensures.1 (c.in-Err.ensures.explore_job options x line asks);
  no_jobs = λ depth asks. c.write_words_error.ensures.1 (c.in-Err.ensures.jobs depth asks);
  no_merge = λ depth at flags x asks. c.write_words_error.ensures.1 (c.in-Err.ensures.merge depth at flags x asks);
  no_check = λ depth flags x asks. c.write_words_error.ensures.1 (c.in-Err.ensures.check depth flags x asks);
  no_sample = λ samples x what asks. c.write_words_error.ensures.1 (c.in-Err.ensures.sample samples x what asks);
}
