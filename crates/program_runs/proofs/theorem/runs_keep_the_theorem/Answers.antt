use Rattle.program_runs.proofs.TheoremLaws.{all_means_all, all_prompt, clean_means_none, clean_means_no_prompt_one, prompt_report_is_exact, report_is_exact, sample_is_shown, schedule_is_least, transcript_is_the_run}
use Rattle.program_runs.proofs.theorem.runs_keep_the_theorem.Goals as goal

pub returns-clause-clean : goal.returns-clause-clean
returns-clause-clean c = clean_means_none

pub returns-clause-all : goal.returns-clause-all
returns-clause-all c = all_means_all record {
  sorted = c.findings_are_exact.ensures.order;
  runs = c.nodes_are_listed.ensures.runs;
  errors = c.findings_are_of_nodes.ensures.errors;
  refusals = c.findings_are_of_nodes.ensures.refusals;
  root = c.jobs_have_their_nodes.ensures.root;
}

pub returns-clause-exact : goal.returns-clause-exact
returns-clause-exact c = report_is_exact record {
  sorted = c.findings_are_exact.ensures.order;
  runs = c.nodes_are_listed.ensures.runs;
  errors = c.findings_are_of_nodes.ensures.errors;
  refusals = c.findings_are_of_nodes.ensures.refusals;
  root = c.jobs_have_their_nodes.ensures.root;
}

pub returns-clause-least : goal.returns-clause-least
returns-clause-least c = schedule_is_least record {
  sorted = c.findings_are_exact.ensures.order;
  runs = c.nodes_are_listed.ensures.runs;
  errors = c.findings_are_of_nodes.ensures.errors;
  refusals = c.findings_are_of_nodes.ensures.refusals;
  root = c.jobs_have_their_nodes.ensures.root;
}

pub returns-clause-prompt_clean : goal.returns-clause-prompt_clean
returns-clause-prompt_clean c = clean_means_no_prompt_one

pub returns-clause-prompt_all : goal.returns-clause-prompt_all
returns-clause-prompt_all c = all_prompt record {
  sorted = c.findings_are_exact.ensures.order;
  runs = c.nodes_are_listed.ensures.runs;
  errors = c.findings_are_of_nodes.ensures.errors;
  refusals = c.findings_are_of_nodes.ensures.refusals;
  root = c.jobs_have_their_nodes.ensures.root;
}

pub returns-clause-prompt_exact : goal.returns-clause-prompt_exact
returns-clause-prompt_exact c = prompt_report_is_exact record {
  sorted = c.findings_are_exact.ensures.order;
  runs = c.nodes_are_listed.ensures.runs;
  errors = c.findings_are_of_nodes.ensures.errors;
  refusals = c.findings_are_of_nodes.ensures.refusals;
  root = c.jobs_have_their_nodes.ensures.root;
}

pub returns-clause-sample : goal.returns-clause-sample
returns-clause-sample c = sample_is_shown c.samples_are_shown.ensures

pub returns-clause-transcript : goal.returns-clause-transcript
returns-clause-transcript c = transcript_is_the_run c.replays_are_runs.ensures.whole

pub returns-clause-tables : goal.returns-clause-tables
returns-clause-tables c = λ input m h e p kind arguments spelt runs calls. c.table_calls_are_judged.ensures m h e p kind arguments (c.said_calls_are_read.ensures input m spelt) runs calls
