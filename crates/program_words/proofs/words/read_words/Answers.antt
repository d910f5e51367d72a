use Rattle.std.proofs.Common.{◌∙◌, ap, map}
use Rattle.std.specs.Prelude.{Err}
use Rattle.std.proofs.lemmas.Result.{err_from_is_err_and}
use Rattle.clap.specs.Words.{app_of, subcommand_rows_of}
use Rattle.program_words.specs.inside.CommandLine.{listing, merging}
use Rattle.program_words.specs.Words.{AsksCheck, AsksExplore, AsksExploreJob, AsksJobs, AsksMerge, AsksReplay, AsksSample, IsInRange, IsNamed, command_of, report_alone}
use Rattle.program_words.specs.declared.words.Words.{Words}
use Rattle.program_words.proofs.Checked.{check_passes}
use Rattle.program_words.proofs.Explored.{explore_passes}
use Rattle.program_words.proofs.Reading.{entered_is, passes_is, read_as, read_fails, read_holds, refused_for_memory}
use Rattle.program_words.proofs.Replayed.{replay_passes}
use Rattle.program_words.proofs.Sampled.{sample_passes}
use Rattle.program_words.proofs.Splitting.{split_passes}
use Rattle.program_words.proofs.Unread.{all_jobs_ask, all_jobs_reads, check_asks, check_is_read, jobs_ask, jobs_reads, merge_asks, merge_reads, nothing_unread, one_job_asks, one_job_reads, read_in_range, read_is_named, replay_asks, replay_reads, sample_asks, sample_is_read}
use Rattle.program_words.proofs.words.read_words.Goals as goal

pub returns-in_err-matches-clause-replay : goal.returns-in_err-matches-clause-replay
returns-in_err-matches-clause-replay g c schedule asks =
    let words = map g.S.AsStr.text c.args.words.now in
    let p = err_from_is_err_and c.from_residual-in_err-matches.result c.from_residual-in_err-matches.ensures.1 in
    refused_for_memory (app_of c.in_ok-command.command) words (AsksReplay schedule) c.in_err-matches.field-0.0 c.from_residual-in_err-matches.result
    c.in_ok-command.ensures.line (replay_passes words schedule asks) c.in_err-matches.ensures.kinds (p.1 ∙ ap Err p.2)

pub returns-in_err-matches-clause-explore : goal.returns-in_err-matches-clause-explore
returns-in_err-matches-clause-explore g c options excuses printed asks =
    let words = map g.S.AsStr.text c.args.words.now in
    let p = err_from_is_err_and c.from_residual-in_err-matches.result c.from_residual-in_err-matches.ensures.1 in
    refused_for_memory (app_of c.in_ok-command.command) words (AsksExplore options excuses printed) c.in_err-matches.field-0.0 c.from_residual-in_err-matches.result
    c.in_ok-command.ensures.line (explore_passes words asks.given options printed asks.says) c.in_err-matches.ensures.kinds (p.1 ∙ ap Err p.2)

pub returns-in_err-matches-clause-explore_job : goal.returns-in_err-matches-clause-explore_job
returns-in_err-matches-clause-explore_job g c options excuses line asks =
    let words = map g.S.AsStr.text c.args.words.now in
    let p = err_from_is_err_and c.from_residual-in_err-matches.result c.from_residual-in_err-matches.ensures.1 in
    refused_for_memory (app_of c.in_ok-command.command) words (AsksExploreJob options excuses line) c.in_err-matches.field-0.0 c.from_residual-in_err-matches.result
    c.in_ok-command.ensures.line (explore_passes words asks.given options report_alone asks.says) c.in_err-matches.ensures.kinds (p.1 ∙ ap Err p.2)

pub returns-in_err-matches-clause-check : goal.returns-in_err-matches-clause-check
returns-in_err-matches-clause-check g c depth flags excuses asks =
    let words = map g.S.AsStr.text c.args.words.now in
    let p = err_from_is_err_and c.from_residual-in_err-matches.result c.from_residual-in_err-matches.ensures.1 in
    refused_for_memory (app_of c.in_ok-command.command) words (AsksCheck depth flags excuses) c.in_err-matches.field-0.0 c.from_residual-in_err-matches.result
    c.in_ok-command.ensures.line (check_passes words asks.given depth flags asks.says) c.in_err-matches.ensures.kinds (p.1 ∙ ap Err p.2)

pub returns-in_err-matches-clause-jobs : goal.returns-in_err-matches-clause-jobs
returns-in_err-matches-clause-jobs g c place asks =
    let words = map g.S.AsStr.text c.args.words.now in
    let p = err_from_is_err_and c.from_residual-in_err-matches.result c.from_residual-in_err-matches.ensures.1 in
    refused_for_memory (app_of c.in_ok-command.command) words (AsksJobs place) c.in_err-matches.field-0.0 c.from_residual-in_err-matches.result
    c.in_ok-command.ensures.line (split_passes listing words asks.given asks.steps place asks.flags asks.says) c.in_err-matches.ensures.kinds (p.1 ∙ ap Err p.2)

pub returns-in_err-matches-clause-merge : goal.returns-in_err-matches-clause-merge
returns-in_err-matches-clause-merge g c steps place flags excuses asks =
    let words = map g.S.AsStr.text c.args.words.now in
    let p = err_from_is_err_and c.from_residual-in_err-matches.result c.from_residual-in_err-matches.ensures.1 in
    refused_for_memory (app_of c.in_ok-command.command) words (AsksMerge steps place flags excuses) c.in_err-matches.field-0.0 c.from_residual-in_err-matches.result
    c.in_ok-command.ensures.line (split_passes merging words asks.given steps place flags asks.says) c.in_err-matches.ensures.kinds (p.1 ∙ ap Err p.2)

pub returns-in_err-matches-clause-sample : goal.returns-in_err-matches-clause-sample
returns-in_err-matches-clause-sample g c samples excuses printed asks =
    let words = map g.S.AsStr.text c.args.words.now in
    let p = err_from_is_err_and c.from_residual-in_err-matches.result c.from_residual-in_err-matches.ensures.1 in
    refused_for_memory (app_of c.in_ok-command.command) words (AsksSample samples excuses printed) c.in_err-matches.field-0.0 c.from_residual-in_err-matches.result
    c.in_ok-command.ensures.line (sample_passes words asks.given samples printed asks.says) c.in_err-matches.ensures.kinds (p.1 ∙ ap Err p.2)

pub returns-clause-replay : goal.returns-clause-replay
returns-clause-replay g c schedule asks =
    let words = map g.S.AsStr.text c.args.words.now in
    let found = subcommand_rows_of c.in_ok-matches.matches in
    let entered = entered_is (app_of c.in_ok-command.command) words found c.in_ok-command.ensures.line c.in_ok-matches.ensures.matches in
    read_as words found entered c.read_command.result c.read_command.ensures.ok (AsksReplay schedule) c.read_command.ensures.refused (replay_reads words schedule asks) (replay_asks words schedule asks)

pub returns-clause-explore : goal.returns-clause-explore
returns-clause-explore g c options excuses printed asks =
    let words = map g.S.AsStr.text c.args.words.now in
    let found = subcommand_rows_of c.in_ok-matches.matches in
    let entered = entered_is (app_of c.in_ok-command.command) words found c.in_ok-command.ensures.line c.in_ok-matches.ensures.matches in
    read_as words found entered c.read_command.result c.read_command.ensures.ok (AsksExplore options excuses printed) c.read_command.ensures.refused (all_jobs_reads words options excuses printed asks) (all_jobs_ask words options excuses printed asks)

pub returns-clause-explore_job : goal.returns-clause-explore_job
returns-clause-explore_job g c options excuses line asks =
    let words = map g.S.AsStr.text c.args.words.now in
    let found = subcommand_rows_of c.in_ok-matches.matches in
    let entered = entered_is (app_of c.in_ok-command.command) words found c.in_ok-command.ensures.line c.in_ok-matches.ensures.matches in
    read_as words found entered c.read_command.result c.read_command.ensures.ok (AsksExploreJob options excuses line) c.read_command.ensures.refused (one_job_reads words options excuses line asks) (one_job_asks words options excuses line asks)

pub returns-clause-check : goal.returns-clause-check
returns-clause-check g c depth flags excuses asks =
    let words = map g.S.AsStr.text c.args.words.now in
    let found = subcommand_rows_of c.in_ok-matches.matches in
    let entered = entered_is (app_of c.in_ok-command.command) words found c.in_ok-command.ensures.line c.in_ok-matches.ensures.matches in
    read_as words found entered c.read_command.result c.read_command.ensures.ok (AsksCheck depth flags excuses) c.read_command.ensures.refused (check_is_read words depth flags excuses asks) (check_asks words depth flags excuses asks)

pub returns-clause-jobs : goal.returns-clause-jobs
returns-clause-jobs g c place asks =
    let words = map g.S.AsStr.text c.args.words.now in
    let found = subcommand_rows_of c.in_ok-matches.matches in
    let entered = entered_is (app_of c.in_ok-command.command) words found c.in_ok-command.ensures.line c.in_ok-matches.ensures.matches in
    read_as words found entered c.read_command.result c.read_command.ensures.ok (AsksJobs place) c.read_command.ensures.refused (jobs_reads words place asks) (jobs_ask words place asks)

pub returns-clause-merge : goal.returns-clause-merge
returns-clause-merge g c steps place flags excuses asks =
    let words = map g.S.AsStr.text c.args.words.now in
    let found = subcommand_rows_of c.in_ok-matches.matches in
    let entered = entered_is (app_of c.in_ok-command.command) words found c.in_ok-command.ensures.line c.in_ok-matches.ensures.matches in
    read_as words found entered c.read_command.result c.read_command.ensures.ok (AsksMerge steps place flags excuses) c.read_command.ensures.refused (merge_reads words steps place flags excuses asks) (merge_asks words steps place flags excuses asks)

pub returns-clause-sample : goal.returns-clause-sample
returns-clause-sample g c samples excuses printed asks =
    let words = map g.S.AsStr.text c.args.words.now in
    let found = subcommand_rows_of c.in_ok-matches.matches in
    let entered = entered_is (app_of c.in_ok-command.command) words found c.in_ok-command.ensures.line c.in_ok-matches.ensures.matches in
    read_as words found entered c.read_command.result c.read_command.ensures.ok (AsksSample samples excuses printed) c.read_command.ensures.refused (sample_is_read words samples excuses printed asks) (sample_asks words samples excuses printed asks)

pub returns-clause-unread : goal.returns-clause-unread
returns-clause-unread g c bad =
    let words = map g.S.AsStr.text c.args.words.now in
    let found = subcommand_rows_of c.in_ok-matches.matches in
    let entered = entered_is (app_of c.in_ok-command.command) words found c.in_ok-command.ensures.line c.in_ok-matches.ensures.matches in
    read_fails words found entered c.read_command.result c.read_command.ensures.ok (nothing_unread words bad)

pub returns-clause-range : goal.returns-clause-range
returns-clause-range g c =
    let words = map g.S.AsStr.text c.args.words.now in
    let found = subcommand_rows_of c.in_ok-matches.matches in
    let entered = entered_is (app_of c.in_ok-command.command) words found c.in_ok-command.ensures.line c.in_ok-matches.ensures.matches in
    let passes = passes_is (app_of c.in_ok-command.command) words c.in_ok-command.ensures.line c.in_ok-matches.ensures.kinds in
    read_holds words found entered c.read_command.result c.read_command.ensures.ok IsInRange (read_in_range words passes)

pub returns-clause-named : goal.returns-clause-named
returns-clause-named g c =
    let words = map g.S.AsStr.text c.args.words.now in
    let found = subcommand_rows_of c.in_ok-matches.matches in
    let entered = entered_is (app_of c.in_ok-command.command) words found c.in_ok-command.ensures.line c.in_ok-matches.ensures.matches in
    let passes = passes_is (app_of c.in_ok-command.command) words c.in_ok-command.ensures.line c.in_ok-matches.ensures.kinds in
    read_holds words found entered c.read_command.result c.read_command.ensures.ok (λ (w : Words). IsNamed words (command_of w)) (read_is_named words passes)
