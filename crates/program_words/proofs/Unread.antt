-- What is read of a command is what its words say, and nothing is read of words that are unreadable.
use Rattle.std.proofs.Common.{◌≡◌, ◌∙◌, ◌⊎◌, ◌&&◌, ◌||◌, ℕ, ◌<◌, ◌≤◌, Bool, true, false, List, [], ◌∷◌, length, Option, Some, None, cond, codes, refl, sym, ap, subst, inl, inr, arith, true≢false}
use Rattle.std.specs.Prelude.{slice_get, string_bytes}
use Rattle.std.specs.Str.{bytes_eq}
use Rattle.std.proofs.lemmas.Slice.Eq.{bytes_eq-Decides}
use Rattle.clap.specs.Words.{Row, Text, fault_of, first_of, subcommand_of}
use Rattle.tree_excuses.specs.Excuses.{Excuses}
use Rattle.tree_excuses.specs.declared.excuses.Excuses as declared
use Rattle.world_identities.specs.declared.flags.Flags.{Flags}
use Rattle.tree_findings.specs.declared.options.Options.{Options}
use Rattle.search_samples.specs.declared.sample.Samples.{Samples}
use Rattle.program_words.specs.declared.command_line.Split.{Split}
use Rattle.program_words.specs.declared.words.Printed.{Printed}
use Rattle.program_words.specs.declared.words.Words.{Words}
use Rattle.program_words.specs.declared.words.Words.TheVariants.{Replay, Explore, ExploreJob, Check, Jobs, Merge, Sample}
use Rattle.program_words.specs.Words.{AreExcusesOf, AreFormats, AreUnreadable, AreWordsOfCheck, AreWordsOfExplore, AreWordsOfLevel, AreWordsOfSample, AskTooMuch, AsksCheck, AsksExplore, AsksExploreJob, AsksJobs, AsksMerge, AsksReplay, AsksSample, ExcuseNothing, Given, HasNoFormat, IsCheck, IsExplore, IsExploreJob, IsInRange, IsJobs, IsMerge, IsNamed, IsReplay, IsSample, command_of, formats_of, is_by_states, jobs_of, report_alone}
use Rattle.program_words.specs.inside.CommandLine.{Splitter, checking, command_line, exploring, listing, merging, sampling, split_name, splitting}
use Rattle.program_words.specs.inside.Found.{AreExcusesIn, AreJobsRead, AreOptionsOf, AreSamplesOf, AskExcuses, AsksForOne, AsksForSplit, HasKnownFormat, IsCheckOf, IsReadOf, IsSplitOf, IsSplitRead, format_in, is_unknown, job_in, rows_in, schedule_in}
use Rattle.program_words.proofs.Asked.{rows_of_given}
use Rattle.program_words.proofs.Checked.{check_enters, check_has_no_options, check_has_no_schedule, check_in_range, check_is_found, check_reads}
use Rattle.program_words.proofs.Excusing.{excuses_same, given_asks, nothing_is_read}
use Rattle.program_words.proofs.Explored.{explore_enters, explore_format, explore_has_no_check, explore_has_no_schedule, explore_is_found, explore_job, explore_reads, found_in_range}
use Rattle.program_words.proofs.Formats.{format_known, format_unknown}
use Rattle.program_words.proofs.Named.{check_named, explore_named, replay_named, sample_named, split_named}
use Rattle.program_words.proofs.Replayed.{replay_enters}
use Rattle.program_words.proofs.Sampled.{no_samples, sample_enters, sample_format, sample_has_no_check, sample_has_no_options, sample_has_no_schedule, sample_is_found, sample_reads, samples_in_range, split_is_no_sample}
use Rattle.program_words.proofs.Splitting.{asks_for_no_split, no_split, split_enters, split_has_no_check, split_has_no_options, split_has_no_schedule, split_in_range, split_is_found, split_read}

-- what was found of a command line, as its parser answers
abbrev found_in : List Text → Option (Text × List Row)
found_in words = subcommand_of command_line words

-- ---- a replay

-- `replay` was found
record IsReplayed (o : Option (Text × List Row)) : Type 0 where
  pub rows : List Row
  pub is : o ≡ Some (codes "replay", rows)

replayed : (o : Option (Text × List Row)) (schedule : Text) → schedule_in o ≡ Some schedule → IsReplayed o
replayed None schedule is = cc
replayed (Some p) schedule is = by (bytes_eq p.0 (codes "replay")) refl is
  where
    by : (b : Bool) → bytes_eq p.0 (codes "replay") ≡ b → cond b (first_of (codes "SCHEDULE") p.1) None ≡ Some schedule → IsReplayed (Some p)
    by false name found = cc
    by true name found = record { rows = p.1; is = ap (λ (n : Text). Some (n, p.1)) ((bytes_eq-Decides p.0 (codes "replay")).0 name) }

module _ (words : List Text) (schedule : Text) (asks : IsReplay words schedule) where
  replay_found : IsReplayed (found_in words)
  replay_found = replayed (found_in words) schedule (replay_enters words schedule asks)

  replay_has_no_options : (found : Options × Printed) → AreOptionsOf (found_in words) (Some found) → ⊥
  replay_has_no_options found of =
      let none : Some found ≡ None = subst (λ o. AreOptionsOf o (Some found)) replay_found.is of in
      cc

  replay_has_no_check : (found : ℕ × Flags) → IsCheckOf (found_in words) (Some found) → ⊥
  replay_has_no_check found of =
      let none : Some found ≡ None = subst (λ o. IsCheckOf o (Some found)) replay_found.is of in
      cc

  replay_is_found : schedule_in (found_in words) ≡ None → ⊥
  replay_is_found none =
      let both : Some schedule ≡ None = sym (replay_enters words schedule asks) ∙ none in
      cc

  pub replay_asks : AsksForOne (found_in words)
  replay_asks = record {
    explore = λ found of. absurd (replay_has_no_options found of);
    format = λ found of. absurd (replay_has_no_options found of);
    job = λ found of line has. absurd (replay_has_no_options found of);
    states = λ found of. absurd (replay_has_no_options found of);
    terms = λ found of. absurd (replay_has_no_options found of);
    check = λ found of. absurd (replay_has_no_check found of);
    jobs = asks_for_no_split (codes "jobs") (codes "replay") _ _ replay_found.is refl;
    merge = asks_for_no_split (codes "merge") (codes "replay") _ _ replay_found.is refl;
    sample = λ found of. absurd (no_samples (codes "replay") _ _ found replay_found.is refl of);
    sample_format = λ found of. absurd (no_samples (codes "replay") _ _ found replay_found.is refl of);
    some = λ none options check jobs merge sample. replay_is_found none;
  }

  pub replay_reads : (w : Words) → IsReadOf (found_in words) w → AsksReplay schedule w
  replay_reads (Replay word) is =
      let same : Some (string_bytes word) ≡ Some schedule = sym is ∙ replay_enters words schedule asks in
      cc
  replay_reads (Explore options excuses printed) is = replay_has_no_options (options, printed) is.0
  replay_reads (ExploreJob options excuses line) is = replay_has_no_options (options, report_alone) is.0
  replay_reads (Check steps flags excuses) is = replay_has_no_check (steps, flags) is.0
  replay_reads (Jobs place) is = no_split (codes "jobs") (codes "replay") _ _ is.split replay_found.is refl is.read.found
  replay_reads (Merge steps place flags excuses) is = no_split (codes "merge") (codes "replay") _ _ _ replay_found.is refl is.found
  replay_reads (Sample samples excuses printed) is = no_samples (codes "replay") _ _ (samples, printed) replay_found.is refl is.0

-- ---- an exploration

no_schedule : (words : List Text) (word : Text) → schedule_in (found_in words) ≡ None → schedule_in (found_in words) ≡ Some word → ⊥
no_schedule words word none is =
    let both : Some word ≡ None = sym is ∙ none in
    cc

-- one line of a job is given
has_line : (lines : List Text) → length lines ≡ 1 → slice_get lines 0 ≡ None → ⊥
has_line [] one none = absurd (omega arith)
has_line (line ∷ rest) one none = cc

module _ (words : List Text) (given : List Given) (options : Options) (printed : Printed) (says : AreWordsOfExplore words given options printed) where
  explore_rows : rows_in (found_in words) ≡ rows_of_given exploring given
  explore_rows = ap rows_in (explore_enters words given options printed says)

  module _ (found : Options × Printed) (of : AreOptionsOf (found_in words) (Some found)) where
    explore_flags : found.0.flags ≡ options.flags
    explore_flags = ap (λ (x : Options). x.flags) (explore_reads words given options printed says found of).0

    -- the rows ask for what the words excuse
    explore_excuses : (excuses : Excuses) → AreExcusesOf given options.flags excuses → AskExcuses found.0.flags (rows_in (found_in words)) excuses
    explore_excuses excuses excused =
        subst (λ flags. AskExcuses flags (rows_in (found_in words)) excuses) (sym explore_flags)
        (subst (λ rows. AskExcuses options.flags rows excuses) (sym explore_rows) (given_asks exploring given options.flags excuses excused))

    -- and where that is nothing, nothing was read
    explore_excuses_nothing : (read : declared.Excuses) → AreExcusesIn found.0.flags (rows_in (found_in words)) read → ExcuseNothing given → ⊥
    explore_excuses_nothing read excused bad =
        nothing_is_read exploring given options.flags read says.allow_deadlock says.main_deadlock says.idle_servers
        (subst (λ flags. AreExcusesIn flags (rows_of_given exploring given) read) explore_flags (subst (λ rows. AreExcusesIn found.0.flags rows read) explore_rows excused)) bad

    -- the search is the one that the words ask for
    explore_search : is_by_states found.0.search ≡ is_by_states options.search
    explore_search = ap (λ (x : Options). is_by_states x.search) (explore_reads words given options printed says found of).0

  -- the format is the one that is given
  explore_format_found : format_in (rows_in (found_in words)) ≡ slice_get (formats_of given) 0
  explore_format_found = ap format_in explore_rows ∙ explore_format given

  explore_known : AreFormats (formats_of given) → HasKnownFormat (found_in words)
  explore_known known = ap is_unknown explore_format_found ∙ format_known (formats_of given) known

  explore_unknown : HasNoFormat (formats_of given) → HasKnownFormat (found_in words) → ⊥
  explore_unknown none known = true≢false (sym (ap is_unknown explore_format_found ∙ format_unknown (formats_of given) printed.terms says.format none) ∙ known)

  -- a search by states asks for nothing of the tree
  abbrev AsksNoTree : Type 0
  AsksNoTree = is_by_states options.search ≡ true → (printed.cover ≡ false) × (slice_get (jobs_of given) 0 ≡ None)

  explore_states : AsksNoTree → (found : Options × Printed) → AreOptionsOf (found_in words) (Some found) → is_by_states found.0.search ≡ true → (found.1.cover ≡ false) × (job_in (found_in words) ≡ None)
  explore_states spares found of states =
      let none = spares (sym (explore_search found of) ∙ states) in
      (ap (λ (x : Printed). x.cover) (explore_reads words given options printed says found of).1 ∙ none.0, explore_job words given options printed says ∙ none.1)

  pub explore_asks : (excuses : Excuses) → AreExcusesOf given options.flags excuses → AreFormats (formats_of given)
      → ((line : Text) → slice_get (jobs_of given) 0 ≡ Some line → (printed.explained || (printed.cover || printed.terms)) ≡ false) → AsksNoTree → (printed.terms && printed.cover) ≡ false
      → AsksForOne (found_in words)
  explore_asks excuses excused known plain spares apart = record {
    explore = λ found of. record { excuses = excuses; asks = explore_excuses found of excuses excused };
    format = λ found of. explore_known known;
    job = λ found of line has.
        ap (λ (x : Printed). x.explained || (x.cover || x.terms)) (explore_reads words given options printed says found of).1 ∙ plain line (sym (explore_job words given options printed says) ∙ has);
    states = explore_states spares;
    terms = λ found of. ap (λ (x : Printed). x.terms && x.cover) (explore_reads words given options printed says found of).1 ∙ apart;
    check = λ found of. absurd (explore_has_no_check words given options printed says found of);
    jobs = asks_for_no_split (codes "jobs") (codes "explore") _ _ (explore_enters words given options printed says) refl;
    merge = asks_for_no_split (codes "merge") (codes "explore") _ _ (explore_enters words given options printed says) refl;
    sample = λ found of. absurd (no_samples (codes "explore") _ _ found (explore_enters words given options printed says) refl of);
    sample_format = λ found of. absurd (no_samples (codes "explore") _ _ found (explore_enters words given options printed says) refl of);
    some = λ none found check jobs merge sample. explore_is_found words given options printed says found;
  }

  -- what is read of an exploration of all jobs
  all_jobs_read : (excuses : Excuses) → AreExcusesOf given options.flags excuses → jobs_of given ≡ [] → (w : Words) → IsReadOf (found_in words) w → AsksExplore options excuses printed w
  all_jobs_read excuses excused none (Replay word) is = no_schedule words (string_bytes word) (explore_has_no_schedule words given options printed says) is
  all_jobs_read excuses excused none (Explore found read prints) is =
      let reads = explore_reads words given options printed says (found, prints) is.0 in
      (reads.0, (excuses_same found.flags (rows_in (found_in words)) excuses read (explore_excuses (found, prints) is.0 excuses excused) is.1.0, reads.1))
  all_jobs_read excuses excused none (ExploreJob found read line) is =
      let both : Some (string_bytes line) ≡ None = sym is.1.1.1.0 ∙ explore_job words given options printed says ∙ ap (λ l. slice_get l 0) none in
      cc
  all_jobs_read excuses excused none (Check steps flags read) is = explore_has_no_check words given options printed says (steps, flags) is.0
  all_jobs_read excuses excused none (Jobs place) is = no_split (codes "jobs") (codes "explore") _ _ is.split (explore_enters words given options printed says) refl is.read.found
  all_jobs_read excuses excused none (Merge steps place flags read) is = no_split (codes "merge") (codes "explore") _ _ _ (explore_enters words given options printed says) refl is.found
  all_jobs_read excuses excused none (Sample samples read prints) is = no_samples (codes "explore") _ _ (samples, prints) (explore_enters words given options printed says) refl is.0

  -- and of one job alone
  one_job_read : (excuses : Excuses) (line : Text) → AreExcusesOf given options.flags excuses → jobs_of given ≡ line ∷ [] → (w : Words) → IsReadOf (found_in words) w → AsksExploreJob options excuses line w
  one_job_read excuses line excused one (Replay word) is = no_schedule words (string_bytes word) (explore_has_no_schedule words given options printed says) is
  one_job_read excuses line excused one (Explore found read prints) is =
      let both : Some line ≡ None = sym (ap (λ l. slice_get l 0) one) ∙ sym (explore_job words given options printed says) ∙ is.1.1.1.0 in
      cc
  one_job_read excuses line excused one (ExploreJob found read word) is =
      let reads = explore_reads words given options printed says (found, report_alone) is.0 in
      let same : Some (string_bytes word) ≡ Some line = sym is.1.1.1.0 ∙ explore_job words given options printed says ∙ ap (λ l. slice_get l 0) one in
      let text : string_bytes word ≡ line = cc in
      (reads.0, (excuses_same found.flags (rows_in (found_in words)) excuses read (explore_excuses (found, report_alone) is.0 excuses excused) is.1.0, text))
  one_job_read excuses line excused one (Check steps flags read) is = explore_has_no_check words given options printed says (steps, flags) is.0
  one_job_read excuses line excused one (Jobs place) is = no_split (codes "jobs") (codes "explore") _ _ is.split (explore_enters words given options printed says) refl is.read.found
  one_job_read excuses line excused one (Merge steps place flags read) is = no_split (codes "merge") (codes "explore") _ _ _ (explore_enters words given options printed says) refl is.found
  one_job_read excuses line excused one (Sample samples read prints) is = no_samples (codes "explore") _ _ (samples, prints) (explore_enters words given options printed says) refl is.0

  -- nothing is read of an exploration by states that asks for a cover, or for a job
  states_unread : (states cover : Bool) (lines : List Text) → states ≡ true → (cover ≡ true) ⊎ (length lines ≡ 1) → (states && cover) ≡ false → slice_get lines 0 ≡ None → ⊥
  states_unread false cover lines by_states bad none no_line = cc
  states_unread true cover lines by_states (inl covered) none no_line = true≢false (sym covered ∙ none)
  states_unread true cover lines by_states (inr one) none no_line = has_line lines one no_line

  -- nor of one that excuses nothing, has a format that there is not, asks for more of a job, or for a cover beside terms
  explore_unread : ExcuseNothing given ⊎ (HasNoFormat (formats_of given) ⊎ AskTooMuch given options printed) → (w : Words) → IsReadOf (found_in words) w → ⊥
  explore_unread bad (Replay word) is = no_schedule words (string_bytes word) (explore_has_no_schedule words given options printed says) is
  explore_unread (inl bad) (Explore found read prints) is = explore_excuses_nothing (found, prints) is.0 read is.1.0 bad
  explore_unread (inr (inl none)) (Explore found read prints) is = explore_unknown none is.1.1.0
  explore_unread (inr (inr (inl more))) (Explore found read prints) is = has_line (jobs_of given) more.0 (sym (explore_job words given options printed says) ∙ is.1.1.1.0)
  explore_unread (inr (inr (inr (inl tree)))) (Explore found read prints) is =
      let reads = explore_reads words given options printed says (found, prints) is.0 in
      states_unread (is_by_states options.search) printed.cover (jobs_of given) tree.0 tree.1
      (sym (λ i. is_by_states (reads.0 i).search && (reads.1 i).cover) ∙ is.1.1.1.1.0) (sym (explore_job words given options printed says) ∙ is.1.1.1.0)
  explore_unread (inr (inr (inr (inr both)))) (Explore found read prints) is =
      let same : prints ≡ printed = (explore_reads words given options printed says (found, prints) is.0).1 in
      true≢false (sym both ∙ sym (ap (λ (x : Printed). x.terms && x.cover) same) ∙ is.1.1.1.1.1)
  explore_unread (inl bad) (ExploreJob found read line) is = explore_excuses_nothing (found, report_alone) is.0 read is.1.0 bad
  explore_unread (inr (inl none)) (ExploreJob found read line) is = explore_unknown none is.1.1.0
  explore_unread (inr (inr (inl more))) (ExploreJob found read line) is =
      let same : report_alone ≡ printed = (explore_reads words given options printed says (found, report_alone) is.0).1 in
      true≢false (sym more.1 ∙ sym (ap (λ (x : Printed). x.explained || (x.cover || x.terms)) same))
  explore_unread (inr (inr (inr (inl tree)))) (ExploreJob found read line) is =
      true≢false (sym tree.0 ∙ sym (explore_search (found, report_alone) is.0) ∙ is.1.1.1.1)
  explore_unread (inr (inr (inr (inr both)))) (ExploreJob found read line) is =
      let same : report_alone ≡ printed = (explore_reads words given options printed says (found, report_alone) is.0).1 in
      true≢false (sym both ∙ sym (ap (λ (x : Printed). x.terms && x.cover) same))
  explore_unread bad (Check steps flags read) is = explore_has_no_check words given options printed says (steps, flags) is.0
  explore_unread bad (Jobs place) is = no_split (codes "jobs") (codes "explore") _ _ is.split (explore_enters words given options printed says) refl is.read.found
  explore_unread bad (Merge steps place flags read) is = no_split (codes "merge") (codes "explore") _ _ _ (explore_enters words given options printed says) refl is.found
  explore_unread bad (Sample samples read prints) is = no_samples (codes "explore") _ _ (samples, prints) (explore_enters words given options printed says) refl is.0

pub all_jobs_ask : (words : List Text) (options : Options) (excuses : Excuses) (printed : Printed) → IsExplore words options excuses printed → AsksForOne (found_in words)
all_jobs_ask words options excuses printed asks =
    explore_asks words asks.given options printed asks.says excuses asks.excused asks.known
    (λ line is. let both : None ≡ Some line = sym (ap (λ l. slice_get l 0) asks.no_job) ∙ is in cc)
    (λ states. (sym (ap (λ b. b && printed.cover) states) ∙ asks.no_cover_of_states, ap (λ l. slice_get l 0) asks.no_job)) asks.no_cover_of_terms

pub all_jobs_reads : (words : List Text) (options : Options) (excuses : Excuses) (printed : Printed) → IsExplore words options excuses printed → (w : Words) → IsReadOf (found_in words) w
    → AsksExplore options excuses printed w
all_jobs_reads words options excuses printed asks = all_jobs_read words asks.given options printed asks.says excuses asks.excused asks.no_job

pub one_job_asks : (words : List Text) (options : Options) (excuses : Excuses) (line : Text) → IsExploreJob words options excuses line → AsksForOne (found_in words)
one_job_asks words options excuses line asks = explore_asks words asks.given options report_alone asks.says excuses asks.excused asks.known (λ line is. refl)
    (λ states. absurd (true≢false (sym states ∙ ap is_by_states asks.by_tree))) refl

pub one_job_reads : (words : List Text) (options : Options) (excuses : Excuses) (line : Text) → IsExploreJob words options excuses line → (w : Words) → IsReadOf (found_in words) w
    → AsksExploreJob options excuses line w
one_job_reads words options excuses line asks = one_job_read words asks.given options report_alone asks.says excuses line asks.excused asks.job

-- ---- a check

module _ (words : List Text) (given : List Given) (steps : ℕ) (flags : Flags) (says : AreWordsOfCheck words given steps flags) where
  check_rows : rows_in (found_in words) ≡ rows_of_given checking given
  check_rows = ap rows_in (check_enters words given steps flags says)

  module _ (found : ℕ × Flags) (of : IsCheckOf (found_in words) (Some found)) where
    check_excuses : (excuses : Excuses) → AreExcusesOf given flags excuses → AskExcuses found.1 (rows_in (found_in words)) excuses
    check_excuses excuses excused =
        subst (λ flags. AskExcuses flags (rows_in (found_in words)) excuses) (sym (check_reads words given steps flags says found of).1)
        (subst (λ rows. AskExcuses flags rows excuses) (sym check_rows) (given_asks checking given flags excuses excused))

    check_excuses_nothing : (read : declared.Excuses) → AreExcusesIn found.1 (rows_in (found_in words)) read → ExcuseNothing given → ⊥
    check_excuses_nothing read excused bad =
        nothing_is_read checking given flags read says.allow_deadlock says.main_deadlock says.idle_servers
        (subst (λ flags. AreExcusesIn flags (rows_of_given checking given) read) (check_reads words given steps flags says found of).1 (subst (λ rows. AreExcusesIn found.1 rows read) check_rows excused)) bad

  check_asked : (excuses : Excuses) → AreExcusesOf given flags excuses → AsksForOne (found_in words)
  check_asked excuses excused = record {
    explore = λ found of. absurd (check_has_no_options words given steps flags says found of);
    format = λ found of. absurd (check_has_no_options words given steps flags says found of);
    job = λ found of line has. absurd (check_has_no_options words given steps flags says found of);
    states = λ found of. absurd (check_has_no_options words given steps flags says found of);
    terms = λ found of. absurd (check_has_no_options words given steps flags says found of);
    check = λ found of. record { excuses = excuses; asks = check_excuses found of excuses excused };
    jobs = asks_for_no_split (codes "jobs") (codes "check") _ _ (check_enters words given steps flags says) refl;
    merge = asks_for_no_split (codes "merge") (codes "check") _ _ (check_enters words given steps flags says) refl;
    sample = λ found of. absurd (no_samples (codes "check") _ _ found (check_enters words given steps flags says) refl of);
    sample_format = λ found of. absurd (no_samples (codes "check") _ _ found (check_enters words given steps flags says) refl of);
    some = λ none options found jobs merge sample. check_is_found words given steps flags says found;
  }

  check_read : (excuses : Excuses) → AreExcusesOf given flags excuses → (w : Words) → IsReadOf (found_in words) w → AsksCheck steps flags excuses w
  check_read excuses excused (Replay word) is = no_schedule words (string_bytes word) (check_has_no_schedule words given steps flags says) is
  check_read excuses excused (Explore options read printed) is = check_has_no_options words given steps flags says (options, printed) is.0
  check_read excuses excused (ExploreJob options read line) is = check_has_no_options words given steps flags says (options, report_alone) is.0
  check_read excuses excused (Check found counts read) is =
      let reads = check_reads words given steps flags says (found, counts) is.0 in
      (reads.0, (reads.1, excuses_same counts (rows_in (found_in words)) excuses read (check_excuses (found, counts) is.0 excuses excused) is.1))
  check_read excuses excused (Jobs place) is = no_split (codes "jobs") (codes "check") _ _ is.split (check_enters words given steps flags says) refl is.read.found
  check_read excuses excused (Merge depth place counts read) is = no_split (codes "merge") (codes "check") _ _ _ (check_enters words given steps flags says) refl is.found
  check_read excuses excused (Sample samples read printed) is = no_samples (codes "check") _ _ (samples, printed) (check_enters words given steps flags says) refl is.0

  check_unread : ExcuseNothing given → (w : Words) → IsReadOf (found_in words) w → ⊥
  check_unread bad (Replay word) is = no_schedule words (string_bytes word) (check_has_no_schedule words given steps flags says) is
  check_unread bad (Explore options read printed) is = check_has_no_options words given steps flags says (options, printed) is.0
  check_unread bad (ExploreJob options read line) is = check_has_no_options words given steps flags says (options, report_alone) is.0
  check_unread bad (Check found counts read) is = check_excuses_nothing (found, counts) is.0 read is.1 bad
  check_unread bad (Jobs place) is = no_split (codes "jobs") (codes "check") _ _ is.split (check_enters words given steps flags says) refl is.read.found
  check_unread bad (Merge depth place counts read) is = no_split (codes "merge") (codes "check") _ _ _ (check_enters words given steps flags says) refl is.found
  check_unread bad (Sample samples read printed) is = no_samples (codes "check") _ _ (samples, printed) (check_enters words given steps flags says) refl is.0

pub check_asks : (words : List Text) (steps : ℕ) (flags : Flags) (excuses : Excuses) → IsCheck words steps flags excuses → AsksForOne (found_in words)
check_asks words steps flags excuses asks = check_asked words asks.given steps flags asks.says excuses asks.excused

pub check_is_read : (words : List Text) (steps : ℕ) (flags : Flags) (excuses : Excuses) → IsCheck words steps flags excuses → (w : Words) → IsReadOf (found_in words) w → AsksCheck steps flags excuses w
check_is_read words steps flags excuses asks = check_read words asks.given steps flags asks.says excuses asks.excused

-- ---- a command that splits the tree

-- what has to hold of it holds of both such commands, where it holds of this one and nothing is found of another
both_ask : (which : Splitter) (o : Option (Text × List Row)) → AsksForSplit (split_name which) o → ((command : Text) → bytes_eq (split_name which) command ≡ false → AsksForSplit command o)
    → AsksForSplit (codes "jobs") o × AsksForSplit (codes "merge") o
both_ask listing o own other = (own, other (codes "merge") refl)
both_ask merging o own other = (other (codes "jobs") refl, own)

-- where nothing is found of either, nothing is found of this one
neither_found : (which : Splitter) (o : Option (Text × List Row)) → IsSplitOf (codes "jobs") o None → IsSplitOf (codes "merge") o None → IsSplitOf (split_name which) o None
neither_found listing o jobs merge = jobs
neither_found merging o jobs merge = merge

module _ (which : Splitter) (words : List Text) (given : List Given) (steps place : ℕ) (flags : Flags) (says : AreWordsOfLevel words (split_name which) given steps place flags) where
  split_rows : rows_in (found_in words) ≡ rows_of_given (splitting which) given
  split_rows = ap rows_in (split_enters which words given steps place flags says)

  module _ (command : Text) (found : Split) (of : IsSplitOf command (found_in words) (Some found)) where
    split_flags : found.flags ≡ flags
    split_flags = (split_read which words given steps place flags says command found of).1.1

    split_excuses : (excuses : Excuses) → AreExcusesOf given flags excuses → AskExcuses found.flags (rows_in (found_in words)) excuses
    split_excuses excuses excused =
        subst (λ flags. AskExcuses flags (rows_in (found_in words)) excuses) (sym split_flags)
        (subst (λ rows. AskExcuses flags rows excuses) (sym split_rows) (given_asks (splitting which) given flags excuses excused))

    split_excuses_nothing : (read : declared.Excuses) → AreExcusesIn found.flags (rows_in (found_in words)) read → ExcuseNothing given → ⊥
    split_excuses_nothing read excused bad =
        nothing_is_read (splitting which) given flags read says.allow_deadlock says.main_deadlock says.idle_servers
        (subst (λ flags. AreExcusesIn flags (rows_of_given (splitting which) given) read) split_flags (subst (λ rows. AreExcusesIn found.flags rows read) split_rows excused)) bad

    -- its jobs are no deeper than the tree where the words say so
    split_within : place ≤ steps → found.at ≤ found.depth
    split_within within =
        let reads = split_read which words given steps place flags says command found of in
        omega (arith, within, reads.0, reads.1.0)

    split_past : steps < place → found.at ≤ found.depth → ⊥
    split_past past within =
        let reads = split_read which words given steps place flags says command found of in
        absurd (omega (arith, past, within, reads.0, reads.1.0))

  split_has_no_samples : (read : Samples × Printed) → AreSamplesOf (found_in words) (Some read) → ⊥
  split_has_no_samples read found = no_samples (split_name which) _ _ read (split_enters which words given steps place flags says) (split_is_no_sample which) found

  split_asks_for : (excuses : Excuses) → AreExcusesOf given flags excuses → place ≤ steps → AsksForSplit (split_name which) (found_in words)
  split_asks_for excuses excused within = record {
    excused = λ found of. record { excuses = excuses; asks = split_excuses (split_name which) found of excuses excused };
    within = λ found of. split_within (split_name which) found of within;
  }

  split_asked : (excuses : Excuses) → AreExcusesOf given flags excuses → place ≤ steps → AsksForOne (found_in words)
  split_asked excuses excused within =
      let both = both_ask which (found_in words) (split_asks_for excuses excused within)
      (λ command differs. asks_for_no_split command (split_name which) _ _ (split_enters which words given steps place flags says) differs) in
      record {
        explore = λ found of. absurd (split_has_no_options which words given steps place flags says found of);
        format = λ found of. absurd (split_has_no_options which words given steps place flags says found of);
        job = λ found of line has. absurd (split_has_no_options which words given steps place flags says found of);
        states = λ found of. absurd (split_has_no_options which words given steps place flags says found of);
        terms = λ found of. absurd (split_has_no_options which words given steps place flags says found of);
        check = λ found of. absurd (split_has_no_check which words given steps place flags says found of);
        jobs = both.0;
        merge = both.1;
        sample = λ found of. absurd (split_has_no_samples found of);
        sample_format = λ found of. absurd (split_has_no_samples found of);
        some = λ none options check jobs merge sample. split_is_found which words given steps place flags says (neither_found which (found_in words) jobs merge);
      }

  -- what holds of all that is read of such commands holds of all that is read
  split_holds : (P : Words → Type 0) → ((place : ℕ) → AreJobsRead (found_in words) place → P (Jobs place))
      → ((depth level : ℕ) (counts : Flags) (read : declared.Excuses) → IsSplitRead (codes "merge") (found_in words) (record { depth = depth; at = level; flags = counts }) read → P (Merge depth level counts read))
      → (w : Words) → IsReadOf (found_in words) w → P w
  split_holds P jobs merge (Replay word) is = absurd (no_schedule words (string_bytes word) (split_has_no_schedule which words given steps place flags says) is)
  split_holds P jobs merge (Explore options read printed) is = absurd (split_has_no_options which words given steps place flags says (options, printed) is.0)
  split_holds P jobs merge (ExploreJob options read line) is = absurd (split_has_no_options which words given steps place flags says (options, report_alone) is.0)
  split_holds P jobs merge (Check found counts read) is = absurd (split_has_no_check which words given steps place flags says (found, counts) is.0)
  split_holds P jobs merge (Jobs found) is = jobs found is
  split_holds P jobs merge (Merge depth level counts read) is = merge depth level counts read is
  split_holds P jobs merge (Sample samples read printed) is = absurd (split_has_no_samples (samples, printed) is.0)

  nothing_split : ExcuseNothing given ⊎ (steps < place) → (command : Text) (found : Split) (read : declared.Excuses) → IsSplitRead command (found_in words) found read → ⊥
  nothing_split (inl bad) command found read is = split_excuses_nothing command found is.found read is.excused bad
  nothing_split (inr past) command found read is = split_past command found is.found past is.within

  split_unread : ExcuseNothing given ⊎ (steps < place) → (w : Words) → IsReadOf (found_in words) w → ⊥
  split_unread bad =
      split_holds (λ w. ⊥) (λ found is. nothing_split bad (codes "jobs") is.split is.excuses is.read) (λ depth level counts read is. nothing_split bad (codes "merge") _ read is)

pub jobs_ask : (words : List Text) (place : ℕ) → IsJobs words place → AsksForOne (found_in words)
jobs_ask words place asks = split_asked listing words asks.given asks.steps place asks.flags asks.says asks.excuses asks.excused asks.within

pub jobs_reads : (words : List Text) (place : ℕ) → IsJobs words place → (w : Words) → IsReadOf (found_in words) w → AsksJobs place w
jobs_reads words place asks =
    split_holds listing words asks.given asks.steps place asks.flags asks.says (AsksJobs place)
    (λ found is. is.place_is ∙ (split_read listing words asks.given asks.steps place asks.flags asks.says (codes "jobs") is.split is.read.found).1.0)
    (λ depth level counts read is. no_split (codes "merge") (codes "jobs") _ _ _ (split_enters listing words asks.given asks.steps place asks.flags asks.says) refl is.found)

pub merge_asks : (words : List Text) (steps place : ℕ) (flags : Flags) (excuses : Excuses) → IsMerge words steps place flags excuses → AsksForOne (found_in words)
merge_asks words steps place flags excuses asks = split_asked merging words asks.given steps place flags asks.says excuses asks.excused asks.within

pub merge_reads : (words : List Text) (steps place : ℕ) (flags : Flags) (excuses : Excuses) → IsMerge words steps place flags excuses → (w : Words) → IsReadOf (found_in words) w → AsksMerge steps place flags excuses w
merge_reads words steps place flags excuses asks =
    split_holds merging words asks.given steps place flags asks.says (AsksMerge steps place flags excuses)
    (λ found is. no_split (codes "jobs") (codes "merge") _ _ is.split (split_enters merging words asks.given steps place flags asks.says) refl is.read.found)
    (λ depth level counts read is. let found : Split = record { depth = depth; at = level; flags = counts } in
    let reads = split_read merging words asks.given steps place flags asks.says (codes "merge") found is.found in
    let excused = split_excuses merging words asks.given steps place flags asks.says (codes "merge") found is.found excuses asks.excused in
    (reads.0, (reads.1.0, (reads.1.1, excuses_same counts (rows_in (found_in words)) excuses read excused is.excused))))

-- ---- random schedules

module _ (words : List Text) (given : List Given) (samples : Samples) (printed : Printed) (says : AreWordsOfSample words given samples printed) where
  sample_rows : rows_in (found_in words) ≡ rows_of_given sampling given
  sample_rows = ap rows_in (sample_enters words given samples printed says)

  module _ (found : Samples × Printed) (of : AreSamplesOf (found_in words) (Some found)) where
    sample_flags : found.0.flags ≡ samples.flags
    sample_flags = ap (λ (x : Samples). x.flags) (sample_reads words given samples printed says found of).0

    sample_excuses : (excuses : Excuses) → AreExcusesOf given samples.flags excuses → AskExcuses found.0.flags (rows_in (found_in words)) excuses
    sample_excuses excuses excused =
        subst (λ flags. AskExcuses flags (rows_in (found_in words)) excuses) (sym sample_flags)
        (subst (λ rows. AskExcuses samples.flags rows excuses) (sym sample_rows) (given_asks sampling given samples.flags excuses excused))

    sample_excuses_nothing : (read : declared.Excuses) → AreExcusesIn found.0.flags (rows_in (found_in words)) read → ExcuseNothing given → ⊥
    sample_excuses_nothing read excused bad =
        nothing_is_read sampling given samples.flags read says.allow_deadlock says.main_deadlock says.idle_servers
        (subst (λ flags. AreExcusesIn flags (rows_of_given sampling given) read) sample_flags (subst (λ rows. AreExcusesIn found.0.flags rows read) sample_rows excused)) bad

  -- the format is the one that is given
  sample_format_found : format_in (rows_in (found_in words)) ≡ slice_get (formats_of given) 0
  sample_format_found = ap format_in sample_rows ∙ sample_format given

  sample_known : AreFormats (formats_of given) → HasKnownFormat (found_in words)
  sample_known known = ap is_unknown sample_format_found ∙ format_known (formats_of given) known

  sample_unknown : HasNoFormat (formats_of given) → HasKnownFormat (found_in words) → ⊥
  sample_unknown none known = true≢false (sym (ap is_unknown sample_format_found ∙ format_unknown (formats_of given) printed.terms says.format none) ∙ known)

  sample_asked : (excuses : Excuses) → AreExcusesOf given samples.flags excuses → AreFormats (formats_of given) → AsksForOne (found_in words)
  sample_asked excuses excused known = record {
    explore = λ found of. absurd (sample_has_no_options words given samples printed says found of);
    format = λ found of. absurd (sample_has_no_options words given samples printed says found of);
    job = λ found of line has. absurd (sample_has_no_options words given samples printed says found of);
    states = λ found of. absurd (sample_has_no_options words given samples printed says found of);
    terms = λ found of. absurd (sample_has_no_options words given samples printed says found of);
    check = λ found of. absurd (sample_has_no_check words given samples printed says found of);
    jobs = asks_for_no_split (codes "jobs") (codes "sample") _ _ (sample_enters words given samples printed says) refl;
    merge = asks_for_no_split (codes "merge") (codes "sample") _ _ (sample_enters words given samples printed says) refl;
    sample = λ found of. record { excuses = excuses; asks = sample_excuses found of excuses excused };
    sample_format = λ found of. sample_known known;
    some = λ none options check jobs merge found. sample_is_found words given samples printed says found;
  }

  -- what holds of all that is read of such words holds of all that is read
  sample_holds : (P : Words → Type 0) → ((found : Samples) (read : declared.Excuses) (prints : Printed) → AreSamplesOf (found_in words) (Some (found, prints))
      → AreExcusesIn found.flags (rows_in (found_in words)) read → HasKnownFormat (found_in words) → P (Sample found read prints)) → (w : Words) → IsReadOf (found_in words) w → P w
  sample_holds P sample (Replay word) is = absurd (no_schedule words (string_bytes word) (sample_has_no_schedule words given samples printed says) is)
  sample_holds P sample (Explore options read prints) is = absurd (sample_has_no_options words given samples printed says (options, prints) is.0)
  sample_holds P sample (ExploreJob options read line) is = absurd (sample_has_no_options words given samples printed says (options, report_alone) is.0)
  sample_holds P sample (Check found counts read) is = absurd (sample_has_no_check words given samples printed says (found, counts) is.0)
  sample_holds P sample (Jobs place) is = absurd (no_split (codes "jobs") (codes "sample") _ _ is.split (sample_enters words given samples printed says) refl is.read.found)
  sample_holds P sample (Merge depth level counts read) is = absurd (no_split (codes "merge") (codes "sample") _ _ _ (sample_enters words given samples printed says) refl is.found)
  sample_holds P sample (Sample found read prints) is = sample found read prints is.0 is.1.0 is.1.1

  nothing_sampled : ExcuseNothing given ⊎ HasNoFormat (formats_of given) → (found : Samples × Printed) (of : AreSamplesOf (found_in words) (Some found)) (read : declared.Excuses)
      → AreExcusesIn found.0.flags (rows_in (found_in words)) read → HasKnownFormat (found_in words) → ⊥
  nothing_sampled (inl bad) found of read excused known = sample_excuses_nothing found of read excused bad
  nothing_sampled (inr none) found of read excused known = sample_unknown none known

  sample_unread : ExcuseNothing given ⊎ HasNoFormat (formats_of given) → (w : Words) → IsReadOf (found_in words) w → ⊥
  sample_unread bad = sample_holds (λ w. ⊥) (λ found read prints of excused known. nothing_sampled bad (found, prints) of read excused known)

pub sample_asks : (words : List Text) (samples : Samples) (excuses : Excuses) (printed : Printed) → IsSample words samples excuses printed → AsksForOne (found_in words)
sample_asks words samples excuses printed asks = sample_asked words asks.given samples printed asks.says excuses asks.excused asks.known

pub sample_is_read : (words : List Text) (samples : Samples) (excuses : Excuses) (printed : Printed) → IsSample words samples excuses printed → (w : Words) → IsReadOf (found_in words) w
    → AsksSample samples excuses printed w
sample_is_read words samples excuses printed asks =
    sample_holds words asks.given samples printed asks.says (AsksSample samples excuses printed)
    (λ found read prints of excused known. let reads = sample_reads words asks.given samples printed asks.says (found, prints) of in
    let wanted = sample_excuses words asks.given samples printed asks.says (found, prints) of excuses asks.excused in
    (reads.0, (excuses_same found.flags (rows_in (found_in words)) excuses read wanted excused, reads.1)))

-- ---- any words

pub nothing_unread : (words : List Text) → AreUnreadable words → (w : Words) → IsReadOf (found_in words) w → ⊥
nothing_unread words (inl it) w is = explore_unread words it.given it.options it.printed it.says it.bad w is
nothing_unread words (inr (inl it)) w is = check_unread words it.given it.steps it.flags it.says it.bad w is
nothing_unread words (inr (inr (inl it))) w is = split_unread listing words it.given it.steps it.place it.flags it.says it.bad w is
nothing_unread words (inr (inr (inr (inl it)))) w is = split_unread merging words it.given it.steps it.place it.flags it.says it.bad w is
nothing_unread words (inr (inr (inr (inr it)))) w is = sample_unread words it.given it.samples it.printed it.says it.bad w is

module _ (words : List Text) (none : fault_of command_line words ≡ []) where
  -- what is read of words that are not at fault is in its range
  pub read_in_range : (w : Words) → IsReadOf (found_in words) w → IsInRange w
  read_in_range (Replay word) is = tt
  read_in_range (Explore options excuses printed) is = (found_in_range words (options, printed) none is.0, is.1.0.in_range)
  read_in_range (ExploreJob options excuses line) is = (found_in_range words (options, report_alone) none is.0, is.1.0.in_range)
  read_in_range (Check steps flags excuses) is = (check_in_range words (steps, flags) none is.0, is.1.in_range)
  read_in_range (Jobs place) is =
      let deepest = split_in_range listing words is.split none is.read.found in
      omega (arith, is.place_is, is.read.within, deepest)
  read_in_range (Merge steps place flags excuses) is =
      let deepest = split_in_range merging words (record { depth = steps; at = place; flags = flags }) none is.found in
      (deepest, is.within, is.excused.in_range)
  read_in_range (Sample samples excuses printed) is = (samples_in_range words (samples, printed) none is.0, is.1.0.in_range)

  -- and they begin with its name
  pub read_is_named : (w : Words) → IsReadOf (found_in words) w → IsNamed words (command_of w)
  read_is_named (Replay word) is = replay_named words (string_bytes word) none is
  read_is_named (Explore options excuses printed) is = explore_named words (options, printed) none is.0
  read_is_named (ExploreJob options excuses line) is = explore_named words (options, report_alone) none is.0
  read_is_named (Check steps flags excuses) is = check_named words (steps, flags) none is.0
  read_is_named (Jobs place) is = split_named (codes "jobs") words is.split none is.read.found
  read_is_named (Merge steps place flags excuses) is = split_named (codes "merge") words (record { depth = steps; at = place; flags = flags }) none is.found
  read_is_named (Sample samples excuses printed) is = sample_named words (samples, printed) none is.0
