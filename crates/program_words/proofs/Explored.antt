-- What the program makes of the words of an exploration.
use Rattle.std.proofs.Common.{◌≡◌, ◌∙◌, ◌⊎◌, ℕ, ◌≤◌, Bool, true, false, List, [], length, Option, Some, None, cond, codes, option_map, refl, sym, ap, subst, inl, inr, arith}
use Rattle.std.specs.Fmt.{decimal, digits}
use Rattle.std.specs.List.{count_by}
use Rattle.std.specs.Prelude.{MatchBool, option_and_then, slice_get}
use Rattle.std.specs.Str.{bytes_eq}
use Rattle.std.proofs.lemmas.Slice.Eq.{bytes_eq-Decides}
use Rattle.clap.specs.Words.{Row, Text, fault_of, first_of, one_of, subcommand_of}
use Rattle.world_identities.specs.declared.flags.Flags.{Flags}
use Rattle.tree_findings.specs.declared.options.Options.{Options}
use Rattle.tree_findings.specs.declared.options.Search.{Search}
use Rattle.tree_findings.specs.declared.options.Search.TheVariants.{ByTree, ByStates}
use Rattle.tree_schedules.specs.declared.delivery.Delivery.TheVariants.{AnyTime, AtOnce}
use Rattle.program_words.specs.declared.words.Printed.{Printed}
use Rattle.program_words.specs.Words.{AreInRange, AreWordsOfExplore, AsksSearch, Given, IsGivenOr, formats_of, is_at_once, is_by_states, is_cover, is_explain, is_states, job, jobs_of, nodes_of, workers_of}
use Rattle.program_words.specs.inside.CommandLine.{command_line, exploring}
use Rattle.program_words.specs.inside.Found.{AreOptionsIn, AreOptionsOf, AreRead, IsCheckOf, IsSearchOf, ReadsNumber, asks_terms, format_in, is_prompt, job_in, schedule_in}
use Rattle.program_words.proofs.Asked.{IsAsked, asked_enters, asked_has_no_schedule, asked_passes, at_most_once, depth_is_read, depth_read, flag_read, flags_read, format_given, given_each, given_once, number_not_read, number_read, number_text, one_digit, rows_of_given}
use Rattle.program_words.proofs.Entered.{entered_rows, number_fits}
use Rattle.program_words.proofs.Formats.{format_asks, format_once, format_plain}
use Rattle.program_words.proofs.Once.{Each, lawful_by}
use Rattle.program_words.proofs.Ranges.{depth_fits, nodes_fits, workers_fits}
use Rattle.program_words.proofs.Rows.{at_once_left, at_once_row, cover_left, cover_row, explain_left, explain_row, format_left, given_row, job_left, job_row, nodes_left, nodes_row, put_all, row_of, row_or, states_left, states_row, workers_left, workers_row}

-- ---- the texts of its numbers

million : codes "1000000" ≡ decimal 1000000
unfolding digits
million = refl

nodes_text : (given : List Given) (n : ℕ) → IsGivenOr 1000000 (nodes_of given) n → one_of (codes "nodes") (rows_of_given exploring given) ≡ Some (decimal n)
nodes_text given n is =
    number_text (codes "nodes") (codes "1000000") 1000000 n (rows_of_given exploring given) (nodes_of given) million is
    (nodes_left (put_all [] given) ∙ ap (row_or (codes "nodes") (codes "1000000")) (given_row (codes "nodes") given refl ∙ nodes_row given))

workers_text : (given : List Given) (n : ℕ) → IsGivenOr 1 (workers_of given) n → one_of (codes "workers") (rows_of_given exploring given) ≡ Some (decimal n)
workers_text given n is =
    number_text (codes "workers") (codes "1") 1 n (rows_of_given exploring given) (workers_of given) one_digit is
    (workers_left (put_all [] given) ∙ ap (row_or (codes "workers") (codes "1")) (given_row (codes "workers") given refl ∙ workers_row given))

-- ---- the line of its job

job_given : (given : List Given) → first_of (codes "job") (rows_of_given exploring given) ≡ slice_get (jobs_of given) 0
job_given given = ap (option_and_then (λ (r : Row). slice_get r.values 0)) (job_left (put_all [] given) ∙ given_row (codes "job") given refl ∙ job_row given) ∙ by (slice_get (jobs_of given) 0)
  where
    by : (o : Option Text) → option_and_then (λ (r : Row). slice_get r.values 0) (option_map (λ line. row_of (job line)) o) ≡ o
    by None = refl
    by (Some line) = refl

-- ---- its format

pub explore_format : (given : List Given) → format_in (rows_of_given exploring given) ≡ slice_get (formats_of given) 0
explore_format given = format_given exploring given (format_left (put_all [] given))

-- ---- its search

-- searches are the same where both or neither are by states, and both or neither deliver signals at once
same_search : (found search : Search) → is_by_states found ≡ is_by_states search → is_prompt found ≡ is_prompt search → found ≡ search
same_search ByTree ByTree states prompt = refl
same_search ByTree (ByStates when) states prompt = cc
same_search (ByStates when) ByTree states prompt = cc
same_search (ByStates AnyTime) (ByStates AnyTime) states prompt = refl
same_search (ByStates AnyTime) (ByStates AtOnce) states prompt = cc
same_search (ByStates AtOnce) (ByStates AnyTime) states prompt = cc
same_search (ByStates AtOnce) (ByStates AtOnce) states prompt = refl

-- a search with signals delivered at once is by states
prompt_by_states : (found : Search) → is_prompt found ≡ true → is_by_states found ≡ true
prompt_by_states ByTree prompt = cc
prompt_by_states (ByStates when) prompt = refl

-- the options that ask for it are given once or not at all
search_once : (by_states prompt : ℕ) (search : Search) → AsksSearch by_states prompt search → (by_states ≤ 1) × (prompt ≤ 1)
search_once by_states prompt ByTree asks = (omega (arith, asks.0), omega (arith, asks.1))
search_once by_states prompt (ByStates AnyTime) asks = (omega (arith, asks.0), omega (arith, asks.1))
search_once by_states prompt (ByStates AtOnce) asks = (asks.0, omega (arith, asks.1))

-- ---- the words of an exploration

module _ (words : List Text) (given : List Given) (options : Options) (printed : Printed) (says : AreWordsOfExplore words given options printed) where
  asked : IsAsked exploring words given options.depth options.flags
  asked = record {
    name = says.name;
    words_are = says.words_are;
    depth = says.depth;
    allow_deadlock = says.allow_deadlock;
    strict_access = says.strict_access;
    idle_servers = says.idle_servers;
    once = record {
      depths = omega (arith, ap length says.depth);
      nodes = given_once 1000000 options.nodes (nodes_of given) says.nodes;
      workers = given_once 1 options.workers (workers_of given) says.workers;
      allow_deadlock = at_most_once _ options.flags.allow_deadlock says.allow_deadlock;
      main_deadlock = says.main_deadlock;
      idle_servers = at_most_once _ options.flags.idle_servers says.idle_servers;
      strict_access = at_most_once _ options.flags.strict_access says.strict_access;
      explain = at_most_once _ printed.explained says.explain;
      cover = at_most_once _ printed.cover says.cover;
      ats = omega (arith, ap length says.no_at);
      jobs = says.job;
      states = (search_once _ _ options.search says.search).0;
      at_once = (search_once _ _ options.search says.search).1;
      runs = omega (arith, ap length says.no_runs);
      seeds = omega (arith, ap length says.no_seed);
      formats = format_once (formats_of given) printed.terms says.format;
    };
    lawful = lawful_by given (subst (Each (λ n. n ≤ 400)) (sym says.depth) (says.in_range.depth, tt))
        (given_each (λ m. (1 ≤ m) × (m ≤ 10000000)) 1000000 options.nodes (nodes_of given) says.nodes (says.in_range.least_nodes, says.in_range.most_nodes))
        (given_each (λ m. (1 ≤ m) × (m ≤ 16)) 1 options.workers (workers_of given) says.workers (says.in_range.some_workers, says.in_range.most_workers))
        (omega (arith, ap length says.no_at), omega (arith, ap length says.no_runs), omega (arith, ap length says.no_seed)) says.normal says.line (format_plain (formats_of given) printed.terms says.format);
    place = 0;
    has_place = tt;
    in_range = says.in_range.depth;
  }

  -- they have no fault
  pub explore_passes : fault_of command_line words ≡ []
  explore_passes = asked_passes exploring words given options.depth options.flags asked

  pub explore_enters : subcommand_of command_line words ≡ Some (codes "explore", rows_of_given exploring given)
  explore_enters = asked_enters exploring words given options.depth options.flags asked

  -- no schedule is found of them
  pub explore_has_no_schedule : schedule_in (subcommand_of command_line words) ≡ None
  explore_has_no_schedule = asked_has_no_schedule exploring words given options.depth options.flags asked

  -- and no check
  pub explore_has_no_check : (read : ℕ × Flags) → IsCheckOf (subcommand_of command_line words) (Some read) → ⊥
  explore_has_no_check read found =
      let none : Some read ≡ None = subst (λ o. IsCheckOf o (Some read)) explore_enters found in
      cc

  -- the job that is found is the one that is given
  pub explore_job : job_in (subcommand_of command_line words) ≡ slice_get (jobs_of given) 0
  explore_job = ap job_in explore_enters ∙ job_given given

  search_read : (found : Search) → IsSearchOf (rows_of_given exploring given) found → found ≡ options.search
  search_read found read = by options.search says.search
    where
      prompt_read : (flag : Bool) → count_by is_at_once given ≡ cond flag 1 0 → is_prompt found ≡ flag
      prompt_read flag counted =
          flag_read exploring (codes "at-once") is_at_once given flag (is_prompt found) counted (at_once_left (put_all [] given)) (given_row (codes "at-once") given refl ∙ at_once_row given) read.at_once

      states_read : (flag : Bool) → count_by is_states given ≡ cond flag 1 0 → is_prompt found ≡ false → is_by_states found ≡ flag
      states_read flag counted later =
          flag_read exploring (codes "states") is_states given flag (is_by_states found) counted (states_left (put_all [] given)) (given_row (codes "states") given refl ∙ states_row given) (read.states later)

      by : (search : Search) → AsksSearch (count_by is_states given) (count_by is_at_once given) search → found ≡ search
      by ByTree asks =
          let later = prompt_read false asks.1 in
          same_search found ByTree (states_read false asks.0 later) later
      by (ByStates AnyTime) asks =
          let later = prompt_read false asks.1 in
          same_search found (ByStates AnyTime) (states_read true asks.0 later) later
      by (ByStates AtOnce) asks =
          let prompt = prompt_read true asks.1 in
          same_search found (ByStates AtOnce) (prompt_by_states found prompt) prompt

  same_options : (found : Options) (prints : Printed) → AreRead (rows_of_given exploring given) found prints → found ≡ options
  same_options found prints read =
      let range = says.in_range in
      let depth : found.depth ≡ options.depth = depth_read exploring words given options.depth options.flags asked found.depth read.depth in
      let nodes : found.nodes ≡ options.nodes = number_read _ options.nodes found.nodes (omega (arith, range.most_nodes)) (nodes_text given options.nodes says.nodes) read.nodes in
      let budget : found.budget ≡ options.budget = read.budget ∙ sym range.budget in
      let workers : found.workers ≡ options.workers = number_read _ options.workers found.workers (omega (arith, range.most_workers)) (workers_text given options.workers says.workers) read.workers in
      let search : found.search ≡ options.search = search_read found.search read.search in
      let flags : found.flags ≡ options.flags = flags_read exploring words given options.depth options.flags asked found.flags read.flags in
      (λ i. record { depth = depth i; nodes = nodes i; budget = budget i; workers = workers i; search = search i; flags = flags i })

  same_printed : (found : Options) (prints : Printed) → AreRead (rows_of_given exploring given) found prints → prints ≡ printed
  same_printed found prints read =
      let rows = put_all [] given in
      let explained : prints.explained ≡ printed.explained = flag_read exploring (codes "explain") is_explain given printed.explained prints.explained says.explain
      (explain_left rows) (given_row (codes "explain") given refl ∙ explain_row given) read.prints.explained in
      let cover : prints.cover ≡ printed.cover = flag_read exploring (codes "cover") is_cover given printed.cover prints.cover says.cover
      (cover_left rows) (given_row (codes "cover") given refl ∙ cover_row given) read.prints.cover in
      let terms : prints.terms ≡ printed.terms = read.prints.terms ∙ ap asks_terms (explore_format given) ∙ format_asks (formats_of given) printed.terms says.format in
      (λ i. record { explained = explained i; cover = cover i; terms = terms i })

  -- the options that are found are those that the words ask for
  pub explore_reads : (read : Options × Printed) → AreOptionsOf (subcommand_of command_line words) (Some read) → (read.0 ≡ options) × (read.1 ≡ printed)
  explore_reads read found =
      let at : AreRead (rows_of_given exploring given) read.0 read.1 = subst (λ o. AreOptionsOf o (Some read)) explore_enters found in
      (same_options read.0 read.1 at, same_printed read.0 read.1 at)

  -- and there are some
  pub explore_is_found : AreOptionsOf (subcommand_of command_line words) None → ⊥
  explore_is_found read = by (subst (λ o. AreOptionsOf o None) explore_enters read)
    where
      by : ReadsNumber (one_of (codes "depth") (rows_of_given exploring given)) None
          ⊎ (ReadsNumber (one_of (codes "nodes") (rows_of_given exploring given)) None ⊎ ReadsNumber (one_of (codes "workers") (rows_of_given exploring given)) None) → ⊥
      by (inl depth) = depth_is_read exploring words given options.depth options.flags asked depth
      by (inr (inl nodes)) = number_not_read _ options.nodes (omega (arith, says.in_range.most_nodes)) (nodes_text given options.nodes says.nodes) nodes
      by (inr (inr workers)) = number_not_read _ options.workers (omega (arith, says.in_range.most_workers)) (workers_text given options.workers says.workers) workers

-- ---- any words

-- what is found of words that are not at fault is in its range
pub found_in_range : (words : List Text) (found : Options × Printed) → fault_of command_line words ≡ [] → AreOptionsOf (subcommand_of command_line words) (Some found) → AreInRange found.0
found_in_range words found none read = by (subcommand_of command_line words) refl read
  where
    in_rows : (rows : List Row) → subcommand_of command_line words ≡ Some (codes "explore", rows) → AreRead rows found.0 found.1 → AreInRange found.0
    in_rows rows entered read =
        let walk = entered_rows exploring words rows none entered in
        let depth = number_fits 0 400 found.0.depth (one_of (codes "depth") rows) read.depth (λ text is. depth_fits exploring walk.words text walk.passes (ap (one_of (codes "depth")) (sym walk.rows_are) ∙ is)) in
        let nodes = number_fits 1 10000000 found.0.nodes (one_of (codes "nodes") rows) read.nodes (λ text is. nodes_fits walk.words text walk.passes (ap (one_of (codes "nodes")) (sym walk.rows_are) ∙ is)) in
        let workers = number_fits 1 16 found.0.workers (one_of (codes "workers") rows) read.workers (λ text is. workers_fits walk.words text walk.passes (ap (one_of (codes "workers")) (sym walk.rows_are) ∙ is)) in
        record { depth = depth.1; least_nodes = nodes.0; most_nodes = nodes.1; budget = read.budget; some_workers = workers.0; most_workers = workers.1 }

    by : (o : Option (Text × List Row)) → subcommand_of command_line words ≡ o → AreOptionsOf o (Some found) → AreInRange found.0
    by None entered read = cc
    by (Some p) entered read = at (bytes_eq p.0 (codes "explore")) refl read
      where
        at : (b : Bool) → bytes_eq p.0 (codes "explore") ≡ b → MatchBool b (AreOptionsIn p.1 (Some found)) (Some found ≡ None) → AreInRange found.0
        at false is read = cc
        at true is read =
            let name : p.0 ≡ codes "explore" = (bytes_eq-Decides p.0 (codes "explore")).0 is in
            in_rows p.1 (entered ∙ ap (λ (n : Text). Some (n, p.1)) name) read
