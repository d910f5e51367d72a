-- What the program makes of the words of random schedules.
use Rattle.std.proofs.Common.{◌≡◌, ◌∙◌, ◌⊎◌, ℕ, ◌≤◌, Bool, true, false, List, [], length, Option, Some, None, codes, refl, sym, ap, subst, inl, inr, arith}
use Rattle.std.specs.Fmt.{decimal, digits}
use Rattle.std.specs.Prelude.{MatchBool, slice_get}
use Rattle.std.specs.Str.{bytes_eq}
use Rattle.std.proofs.lemmas.Slice.Eq.{bytes_eq-Decides}
use Rattle.clap.specs.Words.{Row, Text, fault_of, one_of, subcommand_of}
use Rattle.world_identities.specs.declared.flags.Flags.{Flags}
use Rattle.tree_findings.specs.declared.options.Options.{Options}
use Rattle.tree_schedules.specs.declared.delivery.Delivery.{Delivery}
use Rattle.tree_schedules.specs.declared.delivery.Delivery.TheVariants.{AnyTime, AtOnce}
use Rattle.search_samples.specs.declared.sample.Samples.{Samples}
use Rattle.program_words.specs.declared.words.Printed.{Printed}
use Rattle.program_words.specs.Words.{AreSamplesInRange, AreWordsOfSample, Given, IsGivenOr, delivers_at_once, formats_of, is_at_once, is_explain, runs_of, seeds_of}
use Rattle.program_words.specs.inside.CommandLine.{Splitter, command_line, listing, merging, sampling, split_name}
use Rattle.program_words.specs.inside.Found.{AreOptionsOf, AreSamplesIn, AreSamplesOf, AreSamplesRead, IsCheckOf, ReadsNumber, asks_terms, format_in, schedule_in}
use Rattle.program_words.proofs.Asked.{IsAsked, asked_enters, asked_has_no_schedule, asked_passes, at_most_once, depth_is_read, depth_read, flag_read, flags_read, format_given, given_each, given_once, number_not_read, number_read, number_text, one_digit, rows_of_given}
use Rattle.program_words.proofs.Entered.{entered_rows, number_fits}
use Rattle.program_words.proofs.Formats.{format_asks, format_once, format_plain}
use Rattle.program_words.proofs.Once.{AreOfSample, Each, sample_lawful_by}
use Rattle.program_words.proofs.Ranges.{depth_fits, runs_fits, seed_fits}
use Rattle.program_words.proofs.Rows.{at_once_row, explain_row, given_row, put_all, row_or, runs_left, runs_row, sample_at_once_left, sample_explain_left, sample_format_left, seed_left, seed_row}

-- where another command was found, there are no random schedules
pub no_samples : (name : Text) (rows : List Row) (o : Option (Text × List Row)) (read : Samples × Printed) → o ≡ Some (name, rows) → bytes_eq name (codes "sample") ≡ false → AreSamplesOf o (Some read) → ⊥
no_samples name rows o read enters differs found =
    let at : MatchBool (bytes_eq name (codes "sample")) (AreSamplesIn rows (Some read)) (Some read ≡ None) = subst (λ o. AreSamplesOf o (Some read)) enters found in
    let none : Some read ≡ None = subst (λ (b : Bool). MatchBool b (AreSamplesIn rows (Some read)) (Some read ≡ None)) differs at in
    cc

-- such as one that splits the tree
pub split_is_no_sample : (which : Splitter) → bytes_eq (split_name which) (codes "sample") ≡ false
split_is_no_sample listing = refl
split_is_no_sample merging = refl

-- ---- the texts of its numbers

thousand : codes "1000" ≡ decimal 1000
unfolding digits
thousand = refl

runs_text : (given : List Given) (n : ℕ) → IsGivenOr 1000 (runs_of given) n → one_of (codes "runs") (rows_of_given sampling given) ≡ Some (decimal n)
runs_text given n is =
    number_text (codes "runs") (codes "1000") 1000 n (rows_of_given sampling given) (runs_of given) thousand is
    (runs_left (put_all [] given) ∙ ap (row_or (codes "runs") (codes "1000")) (given_row (codes "runs") given refl ∙ runs_row given))

seed_text : (given : List Given) (n : ℕ) → IsGivenOr 1 (seeds_of given) n → one_of (codes "seed") (rows_of_given sampling given) ≡ Some (decimal n)
seed_text given n is =
    number_text (codes "seed") (codes "1") 1 n (rows_of_given sampling given) (seeds_of given) one_digit is
    (seed_left (put_all [] given) ∙ ap (row_or (codes "seed") (codes "1")) (given_row (codes "seed") given refl ∙ seed_row given))

-- ---- its format

pub sample_format : (given : List Given) → format_in (rows_of_given sampling given) ≡ slice_get (formats_of given) 0
sample_format given = format_given sampling given (sample_format_left (put_all [] given))

-- ---- when signals are delivered

same_delivery : (found delivery : Delivery) → delivers_at_once found ≡ delivers_at_once delivery → found ≡ delivery
same_delivery AnyTime AnyTime is = refl
same_delivery AnyTime AtOnce is = cc
same_delivery AtOnce AnyTime is = cc
same_delivery AtOnce AtOnce is = refl

-- ---- the words of random schedules

module _ (words : List Text) (given : List Given) (samples : Samples) (printed : Printed) (says : AreWordsOfSample words given samples printed) where
  own : AreOfSample given
  own = record {
    nodes = omega (arith, ap length says.no_nodes);
    workers = omega (arith, ap length says.no_workers);
    cover = omega (arith, says.no_cover);
    ats = omega (arith, ap length says.no_at);
    jobs = omega (arith, ap length says.no_job);
    states = omega (arith, says.no_states);
  }

  -- the options, each once, except for `--normal`, and in its range
  asked : IsAsked sampling words given samples.depth samples.flags
  asked = record {
    name = says.name;
    words_are = says.words_are;
    depth = says.depth;
    allow_deadlock = says.allow_deadlock;
    strict_access = says.strict_access;
    idle_servers = says.idle_servers;
    once = record {
      depths = omega (arith, ap length says.depth);
      nodes = omega (arith, ap length says.no_nodes);
      workers = omega (arith, ap length says.no_workers);
      allow_deadlock = at_most_once _ samples.flags.allow_deadlock says.allow_deadlock;
      main_deadlock = says.main_deadlock;
      idle_servers = at_most_once _ samples.flags.idle_servers says.idle_servers;
      strict_access = at_most_once _ samples.flags.strict_access says.strict_access;
      explain = at_most_once _ printed.explained says.explain;
      cover = omega (arith, says.no_cover);
      ats = omega (arith, ap length says.no_at);
      jobs = omega (arith, ap length says.no_job);
      states = omega (arith, says.no_states);
      at_once = at_most_once _ (delivers_at_once samples.delivery) says.at_once;
      runs = given_once 1000 samples.runs (runs_of given) says.runs;
      seeds = given_once 1 samples.seed (seeds_of given) says.seed;
      formats = format_once (formats_of given) printed.terms says.format;
    };
    lawful = sample_lawful_by given (subst (Each (λ n. n ≤ 400)) (sym says.depth) (says.in_range.depth, tt))
        (given_each (λ m. (1 ≤ m) × (m ≤ 1000000)) 1000 samples.runs (runs_of given) says.runs (says.in_range.some_runs, says.in_range.most_runs))
        (given_each (λ m. m ≤ 4294967295) 1 samples.seed (seeds_of given) says.seed says.in_range.seed)
        own says.normal (format_plain (formats_of given) printed.terms says.format);
    place = 0;
    has_place = tt;
    in_range = says.in_range.depth;
  }

  -- they have no fault
  pub sample_passes : fault_of command_line words ≡ []
  sample_passes = asked_passes sampling words given samples.depth samples.flags asked

  pub sample_enters : subcommand_of command_line words ≡ Some (codes "sample", rows_of_given sampling given)
  sample_enters = asked_enters sampling words given samples.depth samples.flags asked

  -- no schedule is found of them
  pub sample_has_no_schedule : schedule_in (subcommand_of command_line words) ≡ None
  sample_has_no_schedule = asked_has_no_schedule sampling words given samples.depth samples.flags asked

  -- no exploration
  pub sample_has_no_options : (read : Options × Printed) → AreOptionsOf (subcommand_of command_line words) (Some read) → ⊥
  sample_has_no_options read found =
      let none : Some read ≡ None = subst (λ o. AreOptionsOf o (Some read)) sample_enters found in
      cc

  -- and no check
  pub sample_has_no_check : (read : ℕ × Flags) → IsCheckOf (subcommand_of command_line words) (Some read) → ⊥
  sample_has_no_check read found =
      let none : Some read ≡ None = subst (λ o. IsCheckOf o (Some read)) sample_enters found in
      cc

  same_samples : (found : Samples) (prints : Printed) → AreSamplesRead (rows_of_given sampling given) found prints → found ≡ samples
  same_samples found prints read =
      let range = says.in_range in
      let rows = put_all [] given in
      let depth : found.depth ≡ samples.depth = depth_read sampling words given samples.depth samples.flags asked found.depth read.depth in
      let runs : found.runs ≡ samples.runs = number_read _ samples.runs found.runs (omega (arith, range.most_runs)) (runs_text given samples.runs says.runs) read.runs in
      let seed : found.seed ≡ samples.seed = number_read _ samples.seed found.seed (omega (arith, range.seed)) (seed_text given samples.seed says.seed) read.seed in
      let prompt = flag_read sampling (codes "at-once") is_at_once given (delivers_at_once samples.delivery) (delivers_at_once found.delivery) says.at_once
      (sample_at_once_left rows) (given_row (codes "at-once") given refl ∙ at_once_row given) read.at_once in
      let delivery : found.delivery ≡ samples.delivery = same_delivery found.delivery samples.delivery prompt in
      let flags : found.flags ≡ samples.flags = flags_read sampling words given samples.depth samples.flags asked found.flags read.flags in
      (λ i. record { depth = depth i; runs = runs i; seed = seed i; delivery = delivery i; flags = flags i })

  same_printed : (found : Samples) (prints : Printed) → AreSamplesRead (rows_of_given sampling given) found prints → prints ≡ printed
  same_printed found prints read =
      let explained : prints.explained ≡ printed.explained = flag_read sampling (codes "explain") is_explain given printed.explained prints.explained says.explain
      (sample_explain_left (put_all [] given)) (given_row (codes "explain") given refl ∙ explain_row given) read.explained in
      let cover : prints.cover ≡ printed.cover = read.no_cover ∙ sym says.no_cover_printed in
      let terms : prints.terms ≡ printed.terms = read.terms ∙ ap asks_terms (sample_format given) ∙ format_asks (formats_of given) printed.terms says.format in
      (λ i. record { explained = explained i; cover = cover i; terms = terms i })

  -- what is found is what the words ask for
  pub sample_reads : (read : Samples × Printed) → AreSamplesOf (subcommand_of command_line words) (Some read) → (read.0 ≡ samples) × (read.1 ≡ printed)
  sample_reads read found =
      let at : AreSamplesRead (rows_of_given sampling given) read.0 read.1 = subst (λ o. AreSamplesOf o (Some read)) sample_enters found in
      (same_samples read.0 read.1 at, same_printed read.0 read.1 at)

  -- and there is some
  pub sample_is_found : AreSamplesOf (subcommand_of command_line words) None → ⊥
  sample_is_found read = by (subst (λ o. AreSamplesOf o None) sample_enters read)
    where
      by : ReadsNumber (one_of (codes "depth") (rows_of_given sampling given)) None
          ⊎ (ReadsNumber (one_of (codes "runs") (rows_of_given sampling given)) None ⊎ ReadsNumber (one_of (codes "seed") (rows_of_given sampling given)) None) → ⊥
      by (inl depth) = depth_is_read sampling words given samples.depth samples.flags asked depth
      by (inr (inl runs)) = number_not_read _ samples.runs (omega (arith, says.in_range.most_runs)) (runs_text given samples.runs says.runs) runs
      by (inr (inr seed)) = number_not_read _ samples.seed (omega (arith, says.in_range.seed)) (seed_text given samples.seed says.seed) seed

-- ---- any words

-- what is found of words that are not at fault is in its range
pub samples_in_range : (words : List Text) (found : Samples × Printed) → fault_of command_line words ≡ [] → AreSamplesOf (subcommand_of command_line words) (Some found) → AreSamplesInRange found.0
samples_in_range words found none read = by (subcommand_of command_line words) refl read
  where
    in_rows : (rows : List Row) → subcommand_of command_line words ≡ Some (codes "sample", rows) → AreSamplesRead rows found.0 found.1 → AreSamplesInRange found.0
    in_rows rows entered read =
        let walk = entered_rows sampling words rows none entered in
        let depth = number_fits 0 400 found.0.depth (one_of (codes "depth") rows) read.depth (λ text is. depth_fits sampling walk.words text walk.passes (ap (one_of (codes "depth")) (sym walk.rows_are) ∙ is)) in
        let runs = number_fits 1 1000000 found.0.runs (one_of (codes "runs") rows) read.runs (λ text is. runs_fits walk.words text walk.passes (ap (one_of (codes "runs")) (sym walk.rows_are) ∙ is)) in
        let seed = number_fits 0 4294967295 found.0.seed (one_of (codes "seed") rows) read.seed (λ text is. seed_fits walk.words text walk.passes (ap (one_of (codes "seed")) (sym walk.rows_are) ∙ is)) in
        record { depth = depth.1; some_runs = runs.0; most_runs = runs.1; seed = seed.1 }

    by : (o : Option (Text × List Row)) → subcommand_of command_line words ≡ o → AreSamplesOf o (Some found) → AreSamplesInRange found.0
    by None entered read = cc
    by (Some p) entered read = at (bytes_eq p.0 (codes "sample")) refl read
      where
        at : (b : Bool) → bytes_eq p.0 (codes "sample") ≡ b → MatchBool b (AreSamplesIn p.1 (Some found)) (Some found ≡ None) → AreSamplesInRange found.0
        at false is read = cc
        at true is read =
            let name : p.0 ≡ codes "sample" = (bytes_eq-Decides p.0 (codes "sample")).0 is in
            in_rows p.1 (entered ∙ ap (λ (n : Text). Some (n, p.1)) name) read
