-- What the program makes of the words of a check.
use Rattle.std.proofs.Common.{◌≡◌, ◌∙◌, ℕ, ◌≤◌, Bool, true, false, List, [], length, Option, Some, None, codes, refl, sym, ap, subst, arith}
use Rattle.std.specs.Prelude.{MatchBool}
use Rattle.std.specs.Str.{bytes_eq}
use Rattle.std.proofs.lemmas.Slice.Eq.{bytes_eq-Decides}
use Rattle.clap.specs.Words.{Row, Text, fault_of, one_of, subcommand_of}
use Rattle.world_identities.specs.declared.flags.Flags.{Flags}
use Rattle.tree_findings.specs.declared.options.Options.{Options}
use Rattle.program_words.specs.declared.words.Printed.{Printed}
use Rattle.program_words.specs.Words.{AreWordsOfCheck, Given}
use Rattle.program_words.specs.inside.CommandLine.{checking, command_line}
use Rattle.program_words.specs.inside.Found.{AreOptionsOf, IsCheckIn, IsCheckOf, schedule_in}
use Rattle.program_words.proofs.Asked.{IsAsked, asked_enters, asked_has_no_schedule, asked_passes, at_most_once, depth_is_read, depth_read, flags_read, rows_of_given}
use Rattle.program_words.proofs.Entered.{entered_rows, number_fits}
use Rattle.program_words.proofs.Once.{AreOfNoExploration, Each, check_lawful_by}
use Rattle.program_words.proofs.Ranges.{depth_fits}

module _ (words : List Text) (given : List Given) (steps : ℕ) (flags : Flags) (says : AreWordsOfCheck words given steps flags) where
  none : AreOfNoExploration given
  none = record {
    nodes = omega (arith, ap length says.no_nodes);
    workers = omega (arith, ap length says.no_workers);
    explain = omega (arith, says.no_explain);
    cover = omega (arith, says.no_cover);
    jobs = omega (arith, ap length says.no_job);
    states = omega (arith, says.no_states);
    at_once = omega (arith, says.no_at_once);
    runs = omega (arith, ap length says.no_runs);
    seeds = omega (arith, ap length says.no_seed);
    formats = omega (arith, ap length says.no_format);
  }

  -- the options of a check, each once, except for `--normal`, and in its range
  asked : IsAsked checking words given steps flags
  asked = record {
    name = says.name;
    words_are = says.words_are;
    depth = says.depth;
    allow_deadlock = says.allow_deadlock;
    strict_access = says.strict_access;
    idle_servers = says.idle_servers;
    once = record {
      depths = omega (arith, ap length says.depth);
      nodes = omega (arith, ap length says.no_nodes);
      workers = omega (arith, ap length says.no_workers);
      allow_deadlock = at_most_once _ flags.allow_deadlock says.allow_deadlock;
      main_deadlock = says.main_deadlock;
      idle_servers = at_most_once _ flags.idle_servers says.idle_servers;
      strict_access = at_most_once _ flags.strict_access says.strict_access;
      explain = omega (arith, says.no_explain);
      cover = omega (arith, says.no_cover);
      ats = omega (arith, ap length says.no_at);
      jobs = omega (arith, ap length says.no_job);
      states = omega (arith, says.no_states);
      at_once = omega (arith, says.no_at_once);
      runs = omega (arith, ap length says.no_runs);
      seeds = omega (arith, ap length says.no_seed);
      formats = omega (arith, ap length says.no_format);
    };
    lawful = check_lawful_by given (subst (Each (λ n. n ≤ 400)) (sym says.depth) (says.in_range, tt)) (omega (arith, ap length says.no_at)) none says.normal;
    place = 0;
    has_place = tt;
    in_range = says.in_range;
  }

  -- the words of a check have no fault
  pub check_passes : fault_of command_line words ≡ []
  check_passes = asked_passes checking words given steps flags asked

  pub check_enters : subcommand_of command_line words ≡ Some (codes "check", rows_of_given checking given)
  check_enters = asked_enters checking words given steps flags asked

  -- no schedule is found of them
  pub check_has_no_schedule : schedule_in (subcommand_of command_line words) ≡ None
  check_has_no_schedule = asked_has_no_schedule checking words given steps flags asked

  -- and no exploration
  pub check_has_no_options : (read : Options × Printed) → AreOptionsOf (subcommand_of command_line words) (Some read) → ⊥
  check_has_no_options read found =
      let none : Some read ≡ None = subst (λ o. AreOptionsOf o (Some read)) check_enters found in
      cc

  -- the depth and the flags that are found are those that the words ask for
  pub check_reads : (read : ℕ × Flags) → IsCheckOf (subcommand_of command_line words) (Some read) → (read.0 ≡ steps) × (read.1 ≡ flags)
  check_reads read found =
      let at : IsCheckIn (rows_of_given checking given) (Some read) = subst (λ o. IsCheckOf o (Some read)) check_enters found in
      (depth_read checking words given steps flags asked read.0 at.0, flags_read checking words given steps flags asked read.1 at.1)

  -- and there are some
  pub check_is_found : IsCheckOf (subcommand_of command_line words) None → ⊥
  check_is_found read = depth_is_read checking words given steps flags asked (subst (λ o. IsCheckOf o None) check_enters read)

-- what is found of words that are not at fault is in its range
pub check_in_range : (words : List Text) (found : ℕ × Flags) → fault_of command_line words ≡ [] → IsCheckOf (subcommand_of command_line words) (Some found) → found.0 ≤ 400
check_in_range words found none read = by (subcommand_of command_line words) refl read
  where
    in_rows : (rows : List Row) → subcommand_of command_line words ≡ Some (codes "check", rows) → IsCheckIn rows (Some found) → found.0 ≤ 400
    in_rows rows entered read =
        let walk = entered_rows checking words rows none entered in
        (number_fits 0 400 found.0 (one_of (codes "depth") rows) read.0 (λ text is. depth_fits checking walk.words text walk.passes (ap (one_of (codes "depth")) (sym walk.rows_are) ∙ is))).1

    by : (o : Option (Text × List Row)) → subcommand_of command_line words ≡ o → IsCheckOf o (Some found) → found.0 ≤ 400
    by None entered read = cc
    by (Some p) entered read = at (bytes_eq p.0 (codes "check")) refl read
      where
        at : (b : Bool) → bytes_eq p.0 (codes "check") ≡ b → MatchBool b (IsCheckIn p.1 (Some found)) (Some found ≡ None) → found.0 ≤ 400
        at false is read = cc
        at true is read =
            let name : p.0 ≡ codes "check" = (bytes_eq-Decides p.0 (codes "check")).0 is in
            in_rows p.1 (entered ∙ ap (λ (n : Text). Some (n, p.1)) name) read
