-- What is read of a report.
use Rattle.std.proofs.Common.{◌≡◌, ◌⊎◌, inl, inr, ⊎_elim, Bool, filter, ℕ, List, [], ◌++◌, codes, ap, sym, refl, ◌∙◌, subst}
use Rattle.world_model.specs.Shown.{Flags}
use Rattle.tree_coverage.specs.Findings.{Finding}
use Rattle.tree_excuses.specs.Excuses.{Excuses, stands}
use Rattle.tree_excuses.specs.declared.standing.Standing.TheVariants as standings
use Rattle.tree_findings.specs.declared.outcome.Outcome.{Outcome}
use Rattle.report_text.specs.ReportText.{findings_from, findings_in}
use Rattle.report_reader.specs.Lawful.{HasHigh, IsTooHigh}
use Rattle.report_reader.specs.declared.fault.Stop.{Stop}
use Rattle.report_reader.specs.declared.first_line.Reach.{Reach}
use Rattle.report_reader.specs.declared.kinds.Kind.{Kind}
use Rattle.report_reader.specs.declared.kinds.Kind.TheVariants.{Error, Refusal, Normal}
use Rattle.report_reader.specs.inside.Reading.{Anything, EndsFindings, EndsLists, IsNever, IsReadOn, Lists, ListsAreHigh, RefusesOn, SaysEnd, SaysFindings, SaysLists, SaysOthers, SaysReach, SaysReport, SaysRest, end_of, outcome_of}
use Rattle.report_reader.proofs.ListLaws.{among_kept}
use Rattle.report_reader.proofs.ReportTexts.{end_follows, lists_of, normal_begin, others_begin, outcome_again, pieces_say, reach_of, says_pieces}
use Rattle.report_reader.proofs.Sequence.{IsSequence, both_read, first_refused, read_before, refused_before, second_refused}

-- no findings
none_said : (kind : Kind) (flags : Flags) (x : Excuses) (rest : List ℕ) → EndsFindings kind rest → SaysFindings kind flags x rest [] rest
none_said kind flags x rest ends = record { lawful = record { sorted = tt; lawful = tt; pass = tt }; ends = ends; parts = refl }

-- ---- the three lists

abbrev pub Pair : Type 0
Pair = List Finding × List Finding

abbrev pub PairIsHigh : Pair → Type 0
PairIsHigh l = HasHigh l.0 ⊎ HasHigh l.1

abbrev pub pair_of : List Finding → List Finding → Pair
pair_of rs ns = (rs, ns)

abbrev pub lists_with : List Finding → Pair → Lists
lists_with es l = record { errors = es; refusals = l.0; normal = l.1 }

module _ (flags : Flags) (x : Excuses) where
  -- the refusals, and then what is taken as normal
  pub others_in_parts : IsSequence (EndsFindings Refusal) EndsLists HasHigh HasHigh PairIsHigh (SaysFindings Refusal flags x) (λ rs. SaysFindings Normal flags x) (SaysOthers flags x) pair_of
  others_in_parts = record {
    join = λ text rs third ns rest first second. record { third = third; refusals = first; normal = second };
    split = λ text l rest s. record { one = l.0; mid = s.third; two = l.1; first = s.refusals; second = s.normal; is = refl };
    fit = λ rs text ns rest ends s. subst (EndsFindings Refusal) (sym s.parts) (normal_begin ns rest ends.refusals);
    first_high = λ text l rest s high. inl high;
    second_high = λ text l rest s high. inr high;
    last = λ rs. [];
    end = λ rs. [];
    completes = λ rs after ends. none_said Normal flags x after ends.normal;
  }

  -- the errors, and then the others
  pub lists_in_parts : IsSequence (EndsFindings Error) EndsLists HasHigh PairIsHigh ListsAreHigh (SaysFindings Error flags x) (λ es. SaysOthers flags x) (SaysLists flags x) lists_with
  lists_in_parts = record {
    join = λ text es second l rest first others. record { second = second; errors = first; others = others };
    split = λ text l rest s. record { one = l.errors; mid = s.second; two = (l.refusals, l.normal); first = s.errors; second = s.others; is = refl };
    fit = λ es text l rest ends s.
        subst (EndsFindings Error) (sym (s.refusals.parts ∙ ap (λ w. findings_from (codes "refusal") 1 l.0 ++ w) s.normal.parts)) (others_begin l.0 l.1 rest ends.errors);
    first_high = λ text l rest s high. inl high;
    second_high = λ text l rest s high. inr high;
    last = λ es. ([], []);
    end = λ es. [];
    completes = λ es after ends. record { third = after; refusals = none_said Refusal flags x after ends.refusals; normal = none_said Normal flags x after ends.normal };
  }

-- ---- the whole

-- where a list has one that is too high, so have the errors or the refusals
high_kept : (test : Finding → Bool) (fs : List Finding) → HasHigh (filter test fs) → HasHigh fs
high_kept test fs h = record { finding = h.finding; among = among_kept test h.finding fs h.among; high = h.high }

too_high : (x : Excuses) (o : Outcome) → ListsAreHigh (lists_of x o) → IsTooHigh o
too_high x o high =
    let errors = (findings_in o).errors in
    ⊎_elim (λ h. inl (high_kept (λ (f : Finding). stands x standings.Counts f.identity) errors h)) (λ more. ⊎_elim (λ h. inr h) (λ h. inl (high_kept (λ (f : Finding). stands x standings.Normal f.identity) errors h)) more) high

abbrev pub no_lists : Lists
no_lists = record { errors = []; refusals = []; normal = [] }

-- the lists without what ends the report
abbrev pub lists_alone : Lists → Unit {0} → Lists
lists_alone l nothing = l

module _ (flags : Flags) (x : Excuses) where
  -- the lists, and then the end
  pub rest_in_parts : (reach : Reach) → IsSequence EndsLists Anything ListsAreHigh (IsNever {A = Unit {0}}) ListsAreHigh (SaysLists flags x) (SaysEnd x reach) (SaysRest flags x reach) lists_alone
  rest_in_parts reach = record {
    join = λ text l second nothing rest first ends. record { second = second; lists = first; ends = ends };
    split = λ text l rest s. record { one = l; mid = s.second; two = tt; first = s.lists; second = s.ends; is = refl };
    fit = λ l text nothing rest fits ends. subst EndsLists (sym ends) (end_follows x reach l rest);
    first_high = λ text l rest s high. high;
    second_high = λ text l rest s high. absurd high;
    last = λ l. tt;
    end = λ l. end_of x reach l;
    completes = λ l after fits. refl;
  }

  no_lists_said : (rest : List ℕ) → EndsLists rest → SaysLists flags x rest no_lists rest
  no_lists_said rest ends = record {
    second = rest;
    errors = none_said Error flags x rest ends.errors;
    others = record { third = rest; refusals = none_said Refusal flags x rest ends.refusals; normal = none_said Normal flags x rest ends.normal };
  }

  -- how far it came, and then the rest
  pub report_in_parts : (depth : ℕ) → IsSequence Anything Anything (IsNever {A = Reach}) ListsAreHigh IsTooHigh (SaysReach depth) (SaysRest flags x) (SaysReport depth flags x) outcome_of
  report_in_parts depth = record {
    join = λ text reach mid l rest first second. pieces_say depth flags x text reach mid l rest first second;
    split = λ text o rest s.
        let p = says_pieces depth flags x text o rest s in
        record { one = reach_of o; mid = p.first; two = lists_of x o; first = p.reach_said; second = p.rest_said; is = sym (outcome_again flags x o s.0) };
    fit = λ reach text l rest fits s. tt;
    first_high = λ text o rest s high. absurd high;
    second_high = λ text o rest s high. too_high x o high;
    last = λ reach. no_lists;
    end = λ reach. end_of x reach no_lists;
    completes = λ reach after fits. record { second = end_of x reach no_lists ++ after; lists = no_lists_said (end_of x reach no_lists ++ after) (end_follows x reach no_lists after); ends = refl };
  }

-- ---- what was read so far

module _ (flags : Flags) (x : Excuses) (text : List ℕ) where
  abbrev Errors : List ℕ → List Finding → List ℕ → Type 0
  Errors = SaysFindings Error flags x

  abbrev Refusals : List ℕ → List Finding → List ℕ → Type 0
  Refusals = SaysFindings Refusal flags x

  abbrev Others : List ℕ → Pair → List ℕ → Type 0
  Others = SaysOthers flags x

  pub no_errors : (stop : Stop) → RefusesOn HasHigh (EndsFindings Error) Errors text stop → RefusesOn ListsAreHigh EndsLists (SaysLists flags x) text stop
  no_errors stop none = first_refused (EndsFindings Error) EndsLists HasHigh PairIsHigh ListsAreHigh Errors (λ es. Others) (SaysLists flags x) lists_with (lists_in_parts flags x) text stop none

  -- the others are bad
  no_others : (es : List Finding) (second : List ℕ) (stop : Stop) → IsReadOn (EndsFindings Error) Errors text es second → RefusesOn PairIsHigh EndsLists Others second stop → RefusesOn ListsAreHigh EndsLists (SaysLists flags x) text stop
  no_others es second stop errors none = second_refused (EndsFindings Error) EndsLists HasHigh PairIsHigh ListsAreHigh Errors (λ es. Others) (SaysLists flags x) lists_with (lists_in_parts flags x) text es second stop errors none

  pub no_refusals : (es : List Finding) (second : List ℕ) (stop : Stop) → IsReadOn (EndsFindings Error) Errors text es second → RefusesOn HasHigh (EndsFindings Refusal) Refusals second stop
      → RefusesOn ListsAreHigh EndsLists (SaysLists flags x) text stop
  no_refusals es second stop errors none =
      no_others es second stop errors (first_refused (EndsFindings Refusal) EndsLists HasHigh HasHigh PairIsHigh Refusals (λ rs. SaysFindings Normal flags x) Others pair_of (others_in_parts flags x) second stop none)

  pub no_normal : (es rs : List Finding) (second third : List ℕ) (stop : Stop) → IsReadOn (EndsFindings Error) Errors text es second → IsReadOn (EndsFindings Refusal) Refusals second rs third
      → RefusesOn HasHigh (EndsFindings Normal) (SaysFindings Normal flags x) third stop → RefusesOn ListsAreHigh EndsLists (SaysLists flags x) text stop
  no_normal es rs second third stop errors refusals none =
      no_others es second stop errors
      (second_refused (EndsFindings Refusal) EndsLists HasHigh HasHigh PairIsHigh Refusals (λ rs. SaysFindings Normal flags x) Others pair_of (others_in_parts flags x) second rs third stop refusals
      (refused_before HasHigh (EndsFindings Normal) EndsLists (SaysFindings Normal flags x) (λ rest ends. ends.normal) third stop none))

  pub lists_of_all : (es rs ns : List Finding) (second third rest : List ℕ) → IsReadOn (EndsFindings Error) Errors text es second → IsReadOn (EndsFindings Refusal) Refusals second rs third
      → IsReadOn (EndsFindings Normal) (SaysFindings Normal flags x) third ns rest → IsReadOn EndsLists (SaysLists flags x) text (record { errors = es; refusals = rs; normal = ns }) rest
  lists_of_all es rs ns second third rest errors refusals normal =
      both_read (EndsFindings Error) EndsLists HasHigh PairIsHigh ListsAreHigh Errors (λ es. Others) (SaysLists flags x) lists_with (lists_in_parts flags x) text es second (rs, ns) rest errors
      (both_read (EndsFindings Refusal) EndsLists HasHigh HasHigh PairIsHigh Refusals (λ rs. SaysFindings Normal flags x) Others pair_of (others_in_parts flags x) second rs third ns rest refusals
      (read_before (EndsFindings Normal) EndsLists (SaysFindings Normal flags x) (λ rest ends. ends.normal) third ns rest normal))

module _ (flags : Flags) (x : Excuses) (depth : ℕ) (text : List ℕ) where
  abbrev Says : List ℕ → Outcome → List ℕ → Type 0
  Says = SaysReport depth flags x

  pub no_far : (stop : Stop) → RefusesOn IsNever Anything (SaysReach depth) text stop → RefusesOn IsTooHigh Anything Says text stop
  no_far stop none = first_refused Anything Anything (IsNever {A = Reach}) ListsAreHigh IsTooHigh (SaysReach depth) (SaysRest flags x) Says outcome_of (report_in_parts flags x depth) text stop none

  -- what follows the first line is bad
  no_rest : (reach : Reach) (first : List ℕ) (stop : Stop) → IsReadOn Anything (SaysReach depth) text reach first → RefusesOn ListsAreHigh Anything (SaysRest flags x reach) first stop → RefusesOn IsTooHigh Anything Says text stop
  no_rest reach first stop far none = second_refused Anything Anything (IsNever {A = Reach}) ListsAreHigh IsTooHigh (SaysReach depth) (SaysRest flags x) Says outcome_of (report_in_parts flags x depth) text reach first stop far none

  pub no_lists_there : (reach : Reach) (first : List ℕ) (stop : Stop) → IsReadOn Anything (SaysReach depth) text reach first → RefusesOn ListsAreHigh EndsLists (SaysLists flags x) first stop → RefusesOn IsTooHigh Anything Says text stop
  no_lists_there reach first stop far none =
      no_rest reach first stop far (first_refused EndsLists Anything ListsAreHigh (IsNever {A = Unit {0}}) ListsAreHigh (SaysLists flags x) (SaysEnd x reach) (SaysRest flags x reach) lists_alone (rest_in_parts flags x reach) first stop none)

  pub no_end : (reach : Reach) (l : Lists) (first second : List ℕ) (stop : Stop) → IsReadOn Anything (SaysReach depth) text reach first → IsReadOn EndsLists (SaysLists flags x) first l second
      → RefusesOn (IsNever {A = Unit {0}}) Anything (SaysEnd x reach l) second stop → RefusesOn IsTooHigh Anything Says text stop
  no_end reach l first second stop far lists none =
      no_rest reach first stop far (second_refused EndsLists Anything ListsAreHigh (IsNever {A = Unit {0}}) ListsAreHigh (SaysLists flags x) (SaysEnd x reach) (SaysRest flags x reach) lists_alone (rest_in_parts flags x reach) first l second stop lists none)

  pub report_read : (reach : Reach) (l : Lists) (first second rest : List ℕ) (outcome : Outcome) → IsReadOn Anything (SaysReach depth) text reach first → IsReadOn EndsLists (SaysLists flags x) first l second
      → IsReadOn Anything (SaysEnd x reach l) second tt rest → outcome ≡ outcome_of reach l → IsReadOn Anything Says text outcome rest
  report_read reach l first second rest outcome far lists ends is =
      subst (λ (o : Outcome). IsReadOn Anything Says text o rest) (sym is)
      (both_read Anything Anything (IsNever {A = Reach}) ListsAreHigh IsTooHigh (SaysReach depth) (SaysRest flags x) Says outcome_of (report_in_parts flags x depth) text reach first l rest far
      (both_read EndsLists Anything ListsAreHigh (IsNever {A = Unit {0}}) ListsAreHigh (SaysLists flags x) (SaysEnd x reach) (SaysRest flags x reach) lists_alone (rest_in_parts flags x reach) first l second tt rest lists ends))
