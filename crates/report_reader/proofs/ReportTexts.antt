-- The text of a report, piece by piece, and what its pieces result in.
use Rattle.std.proofs.Common.{◌≡◌, ◌==◌, ◌&&◌, ℕ, zero, suc, Bool, true, false, not, if◌then◌else◌, List, [], ◌∷◌, ◌++◌, length, codes, ap, sym, refl, ◌∙◌, arith, append_assoc, ne_eqb}
use Rattle.std.specs.Fmt.{decimal}
use Rattle.std.specs.List.{AllByRecursion}
use Rattle.world_model.specs.Shown.{Identity, Flags, is_error, is_refusal}
use Rattle.tree_coverage.specs.Findings.{Finding}
use Rattle.tree_excuses.specs.Excuses.{Excuses, counted, counts, is_excused, is_normal, taken}
use Rattle.tree_findings.specs.Merging.{merged}
use Rattle.tree_findings.specs.declared.outcome.Outcome.{Outcome}
use Rattle.tree_findings.specs.declared.outcome.Outcome.TheVariants.{Complete, Incomplete}
use Rattle.report_text.specs.ReportText.{complete_result, findings_from, findings_in, first_line, last_line, text_of_all, text_of_counts, text_of_extent, text_of_report, text_of_result}
use Rattle.report_reader.specs.Lawful.{AreLawfulFindings, IsLawfulOutcome}
use Rattle.report_reader.specs.declared.first_line.Reach.{Reach}
use Rattle.report_reader.specs.declared.first_line.Reach.TheVariants.{Whole, Stopped}
use Rattle.report_reader.specs.declared.kinds.Kind.TheVariants.{Error, Refusal}
use Rattle.report_reader.specs.inside.Reading.{EndsFindings, EndsLists, IsLawfulReach, Lists, SaysReach, SaysReport, SaysRest, end_of, outcome_of, result_told, text_of_depth, text_of_reach}
use Rattle.report_reader.proofs.ListLaws.{all_by, and_first, and_second, first_part, lawful_kept, merged_lawful, merged_parts, second_part}

-- ---- the pieces of an outcome

abbrev pub reach_of : Outcome → Reach
reach_of (Complete findings extent) = Whole extent.nodes
reach_of (Incomplete cause findings) = Stopped cause

abbrev pub lists_of : Excuses → Outcome → Lists
lists_of x o = record { errors = counted x (findings_in o).errors; refusals = (findings_in o).refusals; normal = taken x (findings_in o).errors }

-- what follows the three lists, and what follows the second and the third of them
abbrev pub at_end : Excuses → Reach → Lists → List ℕ → List ℕ
at_end x reach l rest = end_of x reach l ++ rest

abbrev pub at_normal : Excuses → Reach → Lists → List ℕ → List ℕ
at_normal x reach l rest = findings_from (codes "normal") 1 l.normal ++ at_end x reach l rest

abbrev pub at_refusals : Excuses → Reach → Lists → List ℕ → List ℕ
at_refusals x reach l rest = findings_from (codes "refusal") 1 l.refusals ++ at_normal x reach l rest

abbrev pub at_errors : Excuses → Reach → Lists → List ℕ → List ℕ
at_errors x reach l rest = findings_from (codes "error") 1 l.errors ++ at_refusals x reach l rest

abbrev pub text_of_pieces : ℕ → Excuses → Reach → Lists → List ℕ → List ℕ
text_of_pieces depth x reach l rest = (text_of_depth depth ++ text_of_reach reach) ++ 10 ∷ at_errors x reach l rest

-- ---- its text is theirs

extent_text : (o : Outcome) → text_of_extent o ≡ text_of_reach (reach_of o)
extent_text (Complete findings extent) = refl
extent_text (Incomplete cause findings) = refl

result_by_number : (fs : List Finding) → complete_result fs ≡ (if length fs == 0 then codes "clean" else codes "errors")
result_by_number [] = refl
result_by_number (f ∷ fs) = sym (ap (λ (b : Bool). if b then codes "clean" else codes "errors") (ne_eqb (length (f ∷ fs)) 0 (λ e. absurd (omega (arith, e)))))

result_text : (x : Excuses) (o : Outcome) → text_of_result x o ≡ result_told (reach_of o) (length (counted x (findings_in o).errors))
result_text x (Complete findings extent) = result_by_number (counted x findings.errors)
result_text x (Incomplete cause findings) = refl

line_text : (depth : ℕ) (reach rest : List ℕ) → (codes "depth " ++ (decimal depth ++ (codes ", " ++ (reach ++ codes "\n")))) ++ rest ≡ (text_of_depth depth ++ reach) ++ 10 ∷ rest
line_text depth reach rest =
    ap (λ w. codes "depth " ++ w) (
    append_assoc (decimal depth) _ rest
    ∙ ap (λ w. decimal depth ++ (codes ", " ++ w)) (append_assoc reach (codes "\n") rest)
    ∙ sym (append_assoc (decimal depth) (codes ", ") (reach ++ 10 ∷ rest))
    ∙ sym (append_assoc (decimal depth ++ codes ", ") reach (10 ∷ rest)))

end_text : (x : Excuses) (o : Outcome) → text_of_counts x (findings_in o) ++ last_line x o ≡ end_of x (reach_of o) (lists_of x o)
end_text x o = ap (λ w. text_of_counts x (findings_in o) ++ (codes "result: " ++ (w ++ codes "\n"))) (result_text x o)

lists_text : (e r n rest : List ℕ) → (e ++ (r ++ n)) ++ rest ≡ e ++ (r ++ (n ++ rest))
lists_text e r n rest = append_assoc e (r ++ n) rest ∙ ap (λ w. e ++ w) (append_assoc r n rest)

pub pieces_text : (depth : ℕ) (x : Excuses) (o : Outcome) (rest : List ℕ) → text_of_report depth x o ++ rest ≡ text_of_pieces depth x (reach_of o) (lists_of x o) rest
pieces_text depth x o rest =
    let l = lists_of x o in
    append_assoc (first_line depth o) _ rest
    ∙ ap (λ w. first_line depth o ++ w) (
    append_assoc (text_of_all x (findings_in o)) _ rest
    ∙ ap (λ w. text_of_all x (findings_in o) ++ (w ++ rest)) (end_text x o)
    ∙ lists_text (findings_from (codes "error") 1 l.errors) (findings_from (codes "refusal") 1 l.refusals) (findings_from (codes "normal") 1 l.normal) (at_end x (reach_of o) l rest))
    ∙ line_text depth (text_of_extent o) (at_errors x (reach_of o) l rest)
    ∙ ap (λ w. (text_of_depth depth ++ w) ++ 10 ∷ at_errors x (reach_of o) l rest) (extent_text o)

-- ---- where each list ends

-- the byte at a place
abbrev byte_at : ℕ → List ℕ → ℕ
byte_at n [] = 0
byte_at zero (b ∷ bs) = b
byte_at (suc n) (b ∷ bs) = byte_at n bs

-- where no other finding follows, none does after some of the last kinds
pub normal_begin : (ns : List Finding) (rest : List ℕ) → EndsFindings Refusal rest → EndsFindings Refusal (findings_from (codes "normal") 1 ns ++ rest)
normal_begin [] rest ends = ends
normal_begin (n ∷ ns) rest ends = λ w e. omega (arith, ap (byte_at 0) e)

pub others_begin : (rs ns : List Finding) (rest : List ℕ) → EndsFindings Error rest → EndsFindings Error (findings_from (codes "refusal") 1 rs ++ (findings_from (codes "normal") 1 ns ++ rest))
others_begin [] [] rest ends = ends
others_begin [] (n ∷ ns) rest ends = λ w e. omega (arith, ap (byte_at 0) e)
others_begin (r ∷ rs) ns rest ends = λ w e. omega (arith, ap (byte_at 0) e)

-- the last two lines are no finding
pub end_follows : (x : Excuses) (reach : Reach) (l : Lists) (rest : List ℕ) → EndsLists (at_end x reach l rest)
end_follows x reach l rest = record {
  errors = λ w e. omega (arith, ap (byte_at 5) e);
  refusals = λ w e. omega (arith, ap (byte_at 0) e);
  normal = λ w e. omega (arith, ap (byte_at 0) e);
}

-- ---- a report says its pieces

-- the outcome that pieces result in
pub outcome_again : (flags : Flags) (x : Excuses) (o : Outcome) → IsLawfulOutcome flags o → outcome_of (reach_of o) (lists_of x o) ≡ o
outcome_again flags x (Complete findings extent) h =
    let cut : extent.cut ≡ 0 = h.extent.1 in
    let errors = merged_parts (is_excused x) findings.errors h.errors.sorted in
    λ i. Complete (record { errors = errors i; refusals = findings.refusals }) (record { nodes = extent.nodes; cut = sym cut i })
outcome_again flags x (Incomplete cause findings) h =
    let errors = merged_parts (is_excused x) findings.errors h.errors.sorted in
    λ i. Incomplete cause (record { errors = errors i; refusals = findings.refusals })

lawful_reach : (flags : Flags) (o : Outcome) → IsLawfulOutcome flags o → IsLawfulReach (reach_of o)
lawful_reach flags (Complete findings extent) h = h.extent.0
lawful_reach flags (Incomplete cause findings) h = tt

-- where a text says a report, it says how far it came, and then its lists and its end
pub record SaysPieces (depth : ℕ) (flags : Flags) (x : Excuses) (text : List ℕ) (reach : Reach) (l : Lists) (rest : List ℕ) : Type 0 where
  pub first : List ℕ
  pub reach_said : SaysReach depth text reach first
  pub rest_said : SaysRest flags x reach first l rest

pub says_pieces : (depth : ℕ) (flags : Flags) (x : Excuses) (text : List ℕ) (o : Outcome) (rest : List ℕ) → SaysReport depth flags x text o rest → SaysPieces depth flags x text (reach_of o) (lists_of x o) rest
says_pieces depth flags x text o rest s =
    let reach = reach_of o in
    let l = lists_of x o in
    let errors = (findings_in o).errors in
    let end = end_follows x reach l rest in
    record {
      first = at_errors x reach l rest;
      reach_said = (lawful_reach flags o s.0, s.1 ∙ pieces_text depth x o rest);
      rest_said = record {
        second = at_end x reach l rest;
        lists = record {
          second = at_refusals x reach l rest;
          errors = record { lawful = lawful_kept (is_error flags) (λ i. not (is_excused x i)) errors s.0.errors; ends = others_begin l.refusals l.normal (at_end x reach l rest) end.errors; parts = refl };
          others = record {
            third = at_normal x reach l rest;
            refusals = record { lawful = s.0.refusals; ends = normal_begin l.normal (at_end x reach l rest) end.refusals; parts = refl };
            normal = record { lawful = lawful_kept (is_error flags) (is_excused x) errors s.0.errors; ends = end.normal; parts = refl };
          };
        };
        ends = refl;
      };
    }

-- ---- and pieces say a report

-- errors of both kinds are errors
are_errors : (flags : Flags) (more : Identity → Bool) (fs : List Finding) → AreLawfulFindings (λ i. is_error flags i && more i) fs → AreLawfulFindings (is_error flags) fs
are_errors flags more fs h = record {
  sorted = h.sorted;
  lawful = h.lawful;
  pass = all_by (λ f. (is_error flags f.identity && more f.identity) ≡ true) (λ f. is_error flags f.identity ≡ true) (λ f e. and_first (is_error flags f.identity) (more f.identity) e) fs h.pass;
}

not_true : (b : Bool) → not b ≡ true → b ≡ false
not_true true e = absurd cc
not_true false e = refl

lawful_outcome : (flags : Flags) (x : Excuses) (reach : Reach) (l : Lists) → IsLawfulReach reach → AreLawfulFindings (counts flags x) l.errors → AreLawfulFindings is_refusal l.refusals → AreLawfulFindings (is_normal flags x) l.normal
    → IsLawfulOutcome flags (outcome_of reach l)
lawful_outcome flags x (Whole nodes) l below errors refusals normal = record {
  errors = merged_lawful (is_error flags) l.errors l.normal (are_errors flags (λ i. not (is_excused x i)) l.errors errors) (are_errors flags (is_excused x) l.normal normal);
  refusals = refusals;
  extent = (below, refl);
}
lawful_outcome flags x (Stopped cause) l below errors refusals normal = record {
  errors = merged_lawful (is_error flags) l.errors l.normal (are_errors flags (λ i. not (is_excused x i)) l.errors errors) (are_errors flags (is_excused x) l.normal normal);
  refusals = refusals;
  extent = tt;
}

reach_again : (reach : Reach) (l : Lists) → reach_of (outcome_of reach l) ≡ reach
reach_again (Whole nodes) l = refl
reach_again (Stopped cause) l = refl

lists_again : (flags : Flags) (x : Excuses) (reach : Reach) (l : Lists) → AreLawfulFindings (counts flags x) l.errors → AreLawfulFindings (is_normal flags x) l.normal → lists_of x (outcome_of reach l) ≡ l
lists_again flags x reach l h k = go reach
  where
    none : AllByRecursion (λ f. is_excused x f.identity ≡ false) l.errors
    none = all_by (λ f. counts flags x f.identity ≡ true) (λ f. is_excused x f.identity ≡ false)
        (λ f e. not_true (is_excused x f.identity) (and_second (is_error flags f.identity) (not (is_excused x f.identity)) e)) l.errors h.pass

    all : AllByRecursion (λ f. is_excused x f.identity ≡ true) l.normal
    all = all_by (λ f. is_normal flags x f.identity ≡ true) (λ f. is_excused x f.identity ≡ true) (λ f e. and_second (is_error flags f.identity) (is_excused x f.identity) e) l.normal k.pass

    first : counted x (merged l.errors l.normal) ≡ l.errors
    first = first_part (is_excused x) l.errors l.normal none all

    second : taken x (merged l.errors l.normal) ≡ l.normal
    second = second_part (is_excused x) l.errors l.normal h.sorted k.sorted none all

    go : (reach : Reach) → lists_of x (outcome_of reach l) ≡ l
    go (Whole nodes) = λ i. record { errors = first i; refusals = l.refusals; normal = second i }
    go (Stopped cause) = λ i. record { errors = first i; refusals = l.refusals; normal = second i }

pub pieces_say : (depth : ℕ) (flags : Flags) (x : Excuses) (text : List ℕ) (reach : Reach) (mid : List ℕ) (l : Lists) (rest : List ℕ) → SaysReach depth text reach mid → SaysRest flags x reach mid l rest → SaysReport depth flags x text (outcome_of reach l) rest
pieces_say depth flags x text reach mid l rest far s =
    let lists = s.lists in
    let others = lists.others in
    let o = outcome_of reach l in (
      lawful_outcome flags x reach l far.0 lists.errors.lawful others.refusals.lawful others.normal.lawful,
      far.1
          ∙ ap (λ w. (text_of_depth depth ++ text_of_reach reach) ++ 10 ∷ w) (
          lists.errors.parts
          ∙ ap (λ w. findings_from (codes "error") 1 l.errors ++ w) (
          others.refusals.parts
          ∙ ap (λ w. findings_from (codes "refusal") 1 l.refusals ++ w) (
          others.normal.parts
          ∙ ap (λ w. findings_from (codes "normal") 1 l.normal ++ w) s.ends)))
          ∙ sym (
          pieces_text depth x o rest
          ∙ ap (λ r. text_of_pieces depth x r (lists_of x o) rest) (reach_again reach l)
          ∙ ap (λ m. text_of_pieces depth x reach m rest) (lists_again flags x reach l lists.errors.lawful others.normal.lawful)),
    )
