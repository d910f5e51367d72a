-- Reports one after another, and what they result in.
use Rattle.std.proofs.Common.{◌≡◌, inl, inr, ⊎_elim, ℕ, ◌+◌, ◌-◌, ◌≤◌, ◌^◌, List, [], ◌∷◌, ◌++◌, length, Option, Some, None, ap, sym, refl, ◌∙◌, subst, arith, append_assoc, append-nil}
use Rattle.std.specs.List.{AllByRecursion, flat_map}
use Rattle.std.specs.Option.{unwrap_or}
use Rattle.world_model.specs.Names.{IsAmong}
use Rattle.world_model.specs.Shown.{Flags}
use Rattle.tree_excuses.specs.Excuses.{Excuses}
use Rattle.tree_findings.specs.declared.outcome.Outcome.{Outcome}
use Rattle.tree_findings.specs.declared.outcome.Outcome.TheVariants.{Complete, Incomplete}
use Rattle.report_text.specs.ReportText.{text_of_report}
use Rattle.report_reader.specs.Lawful.{IsLawfulExtent, IsLawfulOutcome, IsTooHigh}
use Rattle.report_reader.specs.Merged.{AreReportsOf, AreTooMany, MayFail, MayRefuseAll, all_nodes_told, fault_of_merge, first_depth, merged_all, merged_outcome, nodes_told, text_of_reports}
use Rattle.report_reader.specs.declared.fault.MergeFault.{MergeFault}
use Rattle.report_reader.specs.declared.fault.MergeFault.TheVariants as merge
use Rattle.report_reader.specs.declared.fault.ReportFault.{ReportFault}
use Rattle.report_reader.specs.declared.fault.ReportFault.TheVariants as answers
use Rattle.report_reader.specs.declared.fault.Stop.{Stop}
use Rattle.report_reader.specs.declared.fault.Stop.TheVariants.{Bad, Deep, Memory}
use Rattle.report_reader.specs.BadLines.{AreReports, IsFirstBadLine, NamesFirstBadLine}
use Rattle.report_reader.specs.Lines.{ends_in, first_lines}
use Rattle.report_reader.specs.inside.Reading.{Anything, AreWhole, IsFaultOf, IsInLine, IsReadOn, RefusesOn, SameLine, SaysReport, line_at}
use Rattle.report_reader.proofs.Lines.{before, line_place, not_empty, same_after, shared, whole-append}
use Rattle.std.proofs.lemmas.List.{append_cancel_right}

pub depth_is : (above : Option ℕ) (depth : ℕ) → unwrap_or above depth ≡ first_depth above depth
depth_is None depth = refl
depth_is (Some d) depth = refl

-- ---- one more outcome

merged_all-push : (whole o : Outcome) (os : List Outcome) → merged_all whole (os ++ o ∷ []) ≡ merged_outcome (merged_all whole os) o
merged_all-push whole o [] = refl
merged_all-push whole o (p ∷ ps) = merged_all-push (merged_outcome whole p) o ps

flat_map-push : (f : Outcome → List ℕ) (os : List Outcome) (o : Outcome) (rest : List ℕ) → flat_map f (os ++ o ∷ []) ++ rest ≡ flat_map f os ++ (f o ++ rest)
flat_map-push f [] o rest = ap (λ w. w ++ rest) (append-nil (f o))
flat_map-push f (p ∷ ps) o rest =
    append_assoc (f p) (flat_map f (ps ++ o ∷ [])) rest ∙ ap (λ w. f p ++ w) (flat_map-push f ps o rest) ∙ sym (append_assoc (f p) (flat_map f ps) (f o ++ rest))

-- a report is not empty
some_text : (depth : ℕ) (x : Excuses) (o : Outcome) (rest : List ℕ) → text_of_report depth x o ++ rest ≡ [] → ⊥
some_text depth x o rest e = omega (arith, ap length e)

among_middle : (os : List Outcome) (o : Outcome) (ps : List Outcome) → IsAmong o (os ++ o ∷ ps)
among_middle [] o ps = inl refl
among_middle (p ∷ os) o ps = inr (among_middle os o ps)

-- ---- how many nodes are reported

told_of_both : (a b : Outcome) → nodes_told (merged_outcome a b) ≤ nodes_told a + nodes_told b
told_of_both (Complete f e) (Complete g k) = omega arith
told_of_both (Complete f e) (Incomplete cause g) = omega arith
told_of_both (Incomplete cause f) (Complete g k) = omega arith
told_of_both (Incomplete cause f) (Incomplete other g) = omega arith

told_of_all : (whole : Outcome) (os : List Outcome) → nodes_told (merged_all whole os) ≤ nodes_told whole + all_nodes_told os
told_of_all whole [] = omega arith
told_of_all whole (o ∷ os) = omega (arith, told_of_all (merged_outcome whole o) os, told_of_both whole o)

told-append : (os ps : List Outcome) → all_nodes_told (os ++ ps) ≡ all_nodes_told os + all_nodes_told ps
told-append [] ps = omega arith
told-append (o ∷ os) ps = omega (arith, told-append os ps)

-- at no node the tree is cut
abbrev IsCutNowhere : Outcome → Type 0
IsCutNowhere (Complete findings extent) = extent.cut ≡ 0
IsCutNowhere (Incomplete cause findings) = Unit {0}

cut_nowhere : (o : Outcome) → IsLawfulExtent o → IsCutNowhere o
cut_nowhere (Complete findings extent) h = h.1
cut_nowhere (Incomplete cause findings) h = tt

cut_of_both : (a b : Outcome) → IsCutNowhere a → IsCutNowhere b → IsCutNowhere (merged_outcome a b)
cut_of_both (Complete f e) (Complete g k) h j = omega (arith, h, j)
cut_of_both (Complete f e) (Incomplete cause g) h j = tt
cut_of_both (Incomplete cause f) more h j = tt

too_many : (a b : Outcome) → IsCutNowhere a → IsCutNowhere b → AreTooMany a b → 2 ^ 64 ≤ nodes_told a + nodes_told b
too_many (Complete f e) (Complete g k) h j many = ⊎_elim (λ n. n) (λ n. absurd (omega (arith, n, h, j))) many
too_many (Complete f e) (Incomplete cause g) h j many = absurd many
too_many (Incomplete cause f) more h j many = absurd many

-- ---- so far

-- the text begins with reports that result in this, this is left, and whatever reports a text is of that goes on with the same line begin with them
pub record AreReadSoFar (above : Option ℕ) (depth : ℕ) (flags : Flags) (x : Excuses) (text : List ℕ) (whole : Outcome) (rest : List ℕ) : Type 0 where
  pub first : Outcome
  pub others : List Outcome
  pub lawful : AllByRecursion (IsLawfulOutcome flags) (first ∷ others)
  pub parts : text ≡ text_of_reports above depth x (first ∷ others) ++ rest
  pub lines : AreWhole (text_of_reports above depth x (first ∷ others))
  pub whole_is : whole ≡ merged_all first others
  pub nowhere : IsCutNowhere whole
  pub only : (other : List ℕ) → SameLine rest other → (f : Outcome) (os : List Outcome) → AllByRecursion (IsLawfulOutcome flags) (f ∷ os)
      → text_of_reports above depth x (first ∷ others) ++ other ≡ text_of_reports above depth x (f ∷ os)
      → (left : List Outcome) × (first ≡ f) × (os ≡ others ++ left) × (other ≡ flat_map (text_of_report depth x) left)

-- the piece of a report that was read is its text
piece_is : (depth : ℕ) (flags : Flags) (x : Excuses) (text : List ℕ) (o : Outcome) (rest : List ℕ) → (r : IsReadOn Anything (SaysReport depth flags x) text o rest) → r.piece ≡ text_of_report depth x o
piece_is depth flags x text o rest r = append_cancel_right r.piece (text_of_report depth x o) [] (r.says [] tt).1

module _ (above : Option ℕ) (depth : ℕ) (flags : Flags) (x : Excuses) (text : List ℕ) where
  abbrev report : Outcome → List ℕ
  report o = text_of_report depth x o

  abbrev reports : Outcome → List Outcome → List ℕ
  reports o os = text_of_reports above depth x (o ∷ os)

  pub first_read : (o : Outcome) (rest : List ℕ) → IsReadOn Anything (SaysReport (first_depth above depth) flags x) text o rest → AreReadSoFar above depth flags x text o rest
  first_read o rest read =
      let is : read.piece ≡ reports o [] = piece_is (first_depth above depth) flags x text o rest read ∙ sym (append-nil (text_of_report (first_depth above depth) x o)) in
      let says = read.says rest tt in
      record {
        first = o;
        others = [];
        lawful = (says.0, tt);
        parts = read.parts ∙ ap (λ w. w ++ rest) is;
        lines = subst AreWhole is read.whole;
        whole_is = refl;
        nowhere = cut_nowhere o says.0.extent;
        only = λ other same f os lawful e.
            let one = read.only other same f (flat_map report os) (lawful.0, ap (λ w. w ++ other) is ∙ e) in
            (os, one.0, refl, one.1);
      }

  -- the next of the reports that a text is of
  record IsNext (others os : List Outcome) (other : List ℕ) : Type 0 where
    next : Outcome
    behind : List Outcome
    are : os ≡ others ++ next ∷ behind
    is : other ≡ report next ++ flat_map report behind
    lawful : IsLawfulOutcome flags next

  lawful_in : (others : List Outcome) (o : Outcome) (left : List Outcome) → AllByRecursion (IsLawfulOutcome flags) (others ++ o ∷ left) → IsLawfulOutcome flags o
  lawful_in [] o left all = all.0
  lawful_in (p ∷ ps) o left all = lawful_in ps o left all.1

  next_of : (others os left : List Outcome) (other : List ℕ) → (other ≡ [] → ⊥) → AllByRecursion (IsLawfulOutcome flags) os → os ≡ others ++ left → other ≡ flat_map report left → IsNext others os other
  next_of others os [] other some lawful e t = absurd (some t)
  next_of others os (o ∷ left) other some lawful e t = record {
    next = o;
    behind = left;
    are = e;
    is = t;
    lawful = lawful_in others o left (subst (AllByRecursion (IsLawfulOutcome flags)) e lawful);
  }

  next_said : (whole : Outcome) (rest : List ℕ) (so : AreReadSoFar above depth flags x text whole rest) → (rest ≡ [] → ⊥) → (other : List ℕ) → SameLine rest other
      → (f : Outcome) (os : List Outcome) → AllByRecursion (IsLawfulOutcome flags) (f ∷ os) → reports so.first so.others ++ other ≡ reports f os → IsNext so.others os other
  next_said whole rest so some other same f os lawful e =
      let left = so.only other same f os lawful e in
      next_of so.others os left.0 other (λ none. some (not_empty rest other same none)) lawful.1 left.2 left.3

  -- what is said of this very text
  at_rest : (whole : Outcome) (rest : List ℕ) (so : AreReadSoFar above depth flags x text whole rest) (f : Outcome) (os : List Outcome) → text ≡ reports f os → reports so.first so.others ++ rest ≡ reports f os
  at_rest whole rest so f os e = sym so.parts ∙ e

  all_last : (o : Outcome) (os : List Outcome) → IsLawfulOutcome flags o → AllByRecursion (IsLawfulOutcome flags) os → AllByRecursion (IsLawfulOutcome flags) (os ++ o ∷ [])
  all_last o [] last all = (last, tt)
  all_last o (p ∷ ps) last all = (all.0, all_last o ps last all.1)

  -- the text of reports with one more
  with_one : (first : Outcome) (others : List Outcome) (o : Outcome) (rest : List ℕ) → reports first (others ++ o ∷ []) ++ rest ≡ reports first others ++ (report o ++ rest)
  with_one first others o rest =
      let one = text_of_report (first_depth above depth) x first in
      append_assoc one (flat_map report (others ++ o ∷ [])) rest ∙ ap (λ w. one ++ w) (flat_map-push report others o rest) ∙ sym (append_assoc one (flat_map report others) (report o ++ rest))

  -- one more report
  pub one_more : (whole both o : Outcome) (rest next : List ℕ) → AreReadSoFar above depth flags x text whole rest → (rest ≡ [] → ⊥) → IsReadOn Anything (SaysReport depth flags x) rest o next → both ≡ merged_outcome whole o
      → AreReadSoFar above depth flags x text both next
  one_more whole both o rest next so some read is =
      let piece : read.piece ≡ report o = piece_is depth flags x rest o next read in
      let says = read.says next tt in
      let whole_report : AreWhole (report o) = subst AreWhole piece read.whole in
      record {
        first = so.first;
        others = so.others ++ o ∷ [];
        lawful = (so.lawful.0, all_last o so.others says.0 so.lawful.1);
        parts = so.parts ∙ ap (λ w. reports so.first so.others ++ w) (read.parts ∙ ap (λ w. w ++ next) piece) ∙ sym (with_one so.first so.others o next);
        lines = subst AreWhole
            (sym (ap (λ w. reports so.first so.others ++ w) (append-nil (report o))) ∙ sym (with_one so.first so.others o []) ∙ append-nil (reports so.first (so.others ++ o ∷ [])))
            (whole-append (reports so.first so.others) (report o) so.lines whole_report);
        whole_is = is ∙ ap (λ w. merged_outcome w o) so.whole_is ∙ sym (merged_all-push so.first o so.others);
        nowhere = subst IsCutNowhere (sym is) (cut_of_both whole o so.nowhere (cut_nowhere o says.0.extent));
        only = λ other same f os lawful e.
            let after : SameLine rest (report o ++ other) = subst (λ u. SameLine u (report o ++ other)) (sym (read.parts ∙ ap (λ w. w ++ next) piece)) (same_after (report o) next other whole_report same) in
            let moved = sym (with_one so.first so.others o other) ∙ e in
            let left = so.only (report o ++ other) after f os lawful moved in
            let n = next_said whole rest so some (report o ++ other) after f os lawful moved in
            let one = read.only other same n.next (flat_map report n.behind) (n.lawful, ap (λ w. w ++ other) piece ∙ n.is) in
            (n.behind, left.1, n.are ∙ ap (λ (p : Outcome). so.others ++ p ∷ n.behind) (sym one.0) ∙ sym (append_assoc so.others (o ∷ []) n.behind), one.1);
      }

  -- no more reports
  pub all_reports : (whole : Outcome) (rest : List ℕ) → AreReadSoFar above depth flags x text whole rest → rest ≡ [] → AreReportsOf above depth flags x text whole
  all_reports whole rest so none = record {
    first = so.first;
    others = so.others;
    lawful = so.lawful;
    text_is = so.parts ∙ ap (λ w. reports so.first so.others ++ w) none ∙ append-nil (reports so.first so.others);
    whole_is = so.whole_is;
  }

  pub these_reports : (whole : Outcome) (rest : List ℕ) → AreReadSoFar above depth flags x text whole rest → rest ≡ []
      → (f : Outcome) (os : List Outcome) → AllByRecursion (IsLawfulOutcome flags) (f ∷ os) → text ≡ reports f os → whole ≡ merged_all f os
  these_reports whole rest so none f os lawful e = let left = so.only rest refl f os lawful (at_rest whole rest so f os e) in go left.0 left.1 left.2 left.3
    where
      go : (left : List Outcome) → so.first ≡ f → os ≡ so.others ++ left → rest ≡ flat_map report left → whole ≡ merged_all f os
      go [] is are t = so.whole_is ∙ ap (λ (o : Outcome). merged_all o so.others) is ∙ ap (merged_all f) (sym (are ∙ append-nil so.others))
      go (p ∷ ps) is are t = absurd (some_text depth x p (flat_map report ps) (sym t ∙ none))

  -- ---- where reading stops

  abbrev MayAnswer : ReportFault → Type 0
  MayAnswer fault = (f : Outcome) (os : List Outcome) → AllByRecursion (IsLawfulOutcome flags) (f ∷ os) → text ≡ reports f os → MayRefuseAll (f ∷ os) fault

  -- a report is said there
  by_fault : (at : ℕ) (rest : List ℕ) (stop : Stop) (fault : ReportFault) → IsFaultOf text stop fault → (o : Outcome) (more : List ℕ) (outcomes : List Outcome) → IsAmong o outcomes
      → RefusesOn IsTooHigh Anything (SaysReport at flags x) rest stop → SaysReport at flags x rest o more → MayRefuseAll outcomes fault
  by_fault at rest (Bad n) fault is o more outcomes among bad s = absurd (bad.none bad.behind refl o more (subst (λ u. SaysReport at flags x u o more) bad.parts s))
  by_fault at rest (Deep n) (answers.BadLine line) is o more outcomes among none s = is
  by_fault at rest (Deep n) (answers.TooDeep line) is o more outcomes among none s = record { outcome = o; among = among; high = none o more s }
  by_fault at rest (Deep n) answers.Memory is o more outcomes among none s = tt
  by_fault at rest (Deep n) answers.TooManyNodes is o more outcomes among none s = absurd is
  by_fault at rest Memory (answers.BadLine line) is o more outcomes among none s = is
  by_fault at rest Memory (answers.TooDeep line) is o more outcomes among none s = absurd is
  by_fault at rest Memory answers.Memory is o more outcomes among none s = tt
  by_fault at rest Memory answers.TooManyNodes is o more outcomes among none s = absurd is

  pub first_stops : (stop : Stop) (fault : ReportFault) → RefusesOn IsTooHigh Anything (SaysReport (first_depth above depth) flags x) text stop → IsFaultOf text stop fault → MayAnswer fault
  first_stops stop fault none is = λ f os lawful e.
      by_fault (first_depth above depth) text stop fault is f (flat_map report os) (f ∷ os) (inl refl) none (lawful.0, e)

  pub later_stops : (whole : Outcome) (rest : List ℕ) (stop : Stop) (fault : ReportFault) → AreReadSoFar above depth flags x text whole rest → (rest ≡ [] → ⊥)
      → RefusesOn IsTooHigh Anything (SaysReport depth flags x) rest stop → IsFaultOf text stop fault → MayAnswer fault
  later_stops whole rest stop fault so some none is = λ f os lawful e.
      let n = next_said whole rest so some rest refl f os lawful (at_rest whole rest so f os e) in
      by_fault depth rest stop fault is n.next (flat_map report n.behind) (f ∷ os) (inr (subst (λ (all : List Outcome). IsAmong n.next all) (sym n.are) (among_middle so.others n.next n.behind))) none (n.lawful, n.is)

  pub merge_stops : (whole o : Outcome) (rest next : List ℕ) (fault : MergeFault) → AreReadSoFar above depth flags x text whole rest → (rest ≡ [] → ⊥)
      → IsReadOn Anything (SaysReport depth flags x) rest o next → MayFail whole o fault → MayAnswer (fault_of_merge fault)
  merge_stops whole o rest next merge.Memory so some read may = λ f os lawful e. tt
  merge_stops whole o rest next merge.TooManyNodes so some read may = λ f os lawful e.
      let there = at_rest whole rest so f os e in
      let left = so.only rest refl f os lawful there in
      let n = next_said whole rest so some rest refl f os lawful there in
      let same = read.only next refl n.next (flat_map report n.behind) (n.lawful, sym read.parts ∙ n.is) in
      let many = too_many whole o so.nowhere (cut_nowhere o (read.says next tt).0.extent) may in
      omega (
        arith,
        many,
        ap nodes_told so.whole_is,
        told_of_all so.first so.others,
        ap nodes_told left.1,
        ap nodes_told same.0,
        ap all_nodes_told n.are,
        told-append so.others (n.next ∷ n.behind),
      )

  -- ---- the first bad line

  -- the line of a place after whole lines
  named : (front behind : List ℕ) (left line : ℕ) → text ≡ front ++ behind → AreWhole front → IsInLine behind left → line ≡ line_at text left → line ≡ ends_in front + 1
  named front behind left line parts whole at is = is ∙ line_place text front at.line at.rest left (parts ∙ ap (λ w. front ++ w) at.parts) at.place at.inside

  is_first_bad : (front behind : List ℕ) (left line : ℕ) → text ≡ front ++ behind → AreWhole front → IsInLine behind left → line ≡ line_at text left
      → ((other : List ℕ) → SameLine behind other → AreReports above depth flags x (front ++ other) → ⊥) → (tail : List ℕ) → AreReports above depth flags x (front ++ tail)
      → IsFirstBadLine above depth flags x text line
  is_first_bad front behind left line parts whole at is none tail can =
      let n = named front behind left line parts whole at is in
      let before_it : line - 1 ≡ ends_in front = omega (arith, n) in
      record {
        bad = λ other same said.
            let lines : first_lines other (ends_in front + 1) ≡ first_lines (front ++ behind) (ends_in front + 1) = ap (first_lines other) (sym n) ∙ same ∙ ap (first_lines text) n ∙ ap (λ t. first_lines t (ends_in front + 1)) parts in
            let b = shared front behind other whole lines in
            none b.0 b.2 (subst (AreReports above depth flags x) b.1 said);
        good = front ++ tail;
        before = ap (first_lines (front ++ tail)) before_it ∙ before front tail behind whole ∙ ap (λ t. first_lines t (ends_in front)) (sym parts) ∙ ap (first_lines text) (sym before_it);
        reports = can;
      }

  -- so it is where the first report is bad, and where a later one is
  pub first_names : (stop : Stop) (fault : ReportFault) → RefusesOn IsTooHigh Anything (SaysReport (first_depth above depth) flags x) text stop → IsFaultOf text stop fault → NamesFirstBadLine above depth flags x text fault
  first_names (Bad left) (answers.BadLine line) bad is =
      is_first_bad bad.front bad.behind left line bad.parts bad.whole bad.place is
      (λ other same said. bad.none other same said.first (flat_map report said.others) (said.lawful.0, said.text_is))
      (bad.tail ++ [])
      (let can = bad.can [] tt in record { first = bad.instead; others = []; lawful = (can.0, tt); text_is = can.1 })
  first_names (Bad left) (answers.TooDeep line) bad is = tt
  first_names (Bad left) answers.Memory bad is = tt
  first_names (Bad left) answers.TooManyNodes bad is = tt
  first_names (Deep left) (answers.BadLine line) none is = absurd is
  first_names (Deep left) (answers.TooDeep line) none is = tt
  first_names (Deep left) answers.Memory none is = tt
  first_names (Deep left) answers.TooManyNodes none is = tt
  first_names Memory (answers.BadLine line) none is = absurd is
  first_names Memory (answers.TooDeep line) none is = tt
  first_names Memory answers.Memory none is = tt
  first_names Memory answers.TooManyNodes none is = tt

  pub later_names : (whole : Outcome) (rest : List ℕ) (stop : Stop) (fault : ReportFault) → AreReadSoFar above depth flags x text whole rest → (rest ≡ [] → ⊥)
      → RefusesOn IsTooHigh Anything (SaysReport depth flags x) rest stop → IsFaultOf text stop fault → NamesFirstBadLine above depth flags x text fault
  later_names whole rest (Bad left) (answers.BadLine line) so some bad is =
      let told = reports so.first so.others in
      is_first_bad (told ++ bad.front) bad.behind left line
      (so.parts ∙ ap (λ w. told ++ w) bad.parts ∙ sym (append_assoc told bad.front bad.behind))
      (whole-append told bad.front so.lines bad.whole)
      bad.place
      is
      (λ other same said.
      let after : SameLine rest (bad.front ++ other) = subst (λ u. SameLine u (bad.front ++ other)) (sym bad.parts) (same_after bad.front bad.behind other bad.whole same) in
      let n = next_said whole rest so some (bad.front ++ other) after said.first said.others said.lawful (sym (append_assoc told bad.front other) ∙ said.text_is) in
      bad.none other same n.next (flat_map report n.behind) (n.lawful, n.is))
      (bad.tail ++ [])
      (let can = bad.can [] tt in
      record {
        first = so.first;
        others = so.others ++ bad.instead ∷ [];
        lawful = (so.lawful.0, all_last bad.instead so.others can.0 so.lawful.1);
        text_is = append_assoc told bad.front (bad.tail ++ []) ∙ ap (λ w. told ++ w) can.1 ∙ sym (with_one so.first so.others bad.instead []) ∙ append-nil (reports so.first (so.others ++ bad.instead ∷ []));
      })
  later_names whole rest (Bad left) (answers.TooDeep line) so some bad is = tt
  later_names whole rest (Bad left) answers.Memory so some bad is = tt
  later_names whole rest (Bad left) answers.TooManyNodes so some bad is = tt
  later_names whole rest (Deep left) (answers.BadLine line) so some none is = absurd is
  later_names whole rest (Deep left) (answers.TooDeep line) so some none is = tt
  later_names whole rest (Deep left) answers.Memory so some none is = tt
  later_names whole rest (Deep left) answers.TooManyNodes so some none is = tt
  later_names whole rest Memory (answers.BadLine line) so some none is = absurd is
  later_names whole rest Memory (answers.TooDeep line) so some none is = tt
  later_names whole rest Memory answers.Memory so some none is = tt
  later_names whole rest Memory answers.TooManyNodes so some none is = tt

  pub merge_names : (fault : MergeFault) → NamesFirstBadLine above depth flags x text (fault_of_merge fault)
  merge_names merge.TooManyNodes = tt
  merge_names merge.Memory = tt
