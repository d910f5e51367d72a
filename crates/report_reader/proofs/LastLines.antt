-- What is read of the last two lines of a report.
use Rattle.std.proofs.Common.{◌≡◌, ℕ, ◌==◌, ◌<◌, ◌^◌, Bool, true, false, if◌then◌else◌, List, [], ◌∷◌, ◌++◌, length, codes, ap, sym, refl, ◌∙◌, subst, append_assoc}
use Rattle.std.proofs.lemmas.List.{append_cancel_left}
use Rattle.std.specs.Fmt.{decimal}
use Rattle.tree_excuses.specs.Excuses.{Excuses, are_any}
use Rattle.report_reader.specs.declared.fault.Stop.TheVariants.{Bad}
use Rattle.report_reader.specs.declared.first_line.Reach.{Reach}
use Rattle.report_reader.specs.declared.first_line.Reach.TheVariants.{Whole, Stopped}
use Rattle.report_reader.specs.inside.Reading.{Anything, AreWhole, EndsAt, HasNoFront, IsNever, IsReadOn, LacksMark, Lists, RefusesOn, SaysEnd, counts_line, end_of, normal_told, result_line, result_told}
use Rattle.report_reader.proofs.FindingTexts.{at_once}
use Rattle.report_reader.proofs.LineTexts.{computed, no_end-append, no_end-decimal}
use Rattle.report_reader.proofs.Lines.{same_ended, whole-append, whole-line, whole-nil}

-- ---- the lines without their ends

abbrev counts_of : Excuses → ℕ → ℕ → ℕ → List ℕ
counts_of x errors refusals normal = (codes "errors " ++ decimal errors) ++ ((codes ", refusals " ++ decimal refusals) ++ normal_told x normal)

counts_are : (x : Excuses) (e r n : ℕ) → counts_line x e r n ≡ counts_of x e r n ++ 10 ∷ []
counts_are x e r n =
    let first = codes "errors " ++ decimal e in
    let second = codes ", refusals " ++ decimal r in
    ap (λ w. first ++ w) (sym (append_assoc second (normal_told x n) (10 ∷ []))) ∙ sym (append_assoc first (second ++ normal_told x n) (10 ∷ []))

abbrev result_of : Reach → ℕ → List ℕ
result_of reach errors = codes "result: " ++ result_told reach errors

result_is : (reach : Reach) (e : ℕ) → result_line reach e ≡ result_of reach e ++ 10 ∷ []
result_is reach e = sym (append_assoc (codes "result: ") (result_told reach e) (10 ∷ []))

no_end-normal : (x : Excuses) (n : ℕ) → n < 2 ^ 64 → LacksMark 10 (normal_told x n)
no_end-normal x n h = go (are_any x)
  where
    go : (b : Bool) → LacksMark 10 (if b then codes ", taken as normal " ++ decimal n else [])
    go true = no_end-append (codes ", taken as normal ") (decimal n) (computed (codes ", taken as normal ") refl) (no_end-decimal n h)
    go false = tt

no_end-counts : (x : Excuses) (e r n : ℕ) → e < 2 ^ 64 → r < 2 ^ 64 → n < 2 ^ 64 → LacksMark 10 (counts_of x e r n)
no_end-counts x e r n h j k =
    no_end-append (codes "errors " ++ decimal e) ((codes ", refusals " ++ decimal r) ++ normal_told x n) (no_end-append (codes "errors ") (decimal e) (computed (codes "errors ") refl) (no_end-decimal e h))
    (no_end-append (codes ", refusals " ++ decimal r) (normal_told x n) (no_end-append (codes ", refusals ") (decimal r) (computed (codes ", refusals ") refl) (no_end-decimal r j)) (no_end-normal x n k))

no_end-result : (reach : Reach) (e : ℕ) → LacksMark 10 (result_of reach e)
no_end-result (Whole nodes) e = go (e == 0)
  where
    go : (b : Bool) → LacksMark 10 (codes "result: " ++ (if b then codes "clean" else codes "errors"))
    go true = computed (codes "result: clean") refl
    go false = computed (codes "result: errors") refl
no_end-result (Stopped cause) e = computed (codes "result: incomplete") refl

-- ---- where they are

module _ (x : Excuses) (reach : Reach) (l : Lists) (text : List ℕ) (few_errors : length l.errors < 2 ^ 64) (few_refusals : length l.refusals < 2 ^ 64) (few_normal : length l.normal < 2 ^ 64) where
  abbrev counts : List ℕ
  counts = counts_line x (length l.errors) (length l.refusals) (length l.normal)

  abbrev result : List ℕ
  result = result_line reach (length l.errors)

  abbrev inside_counts : List ℕ
  inside_counts = counts_of x (length l.errors) (length l.refusals) (length l.normal)

  are : counts ≡ inside_counts ++ 10 ∷ []
  are = counts_are x (length l.errors) (length l.refusals) (length l.normal)

  lacks : LacksMark 10 inside_counts
  lacks = no_end-counts x (length l.errors) (length l.refusals) (length l.normal) few_errors few_refusals few_normal

  counts_whole : AreWhole counts
  counts_whole = subst AreWhole (sym are) (whole-line inside_counts lacks)

  is : result ≡ result_of reach (length l.errors) ++ 10 ∷ []
  is = result_is reach (length l.errors)

  result_whole : AreWhole result
  result_whole = subst AreWhole (sym is) (whole-line (result_of reach (length l.errors)) (no_end-result reach (length l.errors)))

  pub end_read : (rest : List ℕ) → EndsAt x reach l text rest → IsReadOn Anything (SaysEnd x reach l) text tt rest
  end_read rest ends = record {
    piece = end_of x reach l;
    parts = ends;
    whole = whole-append counts result counts_whole result_whole;
    says = λ other fits. refl;
    only = λ other same b more s. (refl, append_cancel_left (end_of x reach l) other more s);
  }

  pub counts_bad : (left : ℕ) → left ≡ length text → HasNoFront counts text → RefusesOn IsNever Anything (SaysEnd x reach l) text (Bad left)
  counts_bad left place none = record {
    front = [];
    behind = text;
    parts = refl;
    whole = whole-nil;
    place = at_once text left place;
    none = λ other same b more s.
        let line : other ≡ inside_counts ++ 10 ∷ (result ++ more) = s ∙ append_assoc counts result more ∙ ap (λ w. w ++ (result ++ more)) are ∙ append_assoc inside_counts (10 ∷ []) (result ++ more) in
        let here = same_ended inside_counts text other (result ++ more) lacks same line in
        none here.0 (here.1 ∙ sym (append_assoc inside_counts (10 ∷ []) here.0) ∙ ap (λ w. w ++ here.0) (sym are));
    instead = tt;
    tail = end_of x reach l;
    can = λ after fits. refl;
  }

  pub result_bad : (last : List ℕ) (left : ℕ) → text ≡ counts ++ last → left ≡ length last → HasNoFront result last → RefusesOn IsNever Anything (SaysEnd x reach l) text (Bad left)
  result_bad last left front place none = record {
    front = counts;
    behind = last;
    parts = front;
    whole = counts_whole;
    place = at_once last left place;
    none = λ other same b more s.
        let inside = result_of reach (length l.errors) in
        let line : other ≡ inside ++ 10 ∷ more = append_cancel_left counts other (result ++ more) (s ∙ append_assoc counts result more) ∙ ap (λ w. w ++ more) is ∙ append_assoc inside (10 ∷ []) more in
        let here = same_ended inside last other more (no_end-result reach (length l.errors)) same line in
        none here.0 (here.1 ∙ sym (append_assoc inside (10 ∷ []) here.0) ∙ ap (λ w. w ++ here.0) (sym is));
    instead = tt;
    tail = result;
    can = λ after fits. sym (append_assoc counts result after);
  }
