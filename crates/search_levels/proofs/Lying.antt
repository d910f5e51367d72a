-- Rows that lie among numbers.
use Rattle.std.proofs.Common.{◌≡◌, ◌∙◌, ◌+◌, ◌-◌, ◌≤◌, ◌++◌, ◌∷◌, [], ℕ, zero, suc, List, Option, Some, None, length, slice_get, slice_range, take, drop, option_map, refl, ap, subst, arith}
use Rattle.std.proofs.lemmas.List.{drop-append-le, take-append-le, length-append, length-drop, take_all}
use Rattle.std.proofs.Math.Seq.{drop-append_seam}
use Rattle.search_levels.specs.Rows.{Entry, LieWithin, entries_in}
use Rattle.search_levels.specs.declared.span.Span.{Span}

pub range_more : {X : Type 0} (xs ys : List X) (a b : ℕ) → a ≤ b → b ≤ length xs → slice_range (xs ++ ys) a b ≡ slice_range xs a b
range_more xs ys a b less within =
    ap (take (b - a)) (drop-append-le a xs ys (omega (arith, less, within))) ∙ take-append-le (b - a) (drop a xs) ys (omega (arith, length-drop a xs, less, within))

pub range_last : {X : Type 0} (xs ys : List X) (a b : ℕ) → a ≡ length xs → b ≡ length xs + length ys → slice_range (xs ++ ys) a b ≡ ys
range_last xs ys a b is_start is_end =
    ap (λ n. take (b - a) (drop n (xs ++ ys))) is_start ∙ ap (take (b - a)) (drop-append_seam xs ys) ∙ take_all (b - a) ys (omega (arith, is_start, is_end))

module _ {X : Type 0} where
  pub entry_in : List ℕ → Span X → Entry X
  entry_in numbers span = record { of = span.of; row = slice_range numbers span.start span.end }

  pub lie_more : (numbers more : List ℕ) (spans : List (Span X)) → LieWithin numbers spans → LieWithin (numbers ++ more) spans
  lie_more numbers more [] lie = tt
  lie_more numbers more (span ∷ spans) lie = ((lie.0.0, omega (arith, lie.0.1, length-append numbers more)), lie_more numbers more spans lie.1)

  pub lie_last : (numbers : List ℕ) (spans : List (Span X)) (span : Span X) → LieWithin numbers spans → span.start ≤ span.end → span.end ≤ length numbers → LieWithin numbers (spans ++ span ∷ [])
  lie_last numbers [] span lie less within = ((less, within), tt)
  lie_last numbers (x ∷ spans) span lie less within = (lie.0, lie_last numbers spans span lie.1 less within)

  -- what is put after the numbers changes no row
  pub entries_more : (numbers more : List ℕ) (spans : List (Span X)) → LieWithin numbers spans → entries_in (numbers ++ more) spans ≡ entries_in numbers spans
  entries_more numbers more [] lie = refl
  entries_more numbers more (span ∷ spans) lie =
      ap (λ row. record { of = span.of; row = row } ∷ entries_in (numbers ++ more) spans) (range_more numbers more span.start span.end lie.0.0 lie.0.1) ∙ ap (λ es. record { of = span.of; row = slice_range numbers span.start span.end } ∷ es) (entries_more numbers more spans lie.1)

  entries_last : (numbers : List ℕ) (spans : List (Span X)) (span : Span X) → entries_in numbers (spans ++ span ∷ []) ≡ entries_in numbers spans ++ record { of = span.of; row = slice_range numbers span.start span.end } ∷ []
  entries_last numbers [] span = refl
  entries_last numbers (x ∷ spans) span = ap (λ es. record { of = x.of; row = slice_range numbers x.start x.end } ∷ es) (entries_last numbers spans span)

  pub entries_put : (numbers row : List ℕ) (spans : List (Span X)) (span : Span X) → LieWithin numbers spans → span.start ≡ length numbers → span.end ≡ length numbers + length row → entries_in (numbers ++ row) (spans ++ span ∷ []) ≡ entries_in numbers spans ++ record { of = span.of; row = row } ∷ []
  entries_put numbers row spans span lie is_start is_end =
      entries_last (numbers ++ row) spans span ∙ ap (λ r. entries_in (numbers ++ row) spans ++ record { of = span.of; row = r } ∷ []) (range_last numbers row span.start span.end is_start is_end) ∙ ap (λ es. es ++ record { of = span.of; row = row } ∷ []) (entries_more numbers row spans lie)

  pub as_many : (numbers : List ℕ) (spans : List (Span X)) → length (entries_in numbers spans) ≡ length spans
  as_many numbers [] = refl
  as_many numbers (span ∷ spans) = ap suc (as_many numbers spans)

  pub entry_at : (numbers : List ℕ) (spans : List (Span X)) (i : ℕ) (span : Span X) → slice_get spans i ≡ Some span → slice_get (entries_in numbers spans) i ≡ Some (record { of = span.of; row = slice_range numbers span.start span.end })
  entry_at numbers [] i span is = absurd cc
  entry_at numbers (x ∷ spans) zero span is = ap (option_map (λ (s : Span X). record { of = s.of; row = slice_range numbers s.start s.end })) is
  entry_at numbers (x ∷ spans) (suc i) span is = entry_at numbers spans i span is

  pub lies_at : (numbers : List ℕ) (spans : List (Span X)) (i : ℕ) (span : Span X) → LieWithin numbers spans → slice_get spans i ≡ Some span → (span.start ≤ span.end) × (span.end ≤ length numbers)
  lies_at numbers [] i span lie is = absurd cc
  lies_at numbers (x ∷ spans) zero span lie is = subst (λ (o : Option (Span X)). IfAt o) is lie.0
    where
      IfAt : Option (Span X) → Type 0
      IfAt None = ⊥
      IfAt (Some s) = (s.start ≤ s.end) × (s.end ≤ length numbers)
  lies_at numbers (x ∷ spans) (suc i) span lie is = lies_at numbers spans i span lie.1 is
