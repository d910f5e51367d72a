-- Rows of numbers, and what goes with each.
use Rattle.std.specs.List.{AllByRecursion}
use Rattle.std.specs.Prelude.{◌≡◌, ◌≤◌, ℕ, List, [], ◌∷◌, length, slice_range}
use Rattle.search_levels.specs.declared.span.Span.{Span}
use Rattle.world_model.specs.Names.{IsAmong}

-- a row, with what goes with it
pub record Entry (X : Type 0) : Type 0 where
  pub of : X
  pub row : List ℕ

-- the rows that lie in these numbers, one after the other
abbrev pub entries_in : {X : Type 0} → List ℕ → List (Span X) → List (Entry X)
entries_in numbers [] = []
entries_in numbers (span ∷ spans) = record { of = span.of; row = slice_range numbers span.start span.end } ∷ entries_in numbers spans

-- each lies within them
abbrev pub LieWithin : {X : Type 0} → List ℕ → List (Span X) → Type 0
LieWithin numbers spans = AllByRecursion (λ span. (span.start ≤ span.end) × (span.end ≤ length numbers)) spans

-- this is the row of one of them
abbrev pub HasRow : {X : Type 0} → List (Entry X) → List ℕ → Type 0
HasRow {X} entries row = (x : Entry X) × IsAmong x entries × (x.row ≡ row)
