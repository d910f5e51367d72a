-- What is read of a source.
use Rattle.std.specs.Prelude.{◌≡◌, ◌⊎◌, ℕ, ◌<◌, ◌≤◌, Bool, true, List, ◌++◌, length, Option, IfSome}
use Rattle.std.specs.Io.{StartsWith}
use Rattle.std.specs.Io.KnownBytes.{Consumes, IsAtEnd}

-- all the bytes where they are no more than the limit, else a beginning of more than the limit
pub record IsInputOf (limit : ℕ) (all read : List ℕ) : Type 0 where
  pub whole : length all ≤ limit → read ≡ all
  pub beginning : StartsWith all read
  pub beyond : limit < length all → limit < length read

-- this many bytes were added, which the source had before it; none only at its end
pub record ReadsMore (source rest : Option (List ℕ)) (old new : List ℕ) (count : ℕ) : Type 0 where
  pub piece : List ℕ
  pub added : new ≡ old ++ piece
  pub read : Consumes source rest piece
  pub counted : length piece ≡ count
  pub end : count ≡ 0 → IsAtEnd rest

-- a read has failed, or the source had at least as many bytes as there may be reads, as far as it gives them
abbrev pub IsUnread : Option (List ℕ) → Bool → Type 0
IsUnread all failed = (failed ≡ true) ⊎ IfSome all (λ bytes. 2097152 ≤ length bytes)

-- at most the most bytes of an input within its limits were read: those of the limit, and of one read more
abbrev pub IsReadWithin : Option (List ℕ) → Option (List ℕ) → Type 0
IsReadWithin source rest = (read : List ℕ) × Consumes source rest read × (length read ≤ 1114112)
