-- What reads and writes do to the bytes of a stream, where it reports them.
use Rattle.std.specs.Prelude.{◌≡◌, ℕ, ◌==◌, List, ◌++◌, length, Bool, true, false, ◌&&◌, not, Option, Result, MatchResult, Ok, Err}
use Rattle.std.specs.Io.KnownBytes.{Appends}

-- a write gave an error, or took no byte of some
abbrev pub took_nothing : {E : Type 0} → Result ℕ E → List ℕ → Bool
took_nothing (Ok n) bytes = (n == 0) && not (length bytes == 0)
took_nothing (Err e) bytes = true

-- known bytes grow by a beginning of the text
pub record AppendsBeginning (old new : Option (List ℕ)) (text : List ℕ) : Type 0 where
  pub written : List ℕ
  pub unwritten : List ℕ
  pub parts : text ≡ written ++ unwritten
  pub appends : Appends old new written

-- the sink is sound, and known bytes grew by the text
pub record WritesAll (old new : Option (List ℕ)) (failed : Bool) (text : List ℕ) : Type 0 where
  pub appends : Appends old new text
  pub sound : failed ≡ false

-- the sink has failed, and known bytes grew by a beginning of the text
pub record BreaksOff (old new : Option (List ℕ)) (failed : Bool) (text : List ℕ) : Type 0 where
  pub beginning : AppendsBeginning old new text
  pub fault : failed ≡ true

-- a text was written: all of it at `Ok`, a beginning of it at `Err`, which comes only where the sink has failed
abbrev pub Writes : {T E : Type 0} → (old new : Option (List ℕ)) → Bool → Result T E → List ℕ → Type 0
Writes old new failed r text = MatchResult r (λ _. WritesAll old new failed text) (λ _. BreaksOff old new failed text)
