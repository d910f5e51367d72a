-- What a stream of the program got.
use Rattle.std.proofs.Common.{◌⊎◌, ℕ, Bool, List, Option, None, Some, IfSome, inl, inr}
use Rattle.std.specs.Prelude.{Result, Ok, Err}
use Rattle.term_core.specs.Stream.{Writes, WritesAll, BreaksOff}

-- a text that was to be written is there, or a beginning of it where the stream has failed
pub gets : {T E : Type 0} (old new : Option (List ℕ)) (failed : Bool) (r : Result T E) (text : List ℕ) → Writes old new failed r text → WritesAll old new failed text ⊎ BreaksOff old new failed text
gets old new failed (Ok done) text all = inl all
gets old new failed (Err fault) text part = inr part

-- what is true of the input, and what else is true of it
pub both_if_some : (input : Option (List ℕ)) (P Q : List ℕ → Type 0) → IfSome input P → IfSome input Q → IfSome input (λ bytes. P bytes × Q bytes)
both_if_some None P Q p q = tt
both_if_some (Some bytes) P Q p q = (p, q)
