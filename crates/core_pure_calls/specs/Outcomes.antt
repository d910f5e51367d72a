-- What the answers of the code mean.
use Rattle.std.specs.Prelude.{ℕ, ℤ, Bool, List, codes, Result, Ok, Err}
use Rattle.term_core.specs.Meaning.{Int}
use Rattle.term_core.specs.Term.{meaning_of}
use Rattle.core_pure_calls.specs.declared.outcome.Outcome.{Outcome}
use Rattle.core_pure_calls.specs.declared.outcome.Outcome.TheVariants.{Value, Raised}
use Rattle.core_pure_calls.specs.declared.outcome.Refusal.{Refusal}
use Rattle.core_pure_calls.specs.declared.outcome.Refusal.TheVariants.{BadArgument, BadArithmetic, FunctionClause, SystemLimit, Undefined}
use Rattle.core_pure_calls.specs.Answers.{Answer, error, truth}
use Rattle.core_pure_calls.specs.Answers as given

-- an outcome without where its term lies in memory
abbrev pub outcome_of : Outcome → Answer
outcome_of (Value term) = given.Value (meaning_of term)
outcome_of (Raised class reason) = given.Raised class (meaning_of reason)

-- the text of the reason of a refusal
abbrev pub refusal_name : Refusal → List ℕ
refusal_name BadArgument = codes "badarg"
refusal_name BadArithmetic = codes "badarith"
refusal_name FunctionClause = codes "function_clause"
refusal_name SystemLimit = codes "system_limit"
refusal_name Undefined = codes "undef"

-- the error of a refusal
abbrev pub refused : Refusal → Answer
refused refusal = error (refusal_name refusal)

-- an integer, or a refusal
abbrev pub integer_or_refusal : Result ℤ Refusal → Answer
integer_or_refusal (Ok n) = given.Value (Int n)
integer_or_refusal (Err refusal) = refused refusal

-- a boolean, or a refusal
abbrev pub truth_or_refusal : Result Bool Refusal → Answer
truth_or_refusal (Ok b) = given.Value (truth b)
truth_or_refusal (Err refusal) = refused refusal
