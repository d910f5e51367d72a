-- What an evaluation results in: values, an exception, or a request that is not answered yet (Core Erlang 1.0.3, "Expressions").
use Rattle.std.specs.Prelude.{ℕ, List, [], ◌∷◌, if◌then◌else◌, nat_le, codes}
use Rattle.core_calls.specs.declared.call.CallKind.{CallKind}
use Rattle.core_calls.specs.declared.pure.PureCall.{PureCall}
use Rattle.core_tree.specs.Syntax.{Function}
use Rattle.term_core.specs.Meaning.{Meaning, node_count}
use Rattle.term_core.specs.Meaning as terms
use Rattle.core_pure_calls.specs.declared.outcome.Class.{Class}
use Rattle.core_pure_calls.specs.declared.outcome.Class.TheVariants.{Error}
use Rattle.core_pure_calls.specs.Answers.{Answer}
use Rattle.core_pure_calls.specs.Answers as answers
use Rattle.core_pure_calls.specs.Calls.{answer_of, kept_by}
use Rattle.core_pure_calls.specs.Dictionary.{Dictionary}
use Rattle.core_semantics.specs.Asked.{Asked, Call, Answered, Value, Raise, Message, TimedOut}

-- the answers that are still to come, the process dictionary, and the applications made since the last answer
pub record State : Type 0 where
  pub answers : List Answered
  pub dictionary : Dictionary
  pub made : ℕ

-- the most applications between two requests that a module can allow
abbrev pub limit : ℕ
limit = 1000000

-- with this dictionary before these answers, with no application made
abbrev pub before : Dictionary → List Answered → State
before dictionary answers = record { answers = answers; dictionary = dictionary; made = 0 }

-- with another dictionary
abbrev pub keeping : Dictionary → State → State
keeping dictionary s = record { answers = s.answers; dictionary = dictionary; made = s.made }

-- an evaluation yields values, raises an exception, or stops at a request that is not answered
pub data Outcome : Type 0 where
  Yields : (values : List Meaning) (state : State) → Outcome
  Raises : (class : Class) (reason : Meaning) (state : State) → Outcome
  Stops : (request : Asked) → Outcome

-- where an expression is evaluated: the process's own pid, and what the functions of its module give
pub record Setting : Type 0 where
  pub own : List ℕ
  pub apply : Function → List Meaning → State → Outcome

-- with the values, if there are any, the evaluation goes on
abbrev pub then_do : Outcome → (List Meaning → State → Outcome) → Outcome
then_do (Yields values s) go = go values s
then_do (Raises class reason s) go = Raises class reason s
then_do (Stops request) go = Stops request

-- with the values or with the exception the evaluation goes on
abbrev pub handled : Outcome → (List Meaning → State → Outcome) → (Class → Meaning → State → Outcome) → Outcome
handled (Yields values s) go catch = go values s
handled (Raises class reason s) go catch = catch class reason s
handled (Stops request) go catch = Stops request

-- an atom as a term
abbrev pub name : List ℕ → Meaning
name text = terms.Atom text

-- an error with this atom as its reason
abbrev pub error : List ℕ → State → Outcome
error reason s = Raises Error (name reason) s

-- where one value is expected, any other number of them is an error
abbrev pub one : (Meaning → State → Outcome) → List Meaning → State → Outcome
one go [] s = error (codes "value_count") s
one go (v ∷ []) s = go v s
one go (v ∷ w ∷ vs) s = error (codes "value_count") s

-- the most nodes of a term that is built in evaluation
abbrev pub node_limit : ℕ
node_limit = 10000

-- the outcome, or the error `system_limit` if the term has more than 10,000 nodes
abbrev pub within_limit : Meaning → Outcome → State → Outcome
within_limit m got s = if nat_le (node_count m) node_limit then got else error (codes "system_limit") s

-- a term that was built
abbrev pub limited : Meaning → State → Outcome
limited m s = within_limit m (Yields (m ∷ []) s) s

-- an error with a reason that was built
abbrev pub limited_error : Meaning → State → Outcome
limited_error m s = within_limit m (Raises Error m s) s

-- an operation with another number of arguments than it has; no module that was read holds one
abbrev pub undefined : State → Outcome
undefined s = error (codes "undef") s

-- the value of a call that the process answers by itself, within the limit, or the exception that it raises
abbrev pub limited_answer : Answer → State → Outcome
limited_answer (answers.Value value) s = limited value s
limited_answer (answers.Raised class reason) s = Raises class reason s

-- a call that the process with this pid answers by itself, with its dictionary as the call leaves it
abbrev pub by_itself : List ℕ → PureCall → List Meaning → State → Outcome
by_itself own kind arguments s = limited_answer (answer_of own s.dictionary kind arguments) (keeping (kept_by kind arguments s.dictionary) s)

-- a call with the answers that are left: the first that is one to a call is its value or its error; with none left the call is the request
abbrev pub served : CallKind → List Meaning → Dictionary → List Answered → Outcome
served kind arguments d [] = Stops (Call kind arguments)
served kind arguments d (Value value ∷ later) = Yields (value ∷ []) (before d later)
served kind arguments d (Raise reason ∷ later) = Raises Error reason (before d later)
served kind arguments d (Message message ∷ later) = served kind arguments d later
served kind arguments d (TimedOut ∷ later) = served kind arguments d later

abbrev pub called : CallKind → List Meaning → State → Outcome
called kind arguments s = served kind arguments s.dictionary s.answers
