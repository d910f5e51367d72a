-- Exceptions (Erlang reference manual, "Errors and Error Handling"): their classes, what a handler is given of them, and what raises them again.
use Rattle.std.specs.Prelude.{ℕ, Bool, false, List, [], ◌∷◌, Option, Some, None, if◌then◌else◌, nat_le, codes}
use Rattle.term_core.specs.Meaning.{Meaning, Tuple, Nil, NoMore, Also, meanings_of}
use Rattle.term_core.specs.Kinds.{is_the_atom}
use Rattle.core_pure_calls.specs.declared.outcome.Class.{Class}
use Rattle.core_pure_calls.specs.declared.outcome.Class.TheVariants.{Error, Exit, Throw}
use Rattle.core_semantics.specs.Outcomes.{State, Outcome, Yields, Raises, name, error, limited}

-- the atom of a class
abbrev pub class_name : Class → Meaning
class_name Error = name (codes "error")
class_name Exit = name (codes "exit")
class_name Throw = name (codes "throw")

-- the trace of an exception reports its class
abbrev pub trace_of : Class → Meaning
trace_of class = Tuple (meanings_of (name (codes "$trace") ∷ class_name class ∷ []))

-- the values of the variables of a handler: the class, the reason, and the trace where there are more than two
abbrev pub caught_values : ℕ → Class → Meaning → List Meaning
caught_values count class reason = if nat_le count 2 then class_name class ∷ reason ∷ [] else class_name class ∷ reason ∷ trace_of class ∷ []

-- the value that `catch` makes of an exception
abbrev pub caught : Class → Meaning → State → Outcome
caught Error reason s = limited (Tuple (meanings_of (name (codes "EXIT") ∷ Tuple (meanings_of (reason ∷ Nil ∷ [])) ∷ []))) s
caught Exit reason s = limited (Tuple (meanings_of (name (codes "EXIT") ∷ reason ∷ []))) s
caught Throw value s = Yields (value ∷ []) s

-- whether a term is a tuple that begins with this atom
abbrev pub begins_with : List ℕ → Meaning → Bool
begins_with text (Tuple (Also first others)) = is_the_atom text first
begins_with text m = false

-- the reason of a failed match: where the clauses of a function failed, their atom alone
abbrev pub match_reason : Meaning → Meaning
match_reason reason = if begins_with (codes "function_clause") reason then name (codes "function_clause") else reason

-- the class of this name
abbrev pub class_named : Meaning → Option Class
class_named m =
    if is_the_atom (codes "error") m then Some Error
    else (if is_the_atom (codes "exit") m then Some Exit
    else (if is_the_atom (codes "throw") m then Some Throw else None))

-- the class that a trace reports
abbrev pub class_in : Meaning → Option Class
class_in (Tuple (Also tag (Also class NoMore))) = if is_the_atom (codes "$trace") tag then class_named class else None
class_in m = None

-- an exception that was caught before is raised again, with the class that its trace reports
abbrev pub raised_again : Option Class → Meaning → State → Outcome
raised_again None reason s = error (codes "badarg") s
raised_again (Some class) reason s = Raises class reason s
