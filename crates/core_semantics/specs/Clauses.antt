-- Variables, and clauses that are tried one by one (Core Erlang 1.0.3, "Case expressions").
use Rattle.std.specs.Prelude.{Bool, false, List, [], ◌∷◌, ◌++◌, Option, Some, None, if◌then◌else◌, codes}
use Rattle.term_core.specs.Meaning.{Meaning, Tuple, NoMore, meanings_of}
use Rattle.term_core.specs.Kinds.{is_the_atom}
use Rattle.core_stack.specs.Matching.{Environment}
use Rattle.core_semantics.specs.Outcomes.{State, Outcome, Yields, Raises, Stops, name, error, limited_error}

-- the value of a variable; no module that was read has one that is not bound
abbrev pub value_or_error : Option Meaning → State → Outcome
value_or_error None s = error (codes "unbound") s
value_or_error (Some m) s = Yields (m ∷ []) s

-- what is done with these variables in scope too; another number of values than variables is an error
abbrev pub within : Option Environment → Environment → (Environment → State → Outcome) → State → Outcome
within None env go s = error (codes "value_count") s
within (Some bindings) env go s = go (bindings ++ env) s

-- whether a guard gave `'true'`, and nothing else
abbrev pub is_true : List Meaning → Bool
is_true [] = false
is_true (m ∷ []) = is_the_atom (codes "true") m
is_true (m ∷ n ∷ ms) = false

-- a guard that gives `'true'` holds; one that gives anything else, or raises, fails
abbrev pub guarded : Outcome → (State → Outcome) → (State → Outcome) → Outcome
guarded (Yields values s) holds fails = if is_true values then holds s else fails s
guarded (Raises class reason s) holds fails = fails s
guarded (Stops request) holds fails = Stops request

-- with the variables of a clause that matches the evaluation goes on, and else by the others
abbrev pub taken : Option Environment → Environment → (Environment → State → Outcome) → (State → Outcome) → State → Outcome
taken None env go others s = others s
taken (Some bindings) env go others s = go (bindings ++ env) s

-- several values as one: what is one already, else the tuple of them
abbrev pub as_one : List Meaning → Meaning
as_one [] = Tuple NoMore
as_one (m ∷ []) = m
as_one (m ∷ n ∷ ms) = Tuple (meanings_of (m ∷ n ∷ ms))

-- no clause is taken
abbrev pub no_clause : List Meaning → State → Outcome
no_clause values s = limited_error (Tuple (meanings_of (name (codes "case_clause") ∷ as_one values ∷ []))) s
