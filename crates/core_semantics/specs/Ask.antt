-- What a process of a module asks of the world, after the answers that it got so far.
use Rattle.std.specs.Prelude.{ℕ, Bool, true, false, ◌&&◌, ◌||◌, List, [], ◌∷◌, Option, None, if◌then◌else◌, nat_le, length, codes}
use Rattle.std.specs.List.{list_any}
use Rattle.term_core.specs.Kinds.{same_text}
use Rattle.core_tree.specs.Syntax.{Mention, Tree, Function, NamedAt, ModuleTree}
use Rattle.core_tree.specs.Functions.{same_function}
use Rattle.term_core.specs.Meaning.{Meaning, Tuple, Nil, meanings_of}
use Rattle.term_core.specs.Meaning as terms
use Rattle.core_semantics.specs.Asked.{Asked, End, Answered}
use Rattle.core_pure_calls.specs.declared.outcome.Class.{Class}
use Rattle.core_pure_calls.specs.declared.outcome.Class.TheVariants.{Error, Exit, Throw}
use Rattle.core_semantics.specs.Evaluation.{before, Outcome, Yields, Raises, Stops}
use Rattle.core_semantics.specs.Applications.{definition, body_with, setting_of}

-- where a process begins: a function by module and name, and its arguments
pub record Entry : Type 0 where
  pub module_name : List ℕ
  pub function_name : List ℕ
  pub arguments : List Meaning

abbrev pub entry : List ℕ → List ℕ → List Meaning → Entry
entry m f arguments = record { module_name = m; function_name = f; arguments = arguments }

-- the name and the number of arguments that it begins with
abbrev pub function_of : Entry → Function
function_of e = record { name = e.function_name; arity = length e.arguments }

-- whether a module exports a function
abbrev pub is_exported : Function → List NamedAt → Bool
is_exported f exports = list_any (λ e. same_function f e.function) exports

-- whether a pid is that of the first process
abbrev pub is_first : List ℕ → Bool
is_first [] = true
is_first (n ∷ ns) = false

-- the most arguments of a function
abbrev pub arity_limit : ℕ
arity_limit = 255

-- whether a process may begin there: in this module, and at an export, except for the first process
abbrev pub is_open : ModuleTree → List ℕ → Entry → Bool
is_open m pid e = nat_le (length e.arguments) arity_limit && same_text m.name e.module_name && (is_first pid || is_exported (function_of e) m.exports)

-- the function that a process begins with, if it may
abbrev pub first_function : ModuleTree → List ℕ → Entry → Option (List Mention × Tree)
first_function m pid e = if is_open m pid e then definition (function_of e) m.definitions else None

-- the reason of the end of a process by an exception (Erlang reference manual, "Errors and Error Handling")
abbrev pub reason_of : Class → Meaning → Meaning
reason_of Error reason = Tuple (meanings_of (reason ∷ Nil ∷ []))
reason_of Exit reason = reason
reason_of Throw value = Tuple (meanings_of (Tuple (meanings_of (terms.Atom (codes "nocatch") ∷ value ∷ [])) ∷ Nil ∷ []))

-- what a process asks: values end it normally
abbrev pub request_of : Outcome → Asked
request_of (Yields values s) = End (terms.Atom (codes "normal"))
request_of (Raises class reason s) = End (reason_of class reason)
request_of (Stops request) = request

-- what the process of a module that began at an entry, with an empty dictionary, asks after these answers; its beginning is no application
abbrev pub ask : ModuleTree → List ℕ → Entry → List Answered → Asked
ask m pid e answers = request_of (body_with (setting_of m pid) (first_function m pid e) e.arguments (before [] answers))
