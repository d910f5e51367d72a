-- Rows that `ask` computes.
use Rattle.std.proofs.Common.{◌≡◌, ℕ, List, [], ◌∷◌, length, refl}
use Rattle.std.specs.Prelude.{codes, pos}
use Rattle.core_calls.specs.declared.call.CallKind.TheVariants.{New, Insert, Lookup}
use Rattle.core_calls.specs.declared.call.CallKind.{CallKind}
use Rattle.core_calls.specs.declared.pure.PureCall.{PureCall}
use Rattle.core_calls.specs.declared.pure.PureCall.TheVariants as pures
use Rattle.core_tree.specs.Syntax.{Mention, Tree, trees_of, ModuleTree, NamedAt}
use Rattle.core_tree.specs.Callee as callees
use Rattle.core_tree.specs.Expression as trees
use Rattle.term_core.specs.Meaning as terms
use Rattle.term_core.specs.Meaning.{Meaning, Int, Tuple, Nil, Cons, Pid, meanings_of}
use Rattle.core_semantics.specs.Asked.{Asked, Call, End, Runaway, Answered, Value, Raise, Message}
use Rattle.core_semantics.specs.Ask.{ask, entry}

abbrev a_call : CallKind → List Tree → Tree
a_call kind ts = trees.Call 0 (callees.World kind) (trees_of ts)

abbrev an_atom : List ℕ → Tree
an_atom text = trees.Atom text

abbrev a_variable : List ℕ → Tree
a_variable name = trees.Variable (record { at = 0; name = name })

abbrev a_let : List ℕ → Tree → Tree → Tree
a_let name value body = trees.Let (record { at = 0; name = name } ∷ []) value body

abbrev one_export : NamedAt
one_export = record { at = 0; function = record { name = codes "main"; arity = 0 } }

-- the module `m` whose function `main/0` has this body
abbrev module_of : Tree → ModuleTree
module_of body = record { name = codes "m"; exports = one_export ∷ []; attributes = []; definitions = record { named = one_export; parameters = []; body = body } ∷ [] }

-- what the first process of that module asks
abbrev asks : Tree → List Answered → Asked
asks body = ask (module_of body) [] (entry (codes "m") (codes "main") [])

abbrev named : List ℕ → Meaning
named text = terms.Atom text

abbrev error_of : List ℕ → Meaning
error_of reason = Tuple (meanings_of (named reason ∷ Nil ∷ []))

-- a table is made, written and read
abbrev rows : Tree
rows = trees.Do (a_call New (an_atom (codes "t") ∷ trees.List (trees_of (an_atom (codes "named_table") ∷ [])) ∷ []))
    (trees.Do (a_call Insert (an_atom (codes "t") ∷ trees.Tuple (trees_of (an_atom (codes "a") ∷ trees.Integer (pos 1) ∷ [])) ∷ [])) (a_call Lookup (an_atom (codes "t") ∷ an_atom (codes "a") ∷ [])))

pub rows_new : asks rows [] ≡ Call New (named (codes "t") ∷ Cons (named (codes "named_table")) Nil ∷ [])
rows_new = refl

pub rows_insert : asks rows (Value (named (codes "t")) ∷ []) ≡ Call Insert (named (codes "t") ∷ Tuple (meanings_of (named (codes "a") ∷ Int (pos 1) ∷ [])) ∷ [])
rows_insert = refl

pub rows_end : asks rows (Value (named (codes "t")) ∷ Value (named (codes "true")) ∷ Value Nil ∷ []) ≡ End (named (codes "normal"))
rows_end = refl

-- a refused call ends the process
pub rows_refused : asks rows (Value (named (codes "t")) ∷ Raise (named (codes "badarg")) ∷ []) ≡ End (error_of (codes "badarg"))
rows_refused = refl

-- an answer that does not fit is passed over
pub rows_misfit : asks rows (Message Nil ∷ []) ≡ asks rows []
rows_misfit = refl

-- the inner variable hides the outer one, and no longer
abbrev shadows : Tree
shadows = a_let (codes "X") (trees.Integer (pos 1)) (trees.Do (a_let (codes "X") (trees.Integer (pos 2)) (a_call Insert (a_variable (codes "X") ∷ []))) (a_call Insert (a_variable (codes "X") ∷ [])))

pub shadows_inner : asks shadows [] ≡ Call Insert (Int (pos 2) ∷ [])
shadows_inner = refl

pub shadows_outer : asks shadows (Value Nil ∷ []) ≡ Call Insert (Int (pos 1) ∷ [])
shadows_outer = refl

-- the items of a list that goes on come before its tail
abbrev front : Tree
front = trees.Onto (trees_of (a_call Lookup [] ∷ [])) (a_call New [])

pub front_items : asks front [] ≡ Call Lookup []
front_items = refl

pub front_tail : asks front (Value Nil ∷ []) ≡ Call New []
front_tail = refl

-- two variables want two values
pub value_count : asks (trees.Let (record { at = 0; name = codes "X" } ∷ record { at = 0; name = codes "Y" } ∷ []) (trees.Integer (pos 1)) (trees.Integer (pos 2))) [] ≡ End (error_of (codes "value_count"))
value_count = refl

-- what was put into the process dictionary is there after an error that was caught, and after an answer
abbrev by_itself : PureCall → List Tree → Tree
by_itself kind ts = trees.Call 0 (callees.Pure kind) (trees_of ts)

abbrev keeps : Tree
keeps = trees.Do (trees.Catch 0 (trees.Do (by_itself pures.Put (an_atom (codes "k") ∷ trees.Integer (pos 1) ∷ [])) (by_itself pures.Error (an_atom (codes "x") ∷ []))))
    (trees.Do (a_call Lookup []) (a_call Insert (by_itself pures.Get (an_atom (codes "k") ∷ []) ∷ [])))

pub keeps_nothing_else : asks keeps [] ≡ Call Lookup []
keeps_nothing_else = refl

pub keeps_what_was_put : asks keeps (Value Nil ∷ []) ≡ Call Insert (Int (pos 1) ∷ [])
keeps_what_was_put = refl

-- a process begins with nothing in it
pub begins_empty : asks (a_call Insert (by_itself pures.GetAll [] ∷ [])) [] ≡ Call Insert (Nil ∷ [])
begins_empty = refl

-- another process begins at an export alone
pub undefined : ask (module_of rows) (1 ∷ []) (entry (codes "m") (codes "other") []) [] ≡ End (error_of (codes "undef"))
undefined = refl

-- ---- applications

abbrev a_mention : List ℕ → Mention
a_mention name = record { at = 0; name = name }

abbrev a_name : List ℕ → ℕ → NamedAt
a_name name arity = record { at = 0; function = record { name = name; arity = arity } }

abbrev an_apply : List ℕ → List Tree → Tree
an_apply name ts = trees.Call 0 (callees.Defined (a_name name (length ts))) (trees_of ts)

-- the module `m` whose function `main/0` has this body, and whose function `f/2` takes `X` and `Y` and has that
abbrev with_function : Tree → Tree → ModuleTree
with_function body inner = record {
  name = codes "m";
  exports = one_export ∷ [];
  attributes = [];
  definitions = record { named = one_export; parameters = []; body = body } ∷ record { named = a_name (codes "f") 2; parameters = a_mention (codes "X") ∷ a_mention (codes "Y") ∷ []; body = inner } ∷ [];
}

abbrev asks_with : Tree → Tree → List Answered → Asked
asks_with body inner = ask (with_function body inner) [] (entry (codes "m") (codes "main") [])

-- the first argument is the first parameter
pub in_order : asks_with (an_apply (codes "f") (trees.Integer (pos 1) ∷ trees.Integer (pos 2) ∷ [])) (a_call Insert (a_variable (codes "X") ∷ a_variable (codes "Y") ∷ [])) [] ≡ Call Insert (Int (pos 1) ∷ Int (pos 2) ∷ [])
in_order = refl

-- a call by the module's name applies the same function
pub by_call : asks_with (a_call Lookup (trees.Call 0 (callees.Exported (record { name = codes "f"; arity = 2 })) (trees_of (trees.Integer (pos 1) ∷ trees.Integer (pos 2) ∷ [])) ∷ [])) (a_variable (codes "Y")) [] ≡ Call Lookup (Int (pos 2) ∷ [])
by_call = refl

-- a body sees no variable of its caller
pub hidden : asks_with (a_let (codes "Z") (trees.Integer (pos 1)) (an_apply (codes "f") (trees.Integer (pos 1) ∷ trees.Integer (pos 2) ∷ []))) (a_variable (codes "Z")) [] ≡ End (error_of (codes "unbound"))
hidden = refl

-- a function that is not there is undefined
pub undefined_function : asks_with (an_apply (codes "g") []) (trees.Integer (pos 1)) [] ≡ End (error_of (codes "undef"))
undefined_function = refl

-- `f` applies itself, and so for ever
abbrev itself : Tree
itself = an_apply (codes "f") (a_variable (codes "X") ∷ a_variable (codes "Y") ∷ [])

-- what applies itself without a request runs away, and nothing catches that
pub runs_away : asks_with (trees.Catch 0 (an_apply (codes "f") (trees.Integer (pos 1) ∷ trees.Integer (pos 2) ∷ []))) itself [] ≡ Runaway
runs_away = refl

-- a request in between, and it goes on
pub goes_on : asks_with (an_apply (codes "f") (trees.Integer (pos 1) ∷ trees.Integer (pos 2) ∷ [])) (trees.Do (a_call Lookup []) itself) (Value Nil ∷ Value Nil ∷ []) ≡ Call Lookup []
goes_on = refl
