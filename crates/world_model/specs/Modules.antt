-- Words for small modules: their expressions and functions as trees.
use Rattle.std.specs.Prelude.{pos, ℤ, List, [], ◌∷◌, length, map, codes}
use Rattle.core_tree.specs.Callee as callees
use Rattle.core_tree.specs.Expression as trees
use Rattle.core_tree.specs.Pattern as patterns
use Rattle.core_tree.specs.Syntax.{Mention, NamedAt, Pattern, ClauseTree, DefinitionTree, Tree, ModuleTree, trees_of, clauses_of}
use Rattle.core_calls.specs.declared.call.CallKind.{CallKind}
use Rattle.core_calls.specs.declared.call.CallKind.TheVariants as kinds
use Rattle.core_calls.specs.declared.pure.PureCall.{PureCall}
use Rattle.world_model.specs.Names.{Name}

abbrev pub the_atom : Name → Tree
the_atom text = trees.Atom text

abbrev pub the_number : ℤ → Tree
the_number n = trees.Integer n

abbrev pub the_tuple : List Tree → Tree
the_tuple parts = trees.Tuple (trees_of parts)

abbrev pub the_list : List Tree → Tree
the_list items = trees.List (trees_of items)

abbrev pub mention : Name → Mention
mention name = record { at = 0; name = name }

abbrev pub the : Name → Tree
the name = trees.Variable (mention name)

-- a call of the world, and one of the process itself
abbrev pub ask_for : CallKind → List Tree → Tree
ask_for kind arguments = trees.Call 0 (callees.World kind) (trees_of arguments)

abbrev pub compute : PureCall → List Tree → Tree
compute kind arguments = trees.Call 0 (callees.Pure kind) (trees_of arguments)

abbrev pub in_turn : Tree → Tree → Tree
in_turn first second = trees.Do first second

abbrev pub with_result : Name → Tree → Tree → Tree
with_result name value body = trees.Let (mention name ∷ []) value body

-- a clause of a receive, for a message that matches
abbrev pub on : Pattern → Tree → ClauseTree
on pattern body = record { patterns = pattern ∷ []; guard = the_atom (codes "true"); body = body }

-- any message, under this name, and one atom alone
abbrev pub any : Name → Pattern
any name = patterns.Variable (mention name)

abbrev pub only : Name → Pattern
only text = patterns.Atom text

abbrev pub receive : List ClauseTree → Tree → Tree → Tree
receive clauses timeout action = trees.Receive 0 (clauses_of clauses) timeout action

abbrev pub for_ever : Tree
for_ever = the_atom (codes "infinity")

-- any message is waited for, and is the value
abbrev pub wait : Tree
wait = receive (on (any (codes "X")) (the (codes "X")) ∷ []) for_ever (the_atom (codes "x"))

-- the function of this name with these parameters
abbrev pub signed : Name → List Name → NamedAt
signed name parameters = record { at = 0; function = record { name = name; arity = length parameters } }

abbrev pub function : Name → List Name → Tree → DefinitionTree
function name parameters body = record { named = signed name parameters; parameters = map mention parameters; body = body }

-- the module 'm' that exports all of its functions
abbrev pub module_of : List DefinitionTree → ModuleTree
module_of functions = record { name = codes "m"; exports = map (λ f. f.named) functions; attributes = []; definitions = functions }

abbrev pub main : Tree → DefinitionTree
main body = function (codes "main") [] body

-- 'c'/0, and its spawn
abbrev pub child : Tree → DefinitionTree
child body = function (codes "c") [] body

abbrev pub spawn_child : Tree
spawn_child = ask_for kinds.Spawn (the_atom (codes "m") ∷ the_atom (codes "c") ∷ the_list [] ∷ [])

abbrev pub spawn_linked : Tree
spawn_linked = ask_for kinds.SpawnLink (the_atom (codes "m") ∷ the_atom (codes "c") ∷ the_list [] ∷ [])

-- the table 't', found by its name
abbrev pub the_table : Tree
the_table = the_atom (codes "t")

abbrev pub new_table : List Tree → Tree
new_table options = ask_for kinds.New (the_table ∷ the_list (the_atom (codes "named_table") ∷ options) ∷ [])

-- {'a',1} is put into it
abbrev pub put_one : Tree
put_one = ask_for kinds.Insert (the_table ∷ the_tuple (the_atom (codes "a") ∷ the_number (pos 1) ∷ []) ∷ [])

abbrev pub look_up : Tree
look_up = ask_for kinds.Lookup (the_table ∷ the_atom (codes "a") ∷ [])
